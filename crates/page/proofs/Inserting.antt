-- An insertion made here, as one slot more.
use Rattle.std.proofs.Common.{◌≡◌, ℕ, Bool, true, false, cond, List, [], ◌∷◌, ◌++◌, Some, None, Option, sym, refl, ap, ◌∙◌, subst}
use Rattle.std.specs.Option.{option_map}
use Rattle.words.specs.Answers.{Question}
use Rattle.messages.specs.declared.model.Operation.TheVariants.{Insert}
use Rattle.messages.specs.declared.model.Place.TheVariants.{Ground, Under}
use Rattle.messages.specs.declared.model.Side.TheVariants.{Right}
use Rattle.ledger.specs.Answering.{new_node, with_new}
use Rattle.ledger.specs.Calls.{added, beside, firsts, steps_or_none}
use Rattle.ledger.specs.Kinds.{Kinds, Stamps}
use Rattle.ledger.specs.Laws.{Fresh, Spot, insert_questions, mark, place_for, spot_questions, with_rows}
use Rattle.ledger.specs.Laws.Spot.{at_top, after}
use Rattle.ledger.specs.Ledger.{Ledger, Location, Node, Row, insertion, node_of, row_of}
use Rattle.ledger.specs.Paths.{Placed, Step, in_order, path, placed_all}
use Rattle.ledger.proofs.Histories.{AllYes, firsts_found, fresh_not_held}
use Rattle.ledger.proofs.Reading.{from_placed}
use Rattle.ledger.proofs.Rows.{none_not_some, node_found, row_none, some_is}
use Rattle.ledger.proofs.Same.{apart_lists}
use Rattle.ledger.proofs.Sorting.{from_sorted}
use Rattle.slots.specs.Rows.{made_row}
use Rattle.page.specs.Filled.{under_itself}
use Rattle.page.specs.Inserting.{fresh_questions}
use Rattle.page.proofs.Updating.{inserted_push}

-- ---- the questions, part by part
yes_both : (ps qs : List Question) → AllYes ps → AllYes qs → AllYes (ps ++ qs)
yes_both [] qs y z = z
yes_both (p ∷ ps) qs y z = (y.0, yes_both ps qs y.1 z)

module _ (k : Kinds) (l : Ledger) (spot : Spot) (values : List ℕ) where
  pub all_granted : k.entries.form.reads values ≡ true → AllYes (spot_questions l spot) → AllYes (fresh_questions k l) → AllYes (insert_questions k l spot values)
  all_granted t s f = (t, yes_both (spot_questions l spot) (fresh_questions k l) s f)

-- ---- the place of a new entry hangs from what is held, so not from the fresh stamp
abbrev HangsHeld : List Row → Location → Type 0
HangsHeld rows Ground = Unit {0}
HangsHeld rows (Under d s) = row_of s rows ≡ None → ⊥

held_away : (rows : List Row) (s : List ℕ) (pl : Location) → HangsHeld rows pl → row_of s rows ≡ None → under_itself s pl ≡ false
held_away rows s Ground h n = refl
held_away rows s (Under d t) h n = apart_lists t s (λ e. h (subst (λ z. row_of z rows ≡ None) (sym e) n))

module _ (k : Stamps) (rows : List Row) where
  beside_held : (p : List Step) (otherwise : Location) → HangsHeld rows otherwise → HangsHeld rows (beside otherwise (firsts p (in_order k rows)))
  beside_held p otherwise h = go (firsts p (in_order k rows)) refl
    where
      go : (f : Option (List ℕ)) → firsts p (in_order k rows) ≡ f → HangsHeld rows (beside otherwise f)
      go None e = h
      go (Some f) e = λ n.
          let x = firsts_found p (in_order k rows) f e in
          let c = from_placed rows rows x.0 (from_sorted k.kind.earlier x.0 (placed_all rows rows) x.1) in
          row_none f rows c.row n c.inside (ap (λ (y : Placed). y.item.stamp) (sym c.is) ∙ x.2)

pub place_away : (k : Kinds) (l : Ledger) (spot : Spot) (s : List ℕ) → AllYes (spot_questions l spot) → row_of s l.rows ≡ None → under_itself s (place_for k.stamps l spot) ≡ false
place_away k l at_top s y n = held_away l.rows s (place_for k.stamps l at_top) (beside_held k.stamps l.rows [] Ground tt) n
place_away k l (after t) s y n = held_away l.rows s (place_for k.stamps l (after t)) (beside_held k.stamps l.rows (steps_or_none (path l.rows t)) (Under Right t) named) n
  where
    named : row_of t l.rows ≡ None → ⊥
    named m = let w = some_is (node_of t l.rows) y.0 in let r = node_found t l.rows w.0 w.1 in none_not_some r.0 (sym m ∙ r.1)

-- ---- the rows
-- one row more is what the rule makes of them
pub rows_entered : (k : Kinds) (l : Ledger) (spot : Spot) (values s : List ℕ) (w : Node) → Fresh k.stamps l s → w ≡ new_node k l spot values → with_rows l (l.rows ++ (made_row s w ∷ [])) ≡ with_new k l spot values None
rows_entered k l spot values s w fresh is =
    ap (λ v. with_rows l (l.rows ++ (made_row s v ∷ []))) is
    ∙ ap (with_rows l) (sym (inserted_push s (new_node k l spot values) l.rows (fresh_not_held k.stamps l s fresh)))
    ∙ ap (λ t. with_rows l (mark Insert t (added (insertion t (new_node k l spot values)) l.rows))) fresh.is

-- ---- what was made is what was asked for
pub made_is : {A B : Type 0} (f : A → B) (o : Option A) (a : A) (b : Bool) (y : B) → option_map f o ≡ cond b (Some y) None → o ≡ Some a → f a ≡ y
made_is f o a true y h e = let g : Some (f a) ≡ Some y = ap (option_map f) (sym e) ∙ h in cc
made_is f o a false y h e = absurd (none_not_some (f a) (sym (ap (option_map f) (sym e) ∙ h)))

-- The place of a new entry by the reading is the place that the walk finds.
use Rattle.std.proofs.Common.{◌≡◌, ℕ, Bool, true, false, ◌⊎◌, List, [], ◌∷◌, ◌++◌, Some, None, Option, sym, refl, ap, ◌∙◌, subst, inl, inr}
use Rattle.ledger.specs.Kinds.{Stamps, Ordered}
use Rattle.ledger.specs.Ledger.{Row, Location, Apart}
use Rattle.messages.specs.declared.model.Side.TheVariants.{Left, Right}
use Rattle.messages.specs.declared.model.Place.TheVariants.{Ground, Under}
use Rattle.ledger.specs.Calls.{firsts, steps_or_none, place_after, place_at_top}
use Rattle.ledger.specs.Calls.{right_below as is_right_below, beside as beside_or}
use Rattle.ledger.specs.Paths.{Step, Placed, PathOf, before, in_order, same_step}
use Rattle.ledger.specs.Walk.{AfterPlace, TopPlace, StampsRead, Slot}
use Rattle.ledger.specs.Walk.Slot.{free, taken}
use Rattle.ledger.proofs.Same.{true_or_false, never, same_step_refl, same_step_true}
use Rattle.ledger.proofs.Members.{In}
use Rattle.ledger.proofs.Rows.{node_found, row_found}
use Rattle.ledger.proofs.Chains.{path_from, path_node}
use Rattle.ledger.proofs.Sorting.{Ascending, lower}
use Rattle.ledger.proofs.Reading.{standing_item, standing_placed, read_is, is_read, reading_ascends}
use Rattle.ledger.proofs.Prefix.{RightBelow, cons_right, right_to}
use Rattle.ledger.proofs.Prefix.RightBelow.{right_below}
use Rattle.ledger.proofs.Slots.{slot_one, after_slot, top_slot}
use Rattle.ledger.proofs.Walk.{step}
use Rattle.std.proofs.lemmas.Bool.{and_parts}

-- ---- below by a right step, as a test
pub right_below_true : (p q : List Step) → is_right_below p q ≡ true → RightBelow p q
right_below_true [] [] h = absurd (never false h refl)
right_below_true [] (b ∷ q) h = right_to b q h
right_below_true (a ∷ p) [] h = absurd (never false h refl)
right_below_true (a ∷ p) (b ∷ q) h =
    let parts = and_parts (same_step a b) (is_right_below p q) h in
    cons_right a b p q (same_step_true a b parts.0) (right_below_true p q parts.1)

pub right_below_from : (p r : List Step) (t : List ℕ) → is_right_below p (p ++ (step Right t ∷ r)) ≡ true
right_below_from [] r t = refl
right_below_from (a ∷ p) r t = rw (same_step_refl a) (right_below_from p r t)

-- ---- the first of an ascending list that is below by a right step
pub data FirstsIs (earlier : List ℕ → List ℕ → Bool) (p : List Step) (xs : List Placed) : Option (List ℕ) → Type 0 where
  nothing : ((x : Placed) → In x xs → is_right_below p x.steps ≡ true → ⊥) → FirstsIs earlier p xs None
  found : (x : Placed) → In x xs → is_right_below p x.steps ≡ true → ((y : Placed) → In y xs → is_right_below p y.steps ≡ true → (x ≡ y) ⊎ (lower earlier x y ≡ true)) → FirstsIs earlier p xs (Some x.item.stamp)

pub firsts_is : (earlier : List ℕ → List ℕ → Bool) (p : List Step) (xs : List Placed) → Ascending (lower earlier) xs → FirstsIs earlier p xs (firsts p xs)
firsts_is earlier p [] a = nothing (λ x h e. h)
firsts_is earlier p (x ∷ xs) a = go (firsts_is earlier p xs a.1) (true_or_false (is_right_below p x.steps))
  where
    more : {o : Option (List ℕ)} → is_right_below p x.steps ≡ false → FirstsIs earlier p xs o → FirstsIs earlier p (x ∷ xs) o
    more f (nothing h) = nothing (λ y i e. elim i [ inl q ↦ never (is_right_below p x.steps) (rw q e) f | inr j ↦ h y j e ])
    more f (found y j t least) = found y (inr j) t (λ z i e. elim i [ inl q ↦ absurd (never (is_right_below p x.steps) (rw q e) f) | inr l ↦ least z l e ])

    go : FirstsIs earlier p xs (firsts p xs) → (is_right_below p x.steps ≡ true) ⊎ (is_right_below p x.steps ≡ false) → FirstsIs earlier p (x ∷ xs) (firsts p (x ∷ xs))
    go rest (inl t) = rw t (found x (inl refl) t (λ y i e. elim i [ inl q ↦ inl q | inr j ↦ inr (a.0 y j) ]))
    go rest (inr t) = rw t (more t rest)

module _ (k : Stamps) (o : Ordered k) (rows : List Row) (apart : Apart rows) (held : (r : Row) → In r rows → k.form.reads r.stamp ≡ true) where
  pub stamps_read : StampsRead k.form.reads rows
  stamps_read s w h =
      let r = node_found s rows w h in
      let f = row_found s rows r.0 r.1 in
      rw f.1 at (held r.0 f.0)

  -- what stands is in the reading
  pub standing_in : {s : List ℕ} {p : List Step} → PathOf rows s p → (x : Placed) × (In x (in_order k rows)) × (x.item.stamp ≡ s) × (x.steps ≡ p)
  standing_in {s} {p} h =
      let w = path_node h in
      (standing_item rows s p w.0, is_read k o rows apart held (standing_item rows s p w.0) (standing_placed rows s p w.0 h w.1), refl, refl)

  slot_at : {p q : List Step} {otherwise : Location} (m : List ℕ) → PathOf rows m q → RightBelow p q → ((z u : List ℕ) (v : List Step) → PathOf rows z (p ++ (step Right u ∷ v)) → (z ≡ m) ⊎ (before k.kind.earlier q (p ++ (step Right u ∷ v)) ≡ true)) → Slot rows k.kind.earlier p otherwise (Under Left m)
  slot_at m hm (right_below t r) least = taken m t r hm least

  pub firsts_slot : (p : List Step) (otherwise : Location) → Slot rows k.kind.earlier p otherwise (beside_or otherwise (firsts p (in_order k rows)))
  firsts_slot p otherwise = go (firsts_is k.kind.earlier p (in_order k rows) (reading_ascends k o rows apart held))
    where
      go : {f : Option (List ℕ)} → FirstsIs k.kind.earlier p (in_order k rows) f → Slot rows k.kind.earlier p otherwise (beside_or otherwise f)
      go (nothing h) = free (λ z t r hz. let x = standing_in hz in h x.0 x.1 (rw x.3 (right_below_from p r t)))
      go (found y i t least) =
          let hy = (read_is k o rows apart held y i).path_is in
          slot_at y.item.stamp hy (right_below_true p y.steps t) (λ z u v hz.
          let x = standing_in hz in
          elim (least x.0 x.1 (rw x.3 (right_below_from p v u))) [
            | inl e ↦ inl (sym x.2 ∙ ap (λ (a : Placed). a.item.stamp) (sym e))
            | inr b ↦ inr (rw x.3 at b)
          ])

  pub place_after_slot : (n : List ℕ) (pn : List Step) → PathOf rows n pn → Slot rows k.kind.earlier pn (Under Right n) (place_after k rows n)
  place_after_slot n pn hn = subst (λ (m : Option (List Step)). Slot rows k.kind.earlier pn (Under Right n) (beside_or (Under Right n) (firsts (steps_or_none m) (in_order k rows)))) (sym (path_from rows n pn hn)) (firsts_slot pn (Under Right n))

  pub place_at_top_slot : Slot rows k.kind.earlier [] Ground (place_at_top k rows)
  place_at_top_slot = firsts_slot [] Ground

  -- ---- the walk's place is that place
  pub after_place_is : (n : List ℕ) (pn : List Step) (pl : Location) → PathOf rows n pn → AfterPlace rows k.kind.earlier n pl → pl ≡ place_after k rows n
  after_place_is n pn pl hn a = slot_one k o rows stamps_read (after_slot k o rows stamps_read hn a) (place_after_slot n pn hn)

  pub top_place_is : (pl : Location) → TopPlace rows k.kind.earlier pl → pl ≡ place_at_top k rows
  top_place_is pl a = slot_one k o rows stamps_read (top_slot k o rows stamps_read a) place_at_top_slot

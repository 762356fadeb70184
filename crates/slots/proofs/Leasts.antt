-- The least child at a place: the earliest of the stamps of the slots that fit.
use Rattle.std.proofs.Common.{◌≡◌, ℕ, Bool, true, false, List, [], ◌∷◌, ◌++◌, Some, None, Option, sym, refl, ap, ◌∙◌, subst, inl, inr, append_assoc}
use Rattle.std.proofs.lemmas.List.{append-nil, map-append}
use Rattle.std.proofs.lemmas.List.Sums.{fold-append}
use Rattle.std.specs.List.{FoldsTo, filter, fold}
use denote.Param.Members.{Mut}
use Rattle.std.proofs.lemmas.Bool.{and_parts, and_from}
use Rattle.std.proofs.lemmas.Fn.{fold_over}
use Rattle.std.proofs.lemmas.Iterator.{YieldsList}
use Rattle.std.specs.Fn.{Called}
use Rattle.std.specs.Iterator.{Drains}
use Rattle.std.specs.Option.{option_map}
use Rattle.words.specs.Forms.{Form}
use Rattle.stamps.specs.Kinds.{StampKind, Connected, Irreflexive, Transitive}
use Rattle.messages.specs.declared.model.Place.TheVariants.{Ground, Under}
use Rattle.ledger.specs.Kinds.{Stamps, Ordered}
use Rattle.ledger.specs.Ledger.{Apart, Node, Row, Location, same_place}
use Rattle.ledger.specs.Walk.{later}
use Rattle.ledger.proofs.Members.{In, from_map}
use Rattle.ledger.proofs.Same.{true_or_false, never, same_list_refl, same_side_refl, same_place_true}
use Rattle.ledger.proofs.Scan.{Fits, Best, best_none, best_skip, best_first, best_keeps, best_better, best_nothing, best_least}
use Rattle.slots.specs.Finding.{LeastIs, earliest, fits_at, hangs_at, stamps_of}
use Rattle.slots.specs.Rows.{place_in, row_in, rows_in}
use Rattle.slots.specs.declared.records.Slot.{Slot}
use Rattle.slots.proofs.Chains.{node_of_place}

same_place_refl : (pl : Location) → same_place pl pl ≡ true
same_place_refl Ground = refl
same_place_refl (Under d p) = and_from _ _ (same_side_refl d) (same_list_refl p)

-- ---- the test decides
hangs_true : (pl : Location) (o : Option Location) → hangs_at pl o ≡ true → o ≡ Some pl
hangs_true pl None h = absurd (never false h refl)
hangs_true pl (Some own) h = ap Some (same_place_true own pl h)

pub fits_true : (earlier : List ℕ → List ℕ → Bool) (pl : Location) (lower : Option (List ℕ)) (r : Row) → fits_at earlier pl lower r ≡ true → Fits earlier pl lower r
fits_true earlier pl lower r h =
    let both = and_parts (hangs_at pl (place_in r)) (later earlier lower r.stamp) h in
    let w = node_of_place r.node pl (hangs_true pl (place_in r) both.0) in
    record { entry = w.0; is = w.1; is_later = both.1 }

pub fits_false : (earlier : List ℕ → List ℕ → Bool) (pl : Location) (lower : Option (List ℕ)) (r : Row) → fits_at earlier pl lower r ≡ false → Fits earlier pl lower r → ⊥
fits_false earlier pl lower r h f =
    let here : hangs_at pl (place_in r) ≡ true = ap (λ (o : Option Node). hangs_at pl (option_map (λ w. w.place) o)) f.is ∙ same_place_refl pl in
    never (fits_at earlier pl lower r) (and_from (hangs_at pl (place_in r)) (later earlier lower r.stamp) here f.is_later) h

-- the stamps of slots read
pub slots_read : {S E : Type 0} (vs : S → List ℕ) (es : E → List ℕ) (reads : List ℕ → Bool) → ((s : S) → reads (vs s) ≡ true) → (xs : List (Slot S E)) (r : Row) → In r (rows_in vs es xs) → reads r.stamp ≡ true
slots_read vs es reads law xs r i = let f = from_map (row_in vs es) r xs i in ap (λ (q : Row). reads q.stamp) (sym f.2) ∙ law f.0.stamp

-- a lawful kind of stamp
pub ordered : (form : Form) (kind : StampKind) → Connected form.reads kind.earlier → Irreflexive form.reads kind.earlier → Transitive form.reads kind.earlier → Ordered (stamps_of form kind)
ordered form kind c i t = record { connected = c; irreflexive = i; transitive = t }

-- ---- one row more
module _ (k : Stamps) (o : Ordered k) (pl : Location) (lower : Option (List ℕ)) where
  pub best_more : (seen : List Row) (r : Row) (b : Option (List ℕ)) → ((q : Row) → In q seen → k.form.reads q.stamp ≡ true) → k.form.reads r.stamp ≡ true → Best k.kind.earlier pl lower seen b → Fits k.kind.earlier pl lower r → Best k.kind.earlier pl lower (seen ++ (r ∷ [])) (Some (earliest k.kind.earlier b r.stamp))
  best_more seen r None held reads best f = best_first k o pl lower seen r best f reads
  best_more seen r (Some c) held reads best f = elim (true_or_false (k.kind.earlier r.stamp c)) [
    | inl t ↦ rw t (best_better k o pl lower seen r c held reads best f t)
    | inr t ↦ rw t (best_keeps k o pl lower seen r c best t)
  ]

  pub best_is : (rows : List Row) (b : Option (List ℕ)) → Apart rows → Best k.kind.earlier pl lower rows b → LeastIs rows k.kind.earlier pl lower b
  best_is rows None apart best = best_nothing k o pl lower rows best
  best_is rows (Some c) apart best = best_least k o pl lower rows c apart best

-- what is so of the items of a chain, one after the other, is so at the end of a fold over it
pub folded : {X A B F C : Type 0} {steps : X → Option A → X → Type 0} {v : A → B} {s : X} {all : List B} (g : Mut F (C × (A × Unit {0})) C) (J : List B → C → Type 0) {f : F} (a r : C) → (xs : List A) × (q : F) × Drains steps s xs × FoldsTo {P = F × C} (λ p x b. Called g p.0 (p.1, (x, tt)) b.1 b.0) (f, a) xs (q, r) → YieldsList steps v s all → J [] a → ((ys : List B) (b : C) (x : A) (c : C) (q : F) → J ys b → Called g f (b, (x, tt)) c q → J (ys ++ (v x ∷ [])) c × (q ≡ f)) → J all r
folded {steps = steps} {v} {s} {all} g J {f} a r ran yields start step = fold_over steps v g J f step s all a r yields.runs start ran

-- ---- the earliest of the slots that fit, one after the other
module _ {S E : Type 0} (vs : S → List ℕ) (es : E → List ℕ) (k : Stamps) (o : Ordered k) (law : (s : S) → k.form.reads (vs s) ≡ true) (pl : Location) (lower : Option (List ℕ)) where
  abbrev pub fits : Slot S E → Bool
  fits x = fits_at k.kind.earlier pl lower (row_in vs es x)

  -- with one slot more
  abbrev pub better : Option (List ℕ) → Slot S E → Option (List ℕ)
  better b x = Some (earliest k.kind.earlier b (vs x.stamp))

  -- a search has come to b once it has seen these slots, of those that fit
  abbrev pub ComesTo : List (Slot S E) → Option S → Type 0
  ComesTo xs b = option_map vs b ≡ fold better None xs

  pub comes_on : (xs : List (Slot S E)) (b : Option S) (x : Slot S E) (c : Option S) → ComesTo xs b → option_map vs c ≡ Some (earliest k.kind.earlier (option_map vs b) (vs x.stamp)) → ComesTo (xs ++ (x ∷ [])) c
  comes_on xs b x c h is = is ∙ ap (λ z. better z x) h ∙ sym (fold-append better None xs (x ∷ []))

  abbrev BestOf : List (Slot S E) → Option (List ℕ) → Type 0
  BestOf xs b = Best k.kind.earlier pl lower (rows_in vs es xs) b

  one_more : (seen : List (Slot S E)) (x : Slot S E) (b : Option (List ℕ)) → Best k.kind.earlier pl lower (rows_in vs es seen ++ (row_in vs es x ∷ [])) b → BestOf (seen ++ (x ∷ [])) b
  one_more seen x b best = subst (λ (z : List Row). Best k.kind.earlier pl lower z b) (sym (map-append (row_in vs es) seen (x ∷ []))) best

  skipped : (seen : List (Slot S E)) (x : Slot S E) (b : Option (List ℕ)) → fits x ≡ false → BestOf seen b → BestOf (seen ++ (x ∷ [])) b
  skipped seen x b f best = one_more seen x b (best_skip k o pl lower (rows_in vs es seen) (row_in vs es x) b best (fits_false k.kind.earlier pl lower (row_in vs es x) f))

  taken : (seen : List (Slot S E)) (x : Slot S E) (b : Option (List ℕ)) → fits x ≡ true → BestOf seen b → BestOf (seen ++ (x ∷ [])) (better b x)
  taken seen x b f best = one_more seen x (better b x) (best_more k o pl lower (rows_in vs es seen) (row_in vs es x) b (slots_read vs es k.form.reads law seen) (law x.stamp) best (fits_true k.kind.earlier pl lower (row_in vs es x) f))

  best_after : (seen xs : List (Slot S E)) (b : Option (List ℕ)) → BestOf seen b → BestOf (seen ++ xs) (fold better b (filter fits xs))
  best_after seen [] b best = rw append-nil best
  best_after seen (x ∷ xs) b best = rw (← append_assoc seen (x ∷ []) xs) (elim (true_or_false (fits x)) [
    | inl t ↦ rw t (best_after (seen ++ (x ∷ [])) xs (better b x) (taken seen x b t best))
    | inr t ↦ rw t (best_after (seen ++ (x ∷ [])) xs b (skipped seen x b t best))
  ])

  pub least_is : (xs : List (Slot S E)) → Apart (rows_in vs es xs) → LeastIs (rows_in vs es xs) k.kind.earlier pl lower (fold better None (filter fits xs))
  least_is xs apart = best_is k o pl lower (rows_in vs es xs) _ apart (best_after [] xs None (best_none k o pl lower))

-- The greatest counter of a site: what `max` makes of the counters of its slots.
use Rattle.std.proofs.Common.{◌≡◌, ℕ, max, Bool, eqb, List, [], ◌∷◌, map, refl, ◌∙◌, inl, inr, arith}
use Rattle.std.specs.List.{filter, fold, reduce}
use Rattle.std.specs.Option.{unwrap_or}
use Rattle.ledger.specs.Calls.{greatest}
use Rattle.ledger.specs.Kinds.{Stamps}
use Rattle.ledger.proofs.Same.{true_or_false}
use Rattle.slots.specs.Rows.{rows_in}
use Rattle.slots.specs.declared.records.Slot.{Slot}

max_assoc : (a b c : ℕ) → max (max a b) c ≡ max a (max b c)
max_assoc a b c = omega arith

module _ {S E : Type 0} (vs : S → List ℕ) (es : E → List ℕ) (k : Stamps) (site : ℕ) where
  abbrev pub of_site : Slot S E → Bool
  of_site x = eqb (k.kind.site (vs x.stamp)) site

  abbrev pub counters : List (Slot S E) → List ℕ
  counters xs = map (λ x. k.kind.counter (vs x.stamp)) (filter of_site xs)

  greatest_from : (xs : List (Slot S E)) (a : ℕ) → fold max a (counters xs) ≡ max a (greatest k site (rows_in vs es xs))
  greatest_from [] a = omega arith
  greatest_from (x ∷ xs) a = elim (true_or_false (of_site x)) [
    | inl t ↦ rw t (greatest_from xs (max a (k.kind.counter (vs x.stamp))) ∙ max_assoc a (k.kind.counter (vs x.stamp)) (greatest k site (rows_in vs es xs)))
    | inr t ↦ rw t (greatest_from xs a)
  ]

  pub greatest_is : (xs : List (Slot S E)) → unwrap_or (reduce max (counters xs)) 0 ≡ greatest k site (rows_in vs es xs)
  greatest_is [] = refl
  greatest_is (x ∷ xs) = elim (true_or_false (of_site x)) [
    | inl t ↦ rw t (greatest_from xs (k.kind.counter (vs x.stamp)))
    | inr t ↦ rw t (greatest_is xs)
  ]

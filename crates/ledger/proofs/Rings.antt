-- Two insertions that name each other have no path.
use Rattle.std.proofs.Common.{◌≡◌, ℕ, false, ◌⊎◌, List, Some, Option, sym, refl, ap, ◌∙◌, inl, inr, arith}
use Rattle.messages.specs.declared.model.Place.TheVariants.{Ground, Under}
use Rattle.messages.specs.declared.model.Side.{Side}
use Rattle.ledger.specs.Ledger.{Node, Row, Location, node_of}
use Rattle.ledger.specs.Paths.{Step, PathOf, stands}
use Rattle.ledger.specs.Paths.PathOf.{top, below}
use Rattle.ledger.proofs.Chains.{stands_is}
use Rattle.ledger.proofs.Same.{true_or_false}

-- the place that an insertion is held at
held_at : (rows : List Row) (u v : List ℕ) (w x : Node) → node_of u rows ≡ Some w → node_of v rows ≡ Some x → u ≡ v → w.place ≡ x.place
held_at rows u v w x h g e = let both : ◌≡◌ {A = Option Node} (Some w) (Some x) = sym h ∙ ap (λ y. node_of y rows) e ∙ g in let same : w ≡ x = cc in ap (λ (y : Node). y.place) same

not_on_ground : {X : Type 0} (d : Side) (p : List ℕ) → ◌≡◌ {A = Location} Ground (Under d p) → X
not_on_ground d p e = let gone : ◌≡◌ {A = ℕ} 0 1 = cc in absurd (omega arith)

parent_is : (c d : Side) (p q : List ℕ) → ◌≡◌ {A = Location} (Under c p) (Under d q) → p ≡ q
parent_is c d p q e = cc

module _ (rows : List Row) (s t e f : List ℕ) (c d : Side)
    (first : node_of s rows ≡ Some (record { place = Under c t; entry = e })) (second : node_of t rows ≡ Some (record { place = Under d s; entry = f })) where
  no_path : {u : List ℕ} {p : List Step} → PathOf rows u p → (u ≡ s) ⊎ (u ≡ t) → ⊥
  no_path (top u g n) (inl h) = not_on_ground c t (held_at rows u s _ _ n first h)
  no_path (top u g n) (inr h) = not_on_ground d s (held_at rows u t _ _ n second h)
  no_path (below u g q side steps n r) (inl h) = no_path r (inr (parent_is side c q t (held_at rows u s _ _ n first h)))
  no_path (below u g q side steps n r) (inr h) = no_path r (inl (parent_is side d q s (held_at rows u t _ _ n second h)))

  pub in_a_ring : stands rows s ≡ false
  in_a_ring = elim (true_or_false (stands rows s)) [ inl y ↦ absurd (no_path (stands_is rows s y).1 (inl refl)) | inr n ↦ n ]

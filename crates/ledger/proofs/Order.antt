-- The order of paths is a strict total order, from the laws of the stamps' order.
use Rattle.std.proofs.Common.{◌≡◌, ℕ, Bool, true, false, List, [], ◌∷◌, ◌++◌, sym, refl, ◌∙◌, inl, inr}
use Rattle.ledger.specs.Kinds.{Stamps, Ordered}
use Rattle.ledger.specs.Ledger.{same_side}
use Rattle.messages.specs.declared.model.Side.{Side}
use Rattle.messages.specs.declared.model.Side.TheVariants.{Left, Right}
use Rattle.ledger.specs.Paths.{Step, before, step_before, side_of}
use Rattle.ledger.specs.Theorems.{AllRead}
use Rattle.ledger.proofs.Same.{true_or_false, never, same_step_refl, apart_steps, same_steps_or_not, same_side_true, step_is}

pub all_read_append : (k : Stamps) (p q : List Step) → AllRead k p → AllRead k q → AllRead k (p ++ q)
all_read_append k [] q rp rq = rq
all_read_append k (a ∷ p) q rp rq = (rp.0, all_read_append k p q rp.1 rq)

-- two paths that begin with one step, and two that begin apart
pub before_same : (earlier : List ℕ → List ℕ → Bool) (a : Step) (p q : List Step) → before earlier (a ∷ p) (a ∷ q) ≡ before earlier p q
before_same earlier a p q = rw (same_step_refl a)

pub before_apart : (earlier : List ℕ → List ℕ → Bool) (a b : Step) (p q : List Step) → (a ≡ b → ⊥) → before earlier (a ∷ p) (b ∷ q) ≡ step_before earlier a.side b.side a.stamp b.stamp
before_apart earlier a b p q h = rw (apart_steps a b h)

pub before_irreflexive : (earlier : List ℕ → List ℕ → Bool) (p : List Step) → before earlier p p ≡ false
before_irreflexive earlier [] = refl
before_irreflexive earlier (a ∷ p) = before_same earlier a p p ∙ before_irreflexive earlier p

-- a common front does not matter
pub before_front : (earlier : List ℕ → List ℕ → Bool) (p q r : List Step) → before earlier (p ++ q) (p ++ r) ≡ before earlier q r
before_front earlier [] q r = refl
before_front earlier (a ∷ p) q r = before_same earlier a (p ++ q) (p ++ r) ∙ before_front earlier p q r

-- what follows a path that neither is nor begins the other does not matter
module _ (earlier : List ℕ → List ℕ → Bool) where
  pub longer_before : (p q r : List Step) → ((t : List Step) → q ≡ p ++ t → ⊥) → before earlier (p ++ r) q ≡ before earlier p q
  longer_before [] q r apart = absurd (apart q refl)
  longer_before (a ∷ p) [] r apart = refl
  longer_before (a ∷ p) (b ∷ q) r apart = elim (same_steps_or_not a b) [
    | inl e ↦ rw (e, same_step_refl b) (longer_before p q r (λ t s. apart t (rw (e, s))))
    | inr n ↦ rw (apart_steps a b n)
  ]

  pub before_longer : (p q r : List Step) → ((t : List Step) → q ≡ p ++ t → ⊥) → before earlier q (p ++ r) ≡ before earlier q p
  before_longer [] q r apart = absurd (apart q refl)
  before_longer (a ∷ p) [] r apart = refl
  before_longer (a ∷ p) (b ∷ q) r apart = elim (same_steps_or_not a b) [
    | inl e ↦ rw (e, same_step_refl b) (before_longer p q r (λ t s. apart t (rw (e, s))))
    | inr n ↦ rw (apart_steps b a (λ e. n (sym e)))
  ]

module _ (k : Stamps) (o : Ordered k) where
  step_irreflexive : (d : Side) (s : List ℕ) → k.form.reads s ≡ true → step_before k.kind.earlier d d s s ≡ false
  step_irreflexive Left s r = o.irreflexive s r
  step_irreflexive Right s r = o.irreflexive s r

  step_transitive : (d e f : Side) (s t u : List ℕ) → k.form.reads s ≡ true → k.form.reads t ≡ true → k.form.reads u ≡ true
      → step_before k.kind.earlier d e s t ≡ true → step_before k.kind.earlier e f t u ≡ true → step_before k.kind.earlier d f s u ≡ true
  step_transitive Left Left Left s t u rs rt ru h g = o.transitive s t u rs rt ru h g
  step_transitive Left Left Right s t u rs rt ru h g = refl
  step_transitive Left Right Left s t u rs rt ru h g = cc
  step_transitive Left Right Right s t u rs rt ru h g = refl
  step_transitive Right Left Left s t u rs rt ru h g = h
  step_transitive Right Left Right s t u rs rt ru h g = cc
  step_transitive Right Right Left s t u rs rt ru h g = g
  step_transitive Right Right Right s t u rs rt ru h g = o.transitive s t u rs rt ru h g

  step_connected : (d e : Side) (s t : List ℕ) → k.form.reads s ≡ true → k.form.reads t ≡ true
      → step_before k.kind.earlier d e s t ≡ false → step_before k.kind.earlier e d t s ≡ false → (d ≡ e) × (s ≡ t)
  step_connected Left Left s t rs rt h g = (refl, o.connected s t rs rt h g)
  step_connected Left Right s t rs rt h g = (cc, cc)
  step_connected Right Left s t rs rt h g = (cc, cc)
  step_connected Right Right s t rs rt h g = (refl, o.connected s t rs rt h g)

  -- a step before one on the left is on the left, and one after one on the right is on the right
  left_of_left : (a b : Step) → side_of b Left ≡ true → step_before k.kind.earlier a.side b.side a.stamp b.stamp ≡ true → side_of a Left ≡ true
  left_of_left a b l h = go a.side b.side l h
    where
      go : (d e : Side) → same_side e Left ≡ true → step_before k.kind.earlier d e a.stamp b.stamp ≡ true → same_side d Left ≡ true
      go Left e l h = refl
      go Right Left l h = h
      go Right Right l h = l

  right_of_right : (a b : Step) → side_of a Right ≡ true → step_before k.kind.earlier a.side b.side a.stamp b.stamp ≡ true → side_of b Right ≡ true
  right_of_right a b l h = go a.side b.side l h
    where
      go : (d e : Side) → same_side d Right ≡ true → step_before k.kind.earlier d e a.stamp b.stamp ≡ true → same_side e Right ≡ true
      go d Right l h = refl
      go Left Left l h = l
      go Right Left l h = h

  left_before_right : (a b : Step) (p q : List Step) → side_of a Left ≡ true → side_of b Right ≡ true → before k.kind.earlier (a ∷ p) (b ∷ q) ≡ true
  left_before_right a b p q l r =
      let al : a.side ≡ Left = same_side_true a.side Left l in
      let br : b.side ≡ Right = same_side_true b.side Right r in
      rw (al, br)

  no_two_sides : (a : Step) → side_of a Left ≡ true → side_of a Right ≡ true → ⊥
  no_two_sides a l r = go a.side l r
    where
      go : (d : Side) → same_side d Left ≡ true → same_side d Right ≡ true → ⊥
      go Left l r = never (same_side Left Right) r refl
      go Right l r = never (same_side Right Left) l refl

  some_side : (a : Step) → side_of a Left ≡ false → side_of a Right ≡ false → ⊥
  some_side a l r = go a.side l r
    where
      go : (d : Side) → same_side d Left ≡ false → same_side d Right ≡ false → ⊥
      go Left l r = never (same_side Left Left) refl l
      go Right l r = never (same_side Right Right) refl r

  -- the first steps, with what is known of the steps after them
  first_steps : (a b c : Step) (p q r : List Step) → k.form.reads a.stamp ≡ true → k.form.reads b.stamp ≡ true → k.form.reads c.stamp ≡ true
      → (before k.kind.earlier p q ≡ true → before k.kind.earlier q r ≡ true → before k.kind.earlier p r ≡ true)
      → before k.kind.earlier (a ∷ p) (b ∷ q) ≡ true → before k.kind.earlier (b ∷ q) (c ∷ r) ≡ true → before k.kind.earlier (a ∷ p) (c ∷ r) ≡ true
  first_steps a b c p q r ra rb rc below h g = elim (same_steps_or_not a b) [
    | inl ab ↦ elim (same_steps_or_not b c) [
      | inl bc ↦ rw (ab, bc) (before_same k.kind.earlier c p r ∙ below (ab_below ab) (bc_below bc))
      | inr bc ↦ rw ab (before_apart k.kind.earlier b c p r bc ∙ bc_apart bc)
    ]
    | inr ab ↦ elim (same_steps_or_not b c) [
      | inl bc ↦ rw (← bc) (before_apart k.kind.earlier a b p r ab ∙ ab_apart ab)
      | inr bc ↦ before_apart k.kind.earlier a c p r (ac_apart ab bc) ∙ ac_step (ab_apart ab) (bc_apart bc)
    ]
  ]
    where
      ab_below : a ≡ b → before k.kind.earlier p q ≡ true
      ab_below e = sym (before_same k.kind.earlier b p q) ∙ (rw e at h)

      bc_below : b ≡ c → before k.kind.earlier q r ≡ true
      bc_below e = sym (before_same k.kind.earlier c q r) ∙ (rw e at g)

      ab_apart : (a ≡ b → ⊥) → step_before k.kind.earlier a.side b.side a.stamp b.stamp ≡ true
      ab_apart n = sym (before_apart k.kind.earlier a b p q n) ∙ h

      bc_apart : (b ≡ c → ⊥) → step_before k.kind.earlier b.side c.side b.stamp c.stamp ≡ true
      bc_apart n = sym (before_apart k.kind.earlier b c q r n) ∙ g

      ac_step : step_before k.kind.earlier a.side b.side a.stamp b.stamp ≡ true → step_before k.kind.earlier b.side c.side b.stamp c.stamp ≡ true
          → step_before k.kind.earlier a.side c.side a.stamp c.stamp ≡ true
      ac_step x y = step_transitive a.side b.side c.side a.stamp b.stamp c.stamp ra rb rc x y

      ac_apart : (a ≡ b → ⊥) → (b ≡ c → ⊥) → a ≡ c → ⊥
      ac_apart ab bc e = never (step_before k.kind.earlier a.side a.side a.stamp a.stamp) (rw (← e) at (ac_step (ab_apart ab) (bc_apart bc))) (step_irreflexive a.side a.stamp ra)

  pub before_transitive : (p q r : List Step) → AllRead k p → AllRead k q → AllRead k r
      → before k.kind.earlier p q ≡ true → before k.kind.earlier q r ≡ true → before k.kind.earlier p r ≡ true
  before_transitive [] [] r rp rq rr h g = g
  before_transitive [] (b ∷ q) [] rp rq rr h g = absurd (no_two_sides b g h)
  before_transitive [] (b ∷ q) (c ∷ r) rp rq rr h g = elim (same_steps_or_not b c) [
    | inl e ↦ rw e at h
    | inr n ↦ right_of_right b c h (rw (before_apart k.kind.earlier b c q r n) at g)
  ]
  before_transitive (a ∷ p) [] [] rp rq rr h g = h
  before_transitive (a ∷ p) [] (c ∷ r) rp rq rr h g = left_before_right a c p r h g
  before_transitive (a ∷ p) (b ∷ q) [] rp rq rr h g = elim (same_steps_or_not a b) [
    | inl e ↦ rw e g
    | inr n ↦ left_of_left a b g (rw (before_apart k.kind.earlier a b p q n) at h)
  ]
  before_transitive (a ∷ p) (b ∷ q) (c ∷ r) rp rq rr h g =
      first_steps a b c p q r rp.0 rq.0 rr.0 (before_transitive p q r rp.1 rq.1 rr.1) h g

  pub before_asymmetric : (p q : List Step) → AllRead k p → AllRead k q → before k.kind.earlier p q ≡ true → before k.kind.earlier q p ≡ false
  before_asymmetric p q rp rq h = elim (true_or_false (before k.kind.earlier q p)) [
    | inl g ↦ absurd (never (before k.kind.earlier p p) (before_transitive p q p rp rq rp h g) (before_irreflexive k.kind.earlier p))
    | inr g ↦ g
  ]

  pub before_connected : (p q : List Step) → AllRead k p → AllRead k q → before k.kind.earlier p q ≡ false → before k.kind.earlier q p ≡ false → p ≡ q
  before_connected [] [] rp rq h g = refl
  before_connected [] (b ∷ q) rp rq h g = absurd (some_side b g h)
  before_connected (a ∷ p) [] rp rq h g = absurd (some_side a h g)
  before_connected (a ∷ p) (b ∷ q) rp rq h g = elim (same_steps_or_not a b) [
    | inl e ↦
        let h' : before k.kind.earlier p q ≡ false = sym (before_same k.kind.earlier b p q) ∙ (rw e at h) in
        let g' : before k.kind.earlier q p ≡ false = sym (before_same k.kind.earlier b q p) ∙ (rw e at g) in
        let tails : p ≡ q = before_connected p q rp.1 rq.1 h' g' in
        cc
    | inr n ↦
        let h' : step_before k.kind.earlier a.side b.side a.stamp b.stamp ≡ false = sym (before_apart k.kind.earlier a b p q n) ∙ h in
        let g' : step_before k.kind.earlier b.side a.side b.stamp a.stamp ≡ false = sym (before_apart k.kind.earlier b a q p (λ e. n (sym e))) ∙ g in
        let same = step_connected a.side b.side a.stamp b.stamp rp.0 rq.0 h' g' in
        absurd (n (step_is a b same.0 same.1))
  ]

  -- of two different paths, one is before the other
  pub before_or_after : (p q : List Step) → AllRead k p → AllRead k q → (p ≡ q → ⊥) → before k.kind.earlier p q ≡ false → before k.kind.earlier q p ≡ true
  before_or_after p q rp rq n h = elim (true_or_false (before k.kind.earlier q p)) [ inl g ↦ g | inr g ↦ absurd (n (before_connected p q rp rq h g)) ]

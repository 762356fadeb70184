-- The order of paths and fronts of paths.
use Rattle.std.proofs.Common.{◌≡◌, ℕ, Bool, true, false, cond, ◌⊎◌, List, [], ◌∷◌, ◌++◌, sym, refl, subst, inl, inr}
use borrow.Author.Tests.{both_ways}
use Rattle.messages.specs.declared.model.Side.TheVariants.{Left, Right}
use Rattle.ledger.specs.Paths.{Step, same_step, before, step_before, side_of}
use Rattle.ledger.proofs.Same.{same_step_refl, same_step_true, same_side_true}
use Rattle.ledger.proofs.Order.{before_front}

-- ---- what is past all that is below a path
abbrev pub Past : (List ℕ → List ℕ → Bool) → List Step → List Step → Type 0
Past earlier [] q = ⊥
Past earlier (a ∷ p) [] = side_of a Left ≡ true
Past earlier (a ∷ p) (b ∷ q) = ((a ≡ b) × Past earlier p q) ⊎ ((same_step a b ≡ false) × (step_before earlier a.side b.side a.stamp b.stamp ≡ true))

-- below a path by a right step
pub data RightBelow (p : List Step) : List Step → Type 0 where
  right_below : (t : List ℕ) (r : List Step) → RightBelow p (p ++ (record { side = Right; stamp = t } ∷ r))

pub data CondTrue (t x y : Bool) : Type 0 where
  taken : t ≡ true → x ≡ true → CondTrue t x y
  left_out : t ≡ false → y ≡ true → CondTrue t x y

pub cond_true_cases : (t x y : Bool) → cond t x y ≡ true → CondTrue t x y
cond_true_cases true x y e = taken refl e
cond_true_cases false x y e = left_out refl e

pub past_before : (earlier : List ℕ → List ℕ → Bool) (p q : List Step) → Past earlier p q → before earlier p q ≡ true
past_before earlier [] q h = absurd h
past_before earlier (a ∷ p) [] h = h
past_before earlier (a ∷ p) (b ∷ q) (inl h) =
    let ih = past_before earlier p q h.1 in
    let s = same_step_refl a in
    let t : same_step a b ≡ true = rw (← h.0) s in
    rw t ih
past_before earlier (a ∷ p) (b ∷ q) (inr h) = rw h.0 h.1

pub past_more : (earlier : List ℕ → List ℕ → Bool) (p q r : List Step) → Past earlier p q → Past earlier (p ++ r) q
past_more earlier [] q r h = absurd h
past_more earlier (a ∷ p) [] r h = h
past_more earlier (a ∷ p) (b ∷ q) r (inl h) = inl (h.0, past_more earlier p q r h.1)
past_more earlier (a ∷ p) (b ∷ q) r (inr h) = inr h

-- ---- past, or below by a right step
pub cons_right : (a b : Step) (p q : List Step) → a ≡ b → RightBelow p q → RightBelow (a ∷ p) (b ∷ q)
cons_right a b p q e (right_below t r) = subst (λ (x : Step). RightBelow (a ∷ p) (x ∷ (p ++ (record { side = Right; stamp = t } ∷ r)))) e (right_below t r)

side_right : (b : Step) → side_of b Right ≡ true → record { side = Right; stamp = b.stamp } ≡ b
side_right b e = let s = same_side_true b.side Right e in λ i. record { side = sym s i; stamp = b.stamp }

pub right_to : (b : Step) (q : List Step) → side_of b Right ≡ true → RightBelow [] (b ∷ q)
right_to b q h = subst (λ (x : Step). RightBelow [] (x ∷ q)) (side_right b h) (right_below b.stamp q)

pub before_cases : (earlier : List ℕ → List ℕ → Bool) (p q : List Step) → before earlier p q ≡ true → Past earlier p q ⊎ RightBelow p q
before_cases earlier [] [] h = absurd (both_ways false refl h)
before_cases earlier [] (b ∷ q) h = inr (right_to b q h)
before_cases earlier (a ∷ p) [] h = inl h
before_cases earlier (a ∷ p) (b ∷ q) h =
    go (before_cases earlier p q) (cond_true_cases (same_step a b) (before earlier p q) (step_before earlier a.side b.side a.stamp b.stamp) h)
  where
    deep : a ≡ b → Past earlier p q ⊎ RightBelow p q → Past earlier (a ∷ p) (b ∷ q) ⊎ RightBelow (a ∷ p) (b ∷ q)
    deep e (inl x) = inl (inl (e, x))
    deep e (inr x) = inr (cons_right a b p q e x)

    go : (before earlier p q ≡ true → Past earlier p q ⊎ RightBelow p q) → CondTrue (same_step a b) (before earlier p q) (step_before earlier a.side b.side a.stamp b.stamp) → Past earlier (a ∷ p) (b ∷ q) ⊎ RightBelow (a ∷ p) (b ∷ q)
    go ih (taken s k) = deep (same_step_true a b s) (ih k)
    go ih (left_out s k) = inl (inr (s, k))

-- ---- one step more
pub left_step : (earlier : List ℕ → List ℕ → Bool) (p r : List Step) (s : List ℕ) → before earlier (p ++ (record { side = Left; stamp = s } ∷ r)) p ≡ true
left_step earlier [] r s = refl
left_step earlier (a ∷ p) r s = rw (same_step_refl a, left_step earlier p r s)

pub right_step : (earlier : List ℕ → List ℕ → Bool) (p r : List Step) (s : List ℕ) → before earlier p (p ++ (record { side = Right; stamp = s } ∷ r)) ≡ true
right_step earlier [] r s = refl
right_step earlier (a ∷ p) r s = rw (same_step_refl a, right_step earlier p r s)

pub past_left_step : (earlier : List ℕ → List ℕ → Bool) (p r : List Step) (s : List ℕ) → Past earlier (p ++ (record { side = Left; stamp = s } ∷ r)) p
past_left_step earlier [] r s = refl
past_left_step earlier (a ∷ p) r s = inl (refl, past_left_step earlier p r s)

-- two different children of one path order all that is below them
pub steps_order : (earlier : List ℕ → List ℕ → Bool) (p u v : List Step) (a b : Step) → same_step a b ≡ false → before earlier (p ++ (a ∷ u)) (p ++ (b ∷ v)) ≡ step_before earlier a.side b.side a.stamp b.stamp
steps_order earlier p u v a b e = rw (before_front, e)

pub past_steps : (earlier : List ℕ → List ℕ → Bool) (p u v : List Step) (a b : Step) → same_step a b ≡ false → step_before earlier a.side b.side a.stamp b.stamp ≡ true → Past earlier (p ++ (a ∷ u)) (p ++ (b ∷ v))
past_steps earlier [] u v a b e h = inr (e, h)
past_steps earlier (x ∷ p) u v a b e h = inl (refl, past_steps earlier p u v a b e h)

-- a left step, and more, from a path is before all that the path is before
pub left_still_before : (earlier : List ℕ → List ℕ → Bool) (p q r : List Step) (s : List ℕ) → before earlier p q ≡ true → before earlier (p ++ (record { side = Left; stamp = s } ∷ r)) q ≡ true
left_still_before earlier p q r s h = go (before_cases earlier p q h)
  where
    at_right : {x : List Step} → RightBelow p x → before earlier (p ++ (record { side = Left; stamp = s } ∷ r)) x ≡ true
    at_right (right_below t v) = rw before_front

    go : Past earlier p q ⊎ RightBelow p q → before earlier (p ++ (record { side = Left; stamp = s } ∷ r)) q ≡ true
    go (inl x) = past_before earlier (p ++ (record { side = Left; stamp = s } ∷ r)) q (past_more earlier p q (record { side = Left; stamp = s } ∷ r) x)
    go (inr x) = at_right x

-- ---- past a path and one step more
pub data PastMore (earlier : List ℕ → List ℕ → Bool) (p : List Step) (a : Step) : List Step → Type 0 where
  over : (q : List Step) → Past earlier p q → PastMore earlier p a q
  parent_is : side_of a Left ≡ true → PastMore earlier p a p
  beside : (b : Step) (v : List Step) → same_step a b ≡ false → step_before earlier a.side b.side a.stamp b.stamp ≡ true → PastMore earlier p a (p ++ (b ∷ v))

pub past_step_cases : (earlier : List ℕ → List ℕ → Bool) (p q : List Step) (a : Step) → Past earlier (p ++ (a ∷ [])) q → PastMore earlier p a q
past_step_cases earlier [] [] a h = parent_is h
past_step_cases earlier [] (b ∷ q) a (inl h) = absurd h.1
past_step_cases earlier [] (b ∷ q) a (inr h) = beside b q h.0 h.1
past_step_cases earlier (x ∷ p) [] a h = over [] h
past_step_cases earlier (x ∷ p) (b ∷ q) a (inr h) = over (b ∷ q) (inr h)
past_step_cases earlier (x ∷ p) (b ∷ q) a (inl h) = subst (λ (y : Step). PastMore earlier (x ∷ p) a (y ∷ q)) h.0 (go (past_step_cases earlier p q a h.1))
  where
    go : {y : List Step} → PastMore earlier p a y → PastMore earlier (x ∷ p) a (x ∷ y)
    go (over y k) = over (x ∷ y) (inl (refl, k))
    go (parent_is k) = parent_is k
    go (beside c v e k) = beside c v e k

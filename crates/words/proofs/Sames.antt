-- The test of equal values decides whether they are equal.
use Rattle.std.proofs.Common.{◌≡◌, ℕ, true, false, List, [], ◌∷◌, sym, refl, ap, ◌∙◌, ⊎_elim, arith}
use Rattle.std.proofs.lemmas.Bool.{and_from, and_parts, cases_Bool, eq-eqb, eqb-true}
use Rattle.words.specs.Forms.{same_values}

pub same_from_test : (v w : List ℕ) → same_values v w ≡ true → v ≡ w
same_from_test [] [] e = refl
same_from_test [] (y ∷ w) e = let gone : ◌≡◌ {A = ℕ} 0 1 = cc in absurd (omega arith)
same_from_test (x ∷ v) [] e = let gone : ◌≡◌ {A = ℕ} 0 1 = cc in absurd (omega arith)
same_from_test (x ∷ v) (y ∷ w) e = let p = and_parts _ _ e in λ i. eqb-true x y p.0 i ∷ same_from_test v w p.1 i

pub test_from_same : (v w : List ℕ) → v ≡ w → same_values v w ≡ true
test_from_same v w e = ap (same_values v) (sym e) ∙ itself v
  where
    itself : (u : List ℕ) → same_values u u ≡ true
    itself [] = refl
    itself (x ∷ u) = and_from _ _ (eq-eqb x x refl) (itself u)

pub test_from_apart : (v w : List ℕ) → (v ≡ w → ⊥) → same_values v w ≡ false
test_from_apart v w h = ⊎_elim (λ e. absurd (h (same_from_test v w e))) (λ e. e) (cases_Bool (same_values v w))

-- Lists of one and of two values, by their values.
use Rattle.std.proofs.Common.{◌≡◌, ℕ, List, [], ◌∷◌, length, get_or, sym, refl, ap, ◌∙◌, arith}

pub one : (v : List ℕ) → length v ≡ 1 → v ≡ get_or v 0 0 ∷ []
one [] h = absurd (omega arith)
one (a ∷ []) h = refl
one (a ∷ b ∷ r) h = absurd (omega arith)

pub two : (v : List ℕ) → length v ≡ 2 → v ≡ get_or v 0 0 ∷ get_or v 1 0 ∷ []
two [] h = absurd (omega arith)
two (a ∷ []) h = absurd (omega arith)
two (a ∷ b ∷ []) h = refl
two (a ∷ b ∷ c ∷ r) h = absurd (omega arith)

pub same_one : (v w : List ℕ) → length v ≡ 1 → length w ≡ 1 → get_or v 0 0 ≡ get_or w 0 0 → v ≡ w
same_one v w h k e = one v h ∙ ap (λ n. n ∷ []) e ∙ sym (one w k)

pub same_two : (v w : List ℕ) → length v ≡ 2 → length w ≡ 2 → get_or v 0 0 ≡ get_or w 0 0 → get_or v 1 0 ≡ get_or w 1 0 → v ≡ w
same_two v w h k e f = two v h ∙ (λ i. e i ∷ f i ∷ []) ∙ sym (two w k)

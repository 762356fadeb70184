use Rattle.std.proofs.Common.{◌≡◌, ℕ, zero, suc, ◌+◌, ◌*◌, ◌<◌, List, [], ◌∷◌, length, get_or, sym, ap, ◌∙◌, w32, arith, rules}
use Rattle.std.specs.Int.{from_be_bytes}
use Rattle.std.proofs.lemmas.List.FromFn.{fill_by_all}
use Rattle.entries.specs.Surnames.{packed, padded}
use Rattle.entries.specs.Packing.{length_packed}
use Rattle.entries.proofs.Calls.{from_fn_is}
use Rattle.entries.proofs.registers.surnames.Surname.packed.Goals as goal

-- the value of three bytes
abbrev value_at : List ℕ → ℕ → ℕ
value_at bs i = from_be_bytes w32 (0 ∷ get_or bs (3 * i) 0 ∷ get_or bs (3 * i + 1) 0 ∷ get_or bs (3 * i + 2) 0 ∷ [])

get_or-packed : (bs : List ℕ) (m k : ℕ) → length bs ≡ 3 * m → k < m → get_or (packed bs) k 0 ≡ value_at bs k
get_or-packed [] m k l h = absurd (omega arith)
get_or-packed (a ∷ []) m k l h = absurd (omega arith)
get_or-packed (a ∷ b ∷ []) m k l h = absurd (omega arith)
get_or-packed (a ∷ b ∷ c ∷ bs) zero k l h = absurd (omega arith)
get_or-packed (a ∷ b ∷ c ∷ bs) (suc m) zero l h = omega arith
get_or-packed (a ∷ b ∷ c ∷ bs) (suc m) (suc k) l h =
    let e : 3 * suc k ≡ suc (suc (suc (3 * k))) = omega arith in
    let f : 3 * suc k + 1 ≡ suc (suc (suc (3 * k + 1))) = omega arith in
    let g : 3 * suc k + 2 ≡ suc (suc (suc (3 * k + 2))) = omega arith in
    get_or-packed bs m k (omega arith) (omega arith)
    ∙ sym (λ i. from_be_bytes w32 (0 ∷ get_or (a ∷ b ∷ c ∷ bs) (e i) 0 ∷ get_or (a ∷ b ∷ c ∷ bs) (f i) 0 ∷ get_or (a ∷ b ∷ c ∷ bs) (g i) 0 ∷ []))

pub returns : goal.returns
returns c =
    let bs = c.self.inside.bytes in
    from_fn_is _ _ (value_at bs) (λ i y q k. search rules) c.from_fn.result 8 0 c.from_fn.ensures.items
    ∙ sym (fill_by_all (value_at bs) (packed bs) 8 0 (length_packed 8 bs c.self.told) (λ k h. get_or-packed bs 8 k c.self.told h))
    ∙ ap packed (c.self.invariant.1 ∙ ap padded c.self.view_is)

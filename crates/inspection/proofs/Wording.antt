-- Words from bytes, four at a time.
use Rattle.std.proofs.Common.{◌≡◌, ℕ, zero, suc, ◌+◌, ◌*◌, ◌/◌, ◌<◌, ◌≤◌, List, [], ◌∷◌, map, length, refl, ap, arith}
use Rattle.std.specs.Int.{from_be_bytes, w32}
use Rattle.std.specs.Simd.{first_chunks}
use Rattle.inspection.specs.Bytes.{words_in}

chunk_by_chunk : (k : ℕ) (bs : List ℕ) → k * 4 ≤ length bs → length bs < k * 4 + 4 → words_in bs ≡ map (from_be_bytes w32) (first_chunks 4 k bs)
chunk_by_chunk zero [] h l = refl
chunk_by_chunk zero (a ∷ []) h l = refl
chunk_by_chunk zero (a ∷ b ∷ []) h l = refl
chunk_by_chunk zero (a ∷ b ∷ c ∷ []) h l = refl
chunk_by_chunk zero (a ∷ b ∷ c ∷ d ∷ bs) h l = absurd (omega arith)
chunk_by_chunk (suc k) [] h l = absurd (omega arith)
chunk_by_chunk (suc k) (a ∷ []) h l = absurd (omega arith)
chunk_by_chunk (suc k) (a ∷ b ∷ []) h l = absurd (omega arith)
chunk_by_chunk (suc k) (a ∷ b ∷ c ∷ []) h l = absurd (omega arith)
chunk_by_chunk (suc k) (a ∷ b ∷ c ∷ d ∷ bs) h l = ap (λ ws. from_be_bytes w32 (a ∷ b ∷ c ∷ d ∷ []) ∷ ws) (chunk_by_chunk k bs (omega arith) (omega arith))

pub words_from_chunks : (bs : List ℕ) → words_in bs ≡ map (from_be_bytes w32) (first_chunks 4 (length bs / 4) bs)
words_from_chunks bs = chunk_by_chunk (length bs / 4) bs (omega arith) (omega arith)

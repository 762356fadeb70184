-- No two entries of a kind print alike.
use Rattle.std.proofs.Common.{◌≡◌, ℕ, ◌+◌, ◌*◌, ◌%◌, ◌^◌, ◌<◌, ◌≤◌, true, eqb, List, [], ◌∷◌, ◌++◌, length, get_or, drop, decimal, sym, refl, ap, ◌∙◌, arith}
use Rattle.std.proofs.lemmas.Fmt.{decimal_by_steps, decimal_injective}
use Rattle.std.proofs.lemmas.List.{length-append, same_from_push}
use Rattle.std.proofs.lemmas.Bool.{and_parts, eqb-true}
use Rattle.std.proofs.lemmas.Str.{encode_same}
use Rattle.std.proofs.lemmas.Bool.Decides.{nat_tests}
use Rattle.words.proofs.Shapes.{one}
use Rattle.entries.specs.Kinds.{PrintsApart}
use Rattle.entries.specs.Characters.{character_code, character_reads, character_prints}
use Rattle.entries.specs.Surnames.{packed, padded}
use Rattle.entries.specs.Registers.{type_letter, number_in, grave_in, type_in, surname_in, register_reads, register_prints}
use Rattle.entries.specs.Reading.{parts, whole_held}

-- ---- characters
character_alone : (v : List ℕ) → character_reads v ≡ true → v ≡ get_or v 0 0 ∷ []
character_alone v h = one v (eqb-true (length v) 1 (and_parts (eqb (length v) 1) (character_code (get_or v 0 0)) h).0)

pub characters_apart : PrintsApart character_reads character_prints
characters_apart v w rv rw' e =
    character_alone v rv
    ∙ ap (λ n. n ∷ []) (encode_same (get_or v 0 0) (get_or w 0 0) [] [] (ap (λ bs. bs ++ []) e)).0
    ∙ sym (character_alone w rw')

-- ---- numbers, each with a space after it
-- each is above the space
abbrev Above : List ℕ → Type 0
Above [] = Unit {0}
Above (b ∷ bs) = (32 < b) × Above bs

above_push : (bs : List ℕ) (b : ℕ) → Above bs → 32 < b → Above (bs ++ b ∷ [])
above_push [] b h l = (l, tt)
above_push (c ∷ bs) b h l = (h.0, above_push bs b h.1 l)

decimal_above : (n : ℕ) → n < 2 ^ 64 → Above (decimal n)
decimal_above = decimal_by_steps (λ n ds. Above ds) (λ n h. (omega arith, tt)) (λ n ds h below. above_push ds (48 + n % 10) below (omega arith))

-- the first space ends what is above it
split_space : (xs ys r t : List ℕ) → Above xs → Above ys → xs ++ 32 ∷ r ≡ ys ++ 32 ∷ t → (xs ≡ ys) × (r ≡ t)
split_space [] [] r t hx hy e = let s : r ≡ t = cc in (refl, s)
split_space [] (y ∷ ys) r t hx hy e = let s : 32 ≡ y = cc in absurd (omega (arith, hy.0))
split_space (x ∷ xs) [] r t hx hy e = let s : x ≡ 32 = cc in absurd (omega (arith, hx.0))
split_space (x ∷ xs) (y ∷ ys) r t hx hy e =
    let s : x ≡ y = cc in
    let more : xs ++ 32 ∷ r ≡ ys ++ 32 ∷ t = cc in
    let q = split_space xs ys r t hx.1 hy.1 more in
    ((λ i. s i ∷ q.0 i), q.1)

split_decimal : (m n : ℕ) (r t : List ℕ) → m ≤ 9999999 → n ≤ 9999999 → decimal m ++ (32 ∷ r) ≡ decimal n ++ (32 ∷ t) → (m ≡ n) × (r ≡ t)
split_decimal m n r t hm hn e =
    let q = split_space (decimal m) (decimal n) r t (decimal_above m (omega arith)) (decimal_above n (omega arith)) e in
    (decimal_injective m n (omega arith) (omega arith) q.0, q.1)

-- ---- the letter and the surname
same_type : (m n : ℕ) → 1 ≤ m → m ≤ 3 → 1 ≤ n → n ≤ 3 → type_letter m ≡ type_letter n → m ≡ n
same_type m n a b c d e = grind (arith, nat_tests)

-- ---- register entries
pub registers_apart : PrintsApart register_reads register_prints
registers_apart v w rv rw' e =
    let p = parts v rv in
    let q = parts w rw' in
    let number = split_decimal (number_in v) (number_in w) _ _ p.numbered.1 q.numbered.1 e in
    let grave = split_decimal (grave_in v) (grave_in w) _ _ p.laid q.laid number.1 in
    let letter : type_letter (type_in v) ≡ type_letter (type_in w) = ap (λ bs. get_or bs 0 0) grave.1 in
    let type = same_type (type_in v) (type_in w) p.typed.0 p.typed.1 q.typed.0 q.typed.1 letter in
    let surname = (same_from_push (surname_in v) (surname_in w) 10 10 (ap (drop 2) grave.1)).0 in
    whole_held v p.long p.held
    ∙ (λ i. number.0 i ∷ grave.0 i ∷ (type i * 256 + length (surname i)) ∷ packed (padded (surname i)))
    ∙ sym (whole_held w q.long q.held)

pub prints_some : (v : List ℕ) → 1 ≤ length (register_prints v)
prints_some v = simp length-append (omega arith)

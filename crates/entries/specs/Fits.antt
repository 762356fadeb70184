-- A surname as a length and the bytes that hold it, with zeros after it.
use Rattle.std.specs.Prelude.{◌≡◌, ℕ, zero, suc, pred, ◌+◌, ◌-◌, ◌*◌, ◌/◌, ◌%◌, ◌<◌, ◌≤◌, Bool, true, cond, ◌&&◌, List, [], ◌∷◌, ◌++◌, length, take, drop, replicate, Option, ◌==◌, nat_le, nat_lt, slice_index, slice_index_or, refl}
use Rattle.std.specs.Option.{unwrap_or}
use Rattle.std.proofs.Common.{ap, sym, ◌∙◌, ⊎_elim, arith}
use Rattle.std.proofs.lemmas.List.{at_drop_more, at_drop_all}
use Rattle.std.proofs.lemmas.Bool.{cases_lt, lt-ltb, le-ltb, eqb-true, and_parts, and_from}
use Rattle.std.proofs.lemmas.Bool.Decides.{nat_tests}
use Rattle.entries.specs.Surnames.{between, surname_byte, surname_bytes, surname_held, padded, packed, unpacked, three_bytes}
use Rattle.entries.specs.Registers.{type_number, some_grave, grave_fits, register_values, parts_fit}
use Rattle.entries.specs.declared.types.RegisterType.{RegisterType}
use Rattle.entries.specs.Fitting.{zeros}
use Rattle.entries.specs.Packing.{length_unpacked}

-- a surname of n bytes, and zeros after it
abbrev pub surname_fits : ℕ → List ℕ → Bool
surname_fits n [] = n == 0
surname_fits zero (b ∷ bs) = b == 0 && surname_fits zero bs
surname_fits (suc n) (b ∷ bs) = surname_byte b && surname_fits n bs

-- ---- the parts as they are held, the grave 0 for none, the surname with zeros after it
abbrev pub parts_hold : ℕ → ℕ → ℕ → List ℕ → Bool
parts_hold number grave long bytes =
    between 1 9999999 number && (nat_le grave 9999999 && (nat_le long 24 && surname_fits long bytes))

abbrev pub laid_values : ℕ → ℕ → RegisterType → ℕ → List ℕ → List ℕ
laid_values number grave type long bytes = number ∷ grave ∷ (type_number type * 256 + long) ∷ packed bytes

-- the values of parts that are handed in are laid so
pub values_laid : (number : ℕ) (grave : Option ℕ) (type : RegisterType) (surname : List ℕ) → register_values number grave type surname ≡ laid_values number (unwrap_or grave 0) type (length surname) (padded surname)
values_laid number grave type surname = refl

pub grave_back : (n : ℕ) → unwrap_or (some_grave n) 0 ≡ n
grave_back n = grind (arith, nat_tests)

pub grave_reads : (n : ℕ) → grave_fits (some_grave n) ≡ nat_le n 9999999
grave_reads n = grind (arith, nat_tests)

-- the test of the parts, one after the other
pub parts_fit_plain : (number grave : ℕ) (s : List ℕ) → parts_fit number (some_grave grave) s ≡ (between 1 9999999 number && (nat_le grave 9999999 && (nat_le (length s) 24 && surname_bytes s)))
parts_fit_plain number grave s =
    ap (λ t. (between 1 9999999 number && t) && (nat_le (length s) 24 && surname_bytes s)) (grave_reads grave)
    ∙ turned (between 1 9999999 number) (nat_le grave 9999999) (nat_le (length s) 24 && surname_bytes s)
  where
    turned : (a b c : Bool) → ((a && b) && c) ≡ (a && (b && c))
    turned a b c = grind (arith, nat_tests)

-- ---- one more byte is looked at
pub fits_more : (n i : ℕ) (bs : List ℕ) → i < length bs → surname_fits (n - i) (drop i bs) ≡ (cond (nat_lt i n) (surname_byte (slice_index bs i)) (slice_index bs i == 0) && surname_fits (n - (i + 1)) (drop (i + 1) bs))
fits_more n i bs h =
    let b = slice_index_or bs i 0 in
    let rest = drop (i + 1) bs in
    at_drop_more (surname_fits (n - i)) bs i 0 h ∙ ⊎_elim
    (λ l. let s : n - i ≡ suc (n - (i + 1)) = omega arith in
    ap (λ m. surname_fits m (b ∷ rest)) s ∙ ap (λ t. cond t (surname_byte b) (b == 0) && surname_fits (n - (i + 1)) rest) (sym (lt-ltb i n l)))
    (λ l. let z : n - i ≡ 0 = omega arith in
    let y : 0 ≡ n - (i + 1) = omega arith in
    ap (λ m. surname_fits m (b ∷ rest)) z ∙ (λ j. (b == 0) && surname_fits (y j) rest) ∙ ap (λ t. cond t (surname_byte b) (b == 0) && surname_fits (n - (i + 1)) rest) (sym (le-ltb i n l)))
    (cases_lt i n)

pub fits_all : (n i : ℕ) (bs : List ℕ) → length bs ≤ i → i ≤ length bs → surname_fits (n - i) (drop i bs) ≡ nat_le n (length bs)
fits_all n i bs h l = at_drop_all (surname_fits (n - i)) bs i h ∙ grind (arith, nat_tests)

-- ---- a surname with zeros after it
fits_zeros : (k : ℕ) → surname_fits 0 (replicate k 0) ≡ true
fits_zeros zero = refl
fits_zeros (suc k) = fits_zeros k

pub fits_padded : (s : List ℕ) (k : ℕ) → surname_fits (length s) (s ++ replicate k 0) ≡ surname_bytes s
fits_padded [] k = fits_zeros k
fits_padded (b ∷ s) k = ap (λ t. surname_byte b && t) (fits_padded s k)

pub holds_padded : (number grave : ℕ) (s : List ℕ) → length s ≤ 24 → parts_hold number grave (length s) (padded s) ≡ parts_fit number (some_grave grave) s
holds_padded number grave s h =
    ap (λ t. between 1 9999999 number && (nat_le grave 9999999 && (nat_le (length s) 24 && t))) (fits_padded s (24 - length s))
    ∙ sym (parts_fit_plain number grave s)

-- ---- what fits is bytes
fits_head : (n b : ℕ) (bs : List ℕ) → surname_fits n (b ∷ bs) ≡ true → b < 256
fits_head zero b bs h = let e = eqb-true b 0 (and_parts (b == 0) (surname_fits 0 bs) h).0 in omega arith
fits_head (suc n) b bs h = let e = (and_parts (surname_byte b) (surname_fits n bs) h).0 in grind (arith, nat_tests)

fits_tail : (n b : ℕ) (bs : List ℕ) → surname_fits n (b ∷ bs) ≡ true → surname_fits (pred n) bs ≡ true
fits_tail zero b bs h = (and_parts (b == 0) (surname_fits 0 bs) h).1
fits_tail (suc n) b bs h = (and_parts (surname_byte b) (surname_fits n bs) h).1

pub unpacked_packed : (n m : ℕ) (bs : List ℕ) → length bs ≡ 3 * m → surname_fits n bs ≡ true → unpacked (packed bs) ≡ bs
unpacked_packed n m [] l h = refl
unpacked_packed n m (a ∷ []) l h = absurd (omega arith)
unpacked_packed n m (a ∷ b ∷ []) l h = absurd (omega arith)
unpacked_packed n zero (a ∷ b ∷ c ∷ bs) l h = absurd (omega arith)
unpacked_packed n (suc m) (a ∷ b ∷ c ∷ bs) l h =
    let h₁ = fits_tail n a (b ∷ c ∷ bs) h in
    let h₂ = fits_tail (pred n) b (c ∷ bs) h₁ in
    let h₃ = fits_tail (pred (pred n)) c bs h₂ in
    let al = fits_head n a (b ∷ c ∷ bs) h in
    let bl = fits_head (pred n) b (c ∷ bs) h₁ in
    let cl = fits_head (pred (pred n)) c bs h₂ in
    let ae : (a * 65536 + b * 256 + c) / 65536 ≡ a = omega arith in
    let be : (a * 65536 + b * 256 + c) / 256 % 256 ≡ b = omega arith in
    let ce : (a * 65536 + b * 256 + c) % 256 ≡ c = omega arith in
    λ i. ae i ∷ be i ∷ ce i ∷ unpacked_packed (pred (pred (pred n))) m bs (omega arith) h₃ i

pub length_packed : (n : ℕ) (bs : List ℕ) → length bs ≡ 24 → surname_fits n bs ≡ true → length (packed bs) ≡ 8
length_packed n bs l h =
    let back = ap length (unpacked_packed n 8 bs l h) in
    omega (arith, length_unpacked (packed bs))

pub fits_three : (n : ℕ) (vs : List ℕ) → surname_fits n (unpacked vs) ≡ true → three_bytes vs ≡ true
fits_three n [] h = refl
fits_three n (v ∷ vs) h =
    let a = v / 65536 in
    let b = v / 256 % 256 in
    let c = v % 256 in
    let h₁ = fits_tail n a (b ∷ c ∷ unpacked vs) h in
    let h₂ = fits_tail (pred n) b (c ∷ unpacked vs) h₁ in
    let h₃ = fits_tail (pred (pred n)) c (unpacked vs) h₂ in
    let al : a < 256 = fits_head n a (b ∷ c ∷ unpacked vs) h in
    let vl : v < 16777216 = omega arith in
    and_from (nat_lt v 16777216) (three_bytes vs) (lt-ltb v 16777216 vl) (fits_three (pred (pred (pred n))) vs h₃)

-- ---- what fits is what is held
pub fits_split : (n : ℕ) (bs : List ℕ) → surname_fits n bs ≡ (nat_le n (length bs) && (surname_bytes (take n bs) && zeros (drop n bs)))
fits_split zero [] = refl
fits_split (suc n) [] = grind (arith, nat_tests)
fits_split zero (b ∷ bs) = ap (λ t. b == 0 && t) (fits_split zero bs) ∙ grind (arith, nat_tests)
fits_split (suc n) (b ∷ bs) = ap (λ t. surname_byte b && t) (fits_split n bs) ∙ grind (arith, nat_tests)

pub fits_held : (n : ℕ) (bs : List ℕ) → length bs ≡ 24 → (nat_le n 24 && surname_fits n bs) ≡ surname_held n bs
fits_held n bs l =
    ap (λ t. nat_le n 24 && t) (fits_split n bs ∙ ap (λ k. nat_le n k && (surname_bytes (take n bs) && zeros (drop n bs))) l)
    ∙ twice (nat_le n 24) (surname_bytes (take n bs) && zeros (drop n bs))
  where
    twice : (a b : Bool) → (a && (a && b)) ≡ (a && b)
    twice a b = grind (arith, nat_tests)

-- Surnames with zeros after them.
use Rattle.std.specs.Prelude.{◌≡◌, ℕ, zero, suc, ◌+◌, ◌-◌, ◌≤◌, Bool, true, List, [], ◌∷◌, ◌++◌, length, take, drop, replicate, ◌==◌, nat_lt, refl}
use Rattle.std.specs.List.{list_all}
use Rattle.std.proofs.Common.{ap, sym, ◌∙◌, arith, take-append-drop}
use Rattle.std.proofs.lemmas.List.{take_at, drop_at, length-append, length-drop, length-replicate, length-take-le}
use Rattle.std.proofs.lemmas.List.Folds.{list_all-append}
use Rattle.std.proofs.lemmas.Bool.{and_parts, and_from, eqb-true}
use Rattle.std.proofs.lemmas.Bool.Decides.{nat_tests}
use Rattle.entries.specs.Surnames.{padded, surname_bytes, is_surname, surname_held}

-- ---- zeros
abbrev pub zeros : List ℕ → Bool
zeros bs = list_all (λ b. b == 0) bs

zeros_same : (bs : List ℕ) → zeros bs ≡ true → bs ≡ replicate (length bs) 0
zeros_same [] h = refl
zeros_same (b ∷ bs) h =
    let p = and_parts (b == 0) (zeros bs) h in
    λ i. eqb-true b 0 p.0 i ∷ zeros_same bs p.1 i

zeros_all : (n : ℕ) → zeros (replicate n 0) ≡ true
zeros_all zero = refl
zeros_all (suc n) = zeros_all n

-- ---- what a surname, and a held surname, are known for
pub fits_parts : (s : List ℕ) → is_surname s ≡ true → (length s ≤ 24) × (surname_bytes s ≡ true)
fits_parts s h = grind (arith, nat_tests)

pub record HeldSurname (n : ℕ) (bs : List ℕ) : Type 0 where
  pub short : n ≤ 24
  pub named : surname_bytes (take n bs) ≡ true
  pub rest : zeros (drop n bs) ≡ true

pub held_parts : (n : ℕ) (bs : List ℕ) → surname_held n bs ≡ true → HeldSurname n bs
held_parts n bs h = record { short = grind (arith, nat_tests); named = grind (arith, nat_tests); rest = grind (arith, nat_tests) }

pub held_from_parts : (n : ℕ) (bs : List ℕ) → HeldSurname n bs → surname_held n bs ≡ true
held_from_parts n bs p = grind (arith, nat_tests)

-- ---- the surname and zeros after it
pub length_padded : (s : List ℕ) → length s ≤ 24 → length (padded s) ≡ 24
length_padded s h = omega (arith, length-append s (replicate (24 - length s) 0), length-replicate {A = ℕ} (24 - length s) 0)

-- the length that stands beside a padded surname
pub length_held : (n : ℕ) (bs : List ℕ) → n ≤ 24 → bs ≡ padded (take n bs) → length (take n bs) ≡ n
length_held n bs h e =
    let t = take n bs in
    let long : length bs ≡ length t + (24 - length t) = ap length e ∙ length-append t (replicate (24 - length t) 0) ∙ ap (λ k. length t + k) (length-replicate {A = ℕ} (24 - length t) 0) in
    length-take-le n bs (omega arith)

pub take_padded : (s : List ℕ) → take (length s) (padded s) ≡ s
take_padded s = take_at s (replicate (24 - length s) 0) (length s) refl

pub held_padded : (s : List ℕ) → length s ≤ 24 → surname_bytes s ≡ true → surname_held (length s) (padded s) ≡ true
held_padded s h f =
    let fill = replicate (24 - length s) 0 in
    held_from_parts (length s) (padded s) (record {
      short = h;
      named = ap surname_bytes (take_padded s) ∙ f;
      rest = ap zeros (drop_at s fill (length s) refl) ∙ zeros_all (24 - length s);
    })

pub padded_held : (n : ℕ) (bs : List ℕ) → length bs ≡ 24 → HeldSurname n bs → bs ≡ padded (take n bs)
padded_held n bs l p =
    let t : length (take n bs) ≡ n = length-take-le n bs (omega (arith, p.short)) in
    let d = length-drop n bs in
    let fill : length (drop n bs) ≡ 24 - length (take n bs) = omega arith in
    sym (take-append-drop n bs)
    ∙ ap (λ z. take n bs ++ z) (zeros_same (drop n bs) p.rest ∙ ap (λ k. replicate k 0) fill)

-- ---- what is held is bytes
abbrev pub bytes : List ℕ → Bool
bytes bs = list_all (λ b. nat_lt b 256) bs

surname_is_bytes : (bs : List ℕ) → surname_bytes bs ≡ true → bytes bs ≡ true
surname_is_bytes [] h = refl
surname_is_bytes (b ∷ bs) h = grind (arith, nat_tests, surname_is_bytes bs)

zeros_are_bytes : (bs : List ℕ) → zeros bs ≡ true → bytes bs ≡ true
zeros_are_bytes [] h = refl
zeros_are_bytes (b ∷ bs) h = grind (arith, nat_tests, zeros_are_bytes bs)

pub held_bytes : (n : ℕ) (bs : List ℕ) → HeldSurname n bs → bytes bs ≡ true
held_bytes n bs p =
    ap bytes (sym (take-append-drop n bs))
    ∙ list_all-append (λ b. nat_lt b 256) (take n bs) (drop n bs)
    ∙ and_from (bytes (take n bs)) (bytes (drop n bs)) (surname_is_bytes (take n bs) p.named) (zeros_are_bytes (drop n bs) p.rest)

-- Which values are those of a register entry.
use Rattle.std.specs.Prelude.{◌≡◌, ℕ, ◌+◌, ◌-◌, ◌*◌, ◌/◌, ◌%◌, ◌≤◌, Bool, true, false, cond, ◌&&◌, ◌==◌, nat_le, List, [], ◌∷◌, length, take, drop, Option, Some, None, refl}
use Rattle.std.proofs.Common.{ap, sym, ◌∙◌, arith}
use Rattle.std.proofs.lemmas.Bool.{and_parts, and_from, eqb-true, eq-eqb, leb-true, le-leb, both_ways}
use Rattle.std.proofs.lemmas.Bool.Decides.{nat_tests}
use Rattle.std.proofs.lemmas.List.{length-drop, length-take-le}
use Rattle.std.specs.Option.{unwrap_or}
use Rattle.words.specs.Forms.{Small, read_as}
use Rattle.entries.specs.Surnames.{between, packed, padded, three_bytes, surname_held}
use Rattle.entries.specs.Registers.{type_number, grave_fits, number_in, grave_in, type_in, length_in, bytes_in, surname_in, register_reads, register_form}
use Rattle.entries.specs.Held.{entry_values}
use Rattle.entries.specs.declared.registers.RegisterEntry.{RegisterEntry}
use Rattle.entries.specs.declared.types.RegisterType.{RegisterType}
use Rattle.entries.specs.declared.types.RegisterType.TheVariants.{Burial, Cremation, Scattering}
use Rattle.entries.specs.Fitting.{HeldSurname, fits_parts, held_parts, length_padded, take_padded, padded_held}
use Rattle.entries.specs.Packing.{packed_unpacked, length_packed, length_unpacked, held_three, three_small}
use Rattle.entries.specs.Fits.{surname_fits, parts_hold, laid_values, fits_padded, fits_held, unpacked_packed}

-- ---- what values that read are known for
pub record Parts (v : List ℕ) : Type 0 where
  pub long : length v ≡ 11
  pub numbered : (1 ≤ number_in v) × (number_in v ≤ 9999999)
  pub laid : grave_in v ≤ 9999999
  pub typed : (1 ≤ type_in v) × (type_in v ≤ 3)
  pub held : surname_held (length_in v) (bytes_in v) ≡ true

in_between : (low high n : ℕ) → between low high n ≡ true → (low ≤ n) × (n ≤ high)
in_between low high n h = grind (arith, nat_tests)

pub is_between : (low high n : ℕ) → low ≤ n → n ≤ high → between low high n ≡ true
is_between low high n l h = grind (arith, nat_tests)

pub parts : (v : List ℕ) → register_reads v ≡ true → Parts v
parts v h = record {
  long = grind (arith, nat_tests);
  numbered = grind (arith, nat_tests);
  laid = grind (arith, nat_tests);
  typed = grind (arith, nat_tests);
  held = grind (arith, nat_tests);
}

pub reads_from_parts : (v : List ℕ) → Parts v → register_reads v ≡ true
reads_from_parts v p = grind (arith, nat_tests)

-- the same, with the surname as a length and bytes
pub record LaidParts (v : List ℕ) : Type 0 where
  pub long : length v ≡ 11
  pub number_low : 1 ≤ number_in v
  pub number_high : number_in v ≤ 9999999
  pub grave_high : grave_in v ≤ 9999999
  pub type_low : 1 ≤ type_in v
  pub type_high : type_in v ≤ 3
  pub length_high : length_in v ≤ 24
  pub fits : surname_fits (length_in v) (bytes_in v) ≡ true

length_bytes : (v : List ℕ) → length v ≡ 11 → length (bytes_in v) ≡ 24
length_bytes v l = omega (arith, length_unpacked (drop 3 v), length-drop 3 v)

pub laid_parts : (v : List ℕ) → Parts v → LaidParts v
laid_parts v p =
    let held = and_parts (nat_le (length_in v) 24) (surname_fits (length_in v) (bytes_in v)) (fits_held (length_in v) (bytes_in v) (length_bytes v p.long) ∙ p.held) in
    record {
      long = p.long;
      number_low = p.numbered.0;
      number_high = p.numbered.1;
      grave_high = p.laid;
      type_low = p.typed.0;
      type_high = p.typed.1;
      length_high = leb-true (length_in v) 24 held.0;
      fits = held.1;
    }

pub parts_laid : (v : List ℕ) → LaidParts v → Parts v
parts_laid v p = record {
  long = p.long;
  numbered = (p.number_low, p.number_high);
  laid = p.grave_high;
  typed = (p.type_low, p.type_high);
  held = sym (fits_held (length_in v) (bytes_in v) (length_bytes v p.long)) ∙ and_from (nat_le (length_in v) 24) (surname_fits (length_in v) (bytes_in v)) (le-leb (length_in v) 24 p.length_high) p.fits;
}

-- values read where these tests hold, one after the other
abbrev pub laid_reads : List ℕ → Bool
laid_reads v =
    (length v == 11)
    && (between 1 9999999 (number_in v)
    && (nat_le (grave_in v) 9999999
    && (between 1 3 (type_in v)
    && (nat_le (length_in v) 24
    && surname_fits (length_in v) (bytes_in v)))))

pub reads_laid : (v : List ℕ) → laid_reads v ≡ register_reads v
reads_laid v = go (length v == 11) refl
  where
    numbers : Bool → Bool
    numbers t = between 1 9999999 (number_in v) && (nat_le (grave_in v) 9999999 && (between 1 3 (type_in v) && t))

    go : (b : Bool) → (length v == 11) ≡ b → laid_reads v ≡ register_reads v
    go false e = ap (λ t. t && numbers (nat_le (length_in v) 24 && surname_fits (length_in v) (bytes_in v))) e ∙ sym (ap (λ t. t && numbers (surname_held (length_in v) (bytes_in v))) e)
    go true e = ap (λ t. (length v == 11) && numbers t) (fits_held (length_in v) (bytes_in v) (length_bytes v (eqb-true (length v) 11 e)))

pub length_surname : (v : List ℕ) → length v ≡ 11 → HeldSurname (length_in v) (bytes_in v) → length (surname_in v) ≡ length_in v
length_surname v l p = length-take-le (length_in v) (bytes_in v) (omega (arith, p.short, length_bytes v l))

-- eleven values are made of their parts
pub whole : (v : List ℕ) → length v ≡ 11 → v ≡ number_in v ∷ grave_in v ∷ (type_in v * 256 + length_in v) ∷ packed (bytes_in v)
whole [] l = absurd (omega arith)
whole (a ∷ []) l = absurd (omega arith)
whole (a ∷ b ∷ []) l = absurd (omega arith)
whole (a ∷ b ∷ c ∷ rest) l =
    let e : c ≡ c / 256 * 256 + c % 256 = omega arith in
    λ i. a ∷ b ∷ e i ∷ sym (packed_unpacked rest) i

-- where they hold a surname, it is one of the parts
pub whole_held : (v : List ℕ) → length v ≡ 11 → surname_held (length_in v) (bytes_in v) ≡ true → v ≡ number_in v ∷ grave_in v ∷ (type_in v * 256 + length (surname_in v)) ∷ packed (padded (surname_in v))
whole_held v l h =
    let p = held_parts (length_in v) (bytes_in v) h in
    let size = sym (length_surname v l p) in
    let held = padded_held (length_in v) (bytes_in v) (length_bytes v l) p in
    whole v l ∙ (λ i. number_in v ∷ grave_in v ∷ (type_in v * 256 + size i) ∷ packed (held i))

-- ---- the values that an entry has
pub type_within : (type : RegisterType) → (1 ≤ type_number type) × (type_number type ≤ 3)
type_within Burial = (omega arith, omega arith)
type_within Cremation = (omega arith, omega arith)
type_within Scattering = (omega arith, omega arith)

pub grave_within : (grave : Option ℕ) → grave_fits grave ≡ true → unwrap_or grave 0 ≤ 9999999
grave_within None h = omega arith
grave_within (Some n) h = (in_between 1 9999999 n h).1

module _ (number grave : ℕ) (type : RegisterType) (n : ℕ) (bs : List ℕ) (l : length bs ≡ 24) (s : n ≤ 24) (f : surname_fits n bs ≡ true) where
  pub type_back : type_in (laid_values number grave type n bs) ≡ type_number type
  type_back = omega arith

  pub length_back : length_in (laid_values number grave type n bs) ≡ n
  length_back = omega arith

  pub bytes_back : bytes_in (laid_values number grave type n bs) ≡ bs
  bytes_back = unpacked_packed n 8 bs l f

  pub values_read : 1 ≤ number → number ≤ 9999999 → grave ≤ 9999999 → register_reads (laid_values number grave type n bs) ≡ true
  values_read low high high' =
      let t = type_within type in
      let long = length_packed 8 bs l in
      let tb = type_back in
      let lb = length_back in
      let v = laid_values number grave type n bs in
      reads_from_parts v (parts_laid v (record {
        long = omega arith;
        number_low = low;
        number_high = high;
        grave_high = high';
        type_low = omega arith;
        type_high = omega arith;
        length_high = omega arith;
        fits = (λ i. surname_fits (lb i) (bytes_back i)) ∙ f;
      }))

module _ (x : RegisterEntry) where
  size : length x.surname ≤ 24
  size = (fits_parts x.surname x.named).0

  fits : surname_fits (length x.surname) (padded x.surname) ≡ true
  fits = fits_padded x.surname (24 - length x.surname) ∙ (fits_parts x.surname x.named).1

  pub entry_type : type_in (entry_values x) ≡ type_number x.kind
  entry_type = type_back x.number (unwrap_or x.grave 0) x.kind (length x.surname) (padded x.surname) (length_padded x.surname size) size fits

  pub entry_length : length_in (entry_values x) ≡ length x.surname
  entry_length = length_back x.number (unwrap_or x.grave 0) x.kind (length x.surname) (padded x.surname) (length_padded x.surname size) size fits

  pub entry_bytes : bytes_in (entry_values x) ≡ padded x.surname
  entry_bytes = bytes_back x.number (unwrap_or x.grave 0) x.kind (length x.surname) (padded x.surname) (length_padded x.surname size) size fits

  pub surname_back : surname_in (entry_values x) ≡ x.surname
  surname_back = (λ i. take (entry_length i) (entry_bytes i)) ∙ take_padded x.surname

  pub entry_reads : register_reads (entry_values x) ≡ true
  entry_reads = values_read x.number (unwrap_or x.grave 0) x.kind (length x.surname) (padded x.surname) (length_padded x.surname size) size fits x.numbered.0 x.numbered.1 (grave_within x.grave x.laid)

  pub entry_parts : Parts (entry_values x)
  entry_parts = parts (entry_values x) entry_reads

-- ---- values that read are small
pub values_small : (v : List ℕ) → register_reads v ≡ true → Small v
values_small [] h = let p = parts [] h in absurd (omega (arith, p.long))
values_small (a ∷ []) h = let p = parts (a ∷ []) h in absurd (omega (arith, p.long))
values_small (a ∷ b ∷ []) h = let p = parts (a ∷ b ∷ []) h in absurd (omega (arith, p.long))
values_small (a ∷ b ∷ c ∷ rest) h =
    let p = parts (a ∷ b ∷ c ∷ rest) h in
    (omega (arith, p.numbered.1), (omega (arith, p.laid), (omega (arith, p.typed.1), three_small rest (held_three (c % 256) rest p.held))))

-- ---- reading
-- a value with too many bits is no three bytes of a surname
pub large_refused : (v : List ℕ) → three_bytes (drop 3 v) ≡ false → register_reads v ≡ false
large_refused v h = go (register_reads v) refl
  where
    go : (b : Bool) → register_reads v ≡ b → b ≡ false
    go false e = refl
    go true e = absurd (both_ways (three_bytes (drop 3 v)) h (held_three (length_in v) (drop 3 v) (parts v e).held))

-- with a type that is known, values read as their parts hold
pub read_by_parts : (v : List ℕ) (type : RegisterType) → length v ≡ 11 → type_number type ≡ type_in v → cond (parts_hold (number_in v) (grave_in v) (length_in v) (bytes_in v)) (Some (laid_values (number_in v) (grave_in v) type (length_in v) (bytes_in v))) None ≡ read_as register_form v
read_by_parts v type l t =
    let fit = surname_fits (length_in v) (bytes_in v) in
    let short = nat_le (length_in v) 24 in
    let laid = nat_le (grave_in v) 9999999 in
    let numbered = between 1 9999999 (number_in v) in
    let w = type_within type in
    let typed : between 1 3 (type_in v) ≡ true = is_between 1 3 (type_in v) (omega arith) (omega arith) in
    let holds : (numbered && (laid && (short && fit))) ≡ laid_reads v = λ i. sym (eq-eqb (length v) 11 l) i && (numbered && (laid && (sym typed i && (short && fit)))) in
    let same : laid_values (number_in v) (grave_in v) type (length_in v) (bytes_in v) ≡ v = ap (λ n. number_in v ∷ grave_in v ∷ (n * 256 + length_in v) ∷ packed (bytes_in v)) t ∙ sym (whole v l) in
    λ i. cond ((holds ∙ reads_laid v) i) (Some (same i)) None

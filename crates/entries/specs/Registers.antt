-- A register entry: interment number, grave, type and length of the surname, and the surname, three bytes to a value.
use Rattle.std.specs.Prelude.{◌≡◌, ℕ, ◌+◌, ◌*◌, ◌/◌, ◌%◌, Bool, true, false, ◌&&◌, List, [], ◌∷◌, ◌++◌, length, take, drop, Some, None, if◌then◌else◌, decimal, Option, Result, MatchResult, ◌==◌, nat_le, slice_index}
use Rattle.std.specs.Option.{unwrap_or}
use Rattle.words.specs.Forms.{Form}
use Rattle.entries.specs.Kinds.{EntryKind}
use Rattle.entries.specs.Surnames.{between, packed, padded, is_surname, surname_held, unpacked}
use Rattle.words.specs.declared.unknown.UnknownNumber.{UnknownNumber}
use Rattle.entries.specs.declared.types.RegisterType.{RegisterType}
use Rattle.entries.specs.declared.types.RegisterType.TheVariants.{Burial, Cremation, Scattering}

-- ---- the parts
abbrev pub type_number : RegisterType → ℕ
type_number Burial = 1
type_number Cremation = 2
type_number Scattering = 3

-- the type with this number, or the number, which no type has
abbrev pub TypeNumbered : ℕ → Result RegisterType UnknownNumber → Type 0
TypeNumbered n r = MatchResult r (λ type. type_number type ≡ n) (λ e. (e.0 ≡ n) × (between 1 3 n ≡ false))

-- B, C or S
abbrev pub type_letter : ℕ → ℕ
type_letter n = if n == 1 then 66 else (if n == 2 then 67 else 83)

-- the grave that a number tells
abbrev pub some_grave : ℕ → Option ℕ
some_grave n = if n == 0 then None else Some n

-- none, or grave 1 to 9,999,999
abbrev pub grave_fits : Option ℕ → Bool
grave_fits None = true
grave_fits (Some n) = between 1 9999999 n

-- ---- the values, with 0 for no grave
abbrev pub register_values : ℕ → Option ℕ → RegisterType → List ℕ → List ℕ
register_values number grave type surname =
    number ∷ unwrap_or grave 0 ∷ (type_number type * 256 + length surname) ∷ packed (padded surname)

abbrev pub number_in : List ℕ → ℕ
number_in v = slice_index v 0

abbrev pub grave_in : List ℕ → ℕ
grave_in v = slice_index v 1

abbrev pub type_in : List ℕ → ℕ
type_in v = slice_index v 2 / 256

abbrev pub length_in : List ℕ → ℕ
length_in v = slice_index v 2 % 256

abbrev pub bytes_in : List ℕ → List ℕ
bytes_in v = unpacked (drop 3 v)

abbrev pub surname_in : List ℕ → List ℕ
surname_in v = take (length_in v) (bytes_in v)

abbrev pub register_reads : List ℕ → Bool
register_reads v =
    (length v == 11)
    && (between 1 9999999 (number_in v)
    && (nat_le (grave_in v) 9999999
    && (between 1 3 (type_in v)
    && surname_held (length_in v) (bytes_in v))))

-- ---- the parts, as they are handed in
abbrev pub numbers_fit : ℕ → Option ℕ → Bool
numbers_fit number grave = between 1 9999999 number && grave_fits grave

abbrev pub parts_fit : ℕ → Option ℕ → List ℕ → Bool
parts_fit number grave surname = numbers_fit number grave && is_surname surname

-- ---- number, space, grave, space, letter, space, surname, line feed
abbrev pub register_prints : List ℕ → List ℕ
register_prints v =
    decimal (number_in v) ++ (32 ∷ decimal (grave_in v) ++ (32 ∷ type_letter (type_in v) ∷ 32 ∷ surname_in v ++ (10 ∷ [])))

abbrev pub register_form : Form
register_form = record { number = 2; count = 11; reads = register_reads }

-- the filler is interment 1, no grave, burial, no surname
abbrev pub register_kind : EntryKind
register_kind = record { prints = register_prints; filler = register_values 1 None Burial [] }

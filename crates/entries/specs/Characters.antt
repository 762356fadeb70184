-- A character: one value, a Unicode scalar value that is a line feed or no control code below 32.
use Rattle.std.specs.Prelude.{◌≡◌, ℕ, Bool, true, ◌&&◌, ◌||◌, List, [], ◌∷◌, length, ◌==◌, nat_le, nat_lt, slice_index}
use Rattle.std.proofs.Math.Utf8.{encode}
use Rattle.std.proofs.Common.{arith}
use Rattle.std.proofs.lemmas.Bool.Decides.{nat_tests}
use Rattle.words.specs.Forms.{Form, Small}
use Rattle.entries.specs.Kinds.{EntryKind}

-- 10, or 32 to 0x10FFFF without the surrogates 0xD800 to 0xDFFF
abbrev pub character_code : ℕ → Bool
character_code c = c == 10 || (nat_le 32 c && (nat_lt c 0xD800 || (nat_le 0xE000 c && nat_le c 0x10FFFF)))

abbrev pub character_reads : List ℕ → Bool
character_reads v = length v == 1 && character_code (slice_index v 0)

-- the UTF-8 of the character
abbrev pub character_prints : List ℕ → List ℕ
character_prints v = encode (slice_index v 0)

abbrev pub character_form : Form
character_form = record { number = 1; count = 1; reads = character_reads }

-- the filler is a space
abbrev pub character_kind : EntryKind
character_kind = record { prints = character_prints; filler = 32 ∷ [] }

pub characters_small : (vs : List ℕ) → character_reads vs ≡ true → Small vs
characters_small [] h = tt
characters_small (v ∷ []) h = (grind (arith, nat_tests), tt)
characters_small (v ∷ w ∷ vs) h = absurd (grind (arith, nat_tests))

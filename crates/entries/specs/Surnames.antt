-- The bytes of a surname, and the values that hold them.
use Rattle.std.specs.Prelude.{ℕ, ◌+◌, ◌-◌, ◌*◌, ◌/◌, ◌%◌, Bool, not, ◌&&◌, List, [], ◌∷◌, ◌++◌, length, take, drop, replicate, ◌==◌, nat_le, nat_lt}
use Rattle.std.specs.List.{list_all}

abbrev pub between : ℕ → ℕ → ℕ → Bool
between low high n = nat_le low n && nat_le n high

abbrev pub surname_byte : ℕ → Bool
surname_byte b = between 32 255 b && not (b == 127)

-- each is a byte of a surname
abbrev pub surname_bytes : List ℕ → Bool
surname_bytes bs = list_all surname_byte bs

-- at most 24 bytes of a surname
abbrev pub is_surname : List ℕ → Bool
is_surname bs = nat_le (length bs) 24 && surname_bytes bs

-- a surname of n bytes, at most 24, and zeros after it
abbrev pub surname_held : ℕ → List ℕ → Bool
surname_held n bs = nat_le n 24 && (surname_bytes (take n bs) && list_all (λ b. b == 0) (drop n bs))

-- a surname with zeros after it, 24 bytes in all
abbrev pub padded : List ℕ → List ℕ
padded bs = bs ++ replicate (24 - length bs) 0

-- three bytes to a value, the first in bits 23 to 16
abbrev pub packed : List ℕ → List ℕ
packed [] = []
packed (a ∷ []) = []
packed (a ∷ b ∷ []) = []
packed (a ∷ b ∷ c ∷ bs) = (a * 65536 + b * 256 + c) ∷ packed bs

abbrev pub unpacked : List ℕ → List ℕ
unpacked [] = []
unpacked (v ∷ vs) = v / 65536 ∷ v / 256 % 256 ∷ v % 256 ∷ unpacked vs

-- each is a value of three bytes
abbrev pub three_bytes : List ℕ → Bool
three_bytes vs = list_all (λ v. nat_lt v 16777216) vs

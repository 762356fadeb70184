-- A word has 32 bits: its tag in the top 4, its value in the low 28.
use Rattle.std.specs.Prelude.{ℕ, ◌+◌, ◌*◌, ◌/◌, ◌%◌, ◌^◌, Bool, cond, ◌&&◌, List, ◌++◌, length, drop, nat_le, nat_lt}

abbrev pub word : ℕ → ℕ → ℕ
word tag value = tag * 2 ^ 28 + value

abbrev pub tag_of : ℕ → ℕ
tag_of bits = bits / 2 ^ 28

abbrev pub value_of : ℕ → ℕ
value_of bits = bits % 2 ^ 28

-- a tag and a value that a word can hold
abbrev pub fit_a_word : ℕ → ℕ → Bool
fit_a_word tag value = nat_lt tag (2 ^ 4) && nat_lt value (2 ^ 28)

-- a space after something was put at its front, which changes nothing where the space is too short
abbrev pub put_front : {X : Type 0} → List X → List X → List X
put_front xs space = cond (nat_le (length xs) (length space)) (xs ++ drop (length xs) space) space

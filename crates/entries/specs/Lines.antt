-- A line of text that is being written.
use Rattle.std.specs.Prelude.{ℕ, List, take}

-- what is written so far, in a buffer of which so many bytes are used
abbrev pub text : List ℕ → ℕ → List ℕ
text bytes used = take used bytes

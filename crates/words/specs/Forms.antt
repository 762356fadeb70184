-- A kind of thing with a word form, by what it answers about values alone.
use Rattle.std.specs.Prelude.{ℕ, ◌^◌, ◌<◌, Bool, true, false, cond, ◌&&◌, List, [], ◌∷◌, Some, None, Option, ◌==◌}

-- A kind's number, how many values each of its things has, and which values are those of a thing.
pub record Form : Type 0 where
  pub number : ℕ
  pub count : ℕ
  pub reads : List ℕ → Bool

-- are two lists of values the same?
abbrev pub same_values : List ℕ → List ℕ → Bool
same_values [] [] = true
same_values [] (y ∷ ys) = false
same_values (x ∷ xs) [] = false
same_values (x ∷ xs) (y ∷ ys) = x == y && same_values xs ys

-- each is a value that a word can hold
abbrev pub Small : List ℕ → Type 0
Small [] = Unit {0}
Small (v ∷ vs) = (v < 2 ^ 28) × Small vs

-- the thing that has these values, by its values
abbrev pub read_as : Form → List ℕ → Option (List ℕ)
read_as form vs = cond (form.reads vs) (Some vs) None

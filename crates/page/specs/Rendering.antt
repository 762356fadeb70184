-- A text written into a space, piece by piece.
use Rattle.std.specs.Prelude.{◌≡◌, ℕ, List, ◌++◌, length, drop}

-- a text written into a space as far as n bytes: the rest is to come, and the rest of the space stays
pub record Written (text was is : List ℕ) (n : ℕ) (rest : List ℕ) : Type 0 where
  pub done : List ℕ
  pub whole : text ≡ done ++ rest
  pub long : length done ≡ n
  pub space : is ≡ done ++ drop n was

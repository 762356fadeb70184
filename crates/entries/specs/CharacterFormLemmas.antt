use Rattle.std.specs.Prelude.{◌≡◌, ℕ, ◌^◌, ◌<◌, true}
use Rattle.std.proofs.Common.{arith}
use Rattle.std.proofs.lemmas.Bool.Decides.{nat_tests}
use Rattle.entries.specs.Characters.{character_code}

-- the value of a character is small
pub small_code : (v : ℕ) → character_code v ≡ true → v < 2 ^ 28
small_code v h = grind (arith, nat_tests)

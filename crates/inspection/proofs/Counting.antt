-- The counts of a list of answers.
use Rattle.std.proofs.Common.{◌≡◌, ◌+◌, List, [], ◌∷◌, map, length, Ok, Err, Result, is_ok, refl, arith}
use Rattle.std.specs.List.{filter}
use Rattle.words.specs.declared.refusals.Refusal.{Refusal}
use Rattle.words.specs.Answers.{told}
use Rattle.messages.specs.Model.{Said}
use Rattle.inspection.specs.Reports.{messages_in, refusals_in}

-- the messages are the answers that are `Ok`, and the others are refusals
module _ {T : Type 0} (meaning : T → Said) where
  pub messages_counted : (xs : List (Result T Refusal)) → messages_in (map (told meaning) xs) ≡ length (filter is_ok xs)
  messages_counted [] = refl
  messages_counted (Ok m ∷ xs) = let e = messages_counted xs in omega arith
  messages_counted (Err r ∷ xs) = messages_counted xs

  pub refusals_counted : (xs : List (Result T Refusal)) → refusals_in (map (told meaning) xs) + length (filter is_ok xs) ≡ length xs
  refusals_counted [] = refl
  refusals_counted (Ok m ∷ xs) = let e = refusals_counted xs in omega arith
  refusals_counted (Err r ∷ xs) = let e = refusals_counted xs in omega arith

-- Small words that the other files use: a filter, the first of a list, the first of some questions that gets a no.
use Rattle.std.specs.Prelude.{ℕ, Bool, cond, List, [], ◌∷◌, Some, None, Option}
use Rattle.words.specs.Answers.{Question}

abbrev pub filter : {A : Type 0} → (A → Bool) → List A → List A
filter p [] = []
filter p (x ∷ xs) = cond (p x) (x ∷ filter p xs) (filter p xs)

abbrev pub first : {A : Type 0} → List A → Option A
first [] = None
first (x ∷ xs) = Some x

-- the number of the first question that gets a no
abbrev pub refusal : List Question → Option ℕ
refusal [] = None
refusal (q ∷ qs) = cond q.yes (refusal qs) (Some q.number)

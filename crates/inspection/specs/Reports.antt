-- The report on a run of words: a line for each message or refusal, and a line that counts them.
use Rattle.std.specs.Prelude.{ℕ, zero, suc, ◌+◌, ◌%◌, cond, List, [], ◌∷◌, ◌++◌, length, take, drop, Some, None, codes, decimal, Option, ◌==◌}
use Rattle.std.specs.List.{flat_map}
use Rattle.words.specs.Answers.{Answer}
use Rattle.words.specs.Answers.Answer.{granted, refused}
use Rattle.words.specs.Forms.{Form}
use Rattle.stamps.specs.Kinds.{StampKind}
use Rattle.messages.specs.FromWords.{piece, read_answer}
use Rattle.messages.specs.Model.{Said}
use Rattle.inspection.specs.Bytes.{words_in}
use Rattle.inspection.specs.Lines.{answer_shown}

-- ---- the answers
-- words that are cut by their head are one answer, and others follow; a rest is one answer, and the last
abbrev pub cut : {X : Type 0} → (List ℕ → X) → (List ℕ → List X) → List ℕ → Option ℕ → List X
cut read more ws None = read ws ∷ []
cut read more ws (Some n) = read (take n ws) ∷ more (drop n ws)

-- what is answered to a run of words in at most k pieces; `left` is answered to what is left of a word behind them
abbrev pub answers : {X : Type 0} → ℕ → (List ℕ → X) → List X → List ℕ → List X
answers k read left [] = left
answers zero read left (w ∷ ws) = []
answers (suc k) read left (w ∷ ws) = cut read (answers k read left) (w ∷ ws) (piece (w ∷ ws))

-- bytes that are no whole word are a rest without a head
abbrev pub left_over : List ℕ → List (Answer Said)
left_over bytes = cond (length bytes % 4 == 0) [] (refused 3 None ∷ [])

-- a run has no more pieces than words
abbrev pub all_answers : Form → Form → List ℕ → List (Answer Said)
all_answers stamps entries bytes = answers (length (words_in bytes)) (read_answer stamps entries) (left_over bytes) (words_in bytes)

-- ---- the lines
abbrev pub lines : StampKind → (List ℕ → List ℕ) → List (Answer Said) → List ℕ
lines kind prints xs = flat_map (answer_shown kind prints) xs

abbrev pub messages_in : List (Answer Said) → ℕ
messages_in [] = 0
messages_in (granted m ∷ xs) = 1 + messages_in xs
messages_in (refused n place ∷ xs) = messages_in xs

abbrev pub refusals_in : List (Answer Said) → ℕ
refusals_in [] = 0
refusals_in (granted m ∷ xs) = refusals_in xs
refusals_in (refused n place ∷ xs) = 1 + refusals_in xs

abbrev pub counts_shown : ℕ → ℕ → List ℕ
counts_shown messages refusals = codes "messages " ++ (decimal messages ++ (codes " refusals " ++ decimal refusals))

abbrev pub report_of : StampKind → (List ℕ → List ℕ) → List (Answer Said) → List ℕ
report_of kind prints xs = lines kind prints xs ++ (counts_shown (messages_in xs) (refusals_in xs) ++ codes "\n")

-- What is printed of a message, or of a refusal: a line in plain words.
use Rattle.std.specs.Prelude.{ℕ, ◌-◌, cond, List, [], ◌∷◌, ◌++◌, length, codes, decimal, ◌==◌, slice_index}
use Rattle.words.specs.Answers.{Answer, refusal_shown}
use Rattle.words.specs.Answers.Answer.{granted, refused}
use Rattle.stamps.specs.Kinds.{StampKind}
use Rattle.messages.specs.Model.{Said}
use Rattle.messages.specs.declared.model.Message.TheVariants.{Insertion, Deletion}
use Rattle.messages.specs.declared.model.Place.{Place}
use Rattle.messages.specs.declared.model.Place.TheVariants.{Ground, Under}
use Rattle.messages.specs.declared.model.Side.TheVariants.{Left, Right}

-- counter, full stop, site
abbrev pub stamp_shown : StampKind → List ℕ → List ℕ
stamp_shown kind s = decimal (kind.counter s) ++ (codes "." ++ decimal (kind.site s))

abbrev pub place_shown : StampKind → Place (List ℕ) → List ℕ
place_shown kind Ground = codes "on the ground"
place_shown kind (Under Left p) = codes "left of " ++ stamp_shown kind p
place_shown kind (Under Right p) = codes "right of " ++ stamp_shown kind p

-- a line ends in a line feed, which some entries bring along
abbrev pub ended : List ℕ → List ℕ
ended bs = cond (slice_index bs (length bs - 1) == 10) bs (bs ++ 10 ∷ [])

abbrev pub message_shown : StampKind → (List ℕ → List ℕ) → Said → List ℕ
message_shown kind prints (Insertion s pl e) = codes "insertion " ++ (stamp_shown kind s ++ (codes " " ++ (place_shown kind pl ++ (codes ": " ++ ended (prints e)))))
message_shown kind prints (Deletion s) = codes "deletion " ++ (stamp_shown kind s ++ codes "\n")

abbrev pub answer_shown : StampKind → (List ℕ → List ℕ) → Answer Said → List ℕ
answer_shown kind prints (granted m) = message_shown kind prints m
answer_shown kind prints (refused n place) = refusal_shown n place ++ codes "\n"

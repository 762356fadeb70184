-- What a token names: an operation, and a stamp by its values.
use Rattle.std.specs.Prelude.{ℕ, List, [], ◌∷◌, take}
use Rattle.words.specs.Answers.{Answer}
use Rattle.words.specs.Answers.Answer.{granted, refused}
use Rattle.words.specs.Layout.{put_front}
use Rattle.messages.specs.declared.model.Operation.{Operation}
use Rattle.page.specs.declared.tokens.Token.{Token}

-- a token in values
abbrev pub token_said : Token → Operation × List ℕ
token_said t = (t.operation, t.values)

-- the token of a message: no stamp has more than four values
abbrev pub token_for : Operation → List ℕ → Operation × List ℕ
token_for operation stamp = (operation, put_front stamp (0 ∷ 0 ∷ 0 ∷ 0 ∷ []))

-- the stamp that a token names where stamps have n values
abbrev pub stamp_named : ℕ → Token → List ℕ
stamp_named n t = take n t.values

-- an answer with something else granted
abbrev pub granting : {X Y : Type 0} → (X → Y) → Answer X → Answer Y
granting f (granted x) = granted (f x)
granting f (refused n place) = refused n place

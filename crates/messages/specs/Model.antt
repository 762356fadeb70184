-- The parts of a message: the numbers that stand for them in words, and the message by its values.
use Rattle.std.specs.Prelude.{ℕ, List}
use Rattle.messages.specs.declared.model.Message.{Message}
use Rattle.messages.specs.declared.model.Message.TheVariants.{Insertion, Deletion}
use Rattle.messages.specs.declared.model.Operation.{Operation}
use Rattle.messages.specs.declared.model.Operation.TheVariants.{Insert, Delete}
use Rattle.messages.specs.declared.model.Place.{Place}
use Rattle.messages.specs.declared.model.Place.TheVariants.{Ground, Under}
use Rattle.messages.specs.declared.model.Side.{Side}
use Rattle.messages.specs.declared.model.Side.TheVariants.{Left, Right}
use Rattle.messages.specs.declared.model.Tag.{Tag}
use Rattle.messages.specs.declared.model.Tag.TheVariants.{Head, OwnStamp, ParentStamp, OnGround, OnSide, EntryValue}

abbrev pub operation_number : Operation → ℕ
operation_number Insert = 1
operation_number Delete = 2

abbrev pub side_number : Side → ℕ
side_number Left = 0
side_number Right = 1

abbrev pub tag_number : Tag → ℕ
tag_number Head = 1
tag_number OwnStamp = 2
tag_number ParentStamp = 3
tag_number OnGround = 4
tag_number OnSide = 5
tag_number EntryValue = 6

-- A message by its values: what it says, whatever holds it.
abbrev pub Said : Type 0
Said = Message (List ℕ) (List ℕ)

abbrev pub place_said : {S : Type 0} → (S → List ℕ) → Place S → Place (List ℕ)
place_said values Ground = Ground
place_said values (Under side parent) = Under side (values parent)

abbrev pub said : {S E : Type 0} → (S → List ℕ) → (E → List ℕ) → Message S E → Said
said stamps entries (Insertion stamp place entry) = Insertion (stamps stamp) (place_said stamps place) (entries entry)
said stamps entries (Deletion stamp) = Deletion (stamps stamp)

abbrev pub operation_of : {S E : Type 0} → Message S E → Operation
operation_of (Insertion stamp place entry) = Insert
operation_of (Deletion stamp) = Delete

abbrev pub stamp_of : {S E : Type 0} → Message S E → S
stamp_of (Insertion stamp place entry) = stamp
stamp_of (Deletion stamp) = stamp

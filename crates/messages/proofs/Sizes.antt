-- How many words the parts of a message take.
use Rattle.std.proofs.Common.{◌≡◌, ℕ, ◌+◌, ◌≤◌, List, ◌++◌, length, refl, arith, lit≤}
use Rattle.std.proofs.lemmas.List.{length-append, length-map}
use Rattle.words.specs.Layout.{word}
use Rattle.messages.specs.InWords.{body, place_words, tagged}
use Rattle.messages.specs.Model.{operation_number, operation_of, said, tag_number}
use Rattle.messages.specs.declared.model.Message.{Message}
use Rattle.messages.specs.declared.model.Operation.{Operation}
use Rattle.messages.specs.declared.model.Operation.TheVariants.{Insert, Delete}
use Rattle.messages.specs.declared.model.Message.TheVariants.{Insertion, Deletion}
use Rattle.messages.specs.declared.model.Place.{Place}
use Rattle.messages.specs.declared.model.Tag.{Tag}
use Rattle.messages.specs.declared.model.Tag.TheVariants.{OwnStamp, EntryValue}

pub tagged_length : (t : Tag) (vs : List ℕ) → length (tagged t vs) ≡ length vs
tagged_length t vs = length-map vs (word (tag_number t))

pub body_length : (s : List ℕ) (pl : Place (List ℕ)) (e : List ℕ) → length (body (Insertion s pl e)) ≡ length s + (length (place_words pl) + length e)
body_length s pl e =
    omega (arith, length-append (tagged OwnStamp s) (place_words pl ++ tagged EntryValue e), length-append (place_words pl) (tagged EntryValue e), tagged_length OwnStamp s, tagged_length EntryValue e)

pub operation_said : {S E : Type 0} (sv : S → List ℕ) (ev : E → List ℕ) (m : Message S E) → operation_of (said sv ev m) ≡ operation_of m
operation_said sv ev (Insertion s pl e) = refl
operation_said sv ev (Deletion s) = refl

pub operation_small : (op : Operation) → operation_number op ≤ 2
operation_small Insert = lit≤ tt
operation_small Delete = lit≤ tt

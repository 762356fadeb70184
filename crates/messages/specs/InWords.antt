-- A message in words: a head, then the own stamp, then of an insertion its place and its entry.
use Rattle.std.specs.Prelude.{ℕ, ◌+◌, ◌*◌, ◌^◌, cond, List, [], ◌∷◌, ◌++◌, map, length, take, drop, Some, None, Option, nat_le}
use Rattle.words.specs.Answers.{Answer, answer, ask, ask_fault}
use Rattle.words.specs.Forms.{Form, same_values}
use Rattle.words.specs.Layout.{word}
use Rattle.messages.specs.Model.{Said, operation_number, side_number, tag_number, operation_of}
use Rattle.messages.specs.declared.model.Message.TheVariants.{Insertion, Deletion}
use Rattle.messages.specs.declared.model.Place.{Place}
use Rattle.messages.specs.declared.model.Place.TheVariants.{Ground, Under}
use Rattle.messages.specs.declared.model.Tag.{Tag}
use Rattle.messages.specs.declared.model.Tag.TheVariants.{Head, OwnStamp, ParentStamp, OnGround, OnSide, EntryValue}

-- values, each in a word with the tag
abbrev pub tagged : Tag → List ℕ → List ℕ
tagged tag values = map (word (tag_number tag)) values

abbrev pub place_words : Place (List ℕ) → List ℕ
place_words Ground = word (tag_number OnGround) 0 ∷ []
place_words (Under side parent) = word (tag_number OnSide) (side_number side) ∷ tagged ParentStamp parent

-- the words that follow the head
abbrev pub body : Said → List ℕ
body (Insertion stamp place entry) = tagged OwnStamp stamp ++ (place_words place ++ tagged EntryValue entry)
body (Deletion stamp) = tagged OwnStamp stamp

-- operation, kind of stamp, kind of entry and count of the words that follow
abbrev pub head_value : ℕ → ℕ → ℕ → ℕ → ℕ
head_value operation stamps entries count = operation * 2 ^ 24 + stamps * 2 ^ 16 + entries * 2 ^ 8 + count

abbrev pub in_words : Form → Form → Said → List ℕ
in_words stamps entries m =
    word (tag_number Head) (head_value (operation_number (operation_of m)) stamps.number entries.number (length (body m))) ∷ body m

-- ---- writing
-- a space after ys was written into it at a place
abbrev pub put_at : ℕ → List ℕ → List ℕ → List ℕ
put_at i ys space = take i space ++ (ys ++ drop (i + length ys) space)

-- where a message is at fault that is placed under its own stamp: at the parent's stamp, which follows head, own stamp and place
abbrev pub under_itself : Form → Said → Option ℕ
under_itself stamps (Insertion stamp Ground entry) = None
under_itself stamps (Insertion stamp (Under side parent) entry) = cond (same_values parent stamp) (Some (2 + stamps.count)) None
under_itself stamps (Deletion stamp) = None

abbrev pub write_answer : Form → Form → Said → List ℕ → Answer ℕ
write_answer stamps entries m space =
    answer
    (ask_fault 7 (under_itself stamps m)
    ∷ ask 15 (nat_le (length (in_words stamps entries m)) (length space)) ∷ [])
    (length (in_words stamps entries m))

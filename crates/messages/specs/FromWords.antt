-- The questions that words must pass to be a message, in their order, and the message that they then are.
use Rattle.std.specs.Prelude.{ℕ, ◌+◌, ◌/◌, ◌%◌, ◌^◌, Bool, true, cond, not, ◌&&◌, ◌||◌, List, [], ◌∷◌, ◌++◌, map, length, take, drop, replicate, Some, None, Option, ◌==◌, nat_le, nat_lt, slice_index}
use Rattle.words.specs.Answers.{Answer, Question, answer, ask, ask_fault}
use Rattle.words.specs.Forms.{Form, same_values}
use Rattle.words.specs.Layout.{tag_of, value_of}
use Rattle.messages.specs.Model.{Said, operation_number, tag_number}
use Rattle.messages.specs.declared.model.Message.TheVariants.{Insertion, Deletion}
use Rattle.messages.specs.declared.model.Operation.TheVariants.{Insert, Delete}
use Rattle.messages.specs.declared.model.Place.{Place}
use Rattle.messages.specs.declared.model.Place.TheVariants.{Ground, Under}
use Rattle.messages.specs.declared.model.Side.{Side}
use Rattle.messages.specs.declared.model.Side.TheVariants.{Left, Right}
use Rattle.messages.specs.declared.model.Tag.{Tag}
use Rattle.messages.specs.declared.model.Tag.TheVariants.{Head, OwnStamp, ParentStamp, OnGround, OnSide, EntryValue}

abbrev pub at : List ℕ → ℕ → ℕ
at ws i = slice_index ws i

abbrev pub has_tag : Tag → ℕ → Bool
has_tag tag w = tag_of w == tag_number tag

-- the values of n words from place i on
abbrev pub values_at : List ℕ → ℕ → ℕ → List ℕ
values_at ws i n = map value_of (take n (drop i ws))

-- ---- the head
abbrev pub head_in : List ℕ → ℕ
head_in ws = value_of (at ws 0)

abbrev pub operation_in : List ℕ → ℕ
operation_in ws = head_in ws / 2 ^ 24

abbrev pub stamp_kind_in : List ℕ → ℕ
stamp_kind_in ws = head_in ws / 2 ^ 16 % 2 ^ 8

abbrev pub entry_kind_in : List ℕ → ℕ
entry_kind_in ws = head_in ws / 2 ^ 8 % 2 ^ 8

abbrev pub count_in : List ℕ → ℕ
count_in ws = head_in ws % 2 ^ 8

abbrev pub inserts : List ℕ → Bool
inserts ws = operation_in ws == operation_number Insert

-- a first word with the head's tag
abbrev pub has_head : List ℕ → Bool
has_head ws = nat_lt 0 (length ws) && has_tag Head (at ws 0)

-- ---- the layout: n is the count of a stamp's values, m that of an entry's
abbrev pub place_at : ℕ → ℕ
place_at n = 1 + n

abbrev pub parent_at : ℕ → ℕ
parent_at n = 2 + n

-- a place word with the side's tag names a parent; any other is read as the ground
abbrev pub names_parent : ℕ → List ℕ → Bool
names_parent n ws = has_tag OnSide (at ws (place_at n))

abbrev pub entry_at : ℕ → List ℕ → ℕ
entry_at n ws = cond (names_parent n ws) (parent_at n + n) (parent_at n)

abbrev pub length_in : ℕ → ℕ → List ℕ → ℕ
length_in n m ws = cond (inserts ws) (entry_at n ws + m) (1 + n)

abbrev pub place_tags : ℕ → List ℕ → List Tag
place_tags n ws = cond (names_parent n ws) (OnSide ∷ replicate n ParentStamp) (OnGround ∷ [])

-- the tags that the words after the head must have
abbrev pub insertion_tags : ℕ → ℕ → List ℕ → List Tag
insertion_tags n m ws = replicate n OwnStamp ++ (place_tags n ws ++ replicate m EntryValue)

abbrev pub tags_in : ℕ → ℕ → List ℕ → List Tag
tags_in n m ws = cond (inserts ws) (insertion_tags n m ws) (replicate n OwnStamp)

-- the ground has value 0, a side 0 or 1
abbrev pub allows : Tag → ℕ → Bool
allows Head v = true
allows OwnStamp v = true
allows ParentStamp v = true
allows OnGround v = v == 0
allows OnSide v = nat_le v 1
allows EntryValue v = true

-- has the word the tag, and a value that goes with it?
abbrev pub fits : Tag → ℕ → Bool
fits tag w = has_tag tag w && allows tag (value_of w)

-- the place of the first of these words, the first of which is at place i, that does not fit its tag
abbrev pub bad_word : ℕ → List Tag → List ℕ → Option ℕ
bad_word i [] ws = None
bad_word i (t ∷ ts) [] = Some i
bad_word i (t ∷ ts) (w ∷ ws) = cond (fits t w) (bad_word (i + 1) ts ws) (Some i)

-- the place of the first word of an insertion's place that does not fit its tag
abbrev pub bad_place : ℕ → List ℕ → Option ℕ
bad_place n ws = bad_word (place_at n) (place_tags n ws) (drop (place_at n) ws)

-- ---- stamps and entry
abbrev pub own_in : ℕ → List ℕ → List ℕ
own_in n ws = values_at ws 1 n

abbrev pub parent_in : ℕ → List ℕ → List ℕ
parent_in n ws = values_at ws (parent_at n) n

abbrev pub entry_in : ℕ → ℕ → List ℕ → List ℕ
entry_in n m ws = values_at ws (entry_at n ws) m

-- at fault, if it does not read
abbrev pub unread : Form → ℕ → List ℕ → Option ℕ
unread form i vs = cond (form.reads vs) None (Some i)

-- the parent's stamp has to read, and to be another than the own
abbrev pub bad_parent : Form → List ℕ → Option ℕ
bad_parent stamps ws =
    cond (inserts ws && names_parent stamps.count ws)
    (cond (stamps.reads (parent_in stamps.count ws) && not (same_values (parent_in stamps.count ws) (own_in stamps.count ws)))
    None (Some (parent_at stamps.count)))
    None

abbrev pub bad_entry : Form → Form → List ℕ → Option ℕ
bad_entry stamps entries ws =
    cond (inserts ws) (unread entries (entry_at stamps.count ws) (entry_in stamps.count entries.count ws)) None

-- ---- the questions, and the message
-- a head that names an operation
abbrev pub operates : List ℕ → Bool
operates ws = has_head ws && (inserts ws || operation_in ws == operation_number Delete)

abbrev pub kinds_match : Form → Form → List ℕ → Bool
kinds_match stamps entries ws = stamp_kind_in ws == stamps.number && entry_kind_in ws == entries.number

abbrev pub lengths_match : ℕ → ℕ → List ℕ → Bool
lengths_match n m ws = length ws == 1 + count_in ws && length ws == length_in n m ws

abbrev pub body_questions : Form → Form → List ℕ → List Question
body_questions stamps entries ws =
    ask 5 (lengths_match stamps.count entries.count ws)
    ∷ ask_fault 6 (bad_word 1 (tags_in stamps.count entries.count ws) (drop 1 ws))
    ∷ ask_fault 7 (unread stamps 1 (own_in stamps.count ws))
    ∷ ask_fault 7 (bad_parent stamps ws)
    ∷ ask_fault 8 (bad_entry stamps entries ws)
    ∷ []

abbrev pub word_questions : Form → Form → List ℕ → List Question
word_questions stamps entries ws =
    ask 3 (operates ws) ∷ ask 4 (kinds_match stamps entries ws) ∷ body_questions stamps entries ws

abbrev pub side_in : ℕ → Side
side_in v = cond (v == 0) Left Right

abbrev pub place_in : ℕ → List ℕ → Place (List ℕ)
place_in n ws = cond (names_parent n ws) (Under (side_in (value_of (at ws (place_at n)))) (parent_in n ws)) Ground

abbrev pub message_in : ℕ → ℕ → List ℕ → Said
message_in n m ws = cond (inserts ws) (Insertion (own_in n ws) (place_in n ws) (entry_in n m ws)) (Deletion (own_in n ws))

-- what is told of words that are to be a message
abbrev pub read_answer : Form → Form → List ℕ → Answer Said
read_answer stamps entries ws = answer (word_questions stamps entries ws) (message_in stamps.count entries.count ws)

-- ---- a run of messages, one behind the other
-- how many words the first message has, by its head; none, if there is no head or fewer words than it counts
abbrev pub piece : List ℕ → Option ℕ
piece ws = cond (has_head ws && nat_le (1 + count_in ws) (length ws)) (Some (1 + count_in ws)) None

-- The questions that words handed in must pass: those that the words answer alone, and those that are put to the ledger.
use Rattle.std.specs.Prelude.{ℕ, Bool, true, ◌||◌, List, [], ◌∷◌, ◌++◌, length, is_some, Some, None, Option, nat_lt}
use Rattle.words.specs.Answers.{Question, ask}
use Rattle.messages.specs.FromWords as from_words
use Rattle.messages.specs.Model.{Said, stamp_of}
use Rattle.messages.specs.declared.model.Message.TheVariants.{Insertion, Deletion}
use Rattle.ledger.specs.Kinds.{Kinds}
use Rattle.ledger.specs.Ledger.{Node, Ledger, row_of, node_of, same_node}

abbrev pub word_questions : Kinds → List ℕ → List Question
word_questions k ws = from_words.word_questions k.stamps.form k.entries.form ws

-- the message that words are, once they have passed
abbrev pub message_in : Kinds → List ℕ → Said
message_in k ws = from_words.message_in k.stamps.form.count k.entries.form.count ws

-- is none held under the stamp, or the same one?
abbrev pub no_other : Option Node → Said → Bool
no_other None m = true
no_other (Some v) (Insertion s pl e) = same_node v (record { place = pl; entry = e })
no_other (Some v) (Deletion s) = true

-- 9: is no other insertion held under the stamp? 10: is the stamp held, or a slot free?
abbrev pub ledger_questions : Ledger → Said → List Question
ledger_questions l m =
    ask 9 (no_other (node_of (stamp_of m) l.rows) m)
    ∷ ask 10 (is_some (row_of (stamp_of m) l.rows) || nat_lt (length l.rows) l.slots)
    ∷ []

abbrev pub receive_questions : Kinds → Ledger → List ℕ → List Question
receive_questions k l ws = word_questions k ws ++ ledger_questions l (message_in k ws)

-- What each call answers, and what it makes of the ledger.
use Rattle.std.specs.Prelude.{◌≡◌, ℕ, Bool, cond, not, ◌&&◌, List, [], ◌∷◌, ◌++◌, length, is_some, Some, None, Option, nat_le}
use Rattle.words.specs.Answers.{Answer, Question, answer, ask}
use Rattle.words.specs.Forms.{Form}
use Rattle.stamps.specs.Kinds.{StampKind, site_number}
use Rattle.entries.specs.Kinds.{EntryKind}
use Rattle.messages.specs.Model.{Said}
use Rattle.messages.specs.declared.model.Message.TheVariants.{Insertion, Deletion}
use Rattle.messages.specs.declared.model.Operation.{Operation}
use Rattle.messages.specs.declared.model.Operation.TheVariants.{Insert}
use Rattle.ledger.specs.Basics.{refusal}
use Rattle.ledger.specs.Kinds.{Kinds}
use Rattle.ledger.specs.Ledger.{Node, Ledger, insertion, row_of, node_of, struck_of}
use Rattle.ledger.specs.Paths.{Item, reading}
use Rattle.ledger.specs.Receive.{receive_questions, message_in}
use Rattle.ledger.specs.Calls.{added, fresh}
use Rattle.ledger.specs.Laws.{Call, Does, Spot, Marked, with_rows, insert_questions, place_for, mark, delete_questions, deleted, received, outgoing, sent, next_unsent, sent_next}
use Rattle.ledger.specs.Laws.Call.{insert, delete, send, defer, send_next, receive, read, render, count}

-- the kinds that two implementations of the traits give, by their ghost members
abbrev pub kinds_of : Form → StampKind → Form → EntryKind → Kinds
kinds_of stamps order entries printing = record { stamps = record { form = stamps; kind = order }; entries = record { form = entries; kind = printing } }

-- ---- opening: 1 to 4,096 slots, a site from 1 to 999
abbrev pub open_questions : ℕ → ℕ → List Question
open_questions slots site = ask 1 (nat_le 1 slots && nat_le slots 4096) ∷ ask 2 (site_number site) ∷ []

-- ---- inserting: the stamp of the new entry
abbrev pub fresh_stamp : Kinds → Ledger → List ℕ
fresh_stamp k l = fresh k.stamps l.site l.rows

abbrev pub new_node : Kinds → Ledger → Spot → List ℕ → Node
new_node k l spot vs = record { place = place_for k.stamps l spot; entry = vs }

abbrev pub with_new : Kinds → Ledger → Spot → List ℕ → Option ℕ → Ledger
with_new k l spot vs None = with_rows l (mark Insert (fresh_stamp k l) (added (insertion (fresh_stamp k l) (new_node k l spot vs)) l.rows))
with_new k l spot vs (Some n) = l

abbrev pub insert_answer : Kinds → Ledger → Spot → List ℕ → Answer (List ℕ)
insert_answer k l spot vs = answer (insert_questions k l spot vs) (fresh_stamp k l)

abbrev pub after_insert : Kinds → Ledger → Spot → List ℕ → Ledger
after_insert k l spot vs = with_new k l spot vs (refusal (insert_questions k l spot vs))

-- ---- deleting: the stamp that is struck
abbrev pub delete_answer : Ledger → List ℕ → Answer (List ℕ)
delete_answer l s = answer (delete_questions l s) s

abbrev pub after_delete : Ledger → List ℕ → Ledger
after_delete l s = deleted l s (refusal (delete_questions l s))

-- ---- receiving: was the message new?
abbrev pub holds : Ledger → Said → Bool
holds l (Insertion s pl e) = is_some (node_of s l.rows)
holds l (Deletion s) = struck_of s l.rows

abbrev pub receive_answer : Kinds → Ledger → List ℕ → Answer Bool
receive_answer k l ws = answer (receive_questions k l ws) (not (holds l (message_in k ws)))

abbrev pub after_receive : Kinds → Ledger → List ℕ → Ledger
after_receive k l ws = received k l ws (refusal (receive_questions k l ws))

-- ---- sending a message by its token: its words, or none where the space is too short or the message is not marked here
abbrev pub words_sent : Kinds → Ledger → Operation → List ℕ → ℕ → List ℕ
words_sent k l op s space = cond (nat_le (length (outgoing k op (row_of s l.rows))) space) (outgoing k op (row_of s l.rows)) []

abbrev pub after_send : Kinds → Ledger → Operation → List ℕ → ℕ → Ledger
after_send k l op s space = with_rows l (sent k op s space l.rows)

-- ---- sending the next unsent
abbrev pub next_words : Kinds → Ledger → Option Marked → List ℕ
next_words k l None = []
next_words k l (Some x) = outgoing k x.op (row_of x.stamp l.rows)

abbrev pub next_questions : Kinds → Ledger → ℕ → List Question
next_questions k l space =
    ask 16 (is_some (next_unsent l.rows))
    ∷ ask 15 (nat_le (length (next_words k l (next_unsent l.rows))) space)
    ∷ []

abbrev pub send_next_answer : Kinds → Ledger → ℕ → Answer (List ℕ)
send_next_answer k l space = answer (next_questions k l space) (next_words k l (next_unsent l.rows))

abbrev pub after_send_next : Kinds → Ledger → ℕ → Ledger
after_send_next k l space = with_rows l (sent_next k space (next_unsent l.rows) l.rows)

-- ---- rendering: the printed bytes of the entries that are not struck, in order
abbrev pub printed : (List ℕ → List ℕ) → List Item → List ℕ
printed prints [] = []
printed prints (x ∷ xs) = cond x.struck (printed prints xs) (prints x.entry ++ printed prints xs)

abbrev pub rendered : Kinds → Ledger → List ℕ
rendered k l = printed k.entries.kind.prints (reading k.stamps l.rows)

abbrev pub render_answer : Kinds → Ledger → ℕ → Answer ℕ
render_answer k l space = answer (ask 15 (nat_le (length (rendered k l)) space) ∷ []) (length (rendered k l))

-- ---- any call
abbrev pub after_call : Kinds → Ledger → Call → Ledger
after_call k l (insert spot vs) = after_insert k l spot vs
after_call k l (delete s) = after_delete l s
after_call k l (send op s space) = after_send k l op s space
after_call k l (defer op s) = l
after_call k l (send_next space) = after_send_next k l space
after_call k l (receive ws) = after_receive k l ws
after_call k l read = l
after_call k l (render space) = l
after_call k l count = l

-- what a call does in a run is what is said here, so a list of calls leads to one ledger
abbrev pub CallsLeadToOneLedger : Type 0
CallsLeadToOneLedger = (k : Kinds) (l m : Ledger) (c : Call) → Does k l c m → m ≡ after_call k l c

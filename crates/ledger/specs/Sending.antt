-- What is promised of the messages made here: nothing is lost on the way out.
-- A message is named by its operation and its stamp.
use Rattle.std.specs.Prelude.{◌≡◌, ℕ, ◌+◌, ◌≤◌, Bool, true, false, cond, not, ◌&&◌, List, [], ◌∷◌, length, is_some, Some, None, Option, nat_le}
use Rattle.words.specs.Forms.{same_values}
use Rattle.words.specs.Answers.{Question}
use Rattle.messages.specs.declared.model.Operation.{Operation}
use Rattle.messages.specs.declared.model.Operation.TheVariants.{Insert, Delete}
use Rattle.ledger.specs.Basics.{refusal}
use Rattle.ledger.specs.Kinds.{Kinds}
use Rattle.ledger.specs.Ledger.{Row, Ledger, row_of}
use Rattle.ledger.specs.Calls.{fresh}
use Rattle.ledger.specs.Laws.{Call, Run, History, Marked, insert_questions, delete_questions, outgoing, next_unsent}
use Rattle.ledger.specs.Laws.Call.{insert, delete, send, defer, send_next, receive, read, render, count}
use Rattle.ledger.specs.Laws.Run.{done, then}

abbrev pub same_operation : Operation → Operation → Bool
same_operation Insert Insert = true
same_operation Insert Delete = false
same_operation Delete Insert = false
same_operation Delete Delete = true

abbrev pub same_message : Operation → List ℕ → Operation → List ℕ → Bool
same_message op s op' s' = same_values s s' && same_operation op op'

abbrev pub one_if : Bool → ℕ
one_if b = cond b 1 0

-- is the message marked in its row?
abbrev pub unsent : Operation → Option Row → Bool
unsent op None = false
unsent Insert (Some r) = r.insertion_unsent
unsent Delete (Some r) = r.deletion_unsent

abbrev pub accepted : List Question → Bool
accepted qs = not (is_some (refusal qs))

-- does the call on the ledger make the message?
abbrev pub makes : Kinds → Ledger → Call → Operation → List ℕ → Bool
makes k l (insert spot vs) op s = accepted (insert_questions k l spot vs) && same_message Insert (fresh k.stamps l.site l.rows) op s
makes k l (delete t) op s = accepted (delete_questions l t) && same_message Delete t op s
makes k l (send o t space) op s = false
makes k l (defer o t) op s = false
makes k l (send_next space) op s = false
makes k l (receive ws) op s = false
makes k l read op s = false
makes k l (render space) op s = false
makes k l count op s = false

-- are there words, and no more than the space takes?
abbrev pub fits_into : ℕ → List ℕ → Bool
fits_into space [] = false
fits_into space (w ∷ ws) = nat_le (length (w ∷ ws)) space

-- is the message the one to be sent, and do its words fit the space?
abbrev pub sends_marked : Kinds → Ledger → ℕ → Option Marked → Operation → List ℕ → Bool
sends_marked k l space None op s = false
sends_marked k l space (Some x) op s = same_message x.op x.stamp op s && fits_into space (outgoing k x.op (row_of x.stamp l.rows))

-- does the call on the ledger send the message?
abbrev pub sends : Kinds → Ledger → Call → Operation → List ℕ → Bool
sends k l (insert spot vs) op s = false
sends k l (delete t) op s = false
sends k l (send o t space) op s = sends_marked k l space (Some (record { op = o; stamp = t })) op s
sends k l (defer o t) op s = false
sends k l (send_next space) op s = sends_marked k l space (next_unsent l.rows) op s
sends k l (receive ws) op s = false
sends k l read op s = false
sends k l (render space) op s = false
sends k l count op s = false

-- how often a run makes the message, and how often it sends it
abbrev pub made : (k : Kinds) {l n : Ledger} {cs : List Call} → Run k l cs n → Operation → List ℕ → ℕ
made k (done l) op s = 0
made k (then l m n c cs d r) op s = one_if (makes k l c op s) + made k r op s

abbrev pub sent_count : (k : Kinds) {l n : Ledger} {cs : List Call} → Run k l cs n → Operation → List ℕ → ℕ
sent_count k (done l) op s = 0
sent_count k (then l m n c cs d r) op s = one_if (sends k l c op s) + sent_count k r op s

-- A message is made at most once. Made, it is marked and was never sent, or it is not marked and was sent once; not made, neither.
-- While it is marked, a space that is long enough takes it.
pub record NothingLost (k : Kinds) (a : History k) : Type 0 where
  pub once : (op : Operation) (s : List ℕ) → made k a.ran op s ≤ 1
  pub accounted : (op : Operation) (s : List ℕ) → made k a.ran op s ≡ sent_count k a.ran op s + one_if (unsent op (row_of s a.ledger.rows))
  pub ready : (op : Operation) (s : List ℕ) (space : ℕ) → unsent op (row_of s a.ledger.rows) ≡ true → length (outgoing k op (row_of s a.ledger.rows)) ≤ space → sends k a.ledger (send op s space) op s ≡ true

abbrev pub NothingLostAlways : Type 0
NothingLostAlways = (k : Kinds) (a : History k) → NothingLost k a

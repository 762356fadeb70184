use Rattle.std.proofs.Common.{◌≡◌, ℕ, List, Some, None, Option, ◌∙◌}
use Rattle.messages.specs.declared.model.Operation.TheVariants.{Insert}
use Rattle.ledger.specs.Answering.{CallsLeadToOneLedger, new_node, with_new}
use Rattle.ledger.specs.Basics.{refusal}
use Rattle.ledger.specs.Calls.{added}
use Rattle.ledger.specs.Kinds.{Kinds}
use Rattle.ledger.specs.Laws.{InsertDoes, Spot, insert_questions, mark, with_rows}
use Rattle.ledger.specs.Laws.Call.{insert, delete, send, defer, send_next, receive, read, render, count}
use Rattle.ledger.specs.Ledger.{Ledger, insertion}
use Rattle.ledger.proofs.calls_lead_to_one_ledger.Goals as goal

inserted : (k : Kinds) (l m : Ledger) (spot : Spot) (vs : List ℕ) (o : Option ℕ) → InsertDoes k l spot vs m o → m ≡ with_new k l spot vs o
inserted k l m spot vs None i = i.after ∙ (λ j. with_rows l (mark Insert (i.fresh_stamp.is j) (added (insertion (i.fresh_stamp.is j) (new_node k l spot vs)) l.rows)))
inserted k l m spot vs (Some n) e = e

one_ledger : CallsLeadToOneLedger
one_ledger k l m (insert spot vs) d = inserted k l m spot vs (refusal (insert_questions k l spot vs)) d
one_ledger k l m (delete s) d = d
one_ledger k l m (send op s space) d = d
one_ledger k l m (defer op s) d = d
one_ledger k l m (send_next space) d = d
one_ledger k l m (receive ws) d = d
one_ledger k l m read d = d
one_ledger k l m (render space) d = d
one_ledger k l m count d = d

pub returns : goal.returns
returns c = one_ledger

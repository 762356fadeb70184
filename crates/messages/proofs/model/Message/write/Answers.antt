use Rattle.std.proofs.Common.{is_some, sym, arith}
use Rattle.messages.specs.InWords.{under_itself}
use Rattle.messages.specs.Model.{said}
use Rattle.messages.proofs.Asking.{no_fault_from}
use Rattle.messages.proofs.ReadBack.{Lawful, parts_read, reads_back}
use Rattle.messages.proofs.model.Message.write.Goals as goal

pub returns-clause-reads_back : goal.returns-clause-reads_back
returns-clause-reads_back g c =
    let sf = g.S.WordForm.form in
    let ef = g.E.WordForm.form in
    let m = said g.S.WordForm.values g.E.WordForm.values c.args.self.now in
    let sl : Lawful sf 4 = record { few = g.met.S.Stamp.few.1; numbered = g.met.S.WordForm.numbered.1; sized = g.met.S.WordForm.sized; small = g.met.S.WordForm.small } in
    let el : Lawful ef 16 = record { few = g.met.E.Entry.few.1; numbered = g.met.E.WordForm.numbered.1; sized = g.met.E.WordForm.sized; small = g.met.E.WordForm.small } in
    λ _. reads_back sf ef 4 16 sl el (omega arith) m (parts_read sf ef g.S.WordForm.values g.E.WordForm.values g.met.S.WordForm.written_reads g.met.E.WordForm.written_reads c.args.self.now)
    (no_fault_from (under_itself sf m) (sym {b = is_some (under_itself sf m)} c.if-is_under_itself.ensures))

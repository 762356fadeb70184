use Rattle.std.proofs.Common.{◌≡◌, ◌≤◌, length, drop}
use Rattle.ledger.specs.Answering.{kinds_of, printed, rendered}
use Rattle.slots.specs.Finding.{stamps_of}
use Rattle.page.specs.Holding.{Holds, ledger_in}
use Rattle.readings.specs.Readings.{Reads, to_come}
use Rattle.page.specs.Rendering.{Written}
use Rattle.page.proofs.pages.Page.put_text.Given as goal

abbrev pub invariant-loop-reading : goal.invariant-loop-reading
invariant-loop-reading g l =
    let text = rendered (kinds_of g.S.WordForm.form g.S.Stamp.kind g.E.WordForm.form g.E.Entry.kind) (ledger_in g.S.WordForm.values g.E.WordForm.values l.self) in
    (goal.iterator-loop-reading g).can_next l.reading
    × (goal.iterator-loop-reading g).is_finite l.reading
    × (l.at ≤ length l.out)
    × (drop l.at l.out ≡ drop l.at l.initial.out)
    × (Holds g.S.WordForm.values g.E.WordForm.values g.E.Entry.kind.filler l.self → Reads g.S.WordForm.values g.E.WordForm.values l.reading × (length text ≤ length l.initial.out → Written text l.initial.out l.out l.at (printed g.E.Entry.kind.prints (to_come g.S.WordForm.values g.E.WordForm.values (stamps_of g.S.WordForm.form g.S.Stamp.kind) l.reading))))

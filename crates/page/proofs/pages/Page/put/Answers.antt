use Rattle.std.proofs.Common.{[], ap}
use Rattle.ledger.specs.Calls.{blank}
use Rattle.ledger.specs.Laws.{with_rows}
use Rattle.page.specs.Holding.{ledger_in}
use Rattle.page.proofs.Keeping.{apart_put, elsewhere_put, fill_put, rows_put}
use Rattle.page.proofs.pages.Page.put.Goals as goal

pub returns-clause-ledger : goal.returns-clause-ledger
returns-clause-ledger g c = let p = c.args.self.now in ap (with_rows (ledger_in g.S.WordForm.values g.E.WordForm.values p)) (rows_put g.S.WordForm.values g.E.WordForm.values g.E.Entry.kind.filler p.slots.now p.filled c.args.slot c.args.i c.requires)

pub returns-clause-kept : goal.returns-clause-kept
returns-clause-kept g c = λ holds same away fills.
    let p = c.args.self.now in
    record {
      apart = apart_put g.S.WordForm.values g.E.WordForm.values g.E.Entry.kind.filler p.slots.now p.filled c.args.slot c.args.i c.requires (blank []) same holds.apart;
      elsewhere = elsewhere_put g.S.WordForm.values g.E.WordForm.values g.E.Entry.kind.filler p.slots.now p.filled c.args.slot c.args.i c.requires away holds.elsewhere;
      fillers = fill_put g.S.WordForm.values g.E.WordForm.values g.E.Entry.kind.filler p.slots.now p.filled c.args.slot c.args.i c.requires fills holds.fillers;
    }

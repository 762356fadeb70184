use Rattle.std.proofs.Common.{◌<◌, length, arith}
use Rattle.page.proofs.Keeping.{apart_more, elsewhere_more, fill_more}
use Rattle.page.proofs.pages.Page.push.Goals as goal

pub returns-clause-kept : goal.returns-clause-kept
returns-clause-kept g c = λ holds new away fills.
    let p = c.args.self.now in
    let h : p.filled < length p.slots.now = omega (arith, c.requires, p.within) in
    record {
      apart = apart_more g.S.WordForm.values g.E.WordForm.values g.E.Entry.kind.filler p.slots.now p.filled c.args.slot h new holds.apart;
      elsewhere = elsewhere_more g.S.WordForm.values g.E.WordForm.values g.E.Entry.kind.filler p.slots.now p.filled c.args.slot h away holds.elsewhere;
      fillers = fill_more g.S.WordForm.values g.E.WordForm.values g.E.Entry.kind.filler p.slots.now p.filled c.args.slot h fills holds.fillers;
    }

use Rattle.slots.proofs.Scans.{first_is}
use Rattle.slots.proofs.searching.seek.Goals as goal

pub returns-clause-first : goal.returns-clause-first
returns-clause-first g c =
    let found = c.index_of.ensures in
    first_is g.S.WordForm.values g.E.WordForm.values (g.S.WordForm.values c.args.stamp.now) c.args.slots.now c.index_of.result found.none found.within found.before found.at

use Rattle.std.proofs.Common.{◌≡◌, true}
use Rattle.ledger.specs.Ledger.{Apart}
use Rattle.ledger.specs.Paths.{stands}
use Rattle.slots.specs.Rows.{rows_in}
use Rattle.slots.proofs.Walks.{Up}
use Rattle.slots.proofs.walking.climb.Given as goal

abbrev pub invariant-loop : goal.invariant-loop
invariant-loop g l =
    let vs = g.S.WordForm.values in
    let rows = rows_in vs g.E.WordForm.values l.slots in
    Apart rows → stands rows (vs l.initial.at) ≡ true → Up rows g.S.Stamp.kind.earlier (vs l.initial.at) (vs l.at) l.index

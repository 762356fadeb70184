use Rattle.std.proofs.Common.{◌≡◌, ◌-◌, length, is_some}
use Rattle.ledger.specs.Paths.{path_within, stands}
use Rattle.slots.specs.Rows.{rows_in}
use Rattle.slots.proofs.standing.is_standing.Given as goal

abbrev pub invariant-loop : goal.invariant-loop
invariant-loop g l =
    let vs = g.S.WordForm.values in
    let rows = rows_in vs g.E.WordForm.values l.slots in
    is_some (path_within (length l.slots - l.index) rows (vs l.at)) ≡ stands rows (vs l.stamp)

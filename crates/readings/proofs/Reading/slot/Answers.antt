use Rattle.std.proofs.Common.{ap, ◌∙◌}
use Rattle.std.specs.Option.{option_map}
use Rattle.ledger.specs.Kinds.{Ordered}
use Rattle.ledger.specs.Ledger.{Row}
use Rattle.slots.specs.Finding.{stamps_of}
use Rattle.slots.specs.Rows.{entry_in}
use Rattle.readings.proofs.Advancing.{entry_at_last, map_map, struck_at_last}
use Rattle.readings.proofs.Reading.slot.Given as given
use Rattle.readings.proofs.Reading.slot.Goals as goal

ordered : (g : given.Over) → Ordered (stamps_of g.S.WordForm.form g.S.Stamp.kind)
ordered g = record { connected = g.met.S.Stamp.connected; irreflexive = g.met.S.Stamp.irreflexive; transitive = g.met.S.Stamp.transitive }

pub returns-clause-entry : goal.returns-clause-entry
returns-clause-entry g c = λ reads.
    map_map _ entry_in c.find.result
    ∙ ap (option_map entry_in) c.find.ensures
    ∙ entry_at_last g.S.WordForm.values g.E.WordForm.values (stamps_of g.S.WordForm.form g.S.Stamp.kind) (ordered g) g.met.S.WordForm.written_reads c.args.self.now reads c.in_ok-stamp.stamp c.in_ok-stamp.was

pub returns-clause-struck : goal.returns-clause-struck
returns-clause-struck g c = λ reads.
    map_map _ (λ (q : Row). q.struck) c.find.result
    ∙ ap (option_map (λ (q : Row). q.struck)) c.find.ensures
    ∙ struck_at_last g.S.WordForm.values g.E.WordForm.values (stamps_of g.S.WordForm.form g.S.Stamp.kind) (ordered g) g.met.S.WordForm.written_reads c.args.self.now reads c.in_ok-stamp.stamp c.in_ok-stamp.was

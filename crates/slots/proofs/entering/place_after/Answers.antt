use Rattle.slots.specs.Finding.{stamps_of}
use Rattle.slots.proofs.Leasts.{ordered, slots_read}
use Rattle.slots.proofs.Walks.{after_is}
use Rattle.slots.proofs.entering.place_after.Goals as goal

pub returns : goal.returns
returns g c = λ apart standing.
    let vs = g.S.WordForm.values in
    let form = g.S.WordForm.form in
    let o = ordered form g.S.Stamp.kind g.met.S.Stamp.connected g.met.S.Stamp.irreflexive g.met.S.Stamp.transitive in
    let read = slots_read vs g.E.WordForm.values form.reads g.met.S.WordForm.written_reads c.args.slots.now in
    after_is (stamps_of form g.S.Stamp.kind) o _ apart read _ _ standing (c.place_before.ensures apart standing)

use Rattle.std.proofs.Common.{replicate}
use Rattle.std.proofs.lemmas.Slice.Eq.{slice_eq-Decides}
use Rattle.slots.proofs.Comparing.{same_in_spaces}
use Rattle.slots.proofs.records.same_entry.Goals as goal
use Rattle.std.proofs.lemmas.Bool.Decides.{Decides-eqb}

pub returns : goal.returns
returns g c =
    let es = g.E.WordForm.values in
    let a = es c.args.a.now in
    let b = es c.args.b.now in
    let sized = g.met.E.WordForm.sized in
    let reads = g.met.E.WordForm.written_reads in
    let few = g.met.E.Entry.few in
    same_in_spaces a b (replicate 16 0) _ _ g.E.WordForm.form.count c.eq.result (sized a (reads c.args.a.now)) (sized b (reads c.args.b.now)) few.1 c.write.ensures.wrote c.write-2.ensures.wrote
    (slice_eq-Decides Decides-eqb c.write.new.space c.write-2.new.space c.eq.result c.eq.ensures)

use Rattle.std.proofs.Common.{◌≡◌, ◌≤◌, ℕ, ◌-◌, Some, None, Option, refl, arith, rules}
use Rattle.std.specs.Option.{option_map_or}
use Rattle.ledger.specs.Kinds.{Ordered}
use Rattle.slots.specs.Finding.{stamps_of}
use Rattle.readings.proofs.Advancing.{LeftOf, stepped}
use Rattle.readings.proofs.steps.ReadingIterator.next.Given as given
use Rattle.readings.proofs.steps.ReadingIterator.next.Goals as goal

ordered : (g : given.Over) → Ordered (stamps_of g.S.WordForm.form g.S.Stamp.kind)
ordered g = record { connected = g.met.S.Stamp.connected; irreflexive = g.met.S.Stamp.irreflexive; transitive = g.met.S.Stamp.transitive }

left_by : {S : Type 0} (next : Option S) (n left m : ℕ) → (1 ≤ n) × (left ≡ n - 1) → m ≡ option_map_or (λ _. left) next 0 → LeftOf next n m
left_by None n left m e h = h
left_by (Some y) n left m e h = omega (arith, e.0, e.1, h)

pub returns-clause-steps : goal.returns-clause-steps
returns-clause-steps g c = λ reads.
    let r = c.args.self.now in
    let next = c.ahead-self.result in
    let left : LeftOf next r.left c.map_or-self.result = left_by next r.left c.in-Some.left c.map_or-self.result c.in-Some.ensures (search rules) in
    stepped g.S.WordForm.values g.E.WordForm.values (stamps_of g.S.WordForm.form g.S.Stamp.kind) (ordered g) g.met.S.WordForm.written_reads r reads _ refl next refl (c.ahead-self.ensures reads) left

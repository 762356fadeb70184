use Rattle.std.proofs.Common.{◌≤◌, leb, length, arith}
use Rattle.std.proofs.lemmas.Bool.{and_parts, leb-true}
use Rattle.ledger.specs.Answering.{open_questions}
use Rattle.ledger.proofs.Questions.{all_yes}
use Rattle.page.proofs.pages.Page.open.Goals as goal

pub invariant_of-result : goal.invariant_of-result
invariant_of-result g c = elim c.match-check.branch [
  | goal.in-Ok w ↦
      let n = length c.args.table.now in
      let ok = all_yes (open_questions n c.args.site) tt w.in-Ok.field-0 w.in-Ok.ensures in
      let few : n ≤ 4096 = leb-true n 4096 (and_parts (leb 1 n) (leb n 4096) ok.0).1 in
      record { within = omega (arith, w.capacity-is); room = omega arith; few = omega (arith, few, w.capacity-is); sited = λ h. ok.1.0 }
  | goal.in-Err w ↦ record { within = omega (arith, w.capacity-is); room = omega arith; few = omega (arith, w.capacity-is); sited = λ h. (let no : ⊥ = omega (arith, w.capacity-is) in absurd no) }
]

pub returns-clause-kept : goal.returns-clause-kept
returns-clause-kept g c = record { apart = tt; elsewhere = tt; fillers = tt }

use Rattle.std.proofs.Common.{◌≡◌, map, take, vec_items}
use Rattle.words.specs.Answers.{told}
use Rattle.messages.specs.Model.{said}
use Rattle.inspection.specs.Reports.{lines}
use Rattle.inspection.proofs.reports.all_lines.Given as goal

abbrev pub invariant-loop-answer : goal.invariant-loop-answer
invariant-loop-answer g l =
    let f = told (said g.S.WordForm.values g.E.WordForm.values) in
    let kind = g.S.Stamp.kind in
    let prints = g.E.Entry.kind.prints in
    vec_items l.text ≡ lines kind prints (map f (take l.answer-index l.found))

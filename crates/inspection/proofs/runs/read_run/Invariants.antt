use Rattle.std.proofs.Common.{◌≡◌, ◌++◌, map, length, vec_items}
use Rattle.words.specs.Answers.{told}
use Rattle.messages.specs.FromWords.{read_answer}
use Rattle.messages.specs.Model.{said}
use Rattle.inspection.specs.Reports.{all_answers, answers, left_over}
use Rattle.inspection.proofs.runs.read_run.Given as goal

abbrev pub invariant-loop-n : goal.invariant-loop-n
invariant-loop-n g l =
    let read = read_answer g.S.WordForm.form g.E.WordForm.form in
    map (told (said g.S.WordForm.values g.E.WordForm.values)) (vec_items l.found) ++ answers (length l.rest) read (left_over l.bytes) l.rest ≡ all_answers g.S.WordForm.form g.E.WordForm.form l.bytes

abbrev pub decreases-loop-n : goal.decreases-loop-n
decreases-loop-n g l = length l.rest

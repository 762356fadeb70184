use Rattle.std.proofs.Common.{◌++◌, map, Err, vec_items, sym, ap, ◌∙◌, arith}
use Rattle.std.proofs.lemmas.List.{append-nil}
use Rattle.words.specs.Answers.{told}
use Rattle.words.specs.declared.refusals.Refusal.TheVariants.{Head}
use Rattle.messages.specs.FromWords.{read_answer}
use Rattle.messages.specs.Model.{said}
use Rattle.inspection.specs.Reports.{left_over}
use Rattle.inspection.proofs.Cutting.{last_answer, no_more, none_left, piece_more, pushed_answer, rest_last, some_left}
use Rattle.inspection.proofs.runs.read_run.Goals as goal

pub loop-n-preserved : goal.loop-n-preserved
loop-n-preserved g c =
    let read = read_answer g.S.WordForm.form g.E.WordForm.form in
    let left = left_over c.args.bytes.now in
    let front = c.split_at.ensures.front in
    let back = c.split_at.ensures.back in
    let inv = c.loop-n.invariant in
    let answer = c.read.ensures.answer in
    let next = piece_more read left c.loop-n.rest.now c.in-Some.n (sym c.piece_len.ensures.value ∙ c.in-Some.is) in
    pushed_answer (told (said g.S.WordForm.values g.E.WordForm.values)) _ _ c.read.result _ _ c.in_ok-push.ensures.items cc

pub returns : goal.returns
returns g c =
    let f = told (said g.S.WordForm.values g.E.WordForm.values) in
    let read = read_answer g.S.WordForm.form g.E.WordForm.form in
    let left = left_over c.args.bytes.now in
    let rest = c.loop-n.rest.now in
    let inv = c.loop-n.invariant in
    elim c.if-not-is_empty.branch [
      | goal.then-not-is_empty+in_ok-push-2 w ↦
          let answer = w.read-then-not-is_empty.ensures.answer in
          let last = rest_last read left rest (sym c.is_empty.ensures ∙ w.if-not-is_empty.true) (sym c.piece_len.ensures.value ∙ c.in_default.is) in
          last_answer f _ _ w.read-then-not-is_empty.result _ (ap vec_items w.found-is ∙ w.in_ok-push-2.ensures.items) cc
      | goal.else-not-is_empty+then-bytes-ne0+in_ok-push-3 w ↦
          let none = no_more read left rest (sym c.is_empty.ensures ∙ w.if-not-is_empty.false) in
          let some = some_left c.args.bytes.now (omega (arith, w.if-bytes-ne0.true)) in
          last_answer f _ _ (Err Head) _ (ap vec_items w.found-is ∙ w.in_ok-push-3.ensures.items) cc
      | goal.else-not-is_empty+else-bytes-ne0 w ↦
          let none = no_more read left rest (sym c.is_empty.ensures ∙ w.if-not-is_empty.false) ∙ none_left c.args.bytes.now (omega (arith, w.if-bytes-ne0.false)) in
          ap (λ v. map f (vec_items v)) w.found-is ∙ sym (append-nil (map f (vec_items c.loop-n.found))) ∙ ap (λ z. map f (vec_items c.loop-n.found) ++ z) (sym none) ∙ inv
    ]

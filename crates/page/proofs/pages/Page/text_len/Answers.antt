use Rattle.std.proofs.Common.{length, ap, ◌∙◌, arith, length-append}
use Rattle.ledger.specs.Answering.{printed}
use Rattle.slots.specs.Finding.{stamps_of}
use Rattle.readings.specs.Readings.{current, to_come}
use Rattle.readings.specs.Printing.{text_in}
use Rattle.readings.proofs.Advancing.{come_to_end}
use Rattle.page.proofs.Rendering.{one_more_text}
use Rattle.page.proofs.pages.Page.text_len.Goals as goal

pub overflow_add-len : goal.overflow_add-len
overflow_add-len g c =
    let bound = c.loop-reading.invariant.2 in
    let falls = (c.in-Some.ensures.goes.on tt).2 in
    omega (arith, bound, falls, c.printed_len-len.ensures.few)

pub loop-reading-init : goal.loop-reading-init
loop-reading-init g c =
    let p = c.args.self.now in
    let few = p.few in
    let room = p.room in
    let whole = ap (λ xs. length (printed g.E.Entry.kind.prints xs)) c.reading-reading.ensures.whole.0 in
    (tt, tt, omega (arith, c.reading-reading.ensures.few), λ holds. (c.reading-reading.ensures.reads holds, omega (arith, whole)))

pub loop-reading-preserved : goal.loop-reading-preserved
loop-reading-preserved g c =
    let vs = g.S.WordForm.values in
    let es = g.E.WordForm.values in
    let k = stamps_of g.S.WordForm.form g.S.Stamp.kind in
    let prints = g.E.Entry.kind.prints in
    let r = c.loop-reading.reading in
    let t = c.next.new.self in
    let was = c.loop-reading.invariant in
    let bound = was.2 in
    let falls = (c.in-Some.ensures.goes.on tt).2 in (
      tt,
      tt,
      omega (arith, bound, falls, c.printed_len-len.ensures.few),
      λ holds.
          let before = was.3 holds in
          let s = c.in-Some.ensures.steps before.0 in
          let text = text_in prints (current vs es k t) in
          let more = ap length (one_more_text prints (to_come vs es k r) (to_come vs es k t) (current vs es k t) s.now_at s.left) ∙ length-append text (printed prints (to_come vs es k t)) in
          let count = c.printed_len-len.ensures.count s.reads in
          (s.reads, omega (arith, more, count, before.1)),
    )

pub returns : goal.returns
returns g c = λ holds.
    let was = c.loop-reading.invariant.3 holds in
    let s = c.in_default.ensures.steps was.0 in
    let none = ap (λ xs. length (printed g.E.Entry.kind.prints xs)) (come_to_end g.S.WordForm.values g.E.WordForm.values (stamps_of g.S.WordForm.form g.S.Stamp.kind) c.loop-reading.reading c.next.new.self s) in
    omega (arith, none, was.1)

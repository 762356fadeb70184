use Rattle.std.proofs.Common.{◌≡◌, ℕ, ◌+◌, ◌≤◌, cond, List, ◌++◌, length, take, drop, sym, refl, ap, ◌∙◌, subst, arith, length-drop}
use Rattle.std.proofs.lemmas.List.{take_rest}
use Rattle.std.proofs.lemmas.Bool.{le-leb}
use Rattle.words.specs.Layout.{put_front}
use Rattle.ledger.specs.Answering.{kinds_of, printed, rendered}
use Rattle.slots.specs.Finding.{stamps_of}
use Rattle.readings.specs.Readings.{current, to_come}
use Rattle.readings.specs.Printing.{bytes_in, text_in}
use Rattle.page.specs.Holding.{ledger_in}
use Rattle.page.specs.Rendering.{Written}
use Rattle.readings.proofs.Advancing.{come_to_end}
use Rattle.page.proofs.Rendering.{end_length, end_rest, one_more_text, put_end, written_all, written_fits, written_more, written_start}
use Rattle.page.proofs.pages.Page.put_text.Goals as goal

pub slice_bounds-print-count : goal.slice_bounds-print-count
slice_bounds-print-count g c = c.loop-reading.invariant.2

pub loop-reading-init : goal.loop-reading-init
loop-reading-init g c =
    let p = c.args.self.now in
    let text = rendered (kinds_of g.S.WordForm.form g.S.Stamp.kind g.E.WordForm.form g.E.Entry.kind) (ledger_in g.S.WordForm.values g.E.WordForm.values p) in
    let out = c.args.out.now in
    let whole = c.reading-reading.ensures.whole.0 in
    (tt, tt, omega arith, refl, λ holds. (c.reading-reading.ensures.reads holds, λ fits. subst (λ (rest : List ℕ). Written text out out 0 rest) (ap (printed g.E.Entry.kind.prints) (sym whole)) (written_start text out)))

pub loop-reading-preserved : goal.loop-reading-preserved
loop-reading-preserved g c =
    let vs = g.S.WordForm.values in
    let es = g.E.WordForm.values in
    let k = stamps_of g.S.WordForm.form g.S.Stamp.kind in
    let p = c.args.self.now in
    let text = rendered (kinds_of g.S.WordForm.form g.S.Stamp.kind g.E.WordForm.form g.E.Entry.kind) (ledger_in g.S.WordForm.values g.E.WordForm.values p) in
    let prints = g.E.Entry.kind.prints in
    let r = c.loop-reading.reading in
    let t = c.next.new.self in
    let out = c.loop-reading.out in
    let was = c.args.out.now in
    let at = c.loop-reading.at in
    let before = c.loop-reading.invariant in
    let n = c.print-at.result in
    let part = c.print-at.new.space in
    let within : at ≤ length out = before.2 in
    let rest = take_rest out at in
    let new = put_end at out part within in
    let same : length part ≡ length (drop at out) = c.print-at.auto.space ∙ ap length rest in
    let long = end_length at out part within same in
    let short : n ≤ length (drop at out) = subst (λ (xs : List ℕ). n ≤ length xs) rest c.print-at.ensures.few.1 in (
      tt,
      tt,
      (let e = ap length new in let d = length-drop at out in omega arith),
      ap (drop (at + n)) new ∙ end_rest at n out part was within (c.print-at.ensures.rest ∙ ap (drop n) rest) before.3,
      λ holds.
          let old = before.4 holds in
          let s = c.in-Some.ensures.steps old.0 in
          let piece = text_in prints (current vs es k t) in
          let todo = printed prints (to_come vs es k t) in
          let more = one_more_text prints (to_come vs es k r) (to_come vs es k t) (current vs es k t) s.now_at s.left in (
            s.reads,
            λ fits.
                let w : Written text was out at (piece ++ todo) = subst (λ (z : List ℕ). Written text was out at z) more (old.1 fits) in
                let room = written_fits text was out at piece todo w fits in
                let count : n ≡ length piece = c.print-at.ensures.count s.reads ∙ ap (λ (xs : List ℕ). bytes_in piece (length xs)) rest ∙ ap (λ b. cond b (length piece) 0) (le-leb (length piece) (length (drop at out)) room) in
                let wrote = new ∙ ap (λ z. take at out ++ z) (c.print-at.ensures.wrote s.reads ∙ ap (put_front piece) rest) in
                written_more text was out _ at (at + n) piece todo w (ap (λ z. at + z) count) room wrote,
          ),
    )

pub returns : goal.returns
returns g c =
    let p = c.args.self.now in
    let text = rendered (kinds_of g.S.WordForm.form g.S.Stamp.kind g.E.WordForm.form g.E.Entry.kind) (ledger_in g.S.WordForm.values g.E.WordForm.values p) in
    let was = c.args.out.now in
    let before = c.loop-reading.invariant in
    record {
      wrote = λ holds fits.
          let old = before.4 holds in
          let s = c.in_default.ensures.steps old.0 in
          let none = ap (printed g.E.Entry.kind.prints) (come_to_end g.S.WordForm.values g.E.WordForm.values (stamps_of g.S.WordForm.form g.S.Stamp.kind) c.loop-reading.reading c.next.new.self s) in
          written_all text was c.loop-reading.out c.loop-reading.at (subst (λ (z : List ℕ). Written text was c.loop-reading.out c.loop-reading.at z) none (old.1 fits)) fits;
      rest = before.3;
    }

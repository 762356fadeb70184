use Rattle.std.proofs.Common.{◌≡◌, List, map, length, ap, ◌∙◌, sym, subst, rules}
use Rattle.ledger.specs.Ledger.{Apart}
use Rattle.ledger.specs.Paths.{Item, reading}
use Rattle.slots.specs.Rows.{rows_in}
use Rattle.readings.specs.Readings.{AnswersJust, Reads, rows_read, to_come}
use Rattle.readings.proofs.Advancing.{answers_just, new_reads, new_to_come}
use Rattle.ledger.specs.Answering.{kinds_of}
use Rattle.page.specs.Holding.{Holds, ledger_in}
use Rattle.page.proofs.pages.Page.reading.Goals as goal

pub returns : goal.returns
returns g c =
    let vs = g.S.WordForm.values in
    let es = g.E.WordForm.values in
    let p = c.args.self.now in
    let r = c.new.result in
    let k = (kinds_of g.S.WordForm.form g.S.Stamp.kind g.E.WordForm.form g.E.Entry.kind).stamps in
    let new = c.new.ensures in
    let rows : rows_read vs es r ≡ (ledger_in g.S.WordForm.values g.E.WordForm.values p).rows = ap (rows_in vs es) (new.0 ∙ c.held.ensures) in
    let come : to_come vs es k r ≡ reading k (ledger_in g.S.WordForm.values g.E.WordForm.values p).rows = new_to_come vs es k r new.1 (new.2 ∙ ap length (sym new.0)) ∙ ap (reading k) rows in
    let reads : Holds vs es g.E.Entry.kind.filler p → Reads vs es r = λ h. new_reads vs es k r new.1 (subst Apart (sym rows) h.apart) in
    record {
      rows = rows;
      reads = reads;
      whole = (come, search rules);
      walked = λ h. subst (λ (xs : List Item). AnswersJust vs es k r (map (λ (x : Item). x.stamp) xs)) come (answers_just vs es k r (reads h));
      few = search rules;
    }

use Rattle.std.proofs.Common.{◌≡◌, ◌<◌, true, leb, [], ◌∷◌, length, get_or, is_some, Some, sym, refl, ap, ◌∙◌, subst, arith, rules}
use Rattle.words.specs.Answers.{answer, ask}
use Rattle.words.specs.Layout.{put_front}
use Rattle.ledger.specs.Answering.{kinds_of, next_words}
use Rattle.ledger.specs.Calls.{blank}
use Rattle.ledger.specs.Laws.{next_unsent, outgoing, sent_next, with_rows}
use Rattle.ledger.specs.Ledger.{Row}
use Rattle.slots.specs.Finding.{FirstWith}
use Rattle.slots.specs.Rows.{next_in, rows_in}
use Rattle.slots.proofs.Scans.{row_there}
use Rattle.page.specs.Holding.{Holds, filled_in, ledger_in}
use Rattle.page.specs.Sending.{NextUnsent}
use Rattle.page.specs.Tokens.{granting}
use Rattle.page.proofs.Keeping.{filled_length, rows_length}
use Rattle.page.proofs.Sending.{apart_first, outgoing_is, sent_is, slot_at, slot_next, told_count}
use Rattle.page.proofs.pages.Page.send_next.Goals as goal

pub returns : goal.returns
returns g c =
    let vs = g.S.WordForm.values in
    let es = g.E.WordForm.values in
    let p = c.args.self.now in
    let k = kinds_of g.S.WordForm.form g.S.Stamp.kind g.E.WordForm.form g.E.Entry.kind in
    let l = ledger_in g.S.WordForm.values g.E.WordForm.values p in
    let rows = l.rows in
    let out = c.args.out.now in
    let space = length out in
    let u = c.in_ok-next.next in
    let i = u.at in
    let op = u.operation in
    let v = (get_or rows i (blank [])).stamp in
    let next : NextUnsent rows (Some u) = subst (λ xs. NextUnsent (rows_in vs es xs) (Some u)) c.held.ensures (subst (NextUnsent (rows_in vs es c.held.result.now)) c.in_ok-next.ensures.ok_part c.next_unsent.ensures.next) in
    let first : Holds vs es g.E.Entry.kind.filler p → FirstWith v rows (Some i) = λ h. (next.0, apart_first rows i (blank []) h.apart next.0, refl) in
    let ws = outgoing k op (Some (get_or rows i (blank []))) in
    let words : Holds vs es g.E.Entry.kind.filler p → ws ≡ next_words k l (next_unsent rows) = λ h. outgoing_is k l op v space i (first h) ∙ ap (next_words k l) (sym next.1) in
    let there : i < length (filled_in p) = let n = rows_length g.S.WordForm.values g.E.WordForm.values p in let m = filled_length p in let h = next.0 in omega arith in
    let x = slot_at (filled_in p) i there in
    let row = row_there vs es (filled_in p) i x.0 (blank []) there x.1 in
    let some_words : 0 < length ws = subst (λ (r : Row). 0 < length (outgoing k op (Some r))) (sym row) (slot_next vs es x.0 k op (ap next_in (sym row) ∙ next.2)) in
    let sixteen : is_some (next_unsent rows) ≡ true = ap is_some next.1 in
    let ens = c.send_at.ensures in
    record {
      answer = λ h. told_count c.ok_or-2.result c.send_at.result ws space c.ok_or-2.ensures.value (ens.answer h) some_words ∙ ap (λ z. granting length (answer (ask 15 (leb (length z) space) ∷ []) z)) (words h) ∙ ap (λ b. granting length (answer (ask 16 b ∷ ask 15 (leb (length (next_words k l (next_unsent rows))) space) ∷ []) (next_words k l (next_unsent rows)))) (sym sixteen);
      wrote = λ h. ens.wrote h ∙ ap (λ z. put_front z out) (words h);
      holds = λ h. ens.holds h ∙ sent_is k l op v space i (first h) ∙ ap (λ o. with_rows l (sent_next k space o rows)) (sym next.1);
      kept = ens.kept;
      refused = search rules;
      rest = search rules;
      stays = ens.stays;
    }

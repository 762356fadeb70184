use Rattle.std.proofs.Common.{◌≡◌, ℕ, ◌<◌, true, false, cond, leb, List, [], length, get_or, drop, set, Some, None, sym, refl, ap, ◌∙◌, subst, arith, rules}
use Rattle.std.proofs.lemmas.Bool.{cond-false}
use Rattle.std.specs.Option.{option_map}
use Rattle.words.specs.Layout.{put_front}
use Rattle.messages.specs.InWords as in_words
use Rattle.messages.specs.Model.{said}
use Rattle.ledger.specs.Calls.{blank}
use Rattle.ledger.specs.Laws.{outgoing, with_rows}
use Rattle.ledger.specs.Ledger.{Row}
use Rattle.slots.specs.Rows.{row_in, sent_row, unsent_in}
use Rattle.ledger.specs.Answering.{kinds_of}
use Rattle.page.specs.Filled.{Elsewhere}
use Rattle.page.specs.Holding.{Holds, ledger_in}
use Rattle.page.proofs.Keeping.{elsewhere_here, fills_here, row_here}
use Rattle.page.proofs.Sending.{count_fits, count_short, ok_none, ok_some, put_none, put_rest, sent_away, sent_stamp, slot_away, slot_no_mark, slot_no_words, slot_words, with_cleared, with_short, with_unmarked, write_fits, write_short}
use Rattle.page.proofs.pages.Page.send_at.Goals as goal

pub returns-in_err-message : goal.returns-in_err-message
returns-in_err-message g c =
    let vs = g.S.WordForm.values in
    let es = g.E.WordForm.values in
    let p = c.args.self.now in
    let k = kinds_of g.S.WordForm.form g.S.Stamp.kind g.E.WordForm.form g.E.Entry.kind in
    let l = ledger_in g.S.WordForm.values g.E.WordForm.values p in
    let i = c.args.i in
    let op = c.args.operation in
    let out = c.args.out.now in
    let x = c.index-held-i.result in
    let ws = outgoing k op (Some (get_or l.rows i (blank []))) in
    let row = row_here g.S.WordForm.values g.E.WordForm.values p i x c.requires c.held.result.now c.held.ensures c.index-held-i.is in
    let none : unsent_in op (row_in vs es x) ≡ None = sym c.unsent.ensures ∙ ap (option_map (said vs es)) c.in_err-message.was in
    let ws_is : ws ≡ [] = ap (λ (r : Row). outgoing k op (Some r)) row ∙ slot_no_words vs es x k op none in
    record {
      answer = λ h. search rules;
      wrote = λ h. sym (ap (λ z. put_front z out) ws_is ∙ put_none out);
      holds = λ h. with_unmarked l i op ws (length out) (row_in vs es x) row (slot_no_mark vs es x op none);
      kept = λ h. h;
      nothing = search rules;
      rest = search rules;
      stays = search rules;
    }

pub returns-in_err-n : goal.returns-in_err-n
returns-in_err-n g c =
    let vs = g.S.WordForm.values in
    let es = g.E.WordForm.values in
    let p = c.args.self.now in
    let k = kinds_of g.S.WordForm.form g.S.Stamp.kind g.E.WordForm.form g.E.Entry.kind in
    let l = ledger_in g.S.WordForm.values g.E.WordForm.values p in
    let i = c.args.i in
    let op = c.args.operation in
    let out = c.args.out.now in
    let space = length out in
    let x = c.index-held-i.result in
    let ws = outgoing k op (Some (get_or l.rows i (blank []))) in
    let row = row_here g.S.WordForm.values g.E.WordForm.values p i x c.requires c.held.result.now c.held.ensures c.index-held-i.is in
    let message = said vs es c.in_ok-message.message in
    let words = in_words.in_words k.stamps.form k.entries.form message in
    let some : unsent_in op (row_in vs es x) ≡ Some message = sym c.unsent.ensures ∙ ap (option_map (said vs es)) c.in_ok-message.was in
    let ws_is : ws ≡ words = ap (λ (r : Row). outgoing k op (Some r)) row ∙ slot_words vs es x k op message some in
    let none = sym c.ok.ensures.value ∙ c.in_err-n.was in
    let short : Holds vs es g.E.Entry.kind.filler p → leb (length ws) space ≡ false = λ h.
    ap (λ (z : List ℕ). leb (length z) space) ws_is ∙ write_short c.write.result (in_words.under_itself k.stamps.form message) (leb (length words) space) (length words) none c.write.ensures.answer (slot_away vs es x k.stamps.form op message (elsewhere_here vs es p i x c.requires c.held.result.now c.held.ensures c.index-held-i.is h) some) in
    let same : c.write.new.space ≡ out = c.write.ensures.wrote ∙ ap (λ b. cond b (put_front words out) out) (ok_none c.write.result none) in
    record {
      answer = λ h. c.from_residual-in_err-n.ensures ∙ count_short ws space (short h);
      wrote = λ h. same ∙ sym (cond-false (leb (length ws) space) _ out (short h));
      holds = λ h. with_short l i op ws space (short h);
      kept = λ h. h;
      nothing = λ e. (refl, same);
      rest = search rules;
      stays = search rules;
    }

pub returns : goal.returns
returns g c =
    let vs = g.S.WordForm.values in
    let es = g.E.WordForm.values in
    let p = c.args.self.now in
    let k = kinds_of g.S.WordForm.form g.S.Stamp.kind g.E.WordForm.form g.E.Entry.kind in
    let l = ledger_in g.S.WordForm.values g.E.WordForm.values p in
    let i = c.args.i in
    let op = c.args.operation in
    let out = c.args.out.now in
    let space = length out in
    let x = c.index-held-i.result in
    let ws = outgoing k op (Some (get_or l.rows i (blank []))) in
    let row = row_here g.S.WordForm.values g.E.WordForm.values p i x c.requires c.held.result.now c.held.ensures c.index-held-i.is in
    let message = said vs es c.in_ok-message.message in
    let words = in_words.in_words k.stamps.form k.entries.form message in
    let some : unsent_in op (row_in vs es x) ≡ Some message = sym c.unsent.ensures ∙ ap (option_map (said vs es)) c.in_ok-message.was in
    let ws_is : ws ≡ words = ap (λ (r : Row). outgoing k op (Some r)) row ∙ slot_words vs es x k op message some in
    let n = c.in_ok-n.n in
    let some_n = sym c.ok.ensures.value ∙ c.in_ok-n.was in
    let fits = write_fits c.write.result (in_words.under_itself k.stamps.form message) (leb (length words) space) (length words) n some_n c.write.ensures.answer in
    let long : leb (length ws) space ≡ true = ap (λ (z : List ℕ). leb (length z) space) ws_is ∙ fits.0 in
    let wrote : c.write.new.space ≡ put_front words out = c.write.ensures.wrote ∙ ap (λ b. cond b (put_front words out) out) (ok_some c.write.result n some_n) in
    let some_words : 0 < length words = omega arith in
    record {
      answer = λ h. ap Some (fits.1 ∙ ap length (sym ws_is)) ∙ count_fits ws space (subst (λ (z : List ℕ). 0 < length z) (sym ws_is) some_words) long;
      wrote = λ h. wrote ∙ ap (λ z. put_front z out) (sym ws_is);
      holds = λ h. c.put.ensures.ledger ∙ ap (λ r. with_rows l (set l.rows i r)) (c.sent.ensures.row ∙ ap (sent_row op) (sym row)) ∙ with_cleared l i op ws space long;
      kept = λ holds.
          c.put.ensures.kept holds (ap (λ (q : Row). q.stamp) c.sent.ensures.row ∙ sent_stamp op (row_in vs es x) ∙ ap (λ (q : Row). q.stamp) (sym row))
          (subst (λ (q : Row). Elsewhere q.stamp q.node) (sym c.sent.ensures.row) (sent_away op (row_in vs es x) (elsewhere_here vs es p i x c.requires c.held.result.now c.held.ensures c.index-held-i.is holds)))
          (c.sent.ensures.fills (fills_here vs es p i x c.requires c.held.result.now c.held.ensures c.index-held-i.is holds));
      nothing = search rules;
      rest = (let e = fits.1 in omega arith, ap (drop n) wrote ∙ put_rest words out n fits.1 fits.0);
      stays = c.put.ensures.stays;
    }

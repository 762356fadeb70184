use Rattle.std.proofs.Common.{◌≡◌, cond, leb, [], length, get_or, Some, None, unwrap_or, sym, ap, ◌∙◌, subst, rules}
use Rattle.std.specs.Option.{option_map}
use Rattle.words.specs.Layout.{put_front}
use Rattle.ledger.specs.Calls.{blank}
use Rattle.ledger.specs.Laws.{outgoing}
use Rattle.ledger.specs.Ledger.{row_of}
use Rattle.slots.specs.Finding.{FirstWith}
use Rattle.slots.specs.Rows.{rows_in}
use Rattle.ledger.specs.Answering.{kinds_of}
use Rattle.page.specs.Holding.{filled_in, ledger_in}
use Rattle.page.specs.Tokens.{stamp_named}
use Rattle.page.proofs.Inserting.{made_is}
use Rattle.page.proofs.Sending.{count_is, no_stamp_row, none_after, none_sent, outgoing_is, put_is, put_none, sent_is, unread_none}
use Rattle.page.proofs.pages.Page.send.Goals as goal

pub returns-in_default : goal.returns-in_default
returns-in_default g c =
    let vs = g.S.WordForm.values in
    let p = c.args.self.now in
    let k = kinds_of g.S.WordForm.form g.S.Stamp.kind g.E.WordForm.form g.E.Entry.kind in
    let l = ledger_in g.S.WordForm.values g.E.WordForm.values p in
    let out = c.args.out.now in
    let op = c.args.token.operation in
    let v = stamp_named g.S.WordForm.form.count c.args.token in
    let reads = g.S.WordForm.form.reads in
    let none = no_stamp_row vs g.E.WordForm.values reads g.met.S.WordForm.written_reads (filled_in p) v (unread_none vs (reads v) v (ap (option_map vs) (sym c.in_default.is) ∙ c.stamp-named.ensures)) in
    record {
      answer = λ h. sym (ap length (none_sent k l op v (length out) none));
      wrote = λ h. sym (ap (λ ws. put_front ws out) (none_sent k l op v (length out) none) ∙ put_none out);
      holds = λ h. none_after k l op v (length out) none;
      kept = λ h. h;
      nothing = search rules;
      rest = search rules;
      stays = search rules;
    }

pub returns-in-None-clause-holds : goal.returns-in-None-clause-holds
returns-in-None-clause-holds g c = λ h.
    let vs = g.S.WordForm.values in
    let es = g.E.WordForm.values in
    let p = c.args.self.now in
    let v = stamp_named g.S.WordForm.form.count c.args.token in
    let is : vs c.in-Some.stamp ≡ v = made_is vs c.stamp-named.result c.in-Some.stamp (g.S.WordForm.form.reads v) v c.stamp-named.ensures c.in-Some.is in
    let none : row_of v (ledger_in g.S.WordForm.values g.E.WordForm.values p).rows ≡ None = ap (λ z. row_of z (ledger_in g.S.WordForm.values g.E.WordForm.values p).rows) (sym is) ∙ ap (λ xs. row_of (vs c.in-Some.stamp) (rows_in vs es xs)) (sym c.held.ensures) ∙ c.in-None.ensures.first in
    none_after (kinds_of g.S.WordForm.form g.S.Stamp.kind g.E.WordForm.form g.E.Entry.kind) (ledger_in g.S.WordForm.values g.E.WordForm.values p) c.args.token.operation v (length c.args.out.now) none

pub returns-in-Some-seek : goal.returns-in-Some-seek
returns-in-Some-seek g c =
    let vs = g.S.WordForm.values in
    let es = g.E.WordForm.values in
    let p = c.args.self.now in
    let k = kinds_of g.S.WordForm.form g.S.Stamp.kind g.E.WordForm.form g.E.Entry.kind in
    let l = ledger_in g.S.WordForm.values g.E.WordForm.values p in
    let out = c.args.out.now in
    let space = length out in
    let op = c.args.token.operation in
    let v = stamp_named g.S.WordForm.form.count c.args.token in
    let i = c.in-Some-seek.i in
    let is : vs c.in-Some.stamp ≡ v = made_is vs c.stamp-named.result c.in-Some.stamp (g.S.WordForm.form.reads v) v c.stamp-named.ensures c.in-Some.is in
    let first : FirstWith v l.rows (Some i) = subst (λ z. FirstWith z l.rows (Some i)) is (subst (λ xs. FirstWith (vs c.in-Some.stamp) (rows_in vs es xs) (Some i)) c.held.ensures c.in-Some-seek.ensures.first) in
    let words = outgoing_is k l op v space i first in
    let ws = outgoing k op (Some (get_or l.rows i (blank []))) in
    record {
      answer = λ h. c.unwrap_or.ensures ∙ ap (λ o. unwrap_or o 0) (c.send_at.ensures.answer h) ∙ count_is ws space ∙ ap (λ z. length (cond (leb (length z) space) z [])) words;
      wrote = λ h. c.send_at.ensures.wrote h ∙ put_is ws out ∙ ap (λ z. put_front (cond (leb (length z) space) z []) out) words;
      holds = λ h. c.send_at.ensures.holds h ∙ sent_is k l op v space i first;
      kept = c.send_at.ensures.kept;
      nothing = search rules;
      rest = search rules;
      stays = c.send_at.ensures.stays;
    }

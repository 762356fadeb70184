use Rattle.std.proofs.Common.{◌≡◌, not, [], set, Some, sym, ap, ◌∙◌, subst, rules}
use Rattle.words.specs.Answers.Answer.{granted}
use Rattle.messages.specs.Model.{said, stamp_of}
use Rattle.ledger.specs.Answering.{holds}
use Rattle.ledger.specs.Calls.{blank, merge}
use Rattle.ledger.specs.Laws.{with_rows}
use Rattle.ledger.specs.Ledger.{Row, row_of}
use Rattle.ledger.specs.Receive.{ledger_questions}
use Rattle.ledger.proofs.Questions.{yes_answer}
use Rattle.slots.specs.Rows.{row_in}
use Rattle.slots.proofs.Scans.{first_row}
use Rattle.page.specs.Filled.{Elsewhere}
use Rattle.page.specs.Holding.{ledger_in}
use Rattle.page.specs.Receiving.{with_message}
use Rattle.page.proofs.Calls.{denied, made}
use Rattle.page.proofs.Keeping.{elsewhere_here, fills_here, row_here}
use Rattle.page.proofs.Receiving.{holds_there, merged_away, none_other, other_there, rows_again, rows_merged, stamp_kept}
use Rattle.page.proofs.pages.Page.merge.Goals as goal

pub returns-then-not-admits : goal.returns-then-not-admits
returns-then-not-admits g c =
    let p = c.args.self.now in
    let l = ledger_in g.S.WordForm.values g.E.WordForm.values p in
    let m = said g.S.WordForm.values g.E.WordForm.values c.args.message.now in
    let x = c.index-held-i.result in
    let first = c.requires.1 in
    let here = row_here g.S.WordForm.values g.E.WordForm.values p c.args.i x c.requires.0 c.held.result.now c.held.ensures c.index-held-i.is in
    let row : row_of (stamp_of m) l.rows ≡ _ = first_row (stamp_of m) l.rows c.args.i (blank []) first.0 first.1 first.2 ∙ ap Some here in
    let no_nine = other_there l m (not (holds l m)) _ row (sym c.admits.ensures ∙ c.if-not-admits.true) in
    record {
      answer = no_nine;
      holds = denied (ledger_questions l m) (not (holds l m)) (λ z. z) (with_message l m) _ _ no_nine;
      kept = λ away h. h;
      refused = search rules;
      stays = search rules;
    }

pub returns-then-holds : goal.returns-then-holds
returns-then-holds g c =
    let p = c.args.self.now in
    let l = ledger_in g.S.WordForm.values g.E.WordForm.values p in
    let m = said g.S.WordForm.values g.E.WordForm.values c.args.message.now in
    let x = c.index-held-i.result in
    let first = c.requires.1 in
    let here = row_here g.S.WordForm.values g.E.WordForm.values p c.args.i x c.requires.0 c.held.result.now c.held.ensures c.index-held-i.is in
    let row : row_of (stamp_of m) l.rows ≡ _ = first_row (stamp_of m) l.rows c.args.i (blank []) first.0 first.1 first.2 ∙ ap Some here in
    let other = sym c.admits.ensures ∙ c.if-not-admits.false in
    let again = sym c.holds.ensures ∙ c.if-holds.true in
    let y = none_other l m _ row other in
    record {
      answer = sym (yes_answer (ledger_questions l m) (not (holds l m)) y ∙ ap (λ b. granted (not b)) (holds_there l m _ row ∙ again));
      holds = ap (with_rows l) (rows_again l.rows m c.args.i _ first here other again) ∙ made (ledger_questions l m) (not (holds l m)) (λ z. z) (with_message l m) y;
      kept = λ away h. h;
      refused = search rules;
      stays = search rules;
    }

pub returns : goal.returns
returns g c =
    let p = c.args.self.now in
    let l = ledger_in g.S.WordForm.values g.E.WordForm.values p in
    let m = said g.S.WordForm.values g.E.WordForm.values c.args.message.now in
    let i = c.args.i in
    let x = c.index-held-i.result in
    let first = c.requires.1 in
    let here = row_here g.S.WordForm.values g.E.WordForm.values p i x c.requires.0 c.held.result.now c.held.ensures c.index-held-i.is in
    let row : row_of (stamp_of m) l.rows ≡ _ = first_row (stamp_of m) l.rows i (blank []) first.0 first.1 first.2 ∙ ap Some here in
    let other = sym c.admits.ensures ∙ c.if-not-admits.false in
    let new = sym c.holds.ensures ∙ c.if-holds.false in
    let y = none_other l m _ row other in
    record {
      answer = sym (yes_answer (ledger_questions l m) (not (holds l m)) y ∙ ap (λ b. granted (not b)) (holds_there l m _ row ∙ new));
      holds = c.put.ensures.ledger ∙ ap (λ r. with_rows l (set l.rows i r)) (c.with.ensures.row ∙ ap (merge m) (sym here)) ∙ ap (with_rows l) (rows_merged l.rows m i first) ∙ made (ledger_questions l m) (not (holds l m)) (λ z. z) (with_message l m) y;
      kept = λ away holds.
          let r = row_in g.S.WordForm.values g.E.WordForm.values x in
          let stamp = ap (λ (q : Row). q.stamp) (sym here) in
          let was = elsewhere_here g.S.WordForm.values g.E.WordForm.values p i x c.requires.0 c.held.result.now c.held.ensures c.index-held-i.is holds in
          c.put.ensures.kept holds (ap (λ (q : Row). q.stamp) c.with.ensures.row ∙ stamp_kept m r ∙ stamp)
          (subst (λ (q : Row). Elsewhere q.stamp q.node) (sym c.with.ensures.row) (merged_away m r (stamp ∙ first.2) away was))
          (c.with.ensures.fills (fills_here g.S.WordForm.values g.E.WordForm.values p i x c.requires.0 c.held.result.now c.held.ensures c.index-held-i.is holds));
      refused = search rules;
      stays = c.put.ensures.stays;
    }

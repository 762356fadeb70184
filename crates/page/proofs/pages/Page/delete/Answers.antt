use Rattle.std.proofs.Common.{◌≡◌, ◌<◌, true, false, not, [], ◌∷◌, length, set, Some, sym, ap, ◌∙◌, subst, arith, rules}
use Rattle.words.specs.Answers.{answer, ask}
use Rattle.words.specs.Answers.Answer.{granted, refused}
use Rattle.messages.specs.declared.model.Operation.TheVariants.{Delete}
use Rattle.ledger.specs.Laws.{delete_questions, deleted, with_rows}
use Rattle.ledger.specs.Ledger.{Row, struck_in, struck_of}
use Rattle.ledger.proofs.Histories.{AllYes}
use Rattle.ledger.proofs.Questions.{all_yes, answer_past}
use Rattle.slots.specs.Finding.{FirstWith}
use Rattle.slots.specs.Rows.{rows_in, struck_row}
use Rattle.slots.proofs.Scans.{slot_found}
use Rattle.page.specs.Filled.{Elsewhere}
use Rattle.page.specs.Holding.{ledger_in}
use Rattle.page.specs.Tokens.{granting, token_for}
use Rattle.page.proofs.Calls.{allowed, denied, made}
use Rattle.page.proofs.Deleting.{rows_struck, standing_questions}
use Rattle.page.proofs.Keeping.{elsewhere_here, filled_length, fills_here, row_here}
use Rattle.page.proofs.pages.Page.delete.Goals as goal

pub returns-then-is_struck : goal.returns-then-is_struck
returns-then-is_struck g c =
    let vs = g.S.WordForm.values in
    let es = g.E.WordForm.values in
    let l = ledger_in g.S.WordForm.values g.E.WordForm.values c.args.self.now in
    let v = vs c.args.stamp.now in
    let xs = c.held-held.result.now in
    let said = c.in_ok-i.ensures.answer ∙ ap (λ ys. answer (standing_questions (rows_in vs es ys) v) tt) c.held-held.ensures in
    let row = slot_found vs es xs v c.in_ok-i.i c.index-held-i.result c.in_ok-i.ensures.there.1 c.in_ok-i.ensures.there.0 c.index-held-i.is in
    let struck : struck_of v l.rows ≡ true = ap (λ ys. struck_of v (rows_in vs es ys)) (sym c.held-held.ensures) ∙ ap struck_in row ∙ sym c.is_struck.ensures ∙ c.if-is_struck.true in
    let fourteen = ask 14 (not (struck_of v l.rows)) ∷ [] in
    let no : refused 14 _ ≡ answer (delete_questions l v) v = sym (answer_past (standing_questions l.rows v) fourteen v (all_yes (standing_questions l.rows v) tt tt said) ∙ ap (λ b. answer (ask 14 (not b) ∷ []) v) struck) in
    record {
      answer = ap (granting (token_for Delete)) no;
      holds = denied (delete_questions l v) v (token_for Delete) (deleted l v) _ _ no;
      kept = λ h. h;
      refused = search rules;
      stays = search rules;
    }

pub returns : goal.returns
returns g c =
    let vs = g.S.WordForm.values in
    let es = g.E.WordForm.values in
    let p = c.args.self.now in
    let l = ledger_in g.S.WordForm.values g.E.WordForm.values p in
    let v = vs c.args.stamp.now in
    let xs = c.held-held.result.now in
    let i = c.in_ok-i.i in
    let x = c.index-held-i.result in
    let said = c.in_ok-i.ensures.answer ∙ ap (λ ys. answer (standing_questions (rows_in vs es ys) v) tt) c.held-held.ensures in
    let row = slot_found vs es xs v i x c.in_ok-i.ensures.there.1 c.in_ok-i.ensures.there.0 c.index-held-i.is in
    let struck : struck_of v l.rows ≡ false = ap (λ ys. struck_of v (rows_in vs es ys)) (sym c.held-held.ensures) ∙ ap struck_in row ∙ sym c.is_struck.ensures ∙ c.if-is_struck.false in
    let both = all_yes (standing_questions l.rows v) tt tt said in
    let yes : AllYes (delete_questions l v) = (both.0, (both.1.0, (ap not struck, tt))) in
    let first : FirstWith v l.rows (Some i) = subst (λ ys. FirstWith v (rows_in vs es ys) (Some i)) c.held-held.ensures c.in_ok-i.ensures.there.1 in
    let h : i < p.filled = let n = filled_length p in let m = ap length c.held-held.ensures in omega (arith, c.in_ok-i.ensures.there.0) in
    let here = row_here g.S.WordForm.values g.E.WordForm.values p i x h xs c.held-held.ensures c.index-held-i.is in
    record {
      answer = ap granted c.new.ensures ∙ allowed (delete_questions l v) v (token_for Delete) (deleted l v) yes;
      holds = c.put.ensures.ledger ∙ ap (λ r. with_rows l (set l.rows i r)) (c.struck_here.ensures.row ∙ ap struck_row (sym here)) ∙ ap (with_rows l) (rows_struck l.rows v i first) ∙ made (delete_questions l v) v (token_for Delete) (deleted l v) yes;
      kept = λ holds.
          c.put.ensures.kept holds (ap (λ (r : Row). r.stamp) (c.struck_here.ensures.row ∙ ap struck_row (sym here)))
          (subst (λ (r : Row). Elsewhere r.stamp r.node) (sym c.struck_here.ensures.row) (elsewhere_here g.S.WordForm.values g.E.WordForm.values p i x h xs c.held-held.ensures c.index-held-i.is holds))
          (c.struck_here.ensures.fills (fills_here g.S.WordForm.values g.E.WordForm.values p i x h xs c.held-held.ensures c.index-held-i.is holds));
      refused = search rules;
      stays = c.put.ensures.stays;
    }

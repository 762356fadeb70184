use Rattle.std.proofs.Common.{◌<◌, not, length, Some, sym, ap, ◌∙◌, subst, arith, rules}
use Rattle.words.specs.Answers.{is_new}
use Rattle.messages.proofs.Asking.{handed_on, stops}
use Rattle.messages.specs.Model.{said}
use Rattle.ledger.specs.Answering.{holds, kinds_of}
use Rattle.ledger.specs.Laws.{received}
use Rattle.ledger.specs.Receive.{ledger_questions, message_in, receive_questions, word_questions}
use Rattle.ledger.proofs.Questions.{all_yes, granted_is}
use Rattle.slots.specs.Finding.{FirstWith}
use Rattle.slots.specs.Rows.{rows_in}
use Rattle.page.specs.Holding.{ledger_in}
use Rattle.page.specs.Receiving.{HangsElsewhere}
use Rattle.page.proofs.Calls.{denied}
use Rattle.page.proofs.Keeping.{filled_length}
use Rattle.page.proofs.Receiving.{after_receive_is, read_elsewhere, receive_answer_is, said_stamp}
use Rattle.page.proofs.pages.Page.receive.Goals as goal

pub returns-in_err-message : goal.returns-in_err-message
returns-in_err-message g c =
    let p = c.args.self.now in
    let k = kinds_of g.S.WordForm.form g.S.Stamp.kind g.E.WordForm.form g.E.Entry.kind in
    let l = ledger_in g.S.WordForm.values g.E.WordForm.values p in
    let ws = c.args.words.now in
    let m = message_in k ws in
    let first_no = stops (word_questions k ws) (ledger_questions l m) (not (holds l m)) m _ _ c.in_err-message.ensures.answer in
    record {
      answer = handed_on is_new c.from_residual.result c.in_err-message.field-0.0 c.from_residual.ensures.1 ∙ first_no;
      holds = denied (receive_questions k l ws) (not (holds l m)) (λ x. x) (received k l ws) _ _ first_no;
      kept = λ h. h;
      refused = search rules;
      stays = search rules;
    }

pub merge-requires : goal.merge-requires
merge-requires g c =
    let vs = g.S.WordForm.values in
    let es = g.E.WordForm.values in
    let p = c.args.self.now in
    let k = kinds_of g.S.WordForm.form g.S.Stamp.kind g.E.WordForm.form g.E.Entry.kind in
    let ws = c.args.words.now in
    let m = said vs es c.in_ok-message.message in
    let i = c.in-Some.i in
    let named = ap vs c.stamp.ensures ∙ sym (said_stamp vs es c.in_ok-message.message) in
    let h : i < p.filled = let n = filled_length p in let e = ap length c.held.ensures in omega (arith, c.in-Some.ensures.within) in
    (h, subst (λ v. FirstWith v (ledger_in g.S.WordForm.values g.E.WordForm.values p).rows (Some i)) named (subst (λ ys. FirstWith (vs c.stamp.result) (rows_in vs es ys) (Some i)) c.held.ensures c.in-Some.ensures.first))

pub returns-in-None : goal.returns-in-None
returns-in-None g c =
    let p = c.args.self.now in
    let k = kinds_of g.S.WordForm.form g.S.Stamp.kind g.E.WordForm.form g.E.Entry.kind in
    let l = ledger_in g.S.WordForm.values g.E.WordForm.values p in
    let ws = c.args.words.now in
    let m = said g.S.WordForm.values g.E.WordForm.values c.in_ok-message.message in
    let read = c.in_ok-message.ensures.answer in
    let passed = all_yes (word_questions k ws) (message_in k ws) m read in
    let is = granted_is (word_questions k ws) (message_in k ws) m read in
    record {
      answer = c.accept.ensures.answer ∙ receive_answer_is k ws m passed is l;
      holds = c.accept.ensures.holds ∙ after_receive_is k ws m passed is l;
      kept = c.accept.ensures.kept (subst HangsElsewhere (sym is) (read_elsewhere k ws passed));
      refused = c.accept.ensures.refused;
      stays = c.accept.ensures.stays;
    }

pub returns-in-Some : goal.returns-in-Some
returns-in-Some g c =
    let p = c.args.self.now in
    let k = kinds_of g.S.WordForm.form g.S.Stamp.kind g.E.WordForm.form g.E.Entry.kind in
    let l = ledger_in g.S.WordForm.values g.E.WordForm.values p in
    let ws = c.args.words.now in
    let m = said g.S.WordForm.values g.E.WordForm.values c.in_ok-message.message in
    let read = c.in_ok-message.ensures.answer in
    let passed = all_yes (word_questions k ws) (message_in k ws) m read in
    let is = granted_is (word_questions k ws) (message_in k ws) m read in
    record {
      answer = c.merge.ensures.answer ∙ receive_answer_is k ws m passed is l;
      holds = c.merge.ensures.holds ∙ after_receive_is k ws m passed is l;
      kept = c.merge.ensures.kept (subst HangsElsewhere (sym is) (read_elsewhere k ws passed));
      refused = c.merge.ensures.refused;
      stays = c.merge.ensures.stays;
    }

use Rattle.std.proofs.Common.{◌≡◌, ℕ, List, [], ◌∷◌, sym, ap, ◌∙◌}
use Rattle.words.specs.Answers.{answer, ask}
use Rattle.words.specs.Answers.Answer.{granted}
use Rattle.words.specs.Forms.{Form}
use Rattle.messages.specs.FromWords.{body_questions, kinds_match, message_in, operates, read_answer}
use Rattle.messages.proofs.Asking.{passed}
use Rattle.messages.proofs.reading.read_message.Goals as goal

-- once the head has passed, its words decide
body_decides : (sf ef : Form) (ws us : List ℕ) → granted us ≡ answer (ask 3 (operates ws) ∷ ask 4 (kinds_match sf ef ws) ∷ []) ws
    → answer (body_questions sf ef us) (message_in sf.count ef.count us) ≡ read_answer sf ef ws
body_decides sf ef ws us e =
    let p = passed (ask 3 (operates ws) ∷ ask 4 (kinds_match sf ef ws) ∷ []) (body_questions sf ef ws) ws us (message_in sf.count ef.count ws) e in
    ap (λ w. answer (body_questions sf ef w) (message_in sf.count ef.count w)) p.1 ∙ sym p.0

pub returns-in-Insert : goal.returns-in-Insert
returns-in-Insert g c =
    c.read_insertion.ensures ∙ body_decides g.S.WordForm.form g.E.WordForm.form c.args.words.now c.in_ok-headed.headed.words.now c.in_ok-headed.ensures

pub returns-in-Delete : goal.returns-in-Delete
returns-in-Delete g c =
    c.read_deletion.ensures ∙ body_decides g.S.WordForm.form g.E.WordForm.form c.args.words.now c.in_ok-headed.headed.words.now c.in_ok-headed.ensures

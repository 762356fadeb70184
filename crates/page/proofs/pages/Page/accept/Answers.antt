use Rattle.std.proofs.Common.{◌<◌, not, [], ◌∷◌, ◌++◌, length, sym, ap, ◌∙◌, arith}
use Rattle.messages.specs.Model.{said}
use Rattle.ledger.specs.Answering.{holds}
use Rattle.ledger.specs.Laws.{with_rows}
use Rattle.ledger.specs.Receive.{ledger_questions}
use Rattle.page.specs.Holding.{ledger_in}
use Rattle.page.specs.Receiving.{with_message}
use Rattle.page.proofs.Calls.{made}
use Rattle.page.proofs.Keeping.{rows_length}
use Rattle.page.proofs.Receiving.{some_room}
use Rattle.page.proofs.Updating.{added_push}
use Rattle.page.proofs.pages.Page.accept.Goals as goal

pub returns-clause-holds : goal.returns-clause-holds
returns-clause-holds g c =
    let p = c.args.self.now in
    let l = ledger_in g.S.WordForm.values g.E.WordForm.values p in
    let m = said g.S.WordForm.values g.E.WordForm.values c.args.message.now in
    let free : length l.rows < l.slots = let n = rows_length g.S.WordForm.values g.E.WordForm.values p in omega (arith, c.if-self.false) in
    c.push.ensures.ledger
    ∙ ap (λ r. with_rows l (l.rows ++ (r ∷ []))) c.received.ensures.row
    ∙ ap (with_rows l) (sym (added_push m l.rows c.requires))
    ∙ made (ledger_questions l m) (not (holds l m)) (λ x. x) (with_message l m) (some_room l m c.requires free)

use Rattle.std.proofs.Common.{rules, ◌≡◌, true, None, Option, is_some, sym, ap, ◌∙◌, subst}
use Rattle.std.proofs.lemmas.Iterator.{YieldsList-from_slice}
use Rattle.std.proofs.lemmas.Iterator.Search.{position_from_yields_List}
use Rattle.messages.specs.declared.model.Operation.{Operation}
use Rattle.ledger.proofs.Same.{never}
use Rattle.slots.specs.Rows.{next_in, row_in, rows_in}
use Rattle.page.specs.Sending.{NextUnsent}
use Rattle.page.proofs.Sending.{Finds, finds, next_found, to_send}
use Rattle.page.proofs.unsent.next_unsent.Goals as goal

pub returns-in_err-at-clause-next : goal.returns-in_err-at-clause-next
returns-in_err-at-clause-next g c =
    let vs = g.S.WordForm.values in
    let es = g.E.WordForm.values in
    let xs = c.args.slots.now in
    let is = position_from_yields_List (to_send vs es) _ _ c.position.result c.position.ensures.ran (YieldsList-from_slice xs cc) (λ x b q k. search rules) in
    let none = subst (Finds vs es xs) (sym is ∙ c.in_err-at.was) (finds vs es xs) in
    subst (NextUnsent (rows_in vs es xs)) (sym c.from_residual.ensures) none

pub returns-in_err-operation-clause-next : goal.returns-in_err-operation-clause-next
returns-in_err-operation-clause-next g c =
    let vs = g.S.WordForm.values in
    let es = g.E.WordForm.values in
    let xs = c.args.slots.now in
    let x = c.index-slots-at.result in
    let is = position_from_yields_List (to_send vs es) _ _ c.position.result c.position.ensures.ran (YieldsList-from_slice xs cc) (λ x b q k. search rules) in
    let found = subst (Finds vs es xs) (sym is ∙ c.in_ok-at.was) (finds vs es xs) in
    let yes : is_some (next_in (row_in vs es x)) ≡ true = ap (to_send vs es) c.index-slots-at.is ∙ found.2 x in
    let no : next_in (row_in vs es x) ≡ None = sym c.next_unsent.ensures ∙ c.in_err-operation.was in
    absurd (never _ yes (ap (λ (o : Option Operation). is_some o) no))

pub returns-clause-next : goal.returns-clause-next
returns-clause-next g c =
    let vs = g.S.WordForm.values in
    let es = g.E.WordForm.values in
    let xs = c.args.slots.now in
    let x = c.index-slots-at.result in
    let is = position_from_yields_List (to_send vs es) _ _ c.position.result c.position.ensures.ran (YieldsList-from_slice xs cc) (λ x b q k. search rules) in
    let found = subst (Finds vs es xs) (sym is ∙ c.in_ok-at.was) (finds vs es xs) in
    next_found vs es xs c.in_ok-at.at x c.in_ok-operation.operation found c.index-slots-at.is (sym c.next_unsent.ensures ∙ c.in_ok-operation.was)

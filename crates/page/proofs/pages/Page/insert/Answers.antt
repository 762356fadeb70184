use Rattle.std.proofs.Common.{[], ◌∷◌, ap, ◌∙◌}
use Rattle.std.specs.Option.{option_map}
use Rattle.words.specs.Answers.{ask}
use Rattle.messages.specs.declared.model.Operation.TheVariants.{Insert}
use Rattle.ledger.specs.Answering.{fresh_stamp, kinds_of, with_new}
use Rattle.ledger.specs.Laws.{insert_questions, spot_questions}
use Rattle.ledger.proofs.Histories.{fresh_not_held}
use Rattle.ledger.proofs.Questions.{all_yes, granted_is, none_refused}
use Rattle.page.specs.Filled.{under_itself}
use Rattle.page.specs.Holding.{ledger_in}
use Rattle.page.specs.Inserting.{fresh_questions, spot_of}
use Rattle.page.specs.Tokens.{token_for}
use Rattle.page.proofs.Calls.{made}
use Rattle.page.proofs.Inserting.{all_granted, place_away, rows_entered}
use Rattle.page.proofs.pages.Page.insert.Goals as goal

pub place_for-place-requires : goal.place_for-place-requires
place_for-place-requires g c =
    let l = ledger_in g.S.WordForm.values g.E.WordForm.values c.args.self.now in
    let spot = spot_of (option_map g.S.WordForm.values c.args.named) in
    none_refused (spot_questions l spot) (all_yes (spot_questions l spot) tt tt c.in_ok-check_spot.ensures)

pub returns-clause-holds : goal.returns-clause-holds
returns-clause-holds g c = λ holds.
    let p = c.args.self.now in
    let k = kinds_of g.S.WordForm.form g.S.Stamp.kind g.E.WordForm.form g.E.Entry.kind in
    let l = ledger_in g.S.WordForm.values g.E.WordForm.values p in
    let values = c.args.values.now in
    let s = g.S.WordForm.values c.in_ok-stamp.stamp in
    let spot = spot_of (option_map g.S.WordForm.values c.args.named) in
    let eight = ask 8 (k.entries.form.reads values) ∷ [] in
    let entry = g.E.WordForm.values c.in_ok-entry.entry in
    let entry_is = granted_is eight values entry c.in_ok-entry.ensures in
    let reads = all_yes eight values entry c.in_ok-entry.ensures in
    let stands = all_yes (spot_questions l spot) tt tt c.in_ok-check_spot.ensures in
    let fresh = all_yes (fresh_questions k l) (fresh_stamp k l) s c.in_ok-stamp.ensures.answer in
    c.enter.ensures.ledger
    ∙ rows_entered k l spot values s _ c.in_ok-stamp.ensures.fresh (λ i. record { place = c.place_for-place.ensures holds i; entry = entry_is i })
    ∙ made (insert_questions k l spot values) (fresh_stamp k l) (token_for Insert) (with_new k l spot values) (all_granted k l spot values reads.0 stands fresh)

pub returns-clause-kept : goal.returns-clause-kept
returns-clause-kept g c = λ holds.
    let p = c.args.self.now in
    let k = kinds_of g.S.WordForm.form g.S.Stamp.kind g.E.WordForm.form g.E.Entry.kind in
    let l = ledger_in g.S.WordForm.values g.E.WordForm.values p in
    let s = g.S.WordForm.values c.in_ok-stamp.stamp in
    let spot = spot_of (option_map g.S.WordForm.values c.args.named) in
    let new = fresh_not_held k.stamps l s c.in_ok-stamp.ensures.fresh in
    c.enter.ensures.kept holds new (ap (under_itself s) (c.place_for-place.ensures holds) ∙ place_away k l spot s (all_yes (spot_questions l spot) tt tt c.in_ok-check_spot.ensures) new)

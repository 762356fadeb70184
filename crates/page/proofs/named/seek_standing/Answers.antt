use Rattle.std.proofs.Common.{◌≡◌, ℕ, ◌<◌, true, false, List, length, get_or, IfSome, Some, Option, sym, refl, ◌∙◌, subst}
use Rattle.ledger.specs.Paths.{stands}
use Rattle.ledger.specs.Ledger.{row_of}
use Rattle.slots.specs.Finding.{FirstWith}
use Rattle.slots.specs.declared.records.Slot.{Slot}
use Rattle.slots.proofs.Scans.{slot_found}
use Rattle.slots.specs.Rows.{row_in, rows_in}
use Rattle.page.proofs.Deleting.{asked}
use Rattle.page.proofs.named.seek_standing.Goals as goal

-- the row of the slot that the search found
the_row : {S E : Type 0} (vs : S → List ℕ) (es : E → List ℕ) (xs : List (Slot S E)) (v : List ℕ) (i : ℕ) (x : Slot S E) (o : Option ℕ) → o ≡ Some i → FirstWith v (rows_in vs es xs) o → IfSome o (λ j. j < length xs) → x ≡ get_or xs i x → row_of v (rows_in vs es xs) ≡ Some (row_in vs es x)
the_row vs es xs v i x o e first within is = slot_found vs es xs v i x (subst (FirstWith v (rows_in vs es xs)) e first) (subst (λ p. IfSome p (λ j. j < length xs)) e within) is

pub returns-then-not-is_inserted-clause-answer : goal.returns-then-not-is_inserted-clause-answer
returns-then-not-is_inserted-clause-answer g c =
    let vs = g.S.WordForm.values in
    let es = g.E.WordForm.values in
    let xs = c.args.slots.now in
    let v = vs c.args.stamp.now in
    let x = c.index-slots-i.result in
    let row = the_row vs es xs v c.in_ok-i.i x c.seek.result c.in_ok-i.ensures.ok_part c.seek.ensures.first c.seek.ensures.within c.index-slots-i.is in
    asked (rows_in vs es xs) v (row_in vs es x) false (stands (rows_in vs es xs) v) row (sym c.if-not-is_inserted.true ∙ c.is_inserted.ensures) refl

pub returns-then-not-is_standing-clause-answer : goal.returns-then-not-is_standing-clause-answer
returns-then-not-is_standing-clause-answer g c =
    let vs = g.S.WordForm.values in
    let es = g.E.WordForm.values in
    let xs = c.args.slots.now in
    let v = vs c.args.stamp.now in
    let x = c.index-slots-i.result in
    let row = the_row vs es xs v c.in_ok-i.i x c.seek.result c.in_ok-i.ensures.ok_part c.seek.ensures.first c.seek.ensures.within c.index-slots-i.is in
    asked (rows_in vs es xs) v (row_in vs es x) true false row (sym c.if-not-is_inserted.false ∙ c.is_inserted.ensures) (sym c.if-not-is_standing.true ∙ c.is_standing.ensures)

pub returns-clause-answer : goal.returns-clause-answer
returns-clause-answer g c =
    let vs = g.S.WordForm.values in
    let es = g.E.WordForm.values in
    let xs = c.args.slots.now in
    let v = vs c.args.stamp.now in
    let x = c.index-slots-i.result in
    let row = the_row vs es xs v c.in_ok-i.i x c.seek.result c.in_ok-i.ensures.ok_part c.seek.ensures.first c.seek.ensures.within c.index-slots-i.is in
    asked (rows_in vs es xs) v (row_in vs es x) true true row (sym c.if-not-is_inserted.false ∙ c.is_inserted.ensures) (sym c.if-not-is_standing.false ∙ c.is_standing.ensures)

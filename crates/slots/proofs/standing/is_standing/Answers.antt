use Rattle.std.proofs.Common.{◌≡◌, ◌-◌, length, is_some, Some, sym, ap, ◌∙◌, arith}
use Rattle.std.specs.Option.{option_map}
use Rattle.messages.specs.Model.{place_said}
use Rattle.ledger.specs.Paths.{path_within}
use Rattle.slots.specs.Rows.{rows_in}
use Rattle.slots.proofs.Scans.{length_rows}
use Rattle.slots.proofs.Chains.{chain_none, chain_ground, chain_parent, chain_end}
use Rattle.slots.proofs.standing.is_standing.Goals as goal

pub loop-init : goal.loop-init
loop-init g c =
    let vs = g.S.WordForm.values in
    let es = g.E.WordForm.values in
    let xs = c.args.slots.now in
    let rows = rows_in vs es xs in
    let n : length xs - 0 ≡ length rows = omega (arith, length_rows vs es xs) in
    ap (λ n. is_some (path_within n rows (vs c.args.stamp.now))) n

pub returns-in-None : goal.returns-in-None
returns-in-None g c = sym (chain_none _ _ _ _ c.loop-test.true (sym c.in-None.ensures)) ∙ c.loop.invariant

pub returns-in-Some-Ground : goal.returns-in-Some-Ground
returns-in-Some-Ground g c =
    let vs = g.S.WordForm.values in
    let is = sym c.place_of.ensures ∙ ap (option_map (place_said vs)) (c.in-Some-Ground.is ∙ ap Some c.in-Some-Ground.field-0-is) in
    sym (chain_ground _ _ _ _ c.loop-test.true is) ∙ c.loop.invariant

pub loop-preserved : goal.loop-preserved
loop-preserved g c =
    let vs = g.S.WordForm.values in
    let is = sym c.place_of.ensures ∙ ap (option_map (place_said vs)) (c.in-Some-Under.is ∙ ap Some c.in-Some-Under.field-0-is) in
    sym (chain_parent _ _ _ _ _ _ c.loop-test.true is) ∙ c.loop.invariant

pub returns : goal.returns
returns g c = sym (chain_end _ _ _ _ c.loop-test.false) ∙ c.loop.invariant

use Rattle.std.proofs.Common.{◌≡◌, sym, ap, arith, rules}
use Rattle.messages.specs.Model.{place_said}
use Rattle.messages.specs.declared.model.Side.TheVariants.{Left, Right}
use Rattle.slots.proofs.Scans.{length_rows}
use Rattle.slots.proofs.Walks.{somewhere, up_ended, up_ends, up_found, up_more, up_parent, up_place, up_start}
use Rattle.slots.proofs.walking.climb.Goals as goal

pub loop-init : goal.loop-init
loop-init g c = λ apart standing. up_start _ _ _ standing

pub returns-in_err-place : goal.returns-in_err-place
returns-in_err-place g c = λ apart standing. let w = c.loop.invariant apart standing in absurd (somewhere _ (g.S.WordForm.values c.loop.at) w.standing (sym c.in_err-place.ensures))

pub returns-in-Some : goal.returns-in-Some
returns-in-Some g c = λ apart standing.
    let w = c.loop.invariant apart standing in
    let here = up_place _ _ _ _ _ _ w (sym c.in_ok-place.ensures) in
    up_found _ _ _ _ _ _ _ w here.0 (c.in-Some.ensures apart here.1)

pub returns-in_default-place : goal.returns-in_default-place
returns-in_default-place g c = λ apart standing.
    let w = c.loop.invariant apart standing in
    let here = up_place _ _ _ _ _ _ w (sym c.in_ok-place.ensures) in
    up_ended _ _ _ _ _ _ w here.0 (c.in_default.ensures apart here.1) (ap (place_said g.S.WordForm.values) c.in_default-place.is)

pub returns-then-eq : goal.returns-then-eq
returns-then-eq g c = λ apart standing.
    let w = c.loop.invariant apart standing in
    let here = up_place _ _ _ _ _ _ w (sym c.in_ok-place.ensures) in
    let left : c.in-Under.side ≡ Left = search rules in
    up_parent _ _ _ _ _ _ _ w here.0 (c.in_default.ensures apart here.1) _ (ap (place_said g.S.WordForm.values) c.in-Under.is) left

pub loop-preserved : goal.loop-preserved
loop-preserved g c = λ apart standing.
    let w = c.loop.invariant apart standing in
    let here = up_place _ _ _ _ _ _ w (sym c.in_ok-place.ensures) in
    let right : c.in-Under.side ≡ Right = search rules in
    up_more _ _ _ _ _ _ _ w here.0 (c.in_default.ensures apart here.1) _ (ap (place_said g.S.WordForm.values) c.in-Under.is) right

pub returns : goal.returns
returns g c = λ apart standing.
    let n = length_rows g.S.WordForm.values g.E.WordForm.values c.args.slots.now in
    absurd (up_ends _ _ _ _ _ (c.loop.invariant apart standing) (omega arith))

use Rattle.std.proofs.Common.{arith}
use Rattle.slots.proofs.Scans.{length_rows}
use Rattle.slots.proofs.Walks.{down_start, down_more, down_found, down_ends}
use Rattle.slots.proofs.walking.leftmost.Goals as goal

pub loop-init : goal.loop-init
loop-init g c = λ apart standing. down_start _ _ _ standing

pub returns-in_default : goal.returns-in_default
returns-in_default g c = λ apart standing. down_found _ _ _ _ _ (c.loop.invariant apart standing) (c.in_default.ensures apart)

pub loop-preserved : goal.loop-preserved
loop-preserved g c = λ apart standing. down_more _ _ _ _ _ _ (c.loop.invariant apart standing) (c.in-Some.ensures apart)

pub returns : goal.returns
returns g c = λ apart standing.
    let n = length_rows g.S.WordForm.values g.E.WordForm.values c.args.slots.now in
    absurd (down_ends _ _ _ _ _ (c.loop.invariant apart standing) (omega arith))

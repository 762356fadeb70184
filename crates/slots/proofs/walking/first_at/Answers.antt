use Rattle.slots.proofs.Walks.{child_there}
use Rattle.slots.proofs.walking.first_at.Goals as goal

pub returns-in_err-child : goal.returns-in_err-child
returns-in_err-child g c = λ apart standing. rw c.from_residual.ensures (c.in_err-child.ensures apart)

pub returns : goal.returns
returns g c = λ apart standing.
    let least = c.in_ok-child.ensures apart in
    record { child = _; least = least; leftmost = c.leftmost.ensures apart (child_there _ _ _ standing least.child) }

use Rattle.ledger.proofs.nothing_is_lost.Goals as goal
use Rattle.ledger.proofs.Sending.{nothing_lost}

pub returns : goal.returns
returns c = nothing_lost

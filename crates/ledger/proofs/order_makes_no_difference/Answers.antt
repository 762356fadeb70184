use Rattle.ledger.proofs.Whole.{whole}
use Rattle.ledger.proofs.order_makes_no_difference.Goals as goal

pub returns : goal.returns
returns c = whole

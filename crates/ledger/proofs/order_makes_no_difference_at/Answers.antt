use Rattle.ledger.proofs.Whole.{whole}
use Rattle.ledger.proofs.order_makes_no_difference_at.Goals as goal

pub returns : goal.returns
returns g c = whole _ (record { connected = g.met.S.Stamp.connected; irreflexive = g.met.S.Stamp.irreflexive; transitive = g.met.S.Stamp.transitive })

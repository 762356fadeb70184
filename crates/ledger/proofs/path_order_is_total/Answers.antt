use Rattle.ledger.proofs.Order.{before_connected, before_irreflexive, before_transitive}
use Rattle.ledger.proofs.path_order_is_total.Goals as goal

pub returns : goal.returns
returns c = λ k o. record {
  irreflexive = before_irreflexive k.kind.earlier;
  transitive = before_transitive k o;
  connected = before_connected k o;
}

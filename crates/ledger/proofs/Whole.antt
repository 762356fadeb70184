-- The law, from its parts.
use Rattle.ledger.specs.Kinds.{Kinds, Ordered}
use Rattle.ledger.specs.Laws.{OrderMakesNoDifference}
use Rattle.ledger.proofs.Landing.{stands_there}
use Rattle.ledger.proofs.Law.{reads, read_alike, keeps, fresh_stamp, same_order}

pub whole : (k : Kinds) → Ordered k.stamps → OrderMakesNoDifference k
whole k o = record {
  reads = reads k o;
  read_alike = read_alike k o;
  keeps = keeps k o;
  stands_there = stands_there k o;
  fresh_stamp = fresh_stamp k o;
  same_order = same_order k o;
}

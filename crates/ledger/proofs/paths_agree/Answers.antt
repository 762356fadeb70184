use Rattle.ledger.proofs.Chains.{path_from, path_is, path_short}
use Rattle.ledger.proofs.Rings as R
use Rattle.ledger.proofs.paths_agree.Goals as goal

pub returns : goal.returns
returns c = λ rows. record {
  found = path_from rows;
  is_path = path_is rows;
  short = λ s p h. path_short rows h;
  in_a_ring = R.in_a_ring rows;
}

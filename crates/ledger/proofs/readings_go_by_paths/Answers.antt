use Rattle.ledger.proofs.Law.{reads}
use Rattle.ledger.proofs.readings_go_by_paths.Goals as goal

pub returns : goal.returns
returns c = λ k o. reads k o

use Rattle.std.proofs.Common.{refl}
use Rattle.ledger.proofs.worked_pages_stand.Goals as goal

pub returns : goal.returns
returns c = refl

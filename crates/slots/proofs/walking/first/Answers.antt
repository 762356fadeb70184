use Rattle.std.proofs.Common.{refl}
use Rattle.slots.proofs.Walks.{starts_at}
use Rattle.slots.proofs.walking.first.Goals as goal

pub returns : goal.returns
returns g c = λ apart. starts_at _ _ _ (c.first_at.ensures apart refl)

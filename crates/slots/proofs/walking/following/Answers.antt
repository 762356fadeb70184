use Rattle.std.proofs.Common.{rules}
use Rattle.slots.proofs.Walks.{onward_is}
use Rattle.slots.proofs.walking.following.Goals as goal

pub returns : goal.returns
returns g c = λ apart standing. onward_is _ _ g.S.WordForm.values _ _ c.first_at.result c.or_else.result (c.first_at.ensures apart standing) (λ q. search rules) c.or_else.ensures

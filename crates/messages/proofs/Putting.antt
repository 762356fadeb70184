-- Words that a writer puts one behind another.
use Rattle.std.proofs.Common.{ℕ, List, ◌++◌, ◌∙◌, arith}
use Rattle.std.proofs.lemmas.List.{length-append}
use Rattle.messages.specs.Writing.{Put}
use Rattle.messages.specs.declared.writer.Writer.{Writer}
use Rattle.messages.proofs.Filling.{put_twice}

pub put_then : {u v w : Writer} {xs ys : List ℕ} → Put u v xs → Put v w ys → Put u w (xs ++ ys)
put_then {u} {v} {w} {xs} {ys} p q = record {
  next = omega (arith, p.next, q.next, length-append xs ys);
  wrote = put_twice u.at v.at xs ys u.space.now v.space.now w.space.now u.within p.next p.wrote q.wrote;
  same = q.same ∙ p.same;
}

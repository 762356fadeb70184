-- What is proved of paths and readings, beside the law over any list of calls.
use Rattle.std.specs.Prelude.{◌≡◌, ℕ, ◌≤◌, true, false, List, [], ◌∷◌, length, Some}
use Rattle.messages.specs.declared.model.Place.TheVariants.{Under}
use Rattle.messages.specs.declared.model.Side.{Side}
use Rattle.ledger.specs.Kinds.{Kinds, Stamps, Ordered}
use Rattle.ledger.specs.Ledger.{Row, node_of}
use Rattle.ledger.specs.Laws.{History, ReadsByPaths}
use Rattle.ledger.specs.Paths.{Step, PathOf, before, path, stands}

-- each stamp of the path reads
abbrev pub AllRead : Stamps → List Step → Type 0
AllRead k [] = Unit {0}
AllRead k (a ∷ p) = (k.form.reads a.stamp ≡ true) × AllRead k p

-- ---- the order of paths is a strict total order
pub record StrictTotal (k : Stamps) : Type 0 where
  pub irreflexive : (p : List Step) → before k.kind.earlier p p ≡ false
  pub transitive : (p q r : List Step) → AllRead k p → AllRead k q → AllRead k r → before k.kind.earlier p q ≡ true → before k.kind.earlier q r ≡ true → before k.kind.earlier p r ≡ true
  pub connected : (p q : List Step) → AllRead k p → AllRead k q → before k.kind.earlier p q ≡ false → before k.kind.earlier q p ≡ false → p ≡ q

abbrev pub PathOrderIsTotal : Type 0
PathOrderIsTotal = (k : Stamps) → Ordered k → StrictTotal k

-- ---- the relation and the function agree: no path is longer than there are rows
pub record PathsAgree (rows : List Row) : Type 0 where
  pub found : (s : List ℕ) (p : List Step) → PathOf rows s p → path rows s ≡ Some p
  pub is_path : (s : List ℕ) (p : List Step) → path rows s ≡ Some p → PathOf rows s p
  pub short : (s : List ℕ) (p : List Step) → PathOf rows s p → length p ≤ length rows
  -- two insertions that name each other wait for ever
  pub in_a_ring : (s t e f : List ℕ) (c d : Side) → node_of s rows ≡ Some (record { place = Under c t; entry = e }) → node_of t rows ≡ Some (record { place = Under d s; entry = f }) → stands rows s ≡ false

abbrev pub PathsAgreeAlways : Type 0
PathsAgreeAlways = (rows : List Row) → PathsAgree rows

-- ---- a reading lists exactly the standing entries, each once, ascending by path
abbrev pub ReadingsGoByPaths : Type 0
ReadingsGoByPaths = (k : Kinds) → Ordered k.stamps → (a : History k) → ReadsByPaths k.stamps a.ledger.rows

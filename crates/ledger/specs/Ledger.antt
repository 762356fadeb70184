-- What a page holds: a row for each stamp, in the order in which the stamps came.
use Rattle.std.specs.Prelude.{◌≡◌, ℕ, Bool, true, false, cond, ◌&&◌, List, [], ◌∷◌, Some, None, Option}
use Rattle.words.specs.Forms.{same_values}
use Rattle.messages.specs.Model.{Said}
use Rattle.messages.specs.declared.model.Message.TheVariants.{Insertion}
use Rattle.messages.specs.declared.model.Place.{Place}
use Rattle.messages.specs.declared.model.Place.TheVariants.{Ground, Under}
use Rattle.messages.specs.declared.model.Side.{Side}
use Rattle.messages.specs.declared.model.Side.TheVariants.{Left, Right}

-- where an insertion hangs, by values: on the ground, or on one side of another stamp
abbrev pub Location : Type 0
Location = Place (List ℕ)

-- what an insertion puts under its stamp
pub record Node : Type 0 where
  pub place : Location
  pub entry : List ℕ

abbrev pub insertion : List ℕ → Node → Said
insertion s w = Insertion s w.place w.entry

-- a stamp with its insertion, if it has one, whether it is struck, and which of its two messages were made here and not sent yet
pub record Row : Type 0 where
  pub stamp : List ℕ
  pub node : Option Node
  pub struck : Bool
  pub insertion_unsent : Bool
  pub deletion_unsent : Bool

-- The ledger of a page: all that it has taken, in the order of arrival.
pub record Ledger : Type 0 where
  pub site : ℕ
  pub slots : ℕ
  pub rows : List Row

abbrev pub row_of : List ℕ → List Row → Option Row
row_of s [] = None
row_of s (r ∷ rs) = cond (same_values r.stamp s) (Some r) (row_of s rs)

-- each stamp is in one row
abbrev pub Apart : List Row → Type 0
Apart [] = Unit {0}
Apart (r ∷ rs) = (row_of r.stamp rs ≡ None) × Apart rs

abbrev pub node_in : Option Row → Option Node
node_in None = None
node_in (Some r) = r.node

abbrev pub node_of : List ℕ → List Row → Option Node
node_of s rs = node_in (row_of s rs)

abbrev pub struck_in : Option Row → Bool
struck_in None = false
struck_in (Some r) = r.struck

abbrev pub struck_of : List ℕ → List Row → Bool
struck_of s rs = struck_in (row_of s rs)

abbrev pub same_side : Side → Side → Bool
same_side Left Left = true
same_side Left Right = false
same_side Right Left = false
same_side Right Right = true

abbrev pub same_place : Location → Location → Bool
same_place Ground Ground = true
same_place Ground (Under d p) = false
same_place (Under d p) Ground = false
same_place (Under d p) (Under e q) = same_side d e && same_values p q

abbrev pub same_node : Node → Node → Bool
same_node v w = same_place v.place w.place && same_values v.entry w.entry

-- The path of a standing entry, the order of paths, and the reading of a ledger.
use Rattle.std.specs.Prelude.{◌≡◌, ℕ, zero, suc, Bool, true, false, cond, ◌&&◌, List, [], ◌∷◌, ◌++◌, length, is_some, Some, None, Option}
use Rattle.words.specs.Forms.{same_values}
use Rattle.ledger.specs.Kinds.{Stamps}
use Rattle.ledger.specs.Ledger.{Node, Row, node_of, same_side, Location}
use Rattle.messages.specs.declared.model.Side.{Side}
use Rattle.messages.specs.declared.model.Side.TheVariants.{Left, Right}
use Rattle.messages.specs.declared.model.Place.TheVariants.{Ground, Under}

-- A step from a parent to a child: the child's side and stamp.
pub record Step : Type 0 where
  pub side : Side
  pub stamp : List ℕ

abbrev pub same_step : Step → Step → Bool
same_step a b = same_side a.side b.side && same_values a.stamp b.stamp

-- The path of a stamp: an insertion under the ground has one step; any other has its parent's path and one step more.
pub data PathOf (rows : List Row) : List ℕ → List Step → Type 0 where
  top : (s e : List ℕ) → node_of s rows ≡ Some (record { place = Ground; entry = e }) → PathOf rows s (record { side = Right; stamp = s } ∷ [])
  below : (s e p : List ℕ) (d : Side) (steps : List Step) → node_of s rows ≡ Some (record { place = Under d p; entry = e }) → PathOf rows p steps → PathOf rows s (steps ++ (record { side = d; stamp = s } ∷ []))

-- The same as a function: `n` bounds how many parents are looked at. A path never needs more than there are rows.
abbrev pub one_more : Option (List Step) → Step → Option (List Step)
one_more None x = None
one_more (Some p) x = Some (p ++ (x ∷ []))

abbrev pub from_place : (List ℕ → Option (List Step)) → List ℕ → Location → Option (List Step)
from_place up s Ground = Some (record { side = Right; stamp = s } ∷ [])
from_place up s (Under d p) = one_more (up p) (record { side = d; stamp = s })

abbrev pub from_node : (List ℕ → Option (List Step)) → List ℕ → Option Node → Option (List Step)
from_node up s None = None
from_node up s (Some w) = from_place up s w.place

abbrev pub path_within : ℕ → List Row → List ℕ → Option (List Step)
path_within zero rows s = None
path_within (suc n) rows s = from_node (path_within n rows) s (node_of s rows)

abbrev pub path : List Row → List ℕ → Option (List Step)
path rows s = path_within (length rows) rows s

abbrev pub stands : List Row → List ℕ → Bool
stands rows s = is_some (path rows s)

-- The order of paths.
abbrev pub side_of : Step → Side → Bool
side_of x d = same_side x.side d

abbrev pub step_before : (List ℕ → List ℕ → Bool) → Side → Side → List ℕ → List ℕ → Bool
step_before earlier Left Left s t = earlier s t
step_before earlier Left Right s t = true
step_before earlier Right Left s t = false
step_before earlier Right Right s t = earlier s t

abbrev pub before : (List ℕ → List ℕ → Bool) → List Step → List Step → Bool
before earlier [] [] = false
before earlier [] (b ∷ q) = side_of b Right
before earlier (a ∷ p) [] = side_of a Left
before earlier (a ∷ p) (b ∷ q) = cond (same_step a b) (before earlier p q) (step_before earlier a.side b.side a.stamp b.stamp)

-- An entry as it is read.
pub record Item : Type 0 where
  pub stamp : List ℕ
  pub entry : List ℕ
  pub struck : Bool

pub record Placed : Type 0 where
  pub steps : List Step
  pub item : Item

abbrev pub placed_at : List Row → Row → Option (List Step) → Option Node → List Placed
placed_at rows r None w = []
placed_at rows r (Some p) None = []
placed_at rows r (Some p) (Some w) = record { steps = p; item = record { stamp = r.stamp; entry = w.entry; struck = r.struck } } ∷ []

abbrev pub placed_all : List Row → List Row → List Placed
placed_all rows [] = []
placed_all rows (r ∷ rs) = placed_at rows r (path rows r.stamp) r.node ++ placed_all rows rs

abbrev pub insert : (List ℕ → List ℕ → Bool) → Placed → List Placed → List Placed
insert earlier x [] = x ∷ []
insert earlier x (y ∷ ys) = cond (before earlier y.steps x.steps) (y ∷ insert earlier x ys) (x ∷ (y ∷ ys))

abbrev pub sorted : (List ℕ → List ℕ → Bool) → List Placed → List Placed
sorted earlier [] = []
sorted earlier (x ∷ xs) = insert earlier x (sorted earlier xs)

abbrev pub in_order : Stamps → List Row → List Placed
in_order k rows = sorted k.kind.earlier (placed_all rows rows)

abbrev pub items : List Placed → List Item
items [] = []
items (x ∷ xs) = x.item ∷ items xs

abbrev pub reading : Stamps → List Row → List Item
reading k rows = items (in_order k rows)

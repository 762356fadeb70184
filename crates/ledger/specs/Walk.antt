-- The walk over the tree of insertions, which finds the next standing entry without a path: by children, siblings and parents.
use Rattle.std.specs.Prelude.{◌≡◌, ℕ, ◌+◌, ◌<◌, Bool, true, false, ◌⊎◌, List, [], ◌∷◌, ◌++◌, length, Some, None, Option, ◌≢◌}
use Rattle.ledger.specs.Basics.{refusal}
use Rattle.ledger.specs.Ledger.{Node, Row, Ledger, node_of, Location, insertion}
use Rattle.messages.specs.declared.model.Side.TheVariants.{Left, Right}
use Rattle.messages.specs.declared.model.Place.TheVariants.{Ground, Under}
use Rattle.ledger.specs.Kinds.{Kinds, Stamps, Ordered}
use Rattle.ledger.specs.Paths.{Step, PathOf, before, reading}
use Rattle.ledger.specs.Calls.{added, place_after, place_at_top}
use Rattle.ledger.specs.Laws.{NoneWaitsFor, entry_at, History, Spot, Inserted, StandsThere, insert_questions, new_item}

-- a stamp whose insertion hangs at the place: on one side of a parent, or under the ground
pub record ChildAt (rows : List Row) (pl : Location) (c : List ℕ) : Type 0 where
  pub entry : List ℕ
  pub is : node_of c rows ≡ Some (record { place = pl; entry = entry })

-- later than the lower bound, if one is given
abbrev pub later : (List ℕ → List ℕ → Bool) → Option (List ℕ) → List ℕ → Bool
later earlier None c = true
later earlier (Some l) c = earlier l c

-- of the children at a place that are later than the bound, one with no earlier one
pub record LeastChild (rows : List Row) (earlier : List ℕ → List ℕ → Bool) (pl : Location) (lower : Option (List ℕ)) (c : List ℕ) : Type 0 where
  pub child : ChildAt rows pl c
  pub is_later : later earlier lower c ≡ true
  pub least : (t : List ℕ) → ChildAt rows pl t → later earlier lower t ≡ true → earlier t c ≡ false

abbrev pub NoChild : List Row → (List ℕ → List ℕ → Bool) → Location → Option (List ℕ) → Type 0
NoChild rows earlier pl lower = (t : List ℕ) → ChildAt rows pl t → later earlier lower t ≢ true

-- from a stamp down to the first below it: its least left child, that one's least left child, and so on
pub data Leftmost (rows : List Row) (earlier : List ℕ → List ℕ → Bool) : List ℕ → List ℕ → Type 0 where
  here : (c : List ℕ) → NoChild rows earlier (Under Left c) None → Leftmost rows earlier c c
  deeper : (c k m : List ℕ) → LeastChild rows earlier (Under Left c) None k → Leftmost rows earlier k m → Leftmost rows earlier c m

-- what comes after a stamp and all that is below it, if anything does
pub data Climb (rows : List Row) (earlier : List ℕ → List ℕ → Bool) : List ℕ → Option (List ℕ) → Type 0 where
  sibling : (x c y : List ℕ) (pl : Location) → ChildAt rows pl x → LeastChild rows earlier pl (Some x) c → Leftmost rows earlier c y → Climb rows earlier x (Some y)
  parent : (x p : List ℕ) → ChildAt rows (Under Left p) x → NoChild rows earlier (Under Left p) (Some x) → Climb rows earlier x (Some p)
  on : (x p : List ℕ) (o : Option (List ℕ)) → ChildAt rows (Under Right p) x → NoChild rows earlier (Under Right p) (Some x) → Climb rows earlier p o → Climb rows earlier x o
  ended : (x : List ℕ) → ChildAt rows Ground x → NoChild rows earlier Ground (Some x) → Climb rows earlier x None

-- what comes after a stamp, if anything does
pub data Onward (rows : List Row) (earlier : List ℕ → List ℕ → Bool) : List ℕ → Option (List ℕ) → Type 0 where
  down : (x c y : List ℕ) → LeastChild rows earlier (Under Right x) None c → Leftmost rows earlier c y → Onward rows earlier x (Some y)
  up : (x : List ℕ) (o : Option (List ℕ)) → NoChild rows earlier (Under Right x) None → Climb rows earlier x o → Onward rows earlier x o

abbrev pub Following : List Row → (List ℕ → List ℕ → Bool) → List ℕ → List ℕ → Type 0
Following rows earlier x y = Onward rows earlier x (Some y)

abbrev pub Last : List Row → (List ℕ → List ℕ → Bool) → List ℕ → Type 0
Last rows earlier x = Onward rows earlier x None

-- where a reading begins, if anything stands
pub data Starts (rows : List Row) (earlier : List ℕ → List ℕ → Bool) : Option (List ℕ) → Type 0 where
  at : (c y : List ℕ) → LeastChild rows earlier Ground None c → Leftmost rows earlier c y → Starts rows earlier (Some y)
  nowhere : NoChild rows earlier Ground None → Starts rows earlier None

abbrev pub First : List Row → (List ℕ → List ℕ → Bool) → List ℕ → Type 0
First rows earlier y = Starts rows earlier (Some y)

-- the place of a new entry right after a standing one, and at the top
pub data AfterPlace (rows : List Row) (earlier : List ℕ → List ℕ → Bool) (n : List ℕ) : Location → Type 0 where
  its_right : NoChild rows earlier (Under Right n) None → AfterPlace rows earlier n (Under Right n)
  beside : (c m : List ℕ) → LeastChild rows earlier (Under Right n) None c → Leftmost rows earlier c m → AfterPlace rows earlier n (Under Left m)

pub data TopPlace (rows : List Row) (earlier : List ℕ → List ℕ → Bool) : Location → Type 0 where
  on_ground : Starts rows earlier None → TopPlace rows earlier Ground
  beside_first : (y : List ℕ) → First rows earlier y → TopPlace rows earlier (Under Left y)

-- every stamp that has an insertion reads as a stamp
abbrev pub StampsRead : (List ℕ → Bool) → List Row → Type 0
StampsRead reads rows = (s : List ℕ) (w : Node) → node_of s rows ≡ Some w → reads s ≡ true

-- ---- what the walk finds, in the words of the order of paths
-- y stands right after the path: after it, and before all else that stands after it
pub record RightAfter (rows : List Row) (earlier : List ℕ → List ℕ → Bool) (px : List Step) (y : List ℕ) : Type 0 where
  pub steps : List Step
  pub path : PathOf rows y steps
  pub after : before earlier px steps ≡ true
  pub least : (z : List ℕ) (q : List Step) → PathOf rows z q → before earlier px q ≡ true → (z ≡ y) ⊎ (before earlier steps q ≡ true)

abbrev pub NextIs : List Row → (List ℕ → List ℕ → Bool) → List Step → Option (List ℕ) → Type 0
NextIs rows earlier px None = (z : List ℕ) (q : List Step) → PathOf rows z q → before earlier px q ≢ true
NextIs rows earlier px (Some y) = RightAfter rows earlier px y

-- y stands before all else that stands
pub record FirstOfAll (rows : List Row) (earlier : List ℕ → List ℕ → Bool) (y : List ℕ) : Type 0 where
  pub steps : List Step
  pub path : PathOf rows y steps
  pub least : (z : List ℕ) (q : List Step) → PathOf rows z q → (z ≡ y) ⊎ (before earlier steps q ≡ true)

abbrev pub FirstIs : List Row → (List ℕ → List ℕ → Bool) → Option (List ℕ) → Type 0
FirstIs rows earlier None = (z : List ℕ) (q : List Step) → PathOf rows z q → ⊥
FirstIs rows earlier (Some y) = FirstOfAll rows earlier y

pub record WalkStands (k : Stamps) (rows : List Row) : Type 0 where
  pub onward : (x : List ℕ) (r : Option (List ℕ)) → Onward rows k.kind.earlier x r → (px : List Step) → PathOf rows x px → NextIs rows k.kind.earlier px r
  pub starts : (r : Option (List ℕ)) → Starts rows k.kind.earlier r → FirstIs rows k.kind.earlier r
  pub one_path : (s : List ℕ) (p q : List Step) → PathOf rows s p → PathOf rows s q → p ≡ q

abbrev pub WalkStandsAlways : Type 0
WalkStandsAlways = (k : Stamps) → Ordered k → (rows : List Row) → StampsRead k.form.reads rows → WalkStands k rows

-- ---- a new entry
-- the place right after a path: with nothing below the path by a right step it is the one given, else at the left of the first of what is there
pub data Slot (rows : List Row) (earlier : List ℕ → List ℕ → Bool) (p : List Step) (otherwise : Location) : Location → Type 0 where
  free : ((z t : List ℕ) (r : List Step) → PathOf rows z (p ++ (record { side = Right; stamp = t } ∷ r)) → ⊥) → Slot rows earlier p otherwise otherwise
  taken : (m t : List ℕ) (r : List Step) → PathOf rows m (p ++ (record { side = Right; stamp = t } ∷ r))
      → ((z u : List ℕ) (v : List Step) → PathOf rows z (p ++ (record { side = Right; stamp = u } ∷ v)) → (z ≡ m) ⊎ (before earlier (p ++ (record { side = Right; stamp = t } ∷ r)) (p ++ (record { side = Right; stamp = u } ∷ v)) ≡ true))
      → Slot rows earlier p otherwise (Under Left m)

-- the rows hold one insertion more, under a new stamp
pub record TakesIn (rows more : List Row) (s : List ℕ) (w : Node) : Type 0 where
  pub before : node_of s rows ≡ None
  pub own : node_of s more ≡ Some w
  pub others : (t : List ℕ) → (s ≢ t) → node_of t more ≡ node_of t rows

-- with the new stamp, all paths are as they were, and its own is right after the path given
pub record NewRightAfter (rows more : List Row) (earlier : List ℕ → List ℕ → Bool) (p : List Step) (s : List ℕ) : Type 0 where
  pub steps : List Step
  pub path : PathOf more s steps
  pub after : before earlier p steps ≡ true
  pub next : (z : List ℕ) (q : List Step) → PathOf rows z q → before earlier p q ≡ true → before earlier steps q ≡ true
  pub kept : (z : List ℕ) (q : List Step) → PathOf rows z q → PathOf more z q
  pub only : (z : List ℕ) (q : List Step) → PathOf more z q → (z ≡ s) ⊎ PathOf rows z q

-- and so every other that stands is the named one, or before it, or after the new one
pub record NewAfter (rows more : List Row) (earlier : List ℕ → List ℕ → Bool) (n : List ℕ) (pn : List Step) (s : List ℕ) : Type 0 where
  pub new : NewRightAfter rows more earlier pn s
  pub sides : (z : List ℕ) (q : List Step) → PathOf rows z q → (z ≡ n) ⊎ ((before earlier q pn ≡ true) ⊎ (before earlier new.steps q ≡ true))

pub record NewAtTop (rows more : List Row) (earlier : List ℕ → List ℕ → Bool) (s : List ℕ) : Type 0 where
  pub new : NewRightAfter rows more earlier [] s
  pub first : (z : List ℕ) (q : List Step) → PathOf rows z q → before earlier new.steps q ≡ true

pub record NewStands (k : Stamps) (rows : List Row) (s e : List ℕ) : Type 0 where
  pub after : (n : List ℕ) (pn : List Step) (pl : Location) (more : List Row) → PathOf rows n pn → AfterPlace rows k.kind.earlier n pl → TakesIn rows more s (record { place = pl; entry = e }) → NewAfter rows more k.kind.earlier n pn s
  pub at_top : (pl : Location) (more : List Row) → TopPlace rows k.kind.earlier pl → TakesIn rows more s (record { place = pl; entry = e }) → NewAtTop rows more k.kind.earlier s
  pub adds : (w : Node) → node_of s rows ≡ None → TakesIn rows (added (insertion s w) rows) s w

abbrev pub NewStandsAlways : Type 0
NewStandsAlways = (k : Stamps) → Ordered k → (rows : List Row) → StampsRead k.form.reads rows → (s e : List ℕ) → NoneWaitsFor rows s → NewStands k rows s e

-- ---- the walk goes through the reading, place by place
pub record WalksReading (k : Stamps) (rows : List Row) : Type 0 where
  pub starts_nowhere : Starts rows k.kind.earlier None → length (reading k rows) ≡ 0
  pub starts_at : (y : List ℕ) → Starts rows k.kind.earlier (Some y) → (0 < length (reading k rows)) × ((entry_at (reading k rows) 0).stamp ≡ y)
  pub goes_on : (i : ℕ) (y : List ℕ) → i < length (reading k rows) → Onward rows k.kind.earlier (entry_at (reading k rows) i).stamp (Some y) → (i + 1 < length (reading k rows)) × ((entry_at (reading k rows) (i + 1)).stamp ≡ y)
  pub ends : (i : ℕ) → i < length (reading k rows) → Onward rows k.kind.earlier (entry_at (reading k rows) i).stamp None → i + 1 ≡ length (reading k rows)

-- ---- the walk always comes to an answer
pub record WalkFinds (rows : List Row) (earlier : List ℕ → List ℕ → Bool) : Type 0 where
  pub onward : (x : List ℕ) (px : List Step) → PathOf rows x px → (r : Option (List ℕ)) × Onward rows earlier x r
  pub starts : (r : Option (List ℕ)) × Starts rows earlier r
  pub after_place : (n : List ℕ) (pn : List Step) → PathOf rows n pn → (pl : Location) × AfterPlace rows earlier n pl
  pub top_place : (pl : Location) × TopPlace rows earlier pl

-- ---- the walk on any page that calls have made
pub record WalkOnPage (k : Kinds) (a : History k) : Type 0 where
  pub finds : WalkFinds a.ledger.rows k.stamps.kind.earlier
  pub stands : WalkStands k.stamps a.ledger.rows
  pub reads : WalksReading k.stamps a.ledger.rows
  pub after_place : (n : List ℕ) (pn : List Step) (pl : Location) → PathOf a.ledger.rows n pn → AfterPlace a.ledger.rows k.stamps.kind.earlier n pl → pl ≡ place_after k.stamps a.ledger.rows n
  pub top_place : (pl : Location) → TopPlace a.ledger.rows k.stamps.kind.earlier pl → pl ≡ place_at_top k.stamps a.ledger.rows
  pub stands_there : (spot : Spot) (vs : List ℕ) (m : Ledger) → refusal (insert_questions k a.ledger spot vs) ≡ None → (i : Inserted k a.ledger m spot vs) → NoneWaitsFor a.ledger.rows i.stamp → StandsThere k.stamps a.ledger m spot (new_item i.stamp vs)

abbrev pub WalkOnPages : Type 0
WalkOnPages = (k : Kinds) → Ordered k.stamps → (a : History k) → WalkOnPage k a

-- What a search through the slots finds.
use Rattle.std.specs.Prelude.{◌≡◌, ℕ, ◌<◌, Bool, true, false, if◌then◌else◌, ◌&&◌, List, [], length, take, Some, None, Option, slice_index_or}
use Rattle.std.specs.Option.{option_map}
use Rattle.stamps.specs.Kinds.{StampKind}
use Rattle.words.specs.Forms.{Form}
use Rattle.messages.specs.declared.model.Place.TheVariants.{Ground, Under}
use Rattle.ledger.specs.Calls.{beside, blank}
use Rattle.ledger.specs.Kinds.{Stamps}
use Rattle.ledger.specs.Ledger.{Row, Location, node_of, row_of, same_place}
use Rattle.slots.specs.Rows.{place_in}
use Rattle.ledger.specs.Paths.{stands}
use Rattle.ledger.specs.Walk.{LeastChild, Leftmost, NoChild, later}

-- the kind of stamp that an implementation of the traits gives
abbrev pub stamps_of : Form → StampKind → Stamps
stamps_of form kind = record { form = form; kind = kind }

-- i is the place of the first row with the stamp v; None: there is none
abbrev pub FirstWith : List ℕ → List Row → Option ℕ → Type 0
FirstWith v rows None = row_of v rows ≡ None
FirstWith v rows (Some i) = (i < length rows) × (row_of v (take i rows) ≡ None) × ((slice_index_or rows i (blank [])).stamp ≡ v)

-- where the insertion under a stamp hangs
abbrev pub place_under : List ℕ → List Row → Option Location
place_under v rows = option_map (λ w. w.place) (node_of v rows)

-- of the children at a place that are later than the bound, c has no earlier one; None: there is none
abbrev pub LeastIs : List Row → (List ℕ → List ℕ → Bool) → Location → Option (List ℕ) → Option (List ℕ) → Type 0
LeastIs rows earlier pl lower None = NoChild rows earlier pl lower
LeastIs rows earlier pl lower (Some c) = LeastChild rows earlier pl lower c

abbrev pub hangs_at : Location → Option Location → Bool
hangs_at pl None = false
hangs_at pl (Some own) = same_place own pl

-- does the row's insertion hang at the place, and is it later than the bound, if one is given?
abbrev pub fits_at : (List ℕ → List ℕ → Bool) → Location → Option (List ℕ) → Row → Bool
fits_at earlier pl lower r = hangs_at pl (place_in r) && later earlier lower r.stamp

-- the earlier of two stamps, where there are two
abbrev pub earliest : (List ℕ → List ℕ → Bool) → Option (List ℕ) → List ℕ → List ℕ
earliest earlier None s = s
earliest earlier (Some t) s = if earlier s t then s else t

-- does what hangs at the place stand?
abbrev pub place_stands : List Row → Location → Bool
place_stands rows Ground = true
place_stands rows (Under d p) = stands rows p

-- a child at the place, the least of those later than the bound, and the first entry below it
pub record FirstAt (rows : List Row) (earlier : List ℕ → List ℕ → Bool) (pl : Location) (lower : Option (List ℕ)) (y : List ℕ) : Type 0 where
  pub child : List ℕ
  pub least : LeastChild rows earlier pl lower child
  pub leftmost : Leftmost rows earlier child y

-- the first entry of those at a place that are later than the bound, and of all below these; None: there is none
abbrev pub FirstAtIs : List Row → (List ℕ → List ℕ → Bool) → Location → Option (List ℕ) → Option (List ℕ) → Type 0
FirstAtIs rows earlier pl lower None = NoChild rows earlier pl lower
FirstAtIs rows earlier pl lower (Some y) = FirstAt rows earlier pl lower y

-- where a new entry goes that is to stand before all at a place: there, or beside the first entry there
abbrev pub EntersAt : List Row → (List ℕ → List ℕ → Bool) → Location → Location → Type 0
EntersAt rows earlier pl new = (first : Option (List ℕ)) × FirstAtIs rows earlier pl None first × (new ≡ beside pl first)

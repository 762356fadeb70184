-- A reading of a page, step by step.
use Rattle.std.specs.Prelude.{◌≡◌, ℕ, if◌then◌else◌, List, [], ◌∷◌, map, take, Some, None, Option}
use Rattle.std.specs.Iterator.{YieldsThen}
use Rattle.std.specs.Option.{option_map}
use Rattle.words.specs.Forms.{same_values}
use Rattle.ledger.specs.Basics.{first}
use Rattle.ledger.specs.Kinds.{Stamps}
use Rattle.ledger.specs.Ledger.{Apart, Row}
use Rattle.ledger.specs.Paths.{Item, reading}
use Rattle.slots.specs.Rows.{rows_in}
use Rattle.readings.specs.Standing.{StandsAt}
use Rattle.readings.specs.declared.Reading.{Reading}

-- the items after the one with this stamp
abbrev pub past : List ℕ → List Item → List Item
past s [] = []
past s (x ∷ xs) = if same_values x.stamp s then xs else past s xs

-- the item with this stamp
abbrev pub item_of : List ℕ → List Item → Option Item
item_of s [] = None
item_of s (x ∷ xs) = if same_values x.stamp s then Some x else item_of s xs

-- the items that are left after the last one, or all
abbrev pub unread : Option (List ℕ) → List Item → List Item
unread None xs = xs
unread (Some s) xs = past s xs

abbrev pub item_at : Option (List ℕ) → List Item → Option Item
item_at None xs = None
item_at (Some s) xs = item_of s xs

abbrev pub others : List Item → List Item
others [] = []
others (x ∷ xs) = xs

module _ {S E : Type 0} (vs : S → List ℕ) (es : E → List ℕ) where
  -- the rows that the slots of the reading say
  abbrev pub rows_read : Reading S E → List Row
  rows_read r = rows_in vs es r.slots.now

  -- each stamp has one slot, and the entry that was answered last stands
  pub record Reads (r : Reading S E) : Type 0 where
    pub apart : Apart (rows_read r)
    pub standing : StandsAt (rows_read r) (option_map vs r.last)

  module _ (k : Stamps) where
    -- all that is read in them
    abbrev pub items : Reading S E → List Item
    items r = reading k (rows_read r)

    -- what the reading has yet to answer
    abbrev pub to_come : Reading S E → List Item
    to_come r = take r.left (unread (option_map vs r.last) (items r))

    -- what it answered last
    abbrev pub current : Reading S E → Option Item
    current r = item_at (option_map vs r.last) (items r)

    -- one step: it answers the stamp of the first item to come, and the others are left
    pub record Stepped (r : Reading S E) (a : Option S) (t : Reading S E) : Type 0 where
      pub answer : option_map vs a ≡ option_map (λ x. x.stamp) (first (to_come r))
      pub now_at : current t ≡ first (to_come r)
      pub left : to_come t ≡ others (to_come r)
      pub rows : rows_read t ≡ rows_read r
      pub reads : Reads t

    -- the same, where the reading goes through a page
    abbrev pub Steps : Reading S E → Option S → Reading S E → Type 0
    Steps r a t = Reads r → Stepped r a t

    -- steps from the reading that come to the end answer exactly these stamps
    abbrev pub AnswersJust : Reading S E → List (List ℕ) → Type 0
    AnswersJust r stamps = (xs : List S) (u : Reading S E) → YieldsThen Steps r xs None u → map vs xs ≡ stamps

-- The ledger that a page says, and what the page needs to hold it.
use Rattle.std.specs.Prelude.{◌≡◌, ℕ, List, take, drop}
use Rattle.ledger.specs.Ledger.{Apart, Ledger}
use Rattle.slots.specs.Rows.{rows_in}
use Rattle.slots.specs.declared.records.Slot.{Slot}
use Rattle.page.specs.Filled.{AllElsewhere, AllFill}
use Rattle.page.specs.declared.pages.Page.{Page}

-- the slots that a page has filled
abbrev pub filled_in : {S E : Type 0} → Page S E → List (Slot S E)
filled_in p = take p.filled p.slots.now

-- the ledger that a page says
abbrev pub ledger_in : {S E : Type 0} → (S → List ℕ) → (E → List ℕ) → Page S E → Ledger
ledger_in vs es p = record { site = p.site; slots = p.capacity; rows = rows_in vs es (filled_in p) }

-- the page holds the ledger that it says: each stamp has one slot, no insertion hangs under its own stamp, and a slot without an insertion has the filler
pub record Holds {S E : Type 0} (vs : S → List ℕ) (es : E → List ℕ) (filler : List ℕ) (p : Page S E) : Type 0 where
  pub apart : Apart (ledger_in vs es p).rows
  pub elsewhere : AllElsewhere (ledger_in vs es p).rows
  pub fillers : AllFill es filler (filled_in p)

-- what every call leaves as it was: the site, the number of slots, which table it is, and the slots past the filled ones
pub record Stays {S E : Type 0} (p q : Page S E) : Type 0 where
  pub site : q.site ≡ p.site
  pub capacity : q.capacity ≡ p.capacity
  pub table : q.slots.ghost_name ≡ p.slots.ghost_name
  pub rest : drop q.filled q.slots.now ≡ drop q.filled p.slots.now

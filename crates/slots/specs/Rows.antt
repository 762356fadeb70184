-- What a slot says, in values alone: a row of the ledger.
use Rattle.std.specs.Prelude.{◌≡◌, ℕ, Bool, true, false, cond, List, map, is_some, Some, None, Option}
use Rattle.std.specs.Option.{option_map}
use Rattle.messages.specs.Model.{Said, place_said}
use Rattle.messages.specs.declared.model.Message.TheVariants.{Insertion, Deletion}
use Rattle.messages.specs.declared.model.Operation.{Operation}
use Rattle.messages.specs.declared.model.Operation.TheVariants.{Insert, Delete}
use Rattle.messages.specs.declared.model.Place.TheVariants.{Ground}
use Rattle.ledger.specs.Ledger.{Node, Row, Location, insertion}
use Rattle.slots.specs.declared.records.Slot.{Slot}
use Rattle.slots.specs.declared.records.Status.{Status}
use Rattle.slots.specs.declared.records.Status.TheVariants.{Absent, Unsent, Settled}

abbrev pub is_taken : Status → Bool
is_taken Absent = false
is_taken Unsent = true
is_taken Settled = true

abbrev pub is_unsent : Status → Bool
is_unsent Absent = false
is_unsent Unsent = true
is_unsent Settled = false

abbrev pub node_in : {S E : Type 0} → (S → List ℕ) → (E → List ℕ) → Slot S E → Option Node
node_in vs es x = cond (is_taken x.insertion) (Some (record { place = place_said vs x.place; entry = es x.entry })) None

abbrev pub row_in : {S E : Type 0} → (S → List ℕ) → (E → List ℕ) → Slot S E → Row
row_in vs es x = record {
  stamp = vs x.stamp;
  node = node_in vs es x;
  struck = is_taken x.deletion;
  insertion_unsent = is_unsent x.insertion;
  deletion_unsent = is_unsent x.deletion;
}

abbrev pub rows_in : {S E : Type 0} → (S → List ℕ) → (E → List ℕ) → List (Slot S E) → List Row
rows_in vs es xs = map (row_in vs es) xs

-- a slot without an insertion has the filler, on the ground
abbrev pub Fills : {S E : Type 0} → (E → List ℕ) → List ℕ → Slot S E → Type 0
Fills es filler x = is_taken x.insertion ≡ false → (es x.entry ≡ filler) × (x.place ≡ Ground)

-- ---- rows that a change gives
-- an insertion made here
abbrev pub made_row : List ℕ → Node → Row
made_row s w = record { stamp = s; node = Some w; struck = false; insertion_unsent = true; deletion_unsent = false }

-- a deletion made here
abbrev pub struck_row : Row → Row
struck_row r = record { stamp = r.stamp; node = r.node; struck = true; insertion_unsent = r.insertion_unsent; deletion_unsent = true }

-- a message sent
abbrev pub sent_row : Operation → Row → Row
sent_row Insert r = record { stamp = r.stamp; node = r.node; struck = r.struck; insertion_unsent = false; deletion_unsent = r.deletion_unsent }
sent_row Delete r = record { stamp = r.stamp; node = r.node; struck = r.struck; insertion_unsent = r.insertion_unsent; deletion_unsent = false }

-- ---- what a row is asked for
abbrev pub place_in : Row → Option Location
place_in r = option_map (λ w. w.place) r.node

abbrev pub entry_in : Row → Option (List ℕ)
entry_in r = option_map (λ w. w.entry) r.node

-- does the row hold the message's insertion, or its deletion, already?
abbrev pub holds_in : Row → Said → Bool
holds_in r (Insertion s pl e) = is_some r.node
holds_in r (Deletion s) = r.struck

-- the message of a row that was made here and not sent yet
abbrev pub unsent_in : Operation → Row → Option Said
unsent_in Insert r = cond r.insertion_unsent (option_map (insertion r.stamp) r.node) None
unsent_in Delete r = cond r.deletion_unsent (Some (Deletion r.stamp)) None

-- its insertion before its deletion
abbrev pub next_in : Row → Option Operation
next_in r = cond r.insertion_unsent (Some Insert) (cond r.deletion_unsent (Some Delete) None)

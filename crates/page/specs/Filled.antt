-- What is so of the slots that a page has filled, and of the rows that they say.
use Rattle.std.specs.Prelude.{◌≡◌, ℕ, Bool, false, List, [], ◌∷◌, Some, None, Option}
use Rattle.words.specs.Forms.{same_values}
use Rattle.messages.specs.declared.model.Place.TheVariants.{Ground, Under}
use Rattle.ledger.specs.Ledger.{Location, Node, Row}
use Rattle.slots.specs.Rows.{Fills}
use Rattle.slots.specs.declared.records.Slot.{Slot}

-- does an insertion hang under its own stamp? No call makes or takes one
abbrev pub under_itself : List ℕ → Location → Bool
under_itself s Ground = false
under_itself s (Under side parent) = same_values parent s

abbrev pub Elsewhere : List ℕ → Option Node → Type 0
Elsewhere s None = Unit {0}
Elsewhere s (Some w) = under_itself s w.place ≡ false

abbrev pub AllElsewhere : List Row → Type 0
AllElsewhere [] = Unit {0}
AllElsewhere (r ∷ rs) = Elsewhere r.stamp r.node × AllElsewhere rs

-- each slot without an insertion has the filler
abbrev pub AllFill : {S E : Type 0} → (E → List ℕ) → List ℕ → List (Slot S E) → Type 0
AllFill es filler [] = Unit {0}
AllFill es filler (x ∷ xs) = Fills es filler x × AllFill es filler xs

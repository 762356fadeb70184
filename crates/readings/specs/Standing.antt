-- Where a walk through a page stands.
use Rattle.std.specs.Prelude.{◌≡◌, ℕ, Bool, true, List, Some, None, Option}
use Rattle.ledger.specs.Ledger.{Row}
use Rattle.ledger.specs.Paths.{stands}
use Rattle.ledger.specs.Walk.{Onward, Starts}

-- the entry that was answered last stands, if there is one
abbrev pub StandsAt : List Row → Option (List ℕ) → Type 0
StandsAt rows None = Unit {0}
StandsAt rows (Some s) = stands rows s ≡ true

-- where a walk begins, or what it comes to from the last stamp
abbrev pub AheadIs : List Row → (List ℕ → List ℕ → Bool) → Option (List ℕ) → Option (List ℕ) → Type 0
AheadIs rows earlier None r = Starts rows earlier r
AheadIs rows earlier (Some s) r = Onward rows earlier s r

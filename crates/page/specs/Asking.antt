-- What a page is asked about a stamp.
use Rattle.std.specs.Prelude.{ℕ, Bool, List, Option}
use Rattle.std.specs.Option.{option_map}
use Rattle.ledger.specs.Ledger.{Row, node_of, struck_of}
use Rattle.ledger.specs.Paths.{stands}
use Rattle.page.specs.declared.found.Found.{Found}

-- the entry in values, whether it is struck, whether it stands
abbrev pub found_said : {E : Type 0} → (E → List ℕ) → Found E → List ℕ × Bool × Bool
found_said es x = (es x.entry, x.struck, x.standing)

abbrev pub found_under : List ℕ → List Row → Option (List ℕ × Bool × Bool)
found_under s rows = option_map (λ w. (w.entry, struck_of s rows, stands rows s)) (node_of s rows)

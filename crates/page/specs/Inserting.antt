-- An insertion made here.
use Rattle.std.specs.Prelude.{ℕ, List, [], ◌∷◌, length, Some, None, Option, nat_lt}
use Rattle.words.specs.Answers.{Question, ask}
use Rattle.ledger.specs.Calls.{greatest}
use Rattle.ledger.specs.Kinds.{Kinds}
use Rattle.ledger.specs.Laws.{Spot}
use Rattle.ledger.specs.Laws.Spot.{at_top, after}
use Rattle.ledger.specs.Ledger.{Ledger}

-- where an entry is wanted: after the named one, or at the top
abbrev pub spot_of : Option (List ℕ) → Spot
spot_of None = at_top
spot_of (Some s) = after s

-- is there a fresh counter, and a free slot?
abbrev pub fresh_questions : Kinds → Ledger → List Question
fresh_questions k l =
    ask 13 (nat_lt (greatest k.stamps l.site l.rows) k.stamps.kind.last)
    ∷ ask 10 (nat_lt (length l.rows) l.slots)
    ∷ []

-- What a message makes of a ledger, once its words have passed.
use Rattle.std.specs.Prelude.{ℕ, Some, None, Option}
use Rattle.messages.specs.Model.{Said}
use Rattle.messages.specs.declared.model.Message.TheVariants.{Insertion, Deletion}
use Rattle.ledger.specs.Calls.{added}
use Rattle.ledger.specs.Laws.{with_rows}
use Rattle.ledger.specs.Ledger.{Ledger}
use Rattle.page.specs.Filled.{Elsewhere}

-- with the message added, unless it is refused
abbrev pub with_message : Ledger → Said → Option ℕ → Ledger
with_message l m None = with_rows l (added m l.rows)
with_message l m (Some n) = l

-- the message's insertion does not hang under its own stamp
abbrev pub HangsElsewhere : Said → Type 0
HangsElsewhere (Insertion s pl e) = Elsewhere s (Some (record { place = pl; entry = e }))
HangsElsewhere (Deletion s) = Unit {0}

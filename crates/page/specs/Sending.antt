-- Messages sent.
use Rattle.std.specs.Prelude.{◌≡◌, ℕ, ◌<◌, if◌then◌else◌, ◌&&◌, List, [], length, Some, None, Option, nat_le, nat_lt, slice_index_or, slice_set}
use Rattle.messages.specs.declared.model.Operation.{Operation}
use Rattle.ledger.specs.Calls.{blank}
use Rattle.ledger.specs.Laws.{next_unsent, with_rows}
use Rattle.ledger.specs.Ledger.{Ledger, Row}
use Rattle.slots.specs.Rows.{next_in, sent_row}
use Rattle.page.specs.declared.unsent.Unsent.{Unsent}

-- the count of words that were sent: there are some, and the space is long enough
abbrev pub count_sent : List ℕ → ℕ → Option ℕ
count_sent ws space = if nat_lt 0 (length ws) && nat_le (length ws) space then Some (length ws) else None

-- the ledger with the mark of the row at i cleared, where the words go into the space
abbrev pub with_sent : Ledger → ℕ → Operation → List ℕ → ℕ → Ledger
with_sent l i op ws space = with_rows l (if nat_le (length ws) space then slice_set l.rows i (sent_row op (slice_index_or l.rows i (blank []))) else l.rows)

-- the first row that has a message to send, and which
abbrev pub NextUnsent : List Row → Option Unsent → Type 0
NextUnsent rows None = next_unsent rows ≡ None
NextUnsent rows (Some u) =
    (u.at < length rows)
    × (next_unsent rows ≡ Some (record { op = u.operation; stamp = (slice_index_or rows u.at (blank [])).stamp }))
    × (next_in (slice_index_or rows u.at (blank [])) ≡ Some u.operation)

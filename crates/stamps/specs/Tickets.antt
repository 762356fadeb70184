-- Ticket stamps: one value, the site times 100,000 and the counter.
use Rattle.std.specs.Prelude.{ℕ, ◌+◌, ◌*◌, ◌/◌, ◌%◌, Bool, ◌&&◌, List, [], ◌∷◌, length, ◌==◌, nat_lt, slice_index}
use Rattle.words.specs.Forms.{Form}
use Rattle.stamps.specs.Kinds.{StampKind, site_number, counter_to}

abbrev pub last_ticket : ℕ
last_ticket = 99999

abbrev pub ticket : ℕ → ℕ → List ℕ
ticket site counter = (site * 100000 + counter) ∷ []

abbrev pub ticket_counter : List ℕ → ℕ
ticket_counter v = slice_index v 0 % 100000

abbrev pub ticket_site : List ℕ → ℕ
ticket_site v = slice_index v 0 / 100000

abbrev pub ticket_reads : List ℕ → Bool
ticket_reads v = length v == 1 && (counter_to last_ticket (ticket_counter v) && site_number (ticket_site v))

-- the smaller value is earlier
abbrev pub ticket_earlier : List ℕ → List ℕ → Bool
ticket_earlier v w = nat_lt (slice_index v 0) (slice_index w 0)

abbrev pub ticket_form : Form
ticket_form = record { number = 2; count = 1; reads = ticket_reads }

abbrev pub ticket_kind : StampKind
ticket_kind = record { last = last_ticket; site = ticket_site; counter = ticket_counter; stamped = ticket; earlier = ticket_earlier }

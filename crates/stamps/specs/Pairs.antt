-- Pair stamps: two values, the counter and then the site.
use Rattle.std.specs.Prelude.{ℕ, Bool, ◌&&◌, ◌||◌, List, [], ◌∷◌, length, ◌==◌, nat_lt, slice_index}
use Rattle.words.specs.Forms.{Form}
use Rattle.stamps.specs.Kinds.{StampKind, site_number, counter_to, greatest_counter}

abbrev pub pair : ℕ → ℕ → List ℕ
pair site counter = counter ∷ site ∷ []

abbrev pub pair_counter : List ℕ → ℕ
pair_counter v = slice_index v 0

abbrev pub pair_site : List ℕ → ℕ
pair_site v = slice_index v 1

abbrev pub pair_reads : List ℕ → Bool
pair_reads v = length v == 2 && (counter_to greatest_counter (pair_counter v) && site_number (pair_site v))

-- the smaller counter is earlier; at equal counters the smaller site
abbrev pub pair_earlier : List ℕ → List ℕ → Bool
pair_earlier v w = nat_lt (pair_counter v) (pair_counter w) || (pair_counter v == pair_counter w && nat_lt (pair_site v) (pair_site w))

abbrev pub pair_form : Form
pair_form = record { number = 1; count = 2; reads = pair_reads }

abbrev pub pair_kind : StampKind
pair_kind = record { last = greatest_counter; site = pair_site; counter = pair_counter; stamped = pair; earlier = pair_earlier }

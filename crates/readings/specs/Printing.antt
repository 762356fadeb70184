-- The printed bytes of an item.
use Rattle.std.specs.Prelude.{ℕ, if◌then◌else◌, List, [], length, Some, None, Option, nat_le}
use Rattle.ledger.specs.Paths.{Item}

-- the printed bytes of an item: none where it is struck
abbrev pub text_in : (List ℕ → List ℕ) → Option Item → List ℕ
text_in prints None = []
text_in prints (Some x) = if x.struck then [] else prints x.entry

-- the entry that is printed
abbrev pub entry_to_print : Option Item → Option (List ℕ)
entry_to_print None = None
entry_to_print (Some x) = if x.struck then None else Some x.entry

-- how many bytes go into a space
abbrev pub bytes_in : List ℕ → ℕ → ℕ
bytes_in text space = if nat_le (length text) space then length text else 0

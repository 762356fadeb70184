-- A kind of entry, by what it answers about values alone.
use Rattle.std.specs.Prelude.{◌≡◌, ℕ, Bool, true, List}

pub record EntryKind : Type 0 where
  -- the bytes that an entry is printed as
  pub prints : List ℕ → List ℕ
  -- the entry that stands in a slot without an insertion
  pub filler : List ℕ

-- no two entries print alike
abbrev pub PrintsApart : (List ℕ → Bool) → (List ℕ → List ℕ) → Type 0
PrintsApart reads prints = (v w : List ℕ) → reads v ≡ true → reads w ≡ true → prints v ≡ prints w → v ≡ w

-- A kind of stamp, by what it answers about values alone.
use Rattle.std.specs.Prelude.{◌≡◌, ℕ, Bool, true, false, ◌&&◌, List, nat_le}

pub record StampKind : Type 0 where
  -- the greatest counter that a stamp of the kind can have
  pub last : ℕ
  pub site : List ℕ → ℕ
  pub counter : List ℕ → ℕ
  -- the values of the stamp with this site and this counter
  pub stamped : ℕ → ℕ → List ℕ
  pub earlier : List ℕ → List ℕ → Bool

abbrev pub site_number : ℕ → Bool
site_number n = nat_le 1 n && nat_le n 999

-- a counter of a kind whose last counter is given
abbrev pub counter_to : ℕ → ℕ → Bool
counter_to last n = nat_le 1 n && nat_le n last

-- no kind of stamp has a greater counter
abbrev pub greatest_counter : ℕ
greatest_counter = 268435455

-- ---- the laws of a kind's order, over values that read: of two different stamps just one is earlier
abbrev pub Connected : (List ℕ → Bool) → (List ℕ → List ℕ → Bool) → Type 0
Connected reads earlier = (v w : List ℕ) → reads v ≡ true → reads w ≡ true → earlier v w ≡ false → earlier w v ≡ false → v ≡ w

abbrev pub Irreflexive : (List ℕ → Bool) → (List ℕ → List ℕ → Bool) → Type 0
Irreflexive reads earlier = (v : List ℕ) → reads v ≡ true → earlier v v ≡ false

abbrev pub Transitive : (List ℕ → Bool) → (List ℕ → List ℕ → Bool) → Type 0
Transitive reads earlier = (u v w : List ℕ) → reads u ≡ true → reads v ≡ true → reads w ≡ true → earlier u v ≡ true → earlier v w ≡ true → earlier u w ≡ true

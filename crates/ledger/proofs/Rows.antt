-- The row of a stamp, and what it holds.
use Rattle.std.proofs.Common.{◌≡◌, ℕ, true, false, ◌⊎◌, List, [], ◌∷◌, is_some, Some, None, Option, sym, refl, ap, inl, inr}
use Rattle.words.specs.Forms.{same_values}
use Rattle.ledger.specs.Ledger.{Node, Row, Apart, row_of, node_of, node_in, struck_of, struck_in}
use Rattle.ledger.proofs.Same.{true_or_false, never, same_list_true, same_list_refl, apart_lists}
use Rattle.ledger.proofs.Members.{In}

-- a value that may be none is none, or some with its value
pub none_or_some : {A : Type 0} (x : Option A) → (x ≡ None) ⊎ ((a : A) × (x ≡ Some a))
none_or_some None = inl refl
none_or_some (Some a) = inr (a, refl)

pub none_not_some : {A : Type 0} (a : A) → None ≡ Some a → ⊥
none_not_some a h = never (is_some (Some a)) refl (ap is_some (sym h))

pub some_is : {A : Type 0} (x : Option A) → is_some x ≡ true → (a : A) × (x ≡ Some a)
some_is None h = absurd (never false h refl)
some_is (Some a) h = (a, refl)

pub row_found : (s : List ℕ) (rows : List Row) (r : Row) → row_of s rows ≡ Some r → In r rows × (r.stamp ≡ s)
row_found s [] r h = absurd (none_not_some r h)
row_found s (q ∷ rows) r h = elim (true_or_false (same_values q.stamp s)) [
  | inl t ↦ let e : Some q ≡ Some r = rw t at h in let f : q ≡ r = cc in (inl f, rw (← f) (same_list_true q.stamp s t))
  | inr t ↦ let g = row_found s rows r (rw t at h) in (inr g.0, g.1)
]

pub row_none : (s : List ℕ) (rows : List Row) (r : Row) → row_of s rows ≡ None → In r rows → r.stamp ≡ s → ⊥
row_none s [] r h i e = i
row_none s (q ∷ rows) r h (inl f) e = never (is_some (Some q)) refl (ap is_some (rw (f, e, same_list_refl s) at h))
row_none s (q ∷ rows) r h (inr i) e = elim (true_or_false (same_values q.stamp s)) [
  | inl t ↦ never (is_some (Some q)) refl (ap is_some (rw t at h))
  | inr t ↦ row_none s rows r (rw t at h) i e
]

pub row_at : (rows : List Row) → Apart rows → (r : Row) → In r rows → row_of r.stamp rows ≡ Some r
row_at [] a r h = elim h [ ]
row_at (q ∷ rows) a r (inl e) = rw (e, same_list_refl r.stamp)
row_at (q ∷ rows) a r (inr i) = rw (apart_lists q.stamp r.stamp (λ e. row_none q.stamp rows r a.0 i (sym e))) (row_at rows a.1 r i)

-- an insertion or a deletion is found in a row
pub node_found : (s : List ℕ) (rows : List Row) (w : Node) → node_of s rows ≡ Some w → (r : Row) × (row_of s rows ≡ Some r) × (r.node ≡ Some w)
node_found s rows w h = elim (none_or_some (row_of s rows)) [
  | inl n ↦ absurd (none_not_some w (rw n at h))
  | inr f ↦ (f.0, f.1, rw f.1 at h)
]

pub node_here : (s : List ℕ) (rows : List Row) (r : Row) → row_of s rows ≡ Some r → node_of s rows ≡ r.node
node_here s rows r h = ap node_in h

pub struck_here : (s : List ℕ) (rows : List Row) (r : Row) → row_of s rows ≡ Some r → struck_of s rows ≡ r.struck
struck_here s rows r h = ap struck_in h

pub struck_found : (s : List ℕ) (rows : List Row) → struck_of s rows ≡ true → (r : Row) × (row_of s rows ≡ Some r) × (r.struck ≡ true)
struck_found s rows h = elim (none_or_some (row_of s rows)) [
  | inl n ↦ absurd (never false (rw n at h) refl)
  | inr f ↦ (f.0, f.1, rw f.1 at h)
]

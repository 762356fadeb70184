-- What is so of the filled slots stays so, once a slot is written anew or one is filled.
use Rattle.std.proofs.Common.{◌≡◌, ℕ, zero, suc, ◌+◌, ◌<◌, List, [], ◌∷◌, ◌++◌, length, get_or, take, set, None, sym, refl, ap, ◌∙◌, subst, arith}
use Rattle.std.proofs.lemmas.List.{length-take-le, map_push, map-set, take_more_set}
use Rattle.ledger.specs.Calls.{blank}
use Rattle.ledger.specs.Ledger.{Apart, Row, row_of}
use Rattle.slots.specs.Rows.{Fills, row_in, rows_in}
use Rattle.slots.specs.declared.records.Slot.{Slot}
use Rattle.page.specs.Filled.{AllElsewhere, AllFill, Elsewhere}
use Rattle.page.specs.Holding.{Holds, filled_in, ledger_in}
use Rattle.page.specs.declared.pages.Page.{Page}
use Rattle.slots.proofs.Scans.{length_rows, row_there}
use Rattle.page.proofs.Updating.{apart_push, apart_set}

-- a part that is longer than the place that is written
pub take_set_in : {A : Type 0} (n : ℕ) (xs : List A) (i : ℕ) (x : A) → i < n → take n (set xs i x) ≡ set (take n xs) i x
take_set_in zero xs i x h = let no : ⊥ = omega arith in absurd no
take_set_in (suc n) [] i x h = refl
take_set_in (suc n) (y ∷ xs) zero x h = refl
take_set_in (suc n) (y ∷ xs) (suc i) x h = ap (λ zs. y ∷ zs) (take_set_in n xs i x (omega arith))

elsewhere_set : (rows : List Row) (i : ℕ) (r : Row) → Elsewhere r.stamp r.node → AllElsewhere rows → AllElsewhere (set rows i r)
elsewhere_set [] i r h a = tt
elsewhere_set (q ∷ rows) zero r h a = (h, a.1)
elsewhere_set (q ∷ rows) (suc i) r h a = (a.0, elsewhere_set rows i r h a.1)

elsewhere_push : (rows : List Row) (r : Row) → Elsewhere r.stamp r.node → AllElsewhere rows → AllElsewhere (rows ++ (r ∷ []))
elsewhere_push [] r h a = (h, tt)
elsewhere_push (q ∷ rows) r h a = (a.0, elsewhere_push rows r h a.1)

pub elsewhere_at : (rows : List Row) (i : ℕ) (d : Row) → i < length rows → AllElsewhere rows → Elsewhere (get_or rows i d).stamp (get_or rows i d).node
elsewhere_at [] i d h a = let no : ⊥ = omega arith in absurd no
elsewhere_at (q ∷ rows) zero d h a = a.0
elsewhere_at (q ∷ rows) (suc i) d h a = elsewhere_at rows i d (omega arith) a.1

module _ {S E : Type 0} (vs : S → List ℕ) (es : E → List ℕ) (filler : List ℕ) where
  fill_set : (xs : List (Slot S E)) (i : ℕ) (x : Slot S E) → Fills es filler x → AllFill es filler xs → AllFill es filler (set xs i x)
  fill_set [] i x h a = tt
  fill_set (y ∷ xs) zero x h a = (h, a.1)
  fill_set (y ∷ xs) (suc i) x h a = (a.0, fill_set xs i x h a.1)

  fill_push : (xs : List (Slot S E)) (x : Slot S E) → Fills es filler x → AllFill es filler xs → AllFill es filler (xs ++ (x ∷ []))
  fill_push [] x h a = (h, tt)
  fill_push (y ∷ xs) x h a = (a.0, fill_push xs x h a.1)

  pub fill_at : (xs : List (Slot S E)) (i : ℕ) (x : Slot S E) → i < length xs → x ≡ get_or xs i x → AllFill es filler xs → Fills es filler x
  fill_at [] i x h is a = let no : ⊥ = omega arith in absurd no
  fill_at (y ∷ xs) zero x h is a = subst (Fills es filler) (sym is) a.0
  fill_at (y ∷ xs) (suc i) x h is a = fill_at xs i x (omega arith) is a.1

  module _ (xs : List (Slot S E)) (n : ℕ) (x : Slot S E) where
    abbrev rows : List Row
    rows = rows_in vs es (take n xs)

    -- ---- written anew
    module _ (i : ℕ) (h : i < n) where
      pub rows_put : rows_in vs es (take n (set xs i x)) ≡ set rows i (row_in vs es x)
      rows_put = ap (rows_in vs es) (take_set_in n xs i x h) ∙ map-set (row_in vs es) (take n xs) i x

      pub apart_put : (d : Row) → (row_in vs es x).stamp ≡ (get_or rows i d).stamp → Apart rows → Apart (rows_in vs es (take n (set xs i x)))
      apart_put d same a = subst Apart (sym rows_put) (apart_set rows i (row_in vs es x) d same a)

      pub elsewhere_put : Elsewhere (row_in vs es x).stamp (row_in vs es x).node → AllElsewhere rows → AllElsewhere (rows_in vs es (take n (set xs i x)))
      elsewhere_put e a = subst AllElsewhere (sym rows_put) (elsewhere_set rows i (row_in vs es x) e a)

      pub fill_put : Fills es filler x → AllFill es filler (take n xs) → AllFill es filler (take n (set xs i x))
      fill_put f a = subst (AllFill es filler) (sym (take_set_in n xs i x h)) (fill_set (take n xs) i x f a)

    -- ---- one more
    module _ (h : n < length xs) where
      rows_more : rows_in vs es (take (n + 1) (set xs n x)) ≡ rows ++ (row_in vs es x ∷ [])
      rows_more = ap (rows_in vs es) (take_more_set xs n x h) ∙ map_push (row_in vs es) (take n xs) x

      pub apart_more : row_of (row_in vs es x).stamp rows ≡ None → Apart rows → Apart (rows_in vs es (take (n + 1) (set xs n x)))
      apart_more new a = subst Apart (sym rows_more) (apart_push rows (row_in vs es x) new a)

      pub elsewhere_more : Elsewhere (row_in vs es x).stamp (row_in vs es x).node → AllElsewhere rows → AllElsewhere (rows_in vs es (take (n + 1) (set xs n x)))
      elsewhere_more e a = subst AllElsewhere (sym rows_more) (elsewhere_push rows (row_in vs es x) e a)

      pub fill_more : Fills es filler x → AllFill es filler (take n xs) → AllFill es filler (take (n + 1) (set xs n x))
      fill_more f a = subst (AllFill es filler) (sym (take_more_set xs n x h)) (fill_push (take n xs) x f a)

-- ---- a filled slot of a page
module _ {S E : Type 0} (p : Page S E) where
  pub filled_length : length (filled_in p) ≡ p.filled
  filled_length = length-take-le p.filled p.slots.now (let a = p.within in let b = p.room in omega arith)

module _ {S E : Type 0} (vs : S → List ℕ) (es : E → List ℕ) (p : Page S E) where
  pub rows_length : length (ledger_in vs es p).rows ≡ p.filled
  rows_length = length_rows vs es (filled_in p) ∙ filled_length p

  module _ (i : ℕ) (x : Slot S E) (h : i < p.filled) (xs : List (Slot S E)) (held : xs ≡ filled_in p) (is : x ≡ get_or xs i x) where
    inside : i < length (filled_in p)
    inside = let n = filled_length p in omega arith

    here : x ≡ get_or (filled_in p) i x
    here = subst (λ ys. x ≡ get_or ys i x) held is

    pub row_here : get_or (ledger_in vs es p).rows i (blank []) ≡ row_in vs es x
    row_here = row_there vs es (filled_in p) i x (blank []) inside here

    pub elsewhere_here : {filler : List ℕ} → Holds vs es filler p → Elsewhere (row_in vs es x).stamp (row_in vs es x).node
    elsewhere_here holds = subst (λ (r : Row). Elsewhere r.stamp r.node) row_here (elsewhere_at (ledger_in vs es p).rows i (blank []) (let n = rows_length in omega arith) holds.elsewhere)

    pub fills_here : {filler : List ℕ} → Holds vs es filler p → Fills es filler x
    fills_here {filler} holds = fill_at vs es filler (filled_in p) i x inside here holds.fillers

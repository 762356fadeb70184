-- Searches through slots, by the rows that they say.
use Rattle.std.proofs.Common.{◌≡◌, ℕ, zero, suc, ◌+◌, ◌<◌, Bool, true, false, List, [], ◌∷◌, ◌++◌, length, get_or, take, Some, None, IfNone, IfSome, Option, sym, refl, ap, ◌∙◌, inl, inr, arith}
use Rattle.std.proofs.lemmas.List.{get_or-map, length-map, map_more, take-map, take_all}
use Rattle.std.specs.List.{AllWithin, HoldsAt, find}
use Rattle.std.specs.Option.{option_map}
use Rattle.words.specs.Forms.{same_values}
use Rattle.ledger.specs.Calls.{blank}
use Rattle.ledger.specs.Ledger.{Row, row_of}
use Rattle.ledger.proofs.Same.{true_or_false, same_list_refl, same_list_true}
use Rattle.ledger.proofs.Rows.{none_not_some}
use Rattle.slots.specs.Finding.{FirstWith}
use Rattle.slots.specs.Rows.{row_in, rows_in}
use Rattle.slots.specs.declared.records.Slot.{Slot}

module _ {S E : Type 0} (vs : S → List ℕ) (es : E → List ℕ) where
  pub length_rows : (xs : List (Slot S E)) → length (rows_in vs es xs) ≡ length xs
  length_rows xs = length-map xs (row_in vs es)

  pub row_there : (xs : List (Slot S E)) (i : ℕ) (x : Slot S E) (d : Row) → i < length xs → x ≡ get_or xs i x → get_or (rows_in vs es xs) i d ≡ row_in vs es x
  row_there xs i x d h is = get_or-map (row_in vs es) xs i x d h ∙ ap (row_in vs es) (sym is)

  pub rows_more : (xs : List (Slot S E)) (i : ℕ) (x : Slot S E) → i < length xs → x ≡ get_or xs i x → rows_in vs es (take (i + 1) xs) ≡ rows_in vs es (take i xs) ++ (row_in vs es x ∷ [])
  rows_more xs i x h is = map_more (row_in vs es) xs i x h ∙ ap (λ z. rows_in vs es (take i xs) ++ (row_in vs es z ∷ [])) (sym is)

  pub rows_front : (xs : List (Slot S E)) (i : ℕ) → rows_in vs es (take i xs) ≡ take i (rows_in vs es xs)
  rows_front xs i = sym (take-map (row_in vs es) i xs)

-- another row that has not the stamp
pub none_more : (v : List ℕ) (rows : List Row) (r : Row) → row_of v rows ≡ None → same_values r.stamp v ≡ false → row_of v (rows ++ (r ∷ [])) ≡ None
none_more v [] r h e = rw e
none_more v (q ∷ rows) r h e = elim (true_or_false (same_values q.stamp v)) [
  | inl t ↦ absurd (none_not_some q (sym (rw t at h)))
  | inr t ↦ rw t (none_more v rows r (rw t at h) e)
]

-- the first row with the stamp is the row of the stamp
pub first_row : (v : List ℕ) (rows : List Row) (i : ℕ) (d : Row) → i < length rows → row_of v (take i rows) ≡ None → (get_or rows i d).stamp ≡ v → row_of v rows ≡ Some (get_or rows i d)
first_row v [] i d h n e = let no : ⊥ = omega arith in absurd no
first_row v (q ∷ rows) zero d h n e = rw (e, same_list_refl v)
first_row v (q ∷ rows) (suc i) d h n e = elim (true_or_false (same_values q.stamp v)) [
  | inl t ↦ absurd (none_not_some q (sym (rw t at n)))
  | inr t ↦ rw t (first_row v rows i d (omega arith) (rw t at n) e)
]

-- so the slot that a search finds is that of the stamp
pub slot_found : {S E : Type 0} (vs : S → List ℕ) (es : E → List ℕ) (xs : List (Slot S E)) (v : List ℕ) (i : ℕ) (x : Slot S E) → FirstWith v (rows_in vs es xs) (Some i) → i < length xs → x ≡ get_or xs i x → row_of v (rows_in vs es xs) ≡ Some (row_in vs es x)
slot_found vs es xs v i x f h is = first_row v (rows_in vs es xs) i (blank []) f.0 f.1 f.2 ∙ ap Some (row_there vs es xs i x (blank []) h is)

-- ---- what std's searches find
module _ {S E : Type 0} (vs : S → List ℕ) (es : E → List ℕ) (v : List ℕ) where
  abbrev pub has : Slot S E → Bool
  has x = same_values (vs x.stamp) v

  found_at : (xs : List (Slot S E)) → option_map (row_in vs es) (find has xs) ≡ row_of v (rows_in vs es xs)
  found_at [] = refl
  found_at (x ∷ xs) = elim (true_or_false (has x)) [ inl t ↦ rw t refl | inr t ↦ rw t (found_at xs) ]

  -- where a search lends what it finds
  pub found_is : {A : Type 0} (shown : A → Slot S E) (found : Option A) (xs : List (Slot S E)) → option_map shown found ≡ find has xs → option_map (λ x. row_in vs es (shown x)) found ≡ row_of v (rows_in vs es xs)
  found_is shown None xs is = ap (option_map (row_in vs es)) is ∙ found_at xs
  found_is shown (Some x) xs is = ap (option_map (row_in vs es)) is ∙ found_at xs

  -- the first n have not the stamp
  none_of : (xs : List (Slot S E)) (n : ℕ) → AllWithin (λ x. has x ≡ false) xs 0 n → row_of v (take n (rows_in vs es xs)) ≡ None
  none_of xs zero a = refl
  none_of [] (suc n) a = refl
  none_of (x ∷ xs) (suc n) a =
      let t : has x ≡ false = a 0 x (omega arith) (omega arith) in
      rw t (none_of xs n (λ k d l m. a (suc k) d (omega arith) (omega arith)))

  stamp_there : (xs : List (Slot S E)) (i : ℕ) (d : Row) → i < length xs → HoldsAt (λ x. has x ≡ true) xs i → (get_or (rows_in vs es xs) i d).stamp ≡ v
  stamp_there [] i d h a = let no : ⊥ = omega arith in absurd no
  stamp_there (x ∷ xs) zero d h a = same_list_true (vs x.stamp) v (a x)
  stamp_there (x ∷ xs) (suc i) d h a = stamp_there xs i d (omega arith) a

  -- the first slot that has the stamp, by its number
  pub first_is : (xs : List (Slot S E)) (r : Option ℕ) → IfNone r (AllWithin (λ x. has x ≡ false) xs 0 (length xs)) → IfSome r (λ i. i < length xs) → IfSome r (λ i. AllWithin (λ x. has x ≡ false) xs 0 i) → IfSome r (λ i. HoldsAt (λ x. has x ≡ true) xs i) → FirstWith v (rows_in vs es xs) r
  first_is xs None none within before at = let n = length_rows vs es xs in ap (row_of v) (sym (take_all (length xs) (rows_in vs es xs) (omega arith))) ∙ none_of xs (length xs) none
  first_is xs (Some i) none within before at = let n = length_rows vs es xs in (omega (arith, within), none_of xs i before, stamp_there xs i (blank []) within at)

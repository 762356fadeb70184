-- What a call makes of the rows, as one row written anew or one row more.
use Rattle.std.proofs.Common.{◌≡◌, ℕ, zero, suc, ◌<◌, false, cond, List, [], ◌∷◌, ◌++◌, length, get_or, take, set, Some, None, sym, refl, ap, inl, inr, arith}
use Rattle.words.specs.Forms.{same_values}
use Rattle.messages.specs.Model.{Said, stamp_of}
use Rattle.messages.specs.declared.model.Message.TheVariants.{Deletion}
use Rattle.messages.specs.declared.model.Operation.{Operation}
use Rattle.messages.specs.declared.model.Operation.TheVariants.{Insert, Delete}
use Rattle.ledger.specs.Calls.{added, blank, merge}
use Rattle.ledger.specs.Laws.{mark, unmark}
use Rattle.ledger.specs.Ledger.{Apart, Node, Row, insertion, row_of}
use Rattle.ledger.proofs.Rows.{none_not_some}
use Rattle.ledger.proofs.Same.{true_or_false, same_list_refl, same_list_false, apart_lists}
use Rattle.slots.specs.Rows.{made_row, sent_row, struck_row}

-- the first row of the stamp written anew
abbrev pub anew : (Row → Row) → List ℕ → List Row → List Row
anew f v [] = []
anew f v (r ∷ rows) = cond (same_values r.stamp v) (f r ∷ rows) (r ∷ anew f v rows)

pub anew_set : (f : Row → Row) (v : List ℕ) (rows : List Row) (i : ℕ) (d : Row) → i < length rows → row_of v (take i rows) ≡ None → (get_or rows i d).stamp ≡ v → anew f v rows ≡ set rows i (f (get_or rows i d))
anew_set f v [] i d h n e = refl
anew_set f v (q ∷ rows) zero d h n e = rw (e, same_list_refl v)
anew_set f v (q ∷ rows) (suc i) d h n e = elim (true_or_false (same_values q.stamp v)) [
  | inl t ↦ absurd (none_not_some q (sym (rw t at n)))
  | inr t ↦ rw t (ap (λ rs. q ∷ rs) (anew_set f v rows i d (omega arith) (rw t at n) e))
]

-- ---- the calls
pub added_anew : (m : Said) (rows : List Row) (r : Row) → row_of (stamp_of m) rows ≡ Some r → added m rows ≡ anew (merge m) (stamp_of m) rows
added_anew m [] r h = absurd (none_not_some r h)
added_anew m (q ∷ rows) r h = elim (true_or_false (same_values q.stamp (stamp_of m))) [
  | inl t ↦ rw t
  | inr t ↦ rw t (ap (λ rs. q ∷ rs) (added_anew m rows r (rw t at h)))
]

pub added_push : (m : Said) (rows : List Row) → row_of (stamp_of m) rows ≡ None → added m rows ≡ rows ++ (merge m (blank (stamp_of m)) ∷ [])
added_push m [] h = refl
added_push m (q ∷ rows) h = elim (true_or_false (same_values q.stamp (stamp_of m))) [
  | inl t ↦ absurd (none_not_some q (sym (rw t at h)))
  | inr t ↦ rw t (ap (λ rs. q ∷ rs) (added_push m rows (rw t at h)))
]

pub deleted_anew : (v : List ℕ) (rows : List Row) (r : Row) → row_of v rows ≡ Some r → mark Delete v (added (Deletion v) rows) ≡ anew struck_row v rows
deleted_anew v [] r h = absurd (none_not_some r h)
deleted_anew v (q ∷ rows) r h = elim (true_or_false (same_values q.stamp v)) [
  | inl t ↦ rw (t, t)
  | inr t ↦ rw (t, t) (ap (λ rs. q ∷ rs) (deleted_anew v rows r (rw t at h)))
]

pub inserted_push : (s : List ℕ) (w : Node) (rows : List Row) → row_of s rows ≡ None → mark Insert s (added (insertion s w) rows) ≡ rows ++ (made_row s w ∷ [])
inserted_push s w [] h = rw (same_list_refl s)
inserted_push s w (q ∷ rows) h = elim (true_or_false (same_values q.stamp s)) [
  | inl t ↦ absurd (none_not_some q (sym (rw t at h)))
  | inr t ↦ rw (t, t) (ap (λ rs. q ∷ rs) (inserted_push s w rows (rw t at h)))
]

pub unmark_anew : (op : Operation) (v : List ℕ) (rows : List Row) → unmark op v rows ≡ anew (sent_row op) v rows
unmark_anew op v [] = refl
unmark_anew Insert v (q ∷ rows) = elim (true_or_false (same_values q.stamp v)) [ inl t ↦ rw t | inr t ↦ rw t (ap (λ rs. q ∷ rs) (unmark_anew Insert v rows)) ]
unmark_anew Delete v (q ∷ rows) = elim (true_or_false (same_values q.stamp v)) [ inl t ↦ rw t | inr t ↦ rw t (ap (λ rs. q ∷ rs) (unmark_anew Delete v rows)) ]

-- ---- each stamp stays in one row
row_set : (v : List ℕ) (rows : List Row) (i : ℕ) (r d : Row) → r.stamp ≡ (get_or rows i d).stamp → row_of v rows ≡ None → row_of v (set rows i r) ≡ None
row_set v [] i r d e n = refl
row_set v (q ∷ rows) zero r d e n = elim (true_or_false (same_values q.stamp v)) [
  | inl t ↦ absurd (none_not_some q (sym (rw t at n)))
  | inr t ↦ rw (e, t) (rw t at n)
]
row_set v (q ∷ rows) (suc i) r d e n = elim (true_or_false (same_values q.stamp v)) [
  | inl t ↦ absurd (none_not_some q (sym (rw t at n)))
  | inr t ↦ rw t (row_set v rows i r d e (rw t at n))
]

pub apart_set : (rows : List Row) (i : ℕ) (r d : Row) → r.stamp ≡ (get_or rows i d).stamp → Apart rows → Apart (set rows i r)
apart_set [] i r d e a = tt
apart_set (q ∷ rows) zero r d e a = (rw e a.0, a.1)
apart_set (q ∷ rows) (suc i) r d e a = (row_set q.stamp rows i r d e a.0, apart_set rows i r d e a.1)

row_push : (v : List ℕ) (rows : List Row) (r : Row) → same_values r.stamp v ≡ false → row_of v rows ≡ None → row_of v (rows ++ (r ∷ [])) ≡ None
row_push v [] r e n = rw e
row_push v (q ∷ rows) r e n = elim (true_or_false (same_values q.stamp v)) [
  | inl t ↦ absurd (none_not_some q (sym (rw t at n)))
  | inr t ↦ rw t (row_push v rows r e (rw t at n))
]

pub apart_push : (rows : List Row) (r : Row) → row_of r.stamp rows ≡ None → Apart rows → Apart (rows ++ (r ∷ []))
apart_push [] r n a = (refl, tt)
apart_push (q ∷ rows) r n a = elim (true_or_false (same_values q.stamp r.stamp)) [
  | inl t ↦ absurd (none_not_some q (sym (rw t at n)))
  | inr t ↦ (row_push q.stamp rows r (turned q.stamp r.stamp t) a.0, apart_push rows r (rw t at n) a.1)
]
  where
    turned : (v w : List ℕ) → same_values v w ≡ false → same_values w v ≡ false
    turned v w e = apart_lists w v (λ s. same_list_false v w e (sym s))

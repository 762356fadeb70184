-- What a message that is added, and a mark that is set or taken away, leave as it was.
use Rattle.std.proofs.Common.{◌≡◌, ℕ, suc, ◌≤◌, true, ◌||◌, List, [], ◌∷◌, length, is_some, Some, None, sym, refl, ap, ◌∙◌, subst, inl, inr, arith}
use Rattle.std.proofs.lemmas.Bool.{or_right}
use Rattle.words.specs.Forms.{same_values}
use Rattle.ledger.specs.Kinds.{Stamps}
use Rattle.ledger.specs.Ledger.{Node, Row, row_of, node_of, node_in, struck_of, struck_in, Location, Apart}
use Rattle.messages.specs.declared.model.Place.TheVariants.{Ground, Under}
use Rattle.messages.specs.declared.model.Message.TheVariants.{Insertion, Deletion}
use Rattle.messages.specs.Model.{Said, stamp_of}
use Rattle.ledger.specs.Calls.{added, merge, blank}
use Rattle.ledger.specs.Laws.{mark, unmark}
use Rattle.messages.specs.declared.model.Operation.{Operation}
use Rattle.messages.specs.declared.model.Operation.TheVariants.{Insert, Delete}
use Rattle.ledger.proofs.Same.{true_or_false, same_list_true, same_list_refl, same_list_false, apart_lists, same_lists_or_not}
use Rattle.ledger.proofs.Members.{In}
use Rattle.ledger.proofs.Rows.{none_not_some, node_found, struck_found, node_here, struck_here}
use Rattle.ledger.proofs.Chains.{Holds}

-- what a row in good order has
abbrev pub PlaceReads : Stamps → Location → Type 0
PlaceReads k Ground = Unit {0}
PlaceReads k (Under d p) = k.form.reads p ≡ true

pub record GoodRow (k : Stamps) (r : Row) : Type 0 where
  pub stamp_reads : k.form.reads r.stamp ≡ true
  pub place_reads : (w : Node) → r.node ≡ Some w → PlaceReads k w.place
  pub not_blank : (is_some r.node || r.struck) ≡ true

-- rows that have come to hold no less
pub record Grows (rows more : List Row) : Type 0 where
  pub insertions : Holds rows more
  pub deletions : (s : List ℕ) → struck_of s rows ≡ true → struck_of s more ≡ true

-- ---- a message added
pub merge_stamp : (m : Said) (r : Row) → (merge m r).stamp ≡ r.stamp
merge_stamp (Insertion s pl en) r = refl
merge_stamp (Deletion s) r = refl

pub added_other : (m : Said) (rows : List Row) (s : List ℕ) → (stamp_of m ≡ s → ⊥) → row_of s (added m rows) ≡ row_of s rows
added_other m [] s n = rw (merge_stamp m (blank (stamp_of m)), apart_lists (stamp_of m) s n)
added_other m (r ∷ rows) s n = elim (true_or_false (same_values r.stamp (stamp_of m))) [
  | inl t ↦ let here : r.stamp ≡ stamp_of m = same_list_true r.stamp (stamp_of m) t in
      rw (t, merge_stamp m r, apart_lists r.stamp s (λ e. n (sym here ∙ e)))
  | inr t ↦ rw (t, added_other m rows s n)
]

pub added_new : (m : Said) (rows : List Row) → row_of (stamp_of m) rows ≡ None → row_of (stamp_of m) (added m rows) ≡ Some (merge m (blank (stamp_of m)))
added_new m [] h = rw (merge_stamp m (blank (stamp_of m)), same_list_refl (stamp_of m))
added_new m (r ∷ rows) h = elim (true_or_false (same_values r.stamp (stamp_of m))) [
  | inl t ↦ absurd (none_not_some r (sym (rw t at h)))
  | inr t ↦ rw (t, t) (added_new m rows (rw t at h))
]

pub added_old : (m : Said) (rows : List Row) (r : Row) → row_of (stamp_of m) rows ≡ Some r → row_of (stamp_of m) (added m rows) ≡ Some (merge m r)
added_old m [] r h = absurd (none_not_some r h)
added_old m (q ∷ rows) r h = elim (true_or_false (same_values q.stamp (stamp_of m))) [
  | inl t ↦ let e : Some q ≡ Some r = rw t at h in let f : q ≡ r = cc in rw (t, merge_stamp m q, t, f)
  | inr t ↦ rw (t, t) (added_old m rows r (rw t at h))
]

pub added_apart : (m : Said) (rows : List Row) → Apart rows → Apart (added m rows)
added_apart m [] a = (refl, tt)
added_apart m (r ∷ rows) a = elim (true_or_false (same_values r.stamp (stamp_of m))) [
  | inl t ↦ rw (t, merge_stamp m r) a
  | inr t ↦ rw t (added_other m rows r.stamp (λ e. same_list_false r.stamp (stamp_of m) t (sym e)) ∙ a.0, added_apart m rows a.1)
]

pub added_length_new : (m : Said) (rows : List Row) → length (added m rows) ≤ suc (length rows)
added_length_new m [] = omega arith
added_length_new m (r ∷ rows) = elim (true_or_false (same_values r.stamp (stamp_of m))) [
  | inl t ↦ rw t (omega arith)
  | inr t ↦ rw t (omega (arith, added_length_new m rows))
]

pub added_length_old : (m : Said) (rows : List Row) (r : Row) → row_of (stamp_of m) rows ≡ Some r → length (added m rows) ≡ length rows
added_length_old m [] r h = absurd (none_not_some r h)
added_length_old m (q ∷ rows) r h = elim (true_or_false (same_values q.stamp (stamp_of m))) [
  | inl t ↦ rw t
  | inr t ↦ rw t (ap suc (added_length_old m rows r (rw t at h)))
]

abbrev pub GoodMessage : Stamps → Said → Type 0
GoodMessage k (Insertion s pl en) = (k.form.reads s ≡ true) × PlaceReads k pl
GoodMessage k (Deletion s) = k.form.reads s ≡ true

pub merge_good : (k : Stamps) (m : Said) (r : Row) → GoodMessage k m → GoodRow k r → GoodRow k (merge m r)
merge_good k (Insertion s pl en) r g h = record { stamp_reads = h.stamp_reads; place_reads = λ v e. let same : ◌≡◌ {A = Node} (record { place = pl; entry = en }) v = cc in subst (PlaceReads k) (ap (λ (x : Node). x.place) same) g.1; not_blank = refl }
merge_good k (Deletion s) r g h = record { stamp_reads = h.stamp_reads; place_reads = h.place_reads; not_blank = or_right (is_some r.node) true refl }

pub new_good : (k : Stamps) (m : Said) → GoodMessage k m → GoodRow k (merge m (blank (stamp_of m)))
new_good k (Insertion s pl en) g = record { stamp_reads = g.0; place_reads = λ v e. let same : ◌≡◌ {A = Node} (record { place = pl; entry = en }) v = cc in subst (PlaceReads k) (ap (λ (x : Node). x.place) same) g.1; not_blank = refl }
new_good k (Deletion s) g = record { stamp_reads = g; place_reads = λ v e. absurd (none_not_some v e); not_blank = refl }

pub added_good : (k : Stamps) (m : Said) (rows : List Row) → GoodMessage k m → ((r : Row) → In r rows → GoodRow k r) → (r : Row) → In r (added m rows) → GoodRow k r
added_good k m [] g h r (inl e) = rw e at (new_good k m g)
added_good k m [] g h r (inr i) = elim i [ ]
added_good k m (q ∷ rows) g h r i = elim (true_or_false (same_values q.stamp (stamp_of m))) [
  | inl t ↦ elim (rw t at i) [
    | inl e ↦ rw e at (merge_good k m q g (h q (inl refl)))
    | inr j ↦ h r (inr j)
  ]
  | inr t ↦ elim (rw t at i) [
    | inl e ↦ h r (inl e)
    | inr j ↦ added_good k m rows g (λ x y. h x (inr y)) r j
  ]
]

-- an insertion whose stamp holds no other insertion
abbrev pub NoOther : List Row → Said → Type 0
NoOther rows (Insertion s pl en) = (v : Node) → node_of s rows ≡ Some v → v ≡ (record { place = pl; entry = en })
NoOther rows (Deletion s) = Unit {0}

merge_node : (m : Said) (rows : List Row) (r : Row) (w : Node) → NoOther rows m → row_of (stamp_of m) rows ≡ Some r → r.node ≡ Some w → (merge m r).node ≡ Some w
merge_node (Insertion s pl en) rows r w n h e = let same : w ≡ (record { place = pl; entry = en }) = n w (node_here s rows r h ∙ e) in rw same
merge_node (Deletion s) rows r w n h e = e

merge_struck : (m : Said) (r : Row) → r.struck ≡ true → (merge m r).struck ≡ true
merge_struck (Insertion s pl en) r e = e
merge_struck (Deletion s) r e = refl

pub added_grows : (m : Said) (rows : List Row) → NoOther rows m → Grows rows (added m rows)
added_grows m rows n = record { insertions = insertions; deletions = deletions }
  where
    insertions : Holds rows (added m rows)
    insertions s w h = elim (same_lists_or_not (stamp_of m) s) [
      | inl e ↦
          let h' : node_of (stamp_of m) rows ≡ Some w = rw e h in
          let f = node_found (stamp_of m) rows w h' in
          let after : node_of (stamp_of m) (added m rows) ≡ Some w = node_here (stamp_of m) (added m rows) (merge m f.0) (added_old m rows f.0 f.1) ∙ merge_node m rows f.0 w n f.1 f.2 in
          rw e at after
      | inr d ↦ ap node_in (added_other m rows s d) ∙ h
    ]

    deletions : (s : List ℕ) → struck_of s rows ≡ true → struck_of s (added m rows) ≡ true
    deletions s h = elim (same_lists_or_not (stamp_of m) s) [
      | inl e ↦
          let h' : struck_of (stamp_of m) rows ≡ true = rw e h in
          let f = struck_found (stamp_of m) rows h' in
          let after : struck_of (stamp_of m) (added m rows) ≡ true = struck_here (stamp_of m) (added m rows) (merge m f.0) (added_old m rows f.0 f.1) ∙ merge_struck m f.0 f.2 in
          rw e at after
      | inr d ↦ ap struck_in (added_other m rows s d) ∙ h
    ]

-- ---- marks
pub record SameRow (r q : Row) : Type 0 where
  pub stamp_same : q.stamp ≡ r.stamp
  pub node_same : q.node ≡ r.node
  pub struck_same : q.struck ≡ r.struck

abbrev pub Alike : List Row → List Row → Type 0
Alike [] [] = Unit {0}
Alike [] (q ∷ qs) = ⊥
Alike (r ∷ rs) [] = ⊥
Alike (r ∷ rs) (q ∷ qs) = SameRow r q × Alike rs qs

same_row : (r : Row) → SameRow r r
same_row r = record { stamp_same = refl; node_same = refl; struck_same = refl }

pub alike_same : (rows : List Row) → Alike rows rows
alike_same [] = tt
alike_same (r ∷ rs) = (same_row r, alike_same rs)

pub mark_alike : (op : Operation) (s : List ℕ) (rows : List Row) → Alike rows (mark op s rows)
mark_alike op s [] = tt
mark_alike Insert s (r ∷ rs) = elim (true_or_false (same_values r.stamp s)) [
  | inl t ↦ rw t (record { stamp_same = refl; node_same = refl; struck_same = refl }, alike_same rs)
  | inr t ↦ rw t (same_row r, mark_alike Insert s rs)
]
mark_alike Delete s (r ∷ rs) = elim (true_or_false (same_values r.stamp s)) [
  | inl t ↦ rw t (record { stamp_same = refl; node_same = refl; struck_same = refl }, alike_same rs)
  | inr t ↦ rw t (same_row r, mark_alike Delete s rs)
]

pub unmark_alike : (op : Operation) (s : List ℕ) (rows : List Row) → Alike rows (unmark op s rows)
unmark_alike op s [] = tt
unmark_alike Insert s (r ∷ rs) = elim (true_or_false (same_values r.stamp s)) [
  | inl t ↦ rw t (record { stamp_same = refl; node_same = refl; struck_same = refl }, alike_same rs)
  | inr t ↦ rw t (same_row r, unmark_alike Insert s rs)
]
unmark_alike Delete s (r ∷ rs) = elim (true_or_false (same_values r.stamp s)) [
  | inl t ↦ rw t (record { stamp_same = refl; node_same = refl; struck_same = refl }, alike_same rs)
  | inr t ↦ rw t (same_row r, unmark_alike Delete s rs)
]

pub alike_length : (rows more : List Row) → Alike rows more → length more ≡ length rows
alike_length [] [] a = refl
alike_length [] (q ∷ qs) a = elim a [ ]
alike_length (r ∷ rs) [] a = elim a [ ]
alike_length (r ∷ rs) (q ∷ qs) a = ap suc (alike_length rs qs a.1)

pub alike_none : (rows more : List Row) (s : List ℕ) → Alike rows more → row_of s rows ≡ None → row_of s more ≡ None
alike_none [] [] s a h = refl
alike_none [] (q ∷ qs) s a h = elim a [ ]
alike_none (r ∷ rs) [] s a h = elim a [ ]
alike_none (r ∷ rs) (q ∷ qs) s a h = elim (true_or_false (same_values r.stamp s)) [
  | inl t ↦ absurd (none_not_some r (sym (rw t at h)))
  | inr t ↦ rw (a.0.stamp_same, t) (alike_none rs qs s a.1 (rw t at h))
]

pub alike_node : (rows more : List Row) (s : List ℕ) → Alike rows more → node_of s more ≡ node_of s rows
alike_node [] [] s a = refl
alike_node [] (q ∷ qs) s a = elim a [ ]
alike_node (r ∷ rs) [] s a = elim a [ ]
alike_node (r ∷ rs) (q ∷ qs) s a = elim (true_or_false (same_values r.stamp s)) [
  | inl t ↦ rw (a.0.stamp_same, t) a.0.node_same
  | inr t ↦ rw (a.0.stamp_same, t) (alike_node rs qs s a.1)
]

pub alike_struck : (rows more : List Row) (s : List ℕ) → Alike rows more → struck_of s more ≡ struck_of s rows
alike_struck [] [] s a = refl
alike_struck [] (q ∷ qs) s a = elim a [ ]
alike_struck (r ∷ rs) [] s a = elim a [ ]
alike_struck (r ∷ rs) (q ∷ qs) s a = elim (true_or_false (same_values r.stamp s)) [
  | inl t ↦ rw (a.0.stamp_same, t) a.0.struck_same
  | inr t ↦ rw (a.0.stamp_same, t) (alike_struck rs qs s a.1)
]

pub alike_apart : (rows more : List Row) → Alike rows more → Apart rows → Apart more
alike_apart [] [] a p = tt
alike_apart [] (q ∷ qs) a p = elim a [ ]
alike_apart (r ∷ rs) [] a p = elim a [ ]
alike_apart (r ∷ rs) (q ∷ qs) a p = (rw a.0.stamp_same (alike_none rs qs r.stamp a.1 p.0), alike_apart rs qs a.1 p.1)

same_good : (k : Stamps) (r q : Row) → SameRow r q → GoodRow k r → GoodRow k q
same_good k r q s g = record {
  stamp_reads = rw s.stamp_same g.stamp_reads;
  place_reads = λ w e. g.place_reads w (sym s.node_same ∙ e);
  not_blank = rw (s.node_same, s.struck_same) g.not_blank;
}

pub alike_good : (k : Stamps) (rows more : List Row) → Alike rows more → ((r : Row) → In r rows → GoodRow k r) → (r : Row) → In r more → GoodRow k r
alike_good k [] [] a g r i = elim i [ ]
alike_good k [] (q ∷ qs) a g r i = elim a [ ]
alike_good k (p ∷ rs) [] a g r i = elim a [ ]
alike_good k (p ∷ rs) (q ∷ qs) a g r (inl e) = rw e at (same_good k p q a.0 (g p (inl refl)))
alike_good k (p ∷ rs) (q ∷ qs) a g r (inr i) = alike_good k rs qs a.1 (λ x y. g x (inr y)) r i

pub alike_grows : (rows more : List Row) → Alike rows more → Grows rows more
alike_grows rows more a = record { insertions = λ s w h. alike_node rows more s a ∙ h; deletions = λ s h. alike_struck rows more s a ∙ h }

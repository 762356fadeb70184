-- What holds of every run: each stamp is in one row, held stamps and parents read, no row is blank, and the rows fit the slots.
-- And what every call leaves: nothing that was held is lost.
use Rattle.std.proofs.Common.{◌≡◌, ℕ, ◌<◌, ◌≤◌, Bool, true, false, cond, not, ◌&&◌, ◌||◌, eqb, ltb, leb, ◌⊎◌, List, [], ◌∷◌, length, is_some, Some, None, Option, sym, refl, ap, inl, inr, arith}
use Rattle.std.proofs.lemmas.Bool.{or_cases, ltb-true, eq-eqb, cond_both}
use Rattle.words.specs.Forms.{same_values}
use Rattle.words.specs.Answers.{Question}
use Rattle.ledger.specs.Basics.{refusal}
use Rattle.ledger.specs.Kinds.{Kinds, Stamps}
use Rattle.ledger.specs.Ledger.{Row, Ledger, row_of, node_of, Location, insertion, Apart}
use Rattle.messages.specs.declared.model.Side.{Side}
use Rattle.messages.specs.declared.model.Side.TheVariants.{Right}
use Rattle.messages.specs.declared.model.Place.TheVariants.{Ground, Under}
use Rattle.messages.specs.declared.model.Message.TheVariants.{Insertion, Deletion}
use Rattle.ledger.specs.Paths.{Step, Placed, in_order, path, placed_all}
use Rattle.messages.specs.FromWords.{bad_parent, entry_in, inserts, names_parent, own_in, parent_at, parent_in, place_in, unread}
use Rattle.ledger.specs.Receive.{receive_questions, message_in, no_other}
use Rattle.messages.specs.Model.{Said, stamp_of}
use Rattle.ledger.specs.Calls.{added, greatest, right_below, firsts, beside, steps_or_none}
use Rattle.ledger.specs.Laws.{Spot, Call, opened, with_rows, insert_questions, place_for, Fresh, mark, unmark, Inserted, delete_questions, outgoing, sent, Marked, next_unsent, sent_next, InsertDoes, deleted, received, Does, Run, History}
use Rattle.ledger.specs.Laws.Spot.{at_top, after}
use Rattle.messages.specs.declared.model.Operation.{Operation}
use Rattle.messages.specs.declared.model.Operation.TheVariants.{Insert, Delete}
use Rattle.ledger.specs.Laws.Call.{insert, delete, send, defer, send_next, receive, read, render, count}
use Rattle.ledger.specs.Laws.Run.{done, then}
use Rattle.ledger.proofs.Same.{true_or_false, same_node_true}
use Rattle.ledger.proofs.Members.{In}
use Rattle.ledger.proofs.Rows.{none_or_some, none_not_some, some_is, row_found, node_found}
use Rattle.ledger.proofs.Sorting.{from_sorted}
use Rattle.ledger.proofs.Reading.{from_placed}
use Rattle.ledger.proofs.Changes.{PlaceReads, GoodRow, Grows, GoodMessage, NoOther, Alike, added_apart, added_good, added_grows, added_length_new, added_length_old, mark_alike, unmark_alike, alike_same, alike_length, alike_apart, alike_good, alike_grows}

pub record Sound (k : Stamps) (l : Ledger) : Type 0 where
  pub apart : Apart l.rows
  pub good : (r : Row) → In r l.rows → GoodRow k r
  pub fits : length l.rows ≤ l.slots

pub record After (k : Stamps) (l m : Ledger) : Type 0 where
  pub sound : Sound k m
  pub grows : Grows l.rows m.rows

pub grows_twice : (rows more most : List Row) → Grows rows more → Grows more most → Grows rows most
grows_twice rows more most g h = record { insertions = λ s w x. h.insertions s w (g.insertions s w x); deletions = λ s x. h.deletions s (g.deletions s x) }

pub grows_same : (rows : List Row) → Grows rows rows
grows_same rows = record { insertions = λ s w x. x; deletions = λ s x. x }

pub after_twice : (k : Stamps) (l m n : Ledger) → After k l m → After k m n → After k l n
after_twice k l m n a b = record { sound = b.sound; grows = grows_twice l.rows m.rows n.rows a.grows b.grows }

-- ---- what a change leaves
pub after_added : (k : Stamps) (l : Ledger) (m : Said) → Sound k l → GoodMessage k m → NoOther l.rows m
    → (((r : Row) × (row_of (stamp_of m) l.rows ≡ Some r)) ⊎ (length l.rows < l.slots)) → After k l (with_rows l (added m l.rows))
after_added k l m s g n room = record {
  sound = record { apart = added_apart m l.rows s.apart; good = added_good k m l.rows g s.good; fits = fits };
  grows = added_grows m l.rows n;
}
  where
    fits : length (added m l.rows) ≤ l.slots
    fits = elim room [
      | inl f ↦ rw (added_length_old m l.rows f.0 f.1) s.fits
      | inr f ↦ omega (arith, added_length_new m l.rows)
    ]

pub after_alike : (k : Stamps) (l : Ledger) (rows : List Row) → Sound k l → Alike l.rows rows → After k l (with_rows l rows)
after_alike k l rows s a = record {
  sound = record { apart = alike_apart l.rows rows a s.apart; good = alike_good k l.rows rows a s.good; fits = rw (alike_length l.rows rows a) s.fits };
  grows = alike_grows l.rows rows a;
}

pub after_none : (k : Stamps) (l : Ledger) → Sound k l → After k l l
after_none k l s = record { sound = s; grows = grows_same l.rows }

-- ---- the questions of a call that is not refused
abbrev pub AllYes : List Question → Type 0
AllYes [] = Unit {0}
AllYes (q ∷ qs) = (q.yes ≡ true) × AllYes qs

pub not_refused : (qs : List Question) → refusal qs ≡ None → AllYes qs
not_refused [] h = tt
not_refused (q ∷ qs) h = elim (true_or_false q.yes) [
  | inl t ↦ (t, not_refused qs (rw t at h))
  | inr t ↦ absurd (none_not_some q.number (sym (rw t at h)))
]

-- ---- a fresh stamp is not held
pub counter_within : (k : Stamps) (site : ℕ) (rows : List Row) (r : Row) → In r rows → k.kind.site r.stamp ≡ site → k.kind.counter r.stamp ≤ greatest k site rows
counter_within k site [] r i e = elim i [ ]
counter_within k site (q ∷ rows) r (inl f) e = rw (f, eq-eqb (k.kind.site r.stamp) site e) (omega arith)
counter_within k site (q ∷ rows) r (inr i) e =
    let more : k.kind.counter r.stamp ≤ greatest k site rows = counter_within k site rows r i e in
    elim (true_or_false (eqb (k.kind.site q.stamp) site)) [ inl t ↦ rw t (omega arith) | inr t ↦ rw t more ]

pub fresh_not_held : (k : Stamps) (l : Ledger) (v : List ℕ) → Fresh k l v → row_of v l.rows ≡ None
fresh_not_held k l v f = elim (none_or_some (row_of v l.rows)) [
  | inl n ↦ n
  | inr g ↦
      let r = row_found v l.rows g.0 g.1 in
      let same : k.kind.site g.0.stamp ≡ l.site = rw r.1 f.site in
      let less : k.kind.counter g.0.stamp ≤ greatest k l.site l.rows = counter_within k l.site l.rows g.0 r.0 same in
      let less' : k.kind.counter v ≤ greatest k l.site l.rows = rw r.1 at less in
      let none_such : ⊥ = omega (arith, f.counter) in
      absurd none_such
]

-- ---- the place of a new entry reads
pub firsts_found : (p : List Step) (xs : List Placed) (f : List ℕ) → firsts p xs ≡ Some f → (x : Placed) × In x xs × (x.item.stamp ≡ f) × (right_below p x.steps ≡ true)
firsts_found p [] f h = absurd (none_not_some f h)
firsts_found p (x ∷ xs) f h = elim (true_or_false (right_below p x.steps)) [
  | inl t ↦ let e : Some x.item.stamp ≡ Some f = rw t at h in (x, inl refl, cc, t)
  | inr t ↦ let g = firsts_found p xs f (rw t at h) in (g.0, inr g.1, g.2, g.3)
]

pub held_reads : (k : Stamps) (l : Ledger) → Sound k l → (s : List ℕ) (r : Row) → row_of s l.rows ≡ Some r → k.form.reads s ≡ true
held_reads k l s v r h = let f = row_found v l.rows r h in rw f.1 at (s.good r f.0).stamp_reads

placed_reads : (k : Stamps) (l : Ledger) → Sound k l → (x : Placed) → In x (in_order k l.rows) → k.form.reads x.item.stamp ≡ true
placed_reads k l s x i =
    let c = from_placed l.rows l.rows x (from_sorted k.kind.earlier x (placed_all l.rows l.rows) i) in
    rw (ap (λ (y : Placed). y.item.stamp) c.is) (s.good c.row c.inside).stamp_reads

beside_reads : (k : Stamps) (l : Ledger) → Sound k l → (p : List Step) (v : Location) → PlaceReads k v → PlaceReads k (beside v (firsts p (in_order k l.rows)))
beside_reads k l s p v h = go (firsts p (in_order k l.rows)) refl
  where
    go : (f : Option (List ℕ)) → firsts p (in_order k l.rows) ≡ f → PlaceReads k (beside v f)
    go None e = h
    go (Some f) e = let x = firsts_found p (in_order k l.rows) f e in rw x.2 at (placed_reads k l s x.0 x.1)

pub place_reads : (k : Kinds) (l : Ledger) (spot : Spot) (vs : List ℕ) → Sound k.stamps l → AllYes (insert_questions k l spot vs) → PlaceReads k.stamps (place_for k.stamps l spot)
place_reads k l at_top vs s yes_all = beside_reads k.stamps l s [] Ground tt
place_reads k l (after t) vs s yes_all = beside_reads k.stamps l s (steps_or_none (path l.rows t)) (Under Right t)
    (let w = some_is (node_of t l.rows) yes_all.1.0 in let r = node_found t l.rows w.0 w.1 in held_reads k.stamps l s t r.0 r.1)

insert_room : (k : Kinds) (l : Ledger) (spot : Spot) (vs : List ℕ) → AllYes (insert_questions k l spot vs) → length l.rows < l.slots
insert_room k l at_top vs y = ltb-true (length l.rows) l.slots y.1.1.0
insert_room k l (after t) vs y = ltb-true (length l.rows) l.slots y.1.1.1.1.0

-- ---- the calls
pub after_insert : (k : Kinds) (l m : Ledger) (spot : Spot) (vs : List ℕ) → Sound k.stamps l → AllYes (insert_questions k l spot vs) → Inserted k l m spot vs → After k.stamps l m
after_insert k l m spot vs s y i = rw i.after (after_twice k.stamps l plus _ one two)
  where
    message : Said
    message = insertion i.stamp (record { place = place_for k.stamps l spot; entry = vs })

    plus : Ledger
    plus = with_rows l (added message l.rows)

    free : row_of i.stamp l.rows ≡ None
    free = fresh_not_held k.stamps l i.stamp i.fresh_stamp

    one : After k.stamps l plus
    one = after_added k.stamps l message s (i.fresh_stamp.valid, place_reads k l spot vs s y) (λ v h. absurd (none_not_some v (rw free at h))) (inr (insert_room k l spot vs y))

    two : After k.stamps plus (with_rows plus (mark Insert i.stamp plus.rows))
    two = after_alike k.stamps plus (mark Insert i.stamp plus.rows) one.sound (mark_alike Insert i.stamp plus.rows)

pub after_delete : (k : Stamps) (l : Ledger) (t : List ℕ) → Sound k l → AllYes (delete_questions l t) → After k l (with_rows l (mark Delete t (added (Deletion t) l.rows)))
after_delete k l t s y = after_twice k l plus _ one two
  where
    found : (r : Row) × (row_of t l.rows ≡ Some r)
    found = let w = some_is (node_of t l.rows) y.0 in let r = node_found t l.rows w.0 w.1 in (r.0, r.1)

    plus : Ledger
    plus = with_rows l (added (Deletion t) l.rows)

    one : After k l plus
    one = after_added k l (Deletion t) s (held_reads k l s t found.0 found.1) tt (inl found)

    two : After k plus (with_rows plus (mark Delete t plus.rows))
    two = after_alike k plus (mark Delete t plus.rows) one.sound (mark_alike Delete t plus.rows)

pub sent_alike : (k : Kinds) (op : Operation) (t : List ℕ) (space : ℕ) (rows : List Row) → Alike rows (sent k op t space rows)
sent_alike k op t space rows = cond_both (leb (length (outgoing k op (row_of t rows))) space) (unmark op t rows) rows (λ x. Alike rows x) (λ e. unmark_alike op t rows) (λ e. alike_same rows)

pub sent_next_alike : (k : Kinds) (space : ℕ) (x : Option Marked) (rows : List Row) → Alike rows (sent_next k space x rows)
sent_next_alike k space None rows = alike_same rows
sent_next_alike k space (Some x) rows = sent_alike k x.op x.stamp space rows

-- ---- words received
own_reads : (reads : Bool) (i : ℕ) → not (is_some (cond {A = Option ℕ} reads None (Some i))) ≡ true → reads ≡ true
own_reads true i h = refl
own_reads false i h = h

parent_reads : (inserts names reads other : Bool) (i : ℕ) → not (is_some (cond {A = Option ℕ} (inserts && names) (cond (reads && other) None (Some i)) None)) ≡ true → inserts ≡ true → names ≡ true → reads ≡ true
parent_reads inserts names true other i h w n = refl
parent_reads inserts names false other i h w n = rw (w, n) at h

no_other_is : (m : Said) (rows : List Row) → no_other (node_of (stamp_of m) rows) m ≡ true → NoOther rows m
no_other_is (Insertion s pl en) rows h = λ v e. same_node_true v (record { place = pl; entry = en }) (rw e at h)
no_other_is (Deletion s) rows h = tt

room_is : (m : Said) (l : Ledger) → (is_some (row_of (stamp_of m) l.rows) || ltb (length l.rows) l.slots) ≡ true
    → ((r : Row) × (row_of (stamp_of m) l.rows ≡ Some r)) ⊎ (length l.rows < l.slots)
room_is (Insertion s pl en) l h = elim (or_cases (is_some (row_of s l.rows)) (ltb (length l.rows) l.slots) h) [ inl t ↦ inl (some_is (row_of s l.rows) t) | inr t ↦ inr (ltb-true (length l.rows) l.slots t) ]
room_is (Deletion s) l h = elim (or_cases (is_some (row_of s l.rows)) (ltb (length l.rows) l.slots) h) [ inl t ↦ inl (some_is (row_of s l.rows) t) | inr t ↦ inr (ltb-true (length l.rows) l.slots t) ]

pub message_good : (k : Kinds) (ws : List ℕ) → not (is_some (unread k.stamps.form 1 (own_in k.stamps.form.count ws))) ≡ true → not (is_some (bad_parent k.stamps.form ws)) ≡ true → GoodMessage k.stamps (message_in k ws)
message_good k ws own parent = whole (inserts ws) refl
  where
    n : ℕ
    n = k.stamps.form.count

    stamp : k.stamps.form.reads (own_in n ws) ≡ true
    stamp = own_reads (k.stamps.form.reads (own_in n ws)) 1 own

    place : (b : Bool) → names_parent n ws ≡ b → inserts ws ≡ true → (d : Side) → PlaceReads k.stamps (cond b (Under d (parent_in n ws)) Ground)
    place true e w d = parent_reads (inserts ws) (names_parent n ws) (k.stamps.form.reads (parent_in n ws)) (not (same_values (parent_in n ws) (own_in n ws))) (parent_at n) parent w e
    place false e w d = tt

    whole : (b : Bool) → inserts ws ≡ b → GoodMessage k.stamps (cond b (Insertion (own_in n ws) (place_in n ws) (entry_in n k.entries.form.count ws)) (Deletion (own_in n ws)))
    whole true w = (stamp, place (names_parent n ws) refl w _)
    whole false w = stamp

pub after_receive : (k : Kinds) (l : Ledger) (ws : List ℕ) → Sound k.stamps l → AllYes (receive_questions k l ws) → After k.stamps l (with_rows l (added (message_in k ws) l.rows))
after_receive k l ws s y = after_added k.stamps l (message_in k ws) s (message_good k ws y.1.1.1.1.0 y.1.1.1.1.1.0) (no_other_is (message_in k ws) l.rows y.1.1.1.1.1.1.1.0) (room_is (message_in k ws) l y.1.1.1.1.1.1.1.1.0)

-- ---- every call
pub after_call : (k : Kinds) (l m : Ledger) (c : Call) → Sound k.stamps l → Does k l c m → After k.stamps l m
after_call k l m (insert spot vs) s d = go (refusal (insert_questions k l spot vs)) refl d
  where
    go : (x : Option ℕ) → refusal (insert_questions k l spot vs) ≡ x → InsertDoes k l spot vs m x → After k.stamps l m
    go None e i = after_insert k l m spot vs s (not_refused (insert_questions k l spot vs) e) i
    go (Some n) e i = rw i (after_none k.stamps l s)
after_call k l m (delete t) s d = rw d (go (refusal (delete_questions l t)) refl)
  where
    go : (x : Option ℕ) → refusal (delete_questions l t) ≡ x → After k.stamps l (deleted l t x)
    go None e = after_delete k.stamps l t s (not_refused (delete_questions l t) e)
    go (Some n) e = after_none k.stamps l s
after_call k l m (send op t space) s d = rw d (after_alike k.stamps l (sent k op t space l.rows) s (sent_alike k op t space l.rows))
after_call k l m (defer op t) s d = rw d (after_none k.stamps l s)
after_call k l m (send_next space) s d = rw d (after_alike k.stamps l (sent_next k space (next_unsent l.rows) l.rows) s (sent_next_alike k space (next_unsent l.rows) l.rows))
after_call k l m (receive ws) s d = rw d (go (refusal (receive_questions k l ws)) refl)
  where
    go : (x : Option ℕ) → refusal (receive_questions k l ws) ≡ x → After k.stamps l (received k l ws x)
    go None e = after_receive k l ws s (not_refused (receive_questions k l ws) e)
    go (Some n) e = after_none k.stamps l s
after_call k l m read s d = rw d (after_none k.stamps l s)
after_call k l m (render space) s d = rw d (after_none k.stamps l s)
after_call k l m count s d = rw d (after_none k.stamps l s)

pub opened_sound : (k : Stamps) (site slots : ℕ) → Sound k (opened site slots)
opened_sound k site slots = record { apart = tt; good = λ r i. absurd i; fits = omega arith }

pub run_sound : (k : Kinds) {l n : Ledger} {cs : List Call} → Sound k.stamps l → Run k l cs n → Sound k.stamps n
run_sound k s (done l) = s
run_sound k s (then l m n c cs d r) = run_sound k (after_call k l m c s d).sound r

pub history_sound : (k : Kinds) (a : History k) → Sound k.stamps a.ledger
history_sound k a = run_sound k (opened_sound k.stamps a.site a.slots) a.ran

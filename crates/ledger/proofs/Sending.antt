-- Nothing is lost on the way out: a call changes the marks by just what it makes and sends.
use Rattle.std.proofs.Common.{◌≡◌, ℕ, ◌+◌, ◌≤◌, Bool, true, false, cond, not, ◌&&◌, leb, ◌⊎◌, List, [], ◌∷◌, length, is_some, Some, None, Option, sym, refl, ap, ◌∙◌, inl, inr, arith}
use Rattle.std.proofs.lemmas.Bool.{and_parts, and_right, not-true, le-leb}
use Rattle.words.specs.Forms.{same_values}
use Rattle.messages.specs.declared.model.Operation.{Operation}
use Rattle.messages.specs.declared.model.Operation.TheVariants.{Insert, Delete}
use Rattle.messages.specs.declared.model.Message.TheVariants.{Insertion, Deletion}
use Rattle.messages.specs.Model.{Said, stamp_of, operation_of}
use Rattle.ledger.specs.Basics.{refusal}
use Rattle.ledger.specs.Kinds.{Kinds}
use Rattle.ledger.specs.Ledger.{Node, Row, Ledger, insertion, row_of, node_in, node_of, struck_in, struck_of}
use Rattle.ledger.specs.Calls.{added, merge, blank, fresh}
use Rattle.ledger.specs.Receive.{receive_questions, message_in}
use Rattle.ledger.specs.Laws.{Call, Run, History, Marked, InsertDoes, Does, insert_questions, delete_questions, place_for, mark, unmark, outgoing_in, outgoing, sent, sent_next, next_unsent, deleted, received}
use Rattle.ledger.specs.Laws.Call.{insert, delete, send, defer, send_next, receive, read, render, count}
use Rattle.ledger.specs.Laws.Run.{done, then}
use Rattle.ledger.specs.Sending.{same_operation, same_message, one_if, unsent, makes, fits_into, sends_marked, sends, made, sent_count, NothingLost}
use Rattle.ledger.proofs.Same.{true_or_false, never, same_list_refl, same_list_true, same_list_false, apart_lists, same_lists_or_not}
use Rattle.ledger.proofs.Rows.{none_or_some, some_is}
use Rattle.ledger.proofs.Changes.{Grows, Alike, added_other, added_new, added_old, mark_alike, alike_node, alike_struck}
use Rattle.ledger.proofs.Histories.{Sound, after_call, not_refused, fresh_not_held, opened_sound}

-- ---- messages
same_operation_is : (op o : Operation) → same_operation op o ≡ true → op ≡ o
same_operation_is Insert Insert h = refl
same_operation_is Insert Delete h = cc
same_operation_is Delete Insert h = cc
same_operation_is Delete Delete h = refl

same_operation_refl : (o : Operation) → same_operation o o ≡ true
same_operation_refl Insert = refl
same_operation_refl Delete = refl

same_message_is : (op o : Operation) (s t : List ℕ) → same_message op s o t ≡ true → (op ≡ o) × (s ≡ t)
same_message_is op o s t h = let parts = and_parts (same_values s t) (same_operation op o) h in (same_operation_is op o parts.1, same_list_true s t parts.0)

same_message_refl : (o : Operation) (t : List ℕ) → same_message o t o t ≡ true
same_message_refl o t = rw (same_list_refl t, same_operation_refl o)

-- ---- a mark set or taken away
abbrev with_mark : Bool → Operation → Row → Row
with_mark b Insert r = record { stamp = r.stamp; node = r.node; struck = r.struck; insertion_unsent = b; deletion_unsent = r.deletion_unsent }
with_mark b Delete r = record { stamp = r.stamp; node = r.node; struck = r.struck; insertion_unsent = r.insertion_unsent; deletion_unsent = b }

abbrev marked_in : Bool → Operation → Option Row → Option Row
marked_in b op None = None
marked_in b op (Some r) = Some (with_mark b op r)

abbrev re_marked : Bool → Operation → List ℕ → List Row → List Row
re_marked b op s [] = []
re_marked b op s (r ∷ rs) = cond (same_values r.stamp s) (with_mark b op r ∷ rs) (r ∷ re_marked b op s rs)

mark_is : (op : Operation) (s : List ℕ) (rows : List Row) → mark op s rows ≡ re_marked true op s rows
mark_is op s [] = refl
mark_is Insert s (r ∷ rs) = rw (mark_is Insert s rs)
mark_is Delete s (r ∷ rs) = rw (mark_is Delete s rs)

unmark_is : (op : Operation) (s : List ℕ) (rows : List Row) → unmark op s rows ≡ re_marked false op s rows
unmark_is op s [] = refl
unmark_is Insert s (r ∷ rs) = rw (unmark_is Insert s rs)
unmark_is Delete s (r ∷ rs) = rw (unmark_is Delete s rs)

with_mark_stamp : (b : Bool) (op : Operation) (r : Row) → (with_mark b op r).stamp ≡ r.stamp
with_mark_stamp b Insert r = refl
with_mark_stamp b Delete r = refl

row_re_marked : (b : Bool) (op : Operation) (s t : List ℕ) (rows : List Row) → row_of t (re_marked b op s rows) ≡ cond (same_values s t) (marked_in b op (row_of t rows)) (row_of t rows)
row_re_marked b op s t [] = elim (true_or_false (same_values s t)) [ inl e ↦ rw e | inr e ↦ rw e ]
row_re_marked b op s t (r ∷ rs) = elim (true_or_false (same_values r.stamp s)) [
  | inl e ↦ let here : r.stamp ≡ s = same_list_true r.stamp s e in
      rw (e, with_mark_stamp b op r, here) (elim (true_or_false (same_values s t)) [ inl f ↦ rw f | inr f ↦ rw f ])
  | inr e ↦ rw e (elim (true_or_false (same_values r.stamp t)) [
    | inl f ↦ rw (f, apart_lists s t (λ g. same_list_false r.stamp s e (same_list_true r.stamp t f ∙ sym g)))
    | inr f ↦ rw (f, row_re_marked b op s t rs)
  ])
]

unsent_marked_in : (b : Bool) (op o : Operation) (x : Option Row) → unsent o (marked_in b op x) ≡ cond (same_operation op o) (is_some x && b) (unsent o x)
unsent_marked_in b Insert Insert None = refl
unsent_marked_in b Insert Delete None = refl
unsent_marked_in b Delete Insert None = refl
unsent_marked_in b Delete Delete None = refl
unsent_marked_in b Insert Insert (Some r) = refl
unsent_marked_in b Insert Delete (Some r) = refl
unsent_marked_in b Delete Insert (Some r) = refl
unsent_marked_in b Delete Delete (Some r) = refl

unsent_re_marked : (b : Bool) (op o : Operation) (s t : List ℕ) (rows : List Row) → unsent o (row_of t (re_marked b op s rows)) ≡ cond (same_message op s o t) (is_some (row_of t rows) && b) (unsent o (row_of t rows))
unsent_re_marked b op o s t rows = ap (unsent o) (row_re_marked b op s t rows) ∙ elim (true_or_false (same_values s t)) [ inl e ↦ rw e (unsent_marked_in b op o (row_of t rows)) | inr e ↦ rw e ]

unsent_mark : (op o : Operation) (s t : List ℕ) (rows : List Row) → unsent o (row_of t (mark op s rows)) ≡ cond (same_message op s o t) (is_some (row_of t rows) && true) (unsent o (row_of t rows))
unsent_mark op o s t rows = ap (λ x. unsent o (row_of t x)) (mark_is op s rows) ∙ unsent_re_marked true op o s t rows

unsent_unmark : (op o : Operation) (s t : List ℕ) (rows : List Row) → unsent o (row_of t (unmark op s rows)) ≡ cond (same_message op s o t) (is_some (row_of t rows) && false) (unsent o (row_of t rows))
unsent_unmark op o s t rows = ap (λ x. unsent o (row_of t x)) (unmark_is op s rows) ∙ unsent_re_marked false op o s t rows

-- ---- a message added
unsent_merge : (m : Said) (o : Operation) (r : Row) → unsent o (Some (merge m r)) ≡ unsent o (Some r)
unsent_merge (Insertion s pl en) Insert r = refl
unsent_merge (Insertion s pl en) Delete r = refl
unsent_merge (Deletion s) Insert r = refl
unsent_merge (Deletion s) Delete r = refl

unsent_blank : (o : Operation) (s : List ℕ) → unsent o (Some (blank s)) ≡ false
unsent_blank Insert s = refl
unsent_blank Delete s = refl

-- the row of an added message: what it was before, or blank, with the message
added_row : (m : Said) (rows : List Row) → (r : Row) × (row_of (stamp_of m) (added m rows) ≡ Some (merge m r)) × ((o : Operation) → unsent o (Some r) ≡ unsent o (row_of (stamp_of m) rows))
added_row m rows = elim (none_or_some (row_of (stamp_of m) rows)) [
  | inl n ↦ (blank (stamp_of m), added_new m rows n, λ o. rw n (unsent_blank o (stamp_of m)))
  | inr f ↦ (f.0, added_old m rows f.0 f.1, λ o. rw f.1)
]

unsent_added : (m : Said) (o : Operation) (t : List ℕ) (rows : List Row) → unsent o (row_of t (added m rows)) ≡ unsent o (row_of t rows)
unsent_added m o t rows = elim (same_lists_or_not (stamp_of m) t) [
  | inl e ↦ let r = added_row m rows in rw e at (ap (unsent o) r.1 ∙ unsent_merge m o r.0 ∙ r.2 o)
  | inr n ↦ ap (unsent o) (added_other m rows t n)
]

-- ---- a message that a row has: made here or received
abbrev taken : Operation → Option Row → Bool
taken Insert x = is_some (node_in x)
taken Delete x = struck_in x

-- what is marked is there
record Kept (rows : List Row) : Type 0 where
  pub there : (o : Operation) (t : List ℕ) → unsent o (row_of t rows) ≡ true → taken o (row_of t rows) ≡ true

taken_grows : (rows more : List Row) → Grows rows more → (o : Operation) (t : List ℕ) → taken o (row_of t rows) ≡ true → taken o (row_of t more) ≡ true
taken_grows rows more g Insert t h = let w = some_is (node_of t rows) h in rw (g.insertions t w.0 w.1)
taken_grows rows more g Delete t h = g.deletions t h

taken_alike : (rows more : List Row) → Alike rows more → (o : Operation) (t : List ℕ) → taken o (row_of t more) ≡ taken o (row_of t rows)
taken_alike rows more a Insert t = ap is_some (alike_node rows more t a)
taken_alike rows more a Delete t = alike_struck rows more t a

taken_merge : (m : Said) (r : Row) → taken (operation_of m) (Some (merge m r)) ≡ true
taken_merge (Insertion s pl en) r = refl
taken_merge (Deletion s) r = refl

-- ---- what a call moves: the message is sent, or is made
record Moves (out new : Bool) (rows more : List Row) (o : Operation) (t : List ℕ) : Type 0 where
  pub balance : one_if out + one_if (unsent o (row_of t more)) ≡ one_if (unsent o (row_of t rows)) + one_if new
  pub not_before : new ≡ true → taken o (row_of t rows) ≡ false
  pub then_taken : new ≡ true → taken o (row_of t more) ≡ true

still : (rows more : List Row) (o : Operation) (t : List ℕ) → unsent o (row_of t more) ≡ unsent o (row_of t rows) → Moves false false rows more o t
still rows more o t e = record { balance = rw e (omega arith); not_before = λ h. cc; then_taken = λ h. cc }

-- a message made
made_here : (m : Said) (rows : List Row) → Kept rows → taken (operation_of m) (row_of (stamp_of m) rows) ≡ false
    → Moves false true rows (mark (operation_of m) (stamp_of m) (added m rows)) (operation_of m) (stamp_of m)
made_here m rows kept free = record { balance = rw (after, before); not_before = λ h. free; then_taken = λ h. there }
  where
    r : (r : Row) × (row_of (stamp_of m) (added m rows) ≡ Some (merge m r)) × ((o : Operation) → unsent o (Some r) ≡ unsent o (row_of (stamp_of m) rows))
    r = added_row m rows

    before : unsent (operation_of m) (row_of (stamp_of m) rows) ≡ false
    before = elim (true_or_false (unsent (operation_of m) (row_of (stamp_of m) rows))) [ inl e ↦ absurd (never _ (kept.there (operation_of m) (stamp_of m) e) free) | inr e ↦ e ]

    after : unsent (operation_of m) (row_of (stamp_of m) (mark (operation_of m) (stamp_of m) (added m rows))) ≡ true
    after = unsent_mark (operation_of m) (operation_of m) (stamp_of m) (stamp_of m) (added m rows) ∙ rw (same_message_refl (operation_of m) (stamp_of m), r.1)

    there : taken (operation_of m) (row_of (stamp_of m) (mark (operation_of m) (stamp_of m) (added m rows))) ≡ true
    there = taken_alike (added m rows) _ (mark_alike (operation_of m) (stamp_of m) (added m rows)) (operation_of m) (stamp_of m) ∙ rw r.1 (taken_merge m r.0)

made_moves : (m : Said) (rows : List Row) (o : Operation) (t : List ℕ) → Kept rows → taken (operation_of m) (row_of (stamp_of m) rows) ≡ false
    → Moves false (same_message (operation_of m) (stamp_of m) o t) rows (mark (operation_of m) (stamp_of m) (added m rows)) o t
made_moves m rows o t kept free = elim (true_or_false (same_message (operation_of m) (stamp_of m) o t)) [
  | inl e ↦ let p = same_message_is (operation_of m) o (stamp_of m) t e in rw (e, ← p.0, ← p.1) (made_here m rows kept free)
  | inr e ↦ rw e (still rows _ o t (unsent_mark (operation_of m) o (stamp_of m) t (added m rows) ∙ rw e (unsent_added m o t rows)))
]

-- a message sent
too_long : (space : ℕ) (ws : List ℕ) → leb (length ws) space ≡ false → fits_into space ws ≡ false
too_long space [] h = refl
too_long space (w ∷ ws) h = h

goes_in : (k : Kinds) (o : Operation) (r : Row) (w : Option Node) (space : ℕ) → (unsent o (Some r) ≡ true → taken o (Some r) ≡ true) → r.node ≡ w
    → leb (length (outgoing_in k o r w)) space ≡ true → fits_into space (outgoing_in k o r w) ≡ unsent o (Some r)
goes_in k Insert r None space there e h = elim (true_or_false r.insertion_unsent) [ inl f ↦ absurd (never false (rw e at (there f)) refl) | inr f ↦ sym f ]
goes_in k Insert r (Some w) space there e h = elim (true_or_false r.insertion_unsent) [ inl f ↦ rw f (rw f at h) | inr f ↦ rw f ]
goes_in k Delete r w space there e h = elim (true_or_false r.deletion_unsent) [ inl f ↦ rw f (rw f at h) | inr f ↦ rw f ]

goes : (k : Kinds) (o : Operation) (x : Option Row) (space : ℕ) → (unsent o x ≡ true → taken o x ≡ true) → leb (length (outgoing k o x)) space ≡ true → fits_into space (outgoing k o x) ≡ unsent o x
goes k o None space there h = refl
goes k o (Some r) space there h = goes_in k o r r.node space there refl h

sent_here : (k : Kinds) (o : Operation) (t : List ℕ) (space : ℕ) (rows : List Row) → Kept rows
    → one_if (fits_into space (outgoing k o (row_of t rows))) + one_if (unsent o (row_of t (sent k o t space rows))) ≡ one_if (unsent o (row_of t rows)) + 0
sent_here k o t space rows kept = elim (true_or_false (leb (length (outgoing k o (row_of t rows))) space)) [
  | inl e ↦
      let gone : unsent o (row_of t (unmark o t rows)) ≡ false = unsent_unmark o o t t rows ∙ rw (same_message_refl o t) (and_right (is_some (row_of t rows)) false refl) in
      rw (e, gone, goes k o (row_of t rows) space (kept.there o t) e)
  | inr e ↦ rw (e, too_long space (outgoing k o (row_of t rows)) e) (omega arith)
]

sent_other : (k : Kinds) (op o : Operation) (s t : List ℕ) (space : ℕ) (rows : List Row) → same_message op s o t ≡ false → unsent o (row_of t (sent k op s space rows)) ≡ unsent o (row_of t rows)
sent_other k op o s t space rows e = elim (true_or_false (leb (length (outgoing k op (row_of s rows))) space)) [ inl f ↦ rw f (unsent_unmark op o s t rows ∙ rw e) | inr f ↦ rw f ]

sent_moves : (k : Kinds) (l : Ledger) (x : Option Marked) (o : Operation) (t : List ℕ) (space : ℕ) → Kept l.rows
    → Moves (sends_marked k l space x o t) false l.rows (sent_next k space x l.rows) o t
sent_moves k l None o t space kept = still l.rows l.rows o t refl
sent_moves k l (Some x) o t space kept = elim (true_or_false (same_message x.op x.stamp o t)) [
  | inl e ↦ let p = same_message_is x.op o x.stamp t e in rw (e, p.0, p.1) (record { balance = sent_here k o t space l.rows kept; not_before = λ h. cc; then_taken = λ h. cc })
  | inr e ↦ rw e (still l.rows _ o t (sent_other k x.op o x.stamp t space l.rows e))
]

-- ---- every call
call_moves : (k : Kinds) (l m : Ledger) (c : Call) (o : Operation) (t : List ℕ) → Kept l.rows → Does k l c m → Moves (sends k l c o t) (makes k l c o t) l.rows m.rows o t
call_moves k l m (insert spot vs) o t kept d = go (refusal (insert_questions k l spot vs)) refl d
  where
    go : (x : Option ℕ) → refusal (insert_questions k l spot vs) ≡ x → InsertDoes k l spot vs m x
        → Moves false (not (is_some x) && same_message Insert (fresh k.stamps l.site l.rows) o t) l.rows m.rows o t
    go None e i = rw (i.after, ← i.fresh_stamp.is) (made_moves (insertion i.stamp (record { place = place_for k.stamps l spot; entry = vs })) l.rows o t kept
        (ap (λ x. is_some (node_in x)) (fresh_not_held k.stamps l i.stamp i.fresh_stamp)))
    go (Some n) e i = rw i (still l.rows l.rows o t refl)
call_moves k l m (delete s) o t kept d = rw d (go (refusal (delete_questions l s)) refl)
  where
    go : (x : Option ℕ) → refusal (delete_questions l s) ≡ x → Moves false (not (is_some x) && same_message Delete s o t) l.rows (deleted l s x).rows o t
    go None e = made_moves (Deletion s) l.rows o t kept (not-true (struck_of s l.rows) (not_refused (delete_questions l s) e).1.1.0)
    go (Some n) e = still l.rows l.rows o t refl
call_moves k l m (send op s space) o t kept d = rw d (sent_moves k l (Some (record { op = op; stamp = s })) o t space kept)
call_moves k l m (defer op s) o t kept d = rw d (still l.rows l.rows o t refl)
call_moves k l m (send_next space) o t kept d = rw d (sent_moves k l (next_unsent l.rows) o t space kept)
call_moves k l m (receive ws) o t kept d = rw d (go (refusal (receive_questions k l ws)))
  where
    go : (x : Option ℕ) → Moves false false l.rows (received k l ws x).rows o t
    go None = still l.rows _ o t (unsent_added (message_in k ws) o t l.rows)
    go (Some n) = still l.rows l.rows o t refl
call_moves k l m read o t kept d = rw d (still l.rows l.rows o t refl)
call_moves k l m (render space) o t kept d = rw d (still l.rows l.rows o t refl)
call_moves k l m count o t kept d = rw d (still l.rows l.rows o t refl)

-- what comes to be marked was marked, or is new
was_or_new : (out new before after : Bool) → one_if out + one_if after ≡ one_if before + one_if new → after ≡ true → (before ≡ true) ⊎ (new ≡ true)
was_or_new out new true after e h = inl refl
was_or_new out true false after e h = inr refl
was_or_new out false false after e h = let gone : ⊥ = omega (arith, rw h at e) in absurd gone

kept_moves : (out new : Operation → List ℕ → Bool) (rows more : List Row) → Kept rows → Grows rows more → ((o : Operation) (t : List ℕ) → Moves (out o t) (new o t) rows more o t) → Kept more
kept_moves out new rows more kept g moves = record {
  there = λ o t h. elim (was_or_new (out o t) (new o t) (unsent o (row_of t rows)) (unsent o (row_of t more)) (moves o t).balance h) [
    | inl e ↦ taken_grows rows more g o t (kept.there o t e)
    | inr e ↦ (moves o t).then_taken e
  ];
}

-- one more is made only where none was taken
room_left : (new before after : Bool) → (new ≡ true → before ≡ false) → (new ≡ true → after ≡ true) → (before ≡ true → after ≡ true) → one_if new + one_if (not after) ≤ one_if (not before)
room_left true before after b a g = rw (b refl, a refl) (omega arith)
room_left false true after b a g = rw (g refl) (omega arith)
room_left false false true b a g = omega arith
room_left false false false b a g = omega arith

-- ---- every run
record Accounts (rows more : List Row) (out new : Operation → List ℕ → ℕ) : Type 0 where
  pub kept : Kept more
  pub balance : (o : Operation) (t : List ℕ) → out o t + one_if (unsent o (row_of t more)) ≡ one_if (unsent o (row_of t rows)) + new o t
  pub room : (o : Operation) (t : List ℕ) → new o t + one_if (not (taken o (row_of t more))) ≤ one_if (not (taken o (row_of t rows)))

run_accounts : (k : Kinds) {l n : Ledger} {cs : List Call} → Sound k.stamps l → Kept l.rows → (r : Run k l cs n) → Accounts l.rows n.rows (sent_count k r) (made k r)
run_accounts k s kept (done l) = record { kept = kept; balance = λ o t. omega arith; room = λ o t. omega arith }
run_accounts k s kept (then l m n c cs d r) =
    let after = after_call k l m c s d in
    let moves : (o : Operation) (t : List ℕ) → Moves (sends k l c o t) (makes k l c o t) l.rows m.rows o t = λ o t. call_moves k l m c o t kept d in
    let rest = run_accounts k after.sound (kept_moves (sends k l c) (makes k l c) l.rows m.rows kept after.grows moves) r in
    record {
      kept = rest.kept;
      balance = λ o t. omega (arith, rest.balance o t, (moves o t).balance);
      room = λ o t. omega (arith, rest.room o t, room_left (makes k l c o t) (taken o (row_of t l.rows)) (taken o (row_of t m.rows)) (moves o t).not_before (moves o t).then_taken (taken_grows l.rows m.rows after.grows o t));
    }

none_taken : (o : Operation) → taken o None ≡ false
none_taken Insert = refl
none_taken Delete = refl

history_accounts : (k : Kinds) (a : History k) → Accounts [] a.ledger.rows (sent_count k a.ran) (made k a.ran)
history_accounts k a = run_accounts k (opened_sound k.stamps a.site a.slots) (record { there = λ o t h. cc }) a.ran

pub nothing_lost : (k : Kinds) (a : History k) → NothingLost k a
nothing_lost k a = record {
  once = λ o t. omega (arith, rw (none_taken o) at ((history_accounts k a).room o t));
  accounted = λ o t. omega (arith, (history_accounts k a).balance o t);
  ready = λ o t space h fits. rw (same_message_refl o t) (goes k o (row_of t a.ledger.rows) space ((history_accounts k a).kept.there o t) (le-leb _ space fits) ∙ h);
}

-- A message sent, as one slot with a mark cleared.
use Rattle.std.proofs.Common.{◌≡◌, ℕ, zero, suc, ◌+◌, ◌≤◌, ◌<◌, Bool, true, false, cond, ◌&&◌, ltb, leb, List, [], ◌∷◌, ◌++◌, length, get_or, take, drop, set, is_ok, is_some, Some, None, Ok, Err, Option, Result, unwrap_or, sym, refl, ap, ◌∙◌, subst, inl, inr, arith}
use Rattle.std.proofs.lemmas.List.{at_drop_all, at_drop_more, drop_at, set-get_or}
use Rattle.std.proofs.lemmas.Bool.{and_right, cond-false, cond-true, lt-ltb, ltb-false, ltb-true}
use Rattle.std.specs.List.{position, position_or_len}
use Rattle.std.specs.Option.{ok_or}
use Rattle.std.specs.Result.{result_ok}
use Rattle.words.specs.Answers.{answer, ask, ask_fault, refusal_number, refusal_place, told}
use Rattle.words.specs.Forms.{Form, same_values}
use Rattle.words.specs.Layout.{put_front}
use Rattle.words.specs.declared.refusals.Refusal.{Refusal}
use Rattle.words.specs.declared.refusals.Refusal.TheVariants.{SpaceTooShort}
use Rattle.messages.specs.InWords as in_words
use Rattle.messages.specs.Model.{Said, place_said}
use Rattle.messages.specs.declared.model.Message.TheVariants.{Insertion, Deletion}
use Rattle.messages.specs.declared.model.Operation.{Operation}
use Rattle.messages.specs.declared.model.Operation.TheVariants.{Insert, Delete}
use Rattle.messages.specs.declared.model.Place.TheVariants.{Ground, Under}
use Rattle.ledger.specs.Answering.{after_send, words_sent}
use Rattle.ledger.specs.Calls.{blank}
use Rattle.ledger.specs.Kinds.{Kinds}
use Rattle.ledger.specs.Laws.{next_unsent, outgoing, with_rows}
use Rattle.ledger.specs.Ledger.{Apart, Ledger, Location, Node, Row, insertion, row_of}
use Rattle.ledger.proofs.Members.{in_get_or}
use Rattle.ledger.proofs.Rows.{none_not_some, none_or_some, row_found, row_none}
use Rattle.ledger.proofs.Same.{never, same_list_true, true_or_false}
use Rattle.slots.specs.Rows.{is_taken, is_unsent, next_in, row_in, rows_in, sent_row, unsent_in}
use Rattle.slots.specs.declared.records.Slot.{Slot}
use Rattle.slots.specs.declared.records.Status.{Status}
use Rattle.slots.specs.declared.records.Status.TheVariants.{Absent, Unsent, Settled}
use Rattle.slots.specs.Finding.{FirstWith}
use Rattle.slots.proofs.Leasts.{slots_read}
use Rattle.slots.proofs.Scans.{first_row, length_rows, row_there}
use Rattle.page.specs.Filled.{Elsewhere, under_itself}
use Rattle.page.specs.Sending.{NextUnsent, count_sent, with_sent}
use Rattle.page.specs.Tokens.{granting}
use Rattle.ledger.proofs.Questions.{all_yes, granted_is, granted_not_refused}
use Rattle.page.proofs.Updating.{anew, anew_set, unmark_anew}

-- ---- a row by the status of its two messages
abbrev row_by : List ℕ → Node → Status → Status → Row
row_by s w a b = record { stamp = s; node = cond (is_taken a) (Some w) None; struck = is_taken b; insertion_unsent = is_unsent a; deletion_unsent = is_unsent b }

no_words : (k : Kinds) (op : Operation) (s : List ℕ) (w : Node) (a b : Status) → unsent_in op (row_by s w a b) ≡ None → outgoing k op (Some (row_by s w a b)) ≡ []
no_words k Insert s w Absent b h = refl
no_words k Insert s w Unsent b h = absurd (none_not_some (insertion s w) (sym h))
no_words k Insert s w Settled b h = refl
no_words k Delete s w a Absent h = refl
no_words k Delete s w a Unsent h = absurd (none_not_some (Deletion s) (sym h))
no_words k Delete s w a Settled h = refl

no_mark : (op : Operation) (s : List ℕ) (w : Node) (a b : Status) → unsent_in op (row_by s w a b) ≡ None → sent_row op (row_by s w a b) ≡ row_by s w a b
no_mark Insert s w Absent b h = refl
no_mark Insert s w Unsent b h = absurd (none_not_some (insertion s w) (sym h))
no_mark Insert s w Settled b h = refl
no_mark Delete s w a Absent h = refl
no_mark Delete s w a Unsent h = absurd (none_not_some (Deletion s) (sym h))
no_mark Delete s w a Settled h = refl

some_words : (k : Kinds) (op : Operation) (s : List ℕ) (w : Node) (a b : Status) (m : Said) → unsent_in op (row_by s w a b) ≡ Some m → outgoing k op (Some (row_by s w a b)) ≡ in_words.in_words k.stamps.form k.entries.form m
some_words k Insert s w Absent b m h = absurd (none_not_some m h)
some_words k Insert s w Unsent b m h = let e : insertion s w ≡ m = cc in ap (in_words.in_words k.stamps.form k.entries.form) e
some_words k Insert s w Settled b m h = absurd (none_not_some m h)
some_words k Delete s w a Absent m h = absurd (none_not_some m h)
some_words k Delete s w a Unsent m h = let e : Deletion s ≡ m = cc in ap (in_words.in_words k.stamps.form k.entries.form) e
some_words k Delete s w a Settled m h = absurd (none_not_some m h)

next_insert : (k : Kinds) (op : Operation) (r : Row) → 0 < length (outgoing k Insert (Some r)) → Some Insert ≡ Some op → 0 < length (outgoing k op (Some r))
next_insert k op r h e = let f : Insert ≡ op = cc in subst (λ o. 0 < length (outgoing k o (Some r))) f h

next_delete : (k : Kinds) (op : Operation) (r : Row) → 0 < length (outgoing k Delete (Some r)) → Some Delete ≡ Some op → 0 < length (outgoing k op (Some r))
next_delete k op r h e = let f : Delete ≡ op = cc in subst (λ o. 0 < length (outgoing k o (Some r))) f h

next_some : (k : Kinds) (op : Operation) (s : List ℕ) (w : Node) (a b : Status) → next_in (row_by s w a b) ≡ Some op → 0 < length (outgoing k op (Some (row_by s w a b)))
next_some k op s w Unsent b h = next_insert k op (row_by s w Unsent b) (omega arith) h
next_some k op s w Absent Absent h = absurd (none_not_some op h)
next_some k op s w Absent Unsent h = next_delete k op (row_by s w Absent Unsent) (omega arith) h
next_some k op s w Absent Settled h = absurd (none_not_some op h)
next_some k op s w Settled Absent h = absurd (none_not_some op h)
next_some k op s w Settled Unsent h = next_delete k op (row_by s w Settled Unsent) (omega arith) h
next_some k op s w Settled Settled h = absurd (none_not_some op h)

place_away : (form : Form) (s : List ℕ) (pl : Location) (en : List ℕ) → under_itself s pl ≡ false → in_words.under_itself form (Insertion s pl en) ≡ None
place_away form s Ground en h = refl
place_away form s (Under d p) en h = rw h

not_itself : (form : Form) (op : Operation) (s : List ℕ) (w : Node) (a b : Status) (m : Said) → Elsewhere s (cond (is_taken a) (Some w) None) → unsent_in op (row_by s w a b) ≡ Some m → in_words.under_itself form m ≡ None
not_itself form Insert s w Absent b m away h = absurd (none_not_some m h)
not_itself form Insert s w Unsent b m away h = let e : insertion s w ≡ m = cc in ap (in_words.under_itself form) (sym e) ∙ place_away form s w.place w.entry away
not_itself form Insert s w Settled b m away h = absurd (none_not_some m h)
not_itself form Delete s w a Absent m away h = absurd (none_not_some m h)
not_itself form Delete s w a Unsent m away h = let e : Deletion s ≡ m = cc in ap (in_words.under_itself form) (sym e)
not_itself form Delete s w a Settled m away h = absurd (none_not_some m h)

-- ---- the same of slots
module _ {S E : Type 0} (vs : S → List ℕ) (es : E → List ℕ) (x : Slot S E) where
  pub slot_no_words : (k : Kinds) (op : Operation) → unsent_in op (row_in vs es x) ≡ None → outgoing k op (Some (row_in vs es x)) ≡ []
  slot_no_words k op = no_words k op (vs x.stamp) (record { place = place_said vs x.place; entry = es x.entry }) x.insertion x.deletion

  pub slot_no_mark : (op : Operation) → unsent_in op (row_in vs es x) ≡ None → sent_row op (row_in vs es x) ≡ row_in vs es x
  slot_no_mark op = no_mark op (vs x.stamp) (record { place = place_said vs x.place; entry = es x.entry }) x.insertion x.deletion

  pub slot_words : (k : Kinds) (op : Operation) (m : Said) → unsent_in op (row_in vs es x) ≡ Some m → outgoing k op (Some (row_in vs es x)) ≡ in_words.in_words k.stamps.form k.entries.form m
  slot_words k op = some_words k op (vs x.stamp) (record { place = place_said vs x.place; entry = es x.entry }) x.insertion x.deletion

  pub slot_next : (k : Kinds) (op : Operation) → next_in (row_in vs es x) ≡ Some op → 0 < length (outgoing k op (Some (row_in vs es x)))
  slot_next k op = next_some k op (vs x.stamp) (record { place = place_said vs x.place; entry = es x.entry }) x.insertion x.deletion

  pub slot_away : (form : Form) (op : Operation) (m : Said) → Elsewhere (row_in vs es x).stamp (row_in vs es x).node → unsent_in op (row_in vs es x) ≡ Some m → in_words.under_itself form m ≡ None
  slot_away form op = not_itself form op (vs x.stamp) (record { place = place_said vs x.place; entry = es x.entry }) x.insertion x.deletion

-- ---- how many words
pub count_short : (ws : List ℕ) (space : ℕ) → leb (length ws) space ≡ false → None ≡ count_sent ws space
count_short ws space h = sym (cond-false (ltb 0 (length ws) && leb (length ws) space) (Some (length ws)) None (and_right (ltb 0 (length ws)) (leb (length ws) space) h))

pub count_fits : (ws : List ℕ) (space : ℕ) → 0 < length ws → leb (length ws) space ≡ true → Some (length ws) ≡ count_sent ws space
count_fits ws space l h = λ i. cond (sym (lt-ltb 0 (length ws) l) i && sym h i) (Some (length ws)) None

cond_same : {A : Type 0} (b : Bool) (x : A) → cond b x x ≡ x
cond_same true x = refl
cond_same false x = refl

pub put_none : (out : List ℕ) → put_front [] out ≡ out
put_none out = cond_same (leb 0 (length out)) out

-- what is sent, or nothing, in numbers and in the space
pub count_is : (ws : List ℕ) (space : ℕ) → unwrap_or (count_sent ws space) 0 ≡ length (cond (leb (length ws) space) ws [])
count_is ws space = go ws (leb (length ws) space)
  where
    go : (vs : List ℕ) (b : Bool) → unwrap_or (cond (ltb 0 (length vs) && b) (Some (length vs)) None) 0 ≡ length (cond b vs [])
    go [] b = elim b as (λ z. unwrap_or (cond (ltb 0 0 && z) (Some 0) None) 0 ≡ length (cond {A = List ℕ} z [] [])) [ true ↦ refl | false ↦ refl ]
    go (v ∷ vs) true = rw (lt-ltb 0 (length (v ∷ vs)) (omega arith))
    go (v ∷ vs) false = rw (and_right (ltb 0 (length (v ∷ vs))) false refl)

pub put_is : (ws out : List ℕ) → put_front ws out ≡ put_front (cond (leb (length ws) (length out)) ws []) out
put_is ws out = elim (true_or_false (leb (length ws) (length out))) [
  | inl t ↦ ap (λ b. put_front (cond b ws []) out) (sym t)
  | inr t ↦ cond-false (leb (length ws) (length out)) (ws ++ drop (length ws) out) out t ∙ sym (put_none out) ∙ ap (λ b. put_front (cond b ws []) out) (sym t)
]

-- a count that is told: there were words, so with none the space was too short
pub told_count : (r : Result ℕ Refusal) (o : Option ℕ) (ws : List ℕ) (space : ℕ) → r ≡ ok_or o SpaceTooShort → o ≡ count_sent ws space → 0 < length ws → told (λ n. n) r ≡ granting length (answer (ask 15 (leb (length ws) space) ∷ []) ws)
told_count r o ws space is out some = elim (true_or_false (leb (length ws) space)) [
  | inl t ↦ ap (told (λ n. n)) (is ∙ ap (λ z. ok_or z SpaceTooShort) (out ∙ sym (count_fits ws space some t))) ∙ ap (λ b. granting length (answer (ask 15 b ∷ []) ws)) (sym t)
  | inr t ↦ ap (told (λ n. n)) (is ∙ ap (λ z. ok_or z SpaceTooShort) (out ∙ sym (count_short ws space t))) ∙ ap (λ b. granting length (answer (ask 15 b ∷ []) ws)) (sym t)
]

-- ---- writing a message that does not hang under itself
pub write_short : (r : Result ℕ Refusal) (f : Option ℕ) (b : Bool) (x : ℕ) → result_ok r ≡ None → told (λ n. n) r ≡ answer (ask_fault 7 f ∷ ask 15 b ∷ []) x → f ≡ None → b ≡ false
write_short (Ok n) f b x e h none = absurd (none_not_some n (sym e))
write_short (Err d) f true x e h none = absurd (granted_not_refused x (refusal_number d) (refusal_place d) (sym (h ∙ ap (λ g. answer (ask_fault 7 g ∷ ask 15 true ∷ []) x) none)))
write_short (Err d) f false x e h none = refl

pub write_fits : (r : Result ℕ Refusal) (f : Option ℕ) (b : Bool) (x n : ℕ) → result_ok r ≡ Some n → told (λ m. m) r ≡ answer (ask_fault 7 f ∷ ask 15 b ∷ []) x → (b ≡ true) × (n ≡ x)
write_fits (Ok m) f b x n e h =
    let same : m ≡ n = cc in
    ((all_yes (ask_fault 7 f ∷ ask 15 b ∷ []) x m h).1.0, sym same ∙ granted_is (ask_fault 7 f ∷ ask 15 b ∷ []) x m h)
write_fits (Err d) f b x n e h = absurd (none_not_some n e)

pub ok_none : {A B : Type 0} (r : Result A B) → result_ok r ≡ None → is_ok r ≡ false
ok_none (Ok x) e = absurd (none_not_some x (sym e))
ok_none (Err d) e = refl

pub ok_some : {A B : Type 0} (r : Result A B) (x : A) → result_ok r ≡ Some x → is_ok r ≡ true
ok_some (Ok y) x e = refl
ok_some (Err d) x e = absurd (none_not_some x e)

-- past what was put at the front, a space is as it was
pub put_rest : (ws out : List ℕ) (n : ℕ) → n ≡ length ws → leb (length ws) (length out) ≡ true → drop n (put_front ws out) ≡ drop n out
put_rest ws out n e h =
    ap (drop n) (cond-true (leb (length ws) (length out)) (ws ++ drop (length ws) out) out h)
    ∙ drop_at ws (drop (length ws) out) n (sym e)
    ∙ ap (λ m. drop m out) (sym e)

-- ---- the rows
pub sent_stamp : (op : Operation) (r : Row) → (sent_row op r).stamp ≡ r.stamp
sent_stamp Insert r = refl
sent_stamp Delete r = refl

pub sent_away : (op : Operation) (r : Row) → Elsewhere r.stamp r.node → Elsewhere (sent_row op r).stamp (sent_row op r).node
sent_away Insert r a = a
sent_away Delete r a = a

module _ (l : Ledger) (i : ℕ) (op : Operation) (ws : List ℕ) (space : ℕ) where
  abbrev cleared : List Row
  cleared = set l.rows i (sent_row op (get_or l.rows i (blank [])))

  -- nothing was marked
  pub with_unmarked : (r : Row) → get_or l.rows i (blank []) ≡ r → sent_row op r ≡ r → l ≡ with_sent l i op ws space
  with_unmarked r here same =
      let kept : cleared ≡ l.rows = ap (set l.rows i) (ap (sent_row op) here ∙ same ∙ sym here) ∙ set-get_or l.rows i (blank []) in
      ap (with_rows l) (sym (ap (λ z. cond (leb (length ws) space) z l.rows) kept ∙ cond_same (leb (length ws) space) l.rows))

  -- the space was too short
  pub with_short : leb (length ws) space ≡ false → l ≡ with_sent l i op ws space
  with_short f = ap (with_rows l) (sym (cond-false (leb (length ws) space) cleared l.rows f))

  -- it went out
  pub with_cleared : leb (length ws) space ≡ true → with_rows l cleared ≡ with_sent l i op ws space
  with_cleared f = ap (with_rows l) (sym (cond-true (leb (length ws) space) cleared l.rows f))

-- ---- the next message
module _ (r : Row) (rs : List Row) where
  pub next_here : (op : Operation) → next_in r ≡ Some op → next_unsent (r ∷ rs) ≡ Some (record { op = op; stamp = r.stamp })
  next_here op h = elim (true_or_false r.insertion_unsent) [
    | inl t ↦ let e : Some Insert ≡ Some op = rw t at h in let f : Insert ≡ op = cc in rw t (ap (λ o. Some (record { op = o; stamp = r.stamp })) f)
    | inr t ↦ elim (true_or_false r.deletion_unsent) [
      | inl u ↦ let e : Some Delete ≡ Some op = rw u at (rw t at h) in let f : Delete ≡ op = cc in rw (t, u) (ap (λ o. Some (record { op = o; stamp = r.stamp })) f)
      | inr u ↦ absurd (none_not_some op (rw u at (rw t at h)))
    ]
  ]

  pub next_later : next_in r ≡ None → next_unsent (r ∷ rs) ≡ next_unsent rs
  next_later h = elim (true_or_false r.insertion_unsent) [
    | inl t ↦ absurd (none_not_some Insert (sym (rw t at h)))
    | inr t ↦ elim (true_or_false r.deletion_unsent) [
      | inl u ↦ absurd (none_not_some Delete (sym (rw u at (rw t at h))))
      | inr u ↦ rw (t, u)
    ]
  ]

-- what a search for the first slot with a message to send finds
suc_is : (n : ℕ) → 1 + n ≡ suc n
suc_is n = omega arith

not_some : {X : Type 0} (o : Option X) → is_some o ≡ false → o ≡ None
not_some None h = refl
not_some (Some x) h = absurd (never true refl h)

module _ {S E : Type 0} (vs : S → List ℕ) (es : E → List ℕ) where
  abbrev pub to_send : Slot S E → Bool
  to_send x = is_some (next_in (row_in vs es x))

  past : (x : Slot S E) (xs : List (Slot S E)) → to_send x ≡ false → position_or_len to_send (x ∷ xs) ≡ suc (position_or_len to_send xs)
  past x xs t = rw t (suc_is (position_or_len to_send xs))

  -- it passes over no message
  passes : (xs : List (Slot S E)) → next_unsent (rows_in vs es xs) ≡ next_unsent (rows_in vs es (drop (position_or_len to_send xs) xs))
  passes [] = refl
  passes (x ∷ xs) = elim (true_or_false (to_send x)) [
    | inl t ↦ rw t refl
    | inr t ↦ subst (λ (n : ℕ). next_unsent (rows_in vs es (x ∷ xs)) ≡ next_unsent (rows_in vs es (drop n (x ∷ xs)))) (sym (past x xs t)) (next_later (row_in vs es x) (rows_in vs es xs) (not_some (next_in (row_in vs es x)) t) ∙ passes xs)
  ]

  -- and stops at one
  stops : (xs : List (Slot S E)) (d : Slot S E) → position_or_len to_send xs < length xs → to_send (get_or xs (position_or_len to_send xs) d) ≡ true
  stops [] d h = absurd (omega arith)
  stops (x ∷ xs) d h = elim (true_or_false (to_send x)) [
    | inl t ↦ rw t t
    | inr t ↦ subst (λ (n : ℕ). to_send (get_or (x ∷ xs) n d) ≡ true) (sym (past x xs t)) (stops xs d (omega (arith, past x xs t)))
  ]

  abbrev pub Finds : List (Slot S E) → Option ℕ → Type 0
  Finds xs None = next_unsent (rows_in vs es xs) ≡ None
  Finds xs (Some i) = (i < length xs) × (next_unsent (rows_in vs es xs) ≡ next_unsent (rows_in vs es (drop i xs))) × ((d : Slot S E) → to_send (get_or xs i d) ≡ true)

  pub finds : (xs : List (Slot S E)) → Finds xs (position to_send xs)
  finds xs =
      let p = position_or_len to_send xs in
      elim (true_or_false (ltb p (length xs))) [
        | inl t ↦
            let h : p < length xs = ltb-true p (length xs) t in
            subst (λ (b : Bool). Finds xs (cond b (Some p) None)) (sym t) (h, passes xs, λ d. stops xs d h)
        | inr t ↦
            let h : length xs ≤ p = omega (arith, ltb-false p (length xs) t) in
            subst (λ (b : Bool). Finds xs (cond b (Some p) None)) (sym t) (passes xs ∙ at_drop_all (λ ys. next_unsent (rows_in vs es ys)) xs p h)
      ]

  pub next_found : (xs : List (Slot S E)) (i : ℕ) (x : Slot S E) (op : Operation) → Finds xs (Some i) → x ≡ get_or xs i x → next_in (row_in vs es x) ≡ Some op → NextUnsent (rows_in vs es xs) (Some (record { at = i; operation = op }))
  next_found xs i x op f is here =
      let row = row_there vs es xs i x (blank []) f.0 is in
      let n = length_rows vs es xs in
      let rest : next_unsent (rows_in vs es (drop i xs)) ≡ next_unsent (rows_in vs es (get_or xs i x ∷ drop (i + 1) xs)) = at_drop_more (λ ys. next_unsent (rows_in vs es ys)) xs i x f.0 in
      let first : i < length (rows_in vs es xs) = omega (arith, f.0) in (
        first,
        f.1 ∙ rest ∙ ap (λ z. next_unsent (rows_in vs es (z ∷ drop (i + 1) xs))) (sym is) ∙ next_here (row_in vs es x) (rows_in vs es (drop (i + 1) xs)) op here ∙ ap (λ (r : Row). Some (record { op = op; stamp = r.stamp })) (sym row),
        ap next_in row ∙ here,
      )

-- each stamp is in one row, so no row before has it
pub apart_first : (rows : List Row) (i : ℕ) (d : Row) → Apart rows → i < length rows → row_of (get_or rows i d).stamp (take i rows) ≡ None
apart_first [] i d a h = let no : ⊥ = omega arith in absurd no
apart_first (q ∷ rows) zero d a h = refl
apart_first (q ∷ rows) (suc i) d a h = elim (true_or_false (same_values q.stamp (get_or rows i d).stamp)) [
  | inl t ↦ absurd (row_none q.stamp rows (get_or rows i d) a.0 (in_get_or rows i d (omega arith)) (sym (same_list_true q.stamp (get_or rows i d).stamp t)))
  | inr t ↦ rw t (apart_first rows i d a.1 (omega arith))
]

-- ---- a call by the stamp
anew_none : (f : Row → Row) (v : List ℕ) (rows : List Row) → row_of v rows ≡ None → anew f v rows ≡ rows
anew_none f v [] h = refl
anew_none f v (q ∷ rows) h = elim (true_or_false (same_values q.stamp v)) [
  | inl t ↦ absurd (none_not_some q (sym (rw t at h)))
  | inr t ↦ rw t (ap (λ rs. q ∷ rs) (anew_none f v rows (rw t at h)))
]

module _ (k : Kinds) (l : Ledger) (op : Operation) (v : List ℕ) (space : ℕ) where
  -- the stamp has no row
  pub none_sent : row_of v l.rows ≡ None → words_sent k l op v space ≡ []
  none_sent h = ap (λ o. cond (leb (length (outgoing k op o)) space) (outgoing k op o) []) h ∙ cond_same (leb 0 space) []

  pub none_after : row_of v l.rows ≡ None → l ≡ after_send k l op v space
  none_after h = ap (with_rows l) (sym (ap (λ rs. cond (leb (length (outgoing k op (row_of v l.rows))) space) rs l.rows) (unmark_anew op v l.rows ∙ anew_none (sent_row op) v l.rows h) ∙ cond_same (leb (length (outgoing k op (row_of v l.rows))) space) l.rows))

  -- it has one
  module _ (i : ℕ) (first : FirstWith v l.rows (Some i)) where
    row_is : row_of v l.rows ≡ Some (get_or l.rows i (blank []))
    row_is = first_row v l.rows i (blank []) first.0 first.1 first.2

    pub outgoing_is : outgoing k op (Some (get_or l.rows i (blank []))) ≡ outgoing k op (row_of v l.rows)
    outgoing_is = ap (outgoing k op) (sym row_is)

    pub sent_is : with_sent l i op (outgoing k op (Some (get_or l.rows i (blank [])))) space ≡ after_send k l op v space
    sent_is = (λ j. with_rows l (cond (leb (length (outgoing_is j)) space) (sym (unmark_anew op v l.rows ∙ anew_set (sent_row op) v l.rows i (blank []) first.0 first.1 first.2) j) l.rows))

-- values that are no stamp have no row
pub no_stamp_row : {S E : Type 0} (vs : S → List ℕ) (es : E → List ℕ) (reads : List ℕ → Bool) → ((s : S) → reads (vs s) ≡ true) → (xs : List (Slot S E)) (v : List ℕ) → reads v ≡ false → row_of v (rows_in vs es xs) ≡ None
no_stamp_row vs es reads law xs v h = elim (none_or_some (row_of v (rows_in vs es xs))) [
  | inl n ↦ n
  | inr f ↦
      let r = row_found v (rows_in vs es xs) f.0 f.1 in
      absurd (never (reads v) (subst (λ z. reads z ≡ true) r.1 (slots_read vs es reads law xs f.0 r.0)) h)
]

-- the slot at a place
pub slot_at : {A : Type 0} (xs : List A) (i : ℕ) → i < length xs → (x : A) × (x ≡ get_or xs i x)
slot_at [] i h = let no : ⊥ = omega arith in absurd no
slot_at (y ∷ xs) zero h = (y, refl)
slot_at (y ∷ xs) (suc i) h = slot_at xs i (omega arith)

-- ---- what is answered, from what was sent
pub unread_none : {A : Type 0} (f : A → List ℕ) (b : Bool) (v : List ℕ) → None ≡ cond b (Some v) None → b ≡ false
unread_none f true v h = absurd (none_not_some v h)
unread_none f false v h = refl

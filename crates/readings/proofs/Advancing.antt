-- A reading answers the items one after the other.
use Rattle.std.proofs.Common.{◌≡◌, ℕ, zero, suc, ◌+◌, ◌<◌, ◌≤◌, Bool, true, false, List, [], ◌∷◌, map, length, take, drop, Some, None, Option, sym, refl, ap, ◌∙◌, subst, inl, inr, arith, length-append}
use Rattle.std.proofs.lemmas.List.{take_all}
use Rattle.std.specs.Option.{option_map}
use Rattle.words.specs.Forms.{same_values}
use Rattle.ledger.specs.Kinds.{Ordered, Stamps}
use Rattle.ledger.specs.Laws.{ReadsByPaths, entry_at}
use Rattle.ledger.specs.Basics.{first}
use Rattle.ledger.specs.Ledger.{Apart, Node, Row, node_in, node_of, row_of, struck_in, struck_of}
use Rattle.ledger.specs.Paths.{Item, PathOf, Placed, Step, before, in_order, insert, path, placed_all, placed_at, reading, sorted, stands}
use Rattle.ledger.specs.Walk.{Onward, Starts, WalksReading}
use Rattle.ledger.proofs.Chains.{path_node, stands_from, stands_is}
use Rattle.ledger.proofs.Members.{In}
use Rattle.ledger.proofs.Order.{before_irreflexive}
use Rattle.ledger.proofs.Rows.{none_not_some}
use Rattle.ledger.proofs.Reading.{reads_by_paths}
use Rattle.ledger.proofs.Same.{apart_lists, never, same_list_refl, true_or_false}
use Rattle.ledger.proofs.Sorting.{length_items}
use Rattle.ledger.proofs.Touring.{walks_reading}
use Rattle.ledger.proofs.Trails.{one_path}
use Rattle.slots.specs.Rows.{entry_in, rows_in}
use Rattle.slots.proofs.Leasts.{slots_read}
use Rattle.slots.proofs.Scans.{length_rows}
use Rattle.readings.specs.Readings.{AnswersJust, Reads, Stepped, Steps, current, item_at, item_of, items, others, past, rows_read, to_come, unread}
use Rattle.readings.specs.Standing.{AheadIs, StandsAt}
use Rattle.readings.specs.declared.Reading.{Reading}

-- a change of a change
pub map_map : {A B C : Type 0} (f : A → B) (g : B → C) (o : Option A) → option_map (λ x. g (f x)) o ≡ option_map g (option_map f o)
map_map f g None = refl
map_map f g (Some x) = refl

-- ---- lists of items with distinct stamps
abbrev Distinct : List Item → Type 0
Distinct xs = (i j : ℕ) → i < j → j < length xs → (entry_at xs i).stamp ≡ (entry_at xs j).stamp → ⊥

others_distinct : (x : Item) (xs : List Item) → Distinct (x ∷ xs) → Distinct xs
others_distinct x xs d = λ i j l h e. d (suc i) (suc j) (omega arith) (omega arith) e

differs : (x : Item) (xs : List Item) (i : ℕ) → Distinct (x ∷ xs) → i < length xs → same_values x.stamp (entry_at xs i).stamp ≡ false
differs x xs i d h = apart_lists x.stamp (entry_at xs i).stamp (d 0 (suc i) (omega arith) (omega arith))

past_at : (xs : List Item) (i : ℕ) → i < length xs → Distinct xs → past (entry_at xs i).stamp xs ≡ drop (suc i) xs
past_at [] i h d = let no : ⊥ = omega arith in absurd no
past_at (x ∷ xs) zero h d = rw (same_list_refl x.stamp)
past_at (x ∷ xs) (suc i) h d = rw (differs x xs i d (omega arith)) (past_at xs i (omega arith) (others_distinct x xs d))

found_at : (xs : List Item) (i : ℕ) → i < length xs → Distinct xs → item_of (entry_at xs i).stamp xs ≡ Some (entry_at xs i)
found_at [] i h d = let no : ⊥ = omega arith in absurd no
found_at (x ∷ xs) zero h d = rw (same_list_refl x.stamp)
found_at (x ∷ xs) (suc i) h d = rw (differs x xs i d (omega arith)) (found_at xs i (omega arith) (others_distinct x xs d))

drop_at_place : (xs : List Item) (i : ℕ) → i < length xs → drop i xs ≡ entry_at xs i ∷ drop (suc i) xs
drop_at_place [] i h = let no : ⊥ = omega arith in absurd no
drop_at_place (x ∷ xs) zero h = refl
drop_at_place (x ∷ xs) (suc i) h = drop_at_place xs i (omega arith)

drop_whole : (xs : List Item) (n : ℕ) → length xs ≤ n → drop n xs ≡ []
drop_whole [] zero h = refl
drop_whole [] (suc n) h = refl
drop_whole (x ∷ xs) zero h = let no : ⊥ = omega arith in absurd no
drop_whole (x ∷ xs) (suc n) h = drop_whole xs n (omega arith)

none_left : (xs : List Item) → length xs ≡ 0 → xs ≡ []
none_left [] h = refl
none_left (x ∷ xs) h = let no : ⊥ = omega arith in absurd no

-- ---- a reading is no longer than there are rows
length_insert : (e : List ℕ → List ℕ → Bool) (x : Placed) (xs : List Placed) → length (insert e x xs) ≡ suc (length xs)
length_insert e x [] = refl
length_insert e x (y ∷ ys) = elim (true_or_false (before e y.steps x.steps)) [
  | inl t ↦ rw t (ap suc (length_insert e x ys))
  | inr t ↦ rw t
]

length_sorted : (e : List ℕ → List ℕ → Bool) (xs : List Placed) → length (sorted e xs) ≡ length xs
length_sorted e [] = refl
length_sorted e (x ∷ xs) = length_insert e x (sorted e xs) ∙ ap suc (length_sorted e xs)

placed_one : (rows : List Row) (r : Row) (p : Option (List Step)) (w : Option Node) → length (placed_at rows r p w) ≤ 1
placed_one rows r None w = omega arith
placed_one rows r (Some p) None = omega arith
placed_one rows r (Some p) (Some w) = omega arith

placed_few : (rows rs : List Row) → length (placed_all rows rs) ≤ length rs
placed_few rows [] = omega arith
placed_few rows (r ∷ rs) =
    let a = length-append (placed_at rows r (path rows r.stamp) r.node) (placed_all rows rs) in
    let b = placed_one rows r (path rows r.stamp) r.node in
    let c = placed_few rows rs in
    omega arith

pub reading_few : (k : Stamps) (rows : List Row) → length (reading k rows) ≤ length rows
reading_few k rows =
    let a = length_items (in_order k rows) in
    let b = length_sorted k.kind.earlier (placed_all rows rows) in
    let c = placed_few rows rows in
    omega arith

-- ---- one step further
module _ (k : Stamps) (o : Ordered k) (rows : List Row) (apart : Apart rows) (held : (r : Row) → In r rows → k.form.reads r.stamp ≡ true) where
  -- what is left begins with the item of y, and goes on after it
  pub record Advanced (left : List Item) (y : List ℕ) : Type 0 where
    pub item : Item
    pub is : left ≡ item ∷ past y (reading k rows)
    pub stamp : item.stamp ≡ y
    pub found : item_of y (reading k rows) ≡ Some item
    pub standing : stands rows y ≡ true

  by_paths : ReadsByPaths k rows
  by_paths = reads_by_paths k o rows apart held

  walks : WalksReading k rows
  walks = walks_reading k o rows apart held

  distinct : Distinct (reading k rows)
  distinct i j l h e =
      let p = by_paths.standing i (omega arith) in
      let q = by_paths.standing j h in
      let b : before k.kind.earlier p.0 q.0 ≡ true = by_paths.ascending i j p.0 q.0 l h p.1 q.1 in
      let same : p.0 ≡ q.0 = one_path p.1 q.1 e in
      never (before k.kind.earlier q.0 q.0) (rw same at b) (before_irreflexive k.kind.earlier q.0)

  advanced_at : (left : List Item) (i : ℕ) (y : List ℕ) → i < length (reading k rows) → (entry_at (reading k rows) i).stamp ≡ y → left ≡ drop i (reading k rows) → Advanced left y
  advanced_at left i y h e is = record {
    item = entry_at (reading k rows) i;
    is = is ∙ drop_at_place (reading k rows) i h ∙ ap (λ z. entry_at (reading k rows) i ∷ z) (sym (past_at (reading k rows) i h distinct) ∙ ap (λ s. past s (reading k rows)) e);
    stamp = e;
    found = ap (λ s. item_of s (reading k rows)) (sym e) ∙ found_at (reading k rows) i h distinct;
    standing = (let p = by_paths.standing i h in stands_from rows y p.0 (subst (λ s. PathOf rows s p.0) e p.1));
  }

  -- the place of a standing stamp
  place : (s : List ℕ) → stands rows s ≡ true → (i : ℕ) × (i < length (reading k rows)) × ((entry_at (reading k rows) i).stamp ≡ s)
  place s h = let p = stands_is rows s h in by_paths.complete s p.0 p.1

  past_is : (s : List ℕ) (i : ℕ) → i < length (reading k rows) → (entry_at (reading k rows) i).stamp ≡ s → past s (reading k rows) ≡ drop (suc i) (reading k rows)
  past_is s i h e = ap (λ t. past t (reading k rows)) (sym e) ∙ past_at (reading k rows) i h distinct

  pub advance_start : (y : List ℕ) → Starts rows k.kind.earlier (Some y) → Advanced (reading k rows) y
  advance_start y st = let f = walks.starts_at y st in advanced_at (reading k rows) 0 y f.0 f.1 refl

  pub advance_none : Starts rows k.kind.earlier None → reading k rows ≡ []
  advance_none st = none_left (reading k rows) (walks.starts_nowhere st)

  pub advance_on : (s y : List ℕ) → stands rows s ≡ true → Onward rows k.kind.earlier s (Some y) → Advanced (past s (reading k rows)) y
  advance_on s y h on =
      let f = place s h in
      let g = walks.goes_on f.0 y f.1 (subst (λ t. Onward rows k.kind.earlier t (Some y)) (sym f.2) on) in
      let next : f.0 + 1 ≡ suc f.0 = omega arith in
      advanced_at (past s (reading k rows)) (suc f.0) y (let a = g.0 in omega arith) (ap (λ n. (entry_at (reading k rows) n).stamp) (sym next) ∙ g.1) (past_is s f.0 f.1 f.2)

  pub advance_end : (s : List ℕ) → stands rows s ≡ true → Onward rows k.kind.earlier s None → past s (reading k rows) ≡ []
  advance_end s h on =
      let f = place s h in
      let g = walks.ends f.0 f.1 (subst (λ t. Onward rows k.kind.earlier t None) (sym f.2) on) in
      past_is s f.0 f.1 f.2 ∙ drop_whole (reading k rows) (suc f.0) (omega arith)

  -- ---- what is said of a standing stamp
  pub entry_read : (s : List ℕ) → stands rows s ≡ true → option_map (λ (x : Item). x.entry) (item_of s (reading k rows)) ≡ option_map (λ (w : Node). w.entry) (node_of s rows)
  entry_read s h =
      let f = place s h in
      let w = by_paths.entries f.0 f.1 in
      ap (λ t. option_map (λ (x : Item). x.entry) (item_of t (reading k rows))) (sym f.2)
      ∙ ap (option_map (λ (x : Item). x.entry)) (found_at (reading k rows) f.0 f.1 distinct)
      ∙ ap Some w.2
      ∙ ap (option_map (λ (v : Node). v.entry)) (sym (ap (λ t. node_of t rows) (sym f.2) ∙ w.1))

  pub struck_read : (s : List ℕ) → stands rows s ≡ true → option_map (λ (x : Item). x.struck) (item_of s (reading k rows)) ≡ Some (struck_of s rows)
  struck_read s h =
      let f = place s h in
      ap (λ t. option_map (λ (x : Item). x.struck) (item_of t (reading k rows))) (sym f.2)
      ∙ ap (option_map (λ (x : Item). x.struck)) (found_at (reading k rows) f.0 f.1 distinct)
      ∙ ap Some (by_paths.deletions f.0 f.1 ∙ ap (λ t. struck_of t rows) f.2)

  -- a standing stamp has an item, and a row
  item_stands : (s : List ℕ) → stands rows s ≡ true → (i : Item) × (item_of s (reading k rows) ≡ Some i)
  item_stands s h = let f = place s h in (entry_at (reading k rows) f.0, ap (λ t. item_of t (reading k rows)) (sym f.2) ∙ found_at (reading k rows) f.0 f.1 distinct)

  row_stands : (s : List ℕ) → stands rows s ≡ true → (q : Row) × (row_of s rows ≡ Some q)
  row_stands s h = held_by (row_of s rows) (path_node (stands_is rows s h).1).1
    where
      held_by : (o : Option Row) {w : Node} → node_in o ≡ Some w → (q : Row) × (o ≡ Some q)
      held_by None {w} e = absurd (none_not_some w e)
      held_by (Some q) e = (q, refl)

  entry_of_row : (s : List ℕ) → stands rows s ≡ true → option_map entry_in (row_of s rows) ≡ option_map (λ (x : Item). Some x.entry) (item_of s (reading k rows))
  entry_of_row s h =
      let q = row_stands s h in
      let i = item_stands s h in
      ap (option_map entry_in) q.1
      ∙ ap (λ o. Some (option_map (λ (w : Node). w.entry) (node_in o))) (sym q.1)
      ∙ ap Some (sym (entry_read s h))
      ∙ (λ j. Some (option_map (λ (x : Item). x.entry) (i.1 j)))
      ∙ ap (option_map (λ (x : Item). Some x.entry)) (sym i.1)

  struck_of_row : (s : List ℕ) → stands rows s ≡ true → option_map (λ (q : Row). q.struck) (row_of s rows) ≡ option_map (λ (x : Item). x.struck) (item_of s (reading k rows))
  struck_of_row s h =
      let q = row_stands s h in
      ap (option_map (λ (r : Row). r.struck)) q.1 ∙ ap (λ o. Some (struck_in o)) (sym q.1) ∙ sym (struck_read s h)

  -- from wherever the walk is
  pub data Ahead (left : List Item) : Option (List ℕ) → Type 0 where
    ended : left ≡ [] → Ahead left None
    further : (y : List ℕ) → Advanced left y → Ahead left (Some y)

  pub advance : (last r : Option (List ℕ)) → StandsAt rows last → AheadIs rows k.kind.earlier last r → Ahead (unread last (reading k rows)) r
  advance None None h a = ended (advance_none a)
  advance None (Some y) h a = further y (advance_start y a)
  advance (Some s) None h a = ended (advance_end s h a)
  advance (Some s) (Some y) h a = further y (advance_on s y h a)

-- ---- a step in code
-- how many are left, at most, once n of them were: none after the end, else one less
abbrev pub LeftOf : {S : Type 0} → Option S → ℕ → ℕ → Type 0
LeftOf None n left = left ≡ 0
LeftOf (Some y) n left = n ≡ suc left

module _ {S E : Type 0} (vs : S → List ℕ) (es : E → List ℕ) (k : Stamps) (o : Ordered k) (law : (s : S) → k.form.reads (vs s) ≡ true) (r : Reading S E) (reads : Reads vs es r) where
  abbrev last : Option (List ℕ)
  last = option_map vs r.last

  abbrev rows : List Row
  rows = rows_read vs es r

  pub held_read : (q : Row) → In q (rows_read vs es r) → k.form.reads q.stamp ≡ true
  held_read = slots_read vs es k.form.reads law r.slots.now

  take_none : (n : ℕ) (xs : List Item) → xs ≡ [] → take n xs ≡ []
  take_none zero xs e = refl
  take_none (suc n) xs e = ap (take (suc n)) e

  -- what the walk comes to, from where the reading is
  walk : (a : Option (List ℕ)) → AheadIs rows k.kind.earlier last a → Ahead k o rows reads.apart held_read (unread last (items vs es k r)) a
  walk a w = advance k o rows reads.apart held_read last a reads.standing w

  abbrev Further : List ℕ → Type 0
  Further y = Advanced k o rows reads.apart held_read (unread last (items vs es k r)) y

  pub walked_end : AheadIs (rows_read vs es r) k.kind.earlier (option_map vs r.last) None → to_come vs es k r ≡ []
  walked_end w = go (walk None w)
    where
      go : Ahead k o rows reads.apart held_read (unread last (items vs es k r)) None → to_come vs es k r ≡ []
      go (ended e) = take_none r.left (unread last (items vs es k r)) e

  pub walked_on : (y : List ℕ) → AheadIs (rows_read vs es r) k.kind.earlier (option_map vs r.last) (Some y) → Further y
  walked_on y w = go (walk (Some y) w)
    where
      go : Ahead k o rows reads.apart held_read (unread last (items vs es k r)) (Some y) → Further y
      go (further z a) = a

  -- what it comes to stands
  pub ahead_stands : (a : Option (List ℕ)) → AheadIs (rows_read vs es r) k.kind.earlier (option_map vs r.last) a → StandsAt (rows_read vs es r) a
  ahead_stands None w = tt
  ahead_stands (Some y) w = (walked_on y w).standing

  -- what the slot of the last entry says
  module _ (y : S) (at : r.last ≡ Some y) where
    stood : stands rows (vs y) ≡ true
    stood = subst (λ z. StandsAt rows (option_map vs z)) at reads.standing

    pub entry_at_last : option_map entry_in (row_of (vs y) (rows_read vs es r)) ≡ option_map (λ (x : Item). Some x.entry) (current vs es k r)
    entry_at_last = entry_of_row k o rows reads.apart held_read (vs y) stood ∙ ap (λ z. option_map (λ (x : Item). Some x.entry) (item_at (option_map vs z) (items vs es k r))) (sym at)

    pub struck_at_last : option_map (λ (q : Row). q.struck) (row_of (vs y) (rows_read vs es r)) ≡ option_map (λ (x : Item). x.struck) (current vs es k r)
    struck_at_last = struck_of_row k o rows reads.apart held_read (vs y) stood ∙ ap (λ z. option_map (λ (x : Item). x.struck) (item_at (option_map vs z) (items vs es k r))) (sym at)

  module _ (t : Reading S E) (same : t.slots ≡ r.slots) where
    items_same : items vs es k t ≡ items vs es k r
    items_same = ap (λ z. reading k (rows_in vs es z.now)) same

    rows_same : rows_read vs es t ≡ rows
    rows_same = ap (λ z. rows_in vs es z.now) same

    -- the reading goes on through the page
    reads_on : (a : Option S) → t.last ≡ a → AheadIs rows k.kind.earlier last (option_map vs a) → Reads vs es t
    reads_on a at w = record {
      apart = subst Apart (sym rows_same) reads.apart;
      standing = subst (λ z. StandsAt z (option_map vs t.last)) (sym rows_same) (subst (λ z. StandsAt rows (option_map vs z)) (sym at) (ahead_stands (option_map vs a) w));
    }

    pub stepped : (a : Option S) → t.last ≡ a → AheadIs (rows_read vs es r) k.kind.earlier (option_map vs r.last) (option_map vs a) → LeftOf a r.left t.left → Stepped vs es k r a t
    stepped None at w gone =
        let none = walked_end w in
        record {
          answer = ap (λ xs. option_map (λ (x : Item). x.stamp) (first xs)) (sym none);
          now_at = ap (λ z. item_at (option_map vs z) (items vs es k t)) at ∙ ap first (sym none);
          left = ap (λ n. take n (unread (option_map vs t.last) (items vs es k t))) gone ∙ ap others (sym none);
          rows = rows_same;
          reads = reads_on None at w;
        }
    stepped (Some y) at w one =
        let a = walked_on (vs y) w in
        let come : to_come vs es k r ≡ a.item ∷ take t.left (past (vs y) (items vs es k r)) = λ i. take (one i) (a.is i) in
        record {
          answer = ap Some (sym a.stamp) ∙ ap (λ xs. option_map (λ (x : Item). x.stamp) (first xs)) (sym come);
          now_at = (λ i. item_at (option_map vs (at i)) (items_same i)) ∙ a.found ∙ ap first (sym come);
          left = (λ i. take t.left (unread (option_map vs (at i)) (items_same i))) ∙ ap others (sym come);
          rows = rows_same;
          reads = reads_on (Some y) at w;
        }

-- ---- steps to the end answer what is to come
first_none : (xs : List Item) → None ≡ option_map (λ (x : Item). x.stamp) (first xs) → xs ≡ []
first_none [] e = refl
first_none (x ∷ xs) e = absurd (none_not_some x.stamp e)

first_some : (xs : List Item) (s : List ℕ) → Some s ≡ option_map (λ (x : Item). x.stamp) (first xs) → s ∷ map (λ (x : Item). x.stamp) (others xs) ≡ map (λ (x : Item). x.stamp) xs
first_some [] s e = absurd (none_not_some s (sym e))
first_some (x ∷ xs) s e = let f : s ≡ x.stamp = cc in ap (λ t. t ∷ map (λ (y : Item). y.stamp) xs) f

module _ {S E : Type 0} (vs : S → List ℕ) (es : E → List ℕ) (k : Stamps) where
  pub come_to_end : (r t : Reading S E) → Stepped vs es k r None t → to_come vs es k r ≡ []
  come_to_end r t s = first_none (to_come vs es k r) s.answer

  -- a new reading has all to come
  pub new_to_come : (r : Reading S E) → r.last ≡ None → r.left ≡ length r.slots.now → to_come vs es k r ≡ items vs es k r
  new_to_come r last left =
      let few : length (items vs es k r) ≤ r.left = (let a = reading_few k (rows_read vs es r) in let b = length_rows vs es r.slots.now in omega arith) in
      ap (λ z. take r.left (unread (option_map vs z) (items vs es k r))) last ∙ take_all r.left (items vs es k r) few

  -- and goes through a page whose stamps have one slot each
  pub new_reads : (r : Reading S E) → r.last ≡ None → Apart (rows_read vs es r) → Reads vs es r
  new_reads r last apart = record { apart = apart; standing = subst (λ z. StandsAt (rows_read vs es r) (option_map vs z)) (sym last) tt }

  pub answers_just : (r : Reading S E) → Reads vs es r → AnswersJust vs es k r (map (λ (x : Item). x.stamp) (to_come vs es k r))
  answers_just r h [] u (t, at, last) = ap (map (λ (x : Item). x.stamp)) (sym (come_to_end r u (subst (λ z. Steps vs es k z None u) (sym at) last h)))
  answers_just r h (x ∷ xs) u (t, (j, st, more), last) =
      let s = st h in
      let rest = answers_just j s.reads xs u (t, more, last) ∙ ap (map (λ (y : Item). y.stamp)) s.left in
      ap (λ ss. vs x ∷ ss) rest ∙ first_some (to_come vs es k r) (vs x) s.answer

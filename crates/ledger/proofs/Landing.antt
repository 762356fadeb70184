-- An insert's new entry is read right where it was wanted.
use Rattle.std.proofs.Common.{◌≡◌, ℕ, Bool, true, false, ◌⊎◌, List, [], ◌∷◌, ◌++◌, None, sym, refl, ap, ◌∙◌, subst, inl, inr, append_assoc, arith}
use Rattle.ledger.specs.Basics.{refusal}
use Rattle.ledger.specs.Kinds.{Kinds, Stamps, Ordered}
use Rattle.ledger.specs.Ledger.{Node, Row, Ledger, row_of, node_of, node_in, struck_of, struck_in, insertion, Apart}
use Rattle.messages.specs.declared.model.Side.TheVariants.{Right}
use Rattle.ledger.specs.Calls.{added}
use Rattle.ledger.specs.Laws.{Spot, mark, with_rows, place_for, insert_questions, NoneWaitsFor, new_item, Inserted, StandsThere, History}
use Rattle.ledger.specs.Laws.Spot.{at_top, after}
use Rattle.messages.specs.declared.model.Operation.TheVariants.{Insert}
use Rattle.ledger.specs.Paths.{Step, Placed, Item, PathOf, before, in_order, items, reading}
use Rattle.ledger.specs.Walk.{TakesIn, NewRightAfter}
use Rattle.ledger.proofs.Same.{same_lists_or_not}
use Rattle.ledger.proofs.Members.{In, in_left, in_right, in_append, in_is}
use Rattle.ledger.proofs.Order.{before_transitive}
use Rattle.ledger.proofs.Sorting.{Ascending, lower, same_ascending}
use Rattle.ledger.proofs.Reading.{IsPlaced, path_reads, read_is, is_read, reading_ascends, reading_none_both}
use Rattle.ledger.proofs.Changes.{mark_alike, alike_node, alike_struck, added_other, added_new}
use Rattle.ledger.proofs.Histories.{Sound, not_refused, after_insert, fresh_not_held, history_sound}
use Rattle.ledger.proofs.Trails.{one_path, one_node}
use Rattle.ledger.proofs.Trails.At.{at_ground, at_under}
use Rattle.ledger.proofs.Newly.{added_takes, holds_on, path_kept, new_or_old}
use Rattle.ledger.proofs.Slots.{slot_law, after_ground}
use Rattle.ledger.proofs.Placing.{stamps_read, place_after_slot, place_at_top_slot}

-- ---- lists
pub ascending_insert : {A : Type 0} (lt : A → A → Bool) (front back : List A) (x : A) → Ascending lt (front ++ back) → ((y : A) → In y front → lt y x ≡ true) → ((y : A) → In y back → lt x y ≡ true) → Ascending lt (front ++ (x ∷ back))
ascending_insert lt [] back x a f g = (g, a)
ascending_insert lt (y ∷ front) back x a f g = (
  λ z i. elim (in_append z front (x ∷ back) i) [
    | inl j ↦ a.0 z (in_left z front back j)
    | inr j ↦ elim j [ inl e ↦ rw e at (f y (inl refl)) | inr l ↦ a.0 z (in_right z front back l) ]
  ],
  ascending_insert lt front back x a.1 (λ z i. f z (inr i)) g,
)

pub in_insert : {A : Type 0} (z x : A) (front back : List A) → In z (front ++ back) → In z (front ++ (x ∷ back))
in_insert z x front back i = elim (in_append z front back i) [ inl j ↦ in_left z front (x ∷ back) j | inr j ↦ in_right z front (x ∷ back) (inr j) ]

pub from_insert : {A : Type 0} (z x : A) (front back : List A) → In z (front ++ (x ∷ back)) → (x ≡ z) ⊎ In z (front ++ back)
from_insert z x front back i = elim (in_append z front (x ∷ back) i) [
  | inl j ↦ inr (in_left z front back j)
  | inr j ↦ elim j [ inl e ↦ inl e | inr l ↦ inr (in_right z front back l) ]
]

pub items_append : (xs ys : List Placed) → items (xs ++ ys) ≡ items xs ++ items ys
items_append [] ys = refl
items_append (x ∷ xs) ys = ap (λ (l : List Item). x.item ∷ l) (items_append xs ys)

-- placed items cut where their items are
pub record Cut (xs : List Placed) (front back : List Item) (named : Item) : Type 0 where
  pub fore : List Placed
  pub here : Placed
  pub rest : List Placed
  pub is : xs ≡ fore ++ (here ∷ rest)
  pub fore_is : items fore ≡ front
  pub here_is : here.item ≡ named
  pub rest_is : items rest ≡ back

pub cut_items : (xs : List Placed) (front back : List Item) (named : Item) → items xs ≡ front ++ (named ∷ back) → Cut xs front back named
cut_items [] [] back named e = let z : ◌≡◌ {A = ℕ} 0 1 = cc in absurd (omega arith)
cut_items [] (f ∷ front) back named e = let z : ◌≡◌ {A = ℕ} 0 1 = cc in absurd (omega arith)
cut_items (x ∷ xs) [] back named e = record { fore = []; here = x; rest = xs; is = refl; fore_is = refl; here_is = cc; rest_is = cc }
cut_items (x ∷ xs) (f ∷ front) back named e = go (cc) (cut_items xs front back named (cc))
  where
    go : x.item ≡ f → Cut xs front back named → Cut (x ∷ xs) (f ∷ front) back named
    go h c = record { fore = x ∷ c.fore; here = c.here; rest = c.rest; is = ap (λ (l : List Placed). x ∷ l) c.is; fore_is = λ i. h i ∷ c.fore_is i; here_is = c.here_is; rest_is = c.rest_is }

-- ---- placed items of one stamp are one
pub placed_one : (rows : List Row) (x y : Placed) → IsPlaced rows x → IsPlaced rows y → x.item.stamp ≡ y.item.stamp → x ≡ y
placed_one rows x y a b e =
    let p : x.steps ≡ y.steps = one_path a.path_is b.path_is e in
    let same : node_of x.item.stamp rows ≡ node_of y.item.stamp rows = ap (λ (t : List ℕ). node_of t rows) e in
    let w : a.node ≡ b.node = one_node a.written (same ∙ b.written) in
    let f : x.item.entry ≡ y.item.entry = a.entry_is ∙ ap (λ (v : Node). v.entry) w ∙ sym b.entry_is in
    let g : x.item.struck ≡ y.item.struck = a.struck_is ∙ ap (λ (t : List ℕ). struck_of t rows) e ∙ sym b.struck_is in
    λ i. record { steps = p i; item = record { stamp = e i; entry = f i; struck = g i } }

-- ---- one entry more is one more in the reading
module _ (k : Stamps) (o : Ordered k) (rows : List Row) (apart : Apart rows) (held : (r : Row) → In r rows → k.form.reads r.stamp ≡ true)
    (more : List Row) (apart' : Apart more) (held' : (r : Row) → In r more → k.form.reads r.stamp ≡ true)
    (s : List ℕ) (w : Node) (takes : TakesIn rows more s w) (deletions : (t : List ℕ) → struck_of t more ≡ struck_of t rows) (unstruck : struck_of s rows ≡ false)
    (unnamed : NoneWaitsFor rows s) where
  abbrev placed_new : List Step → Placed
  placed_new p = record { steps = p; item = new_item s w.entry }

  new_placed : (p : List Step) → PathOf more s p → IsPlaced more (placed_new p)
  new_placed p h = record { path_is = h; node = w; written = takes.own; entry_is = refl; struck_is = sym (deletions s ∙ unstruck) }

  old_placed : (x : Placed) → IsPlaced rows x → IsPlaced more x
  old_placed x a = record {
    path_is = path_kept rows more s w takes a.path_is;
    node = a.node;
    written = holds_on rows more s w takes x.item.stamp a.node a.written;
    entry_is = a.entry_is;
    struck_is = a.struck_is ∙ sym (deletions x.item.stamp);
  }

  placed_before : (x : Placed) → IsPlaced more x → PathOf rows x.item.stamp x.steps → (s ≡ x.item.stamp → ⊥) → IsPlaced rows x
  placed_before x a h n = record {
    path_is = h;
    node = a.node;
    written = sym (takes.others x.item.stamp n) ∙ a.written;
    entry_is = a.entry_is;
    struck_is = a.struck_is ∙ deletions x.item.stamp;
  }

  pub lands : (front back : List Placed) (p : List Step) → in_order k rows ≡ front ++ back → PathOf more s p
      → ((y : Placed) → In y front → before k.kind.earlier y.steps p ≡ true) → ((y : Placed) → In y back → before k.kind.earlier p y.steps ≡ true)
      → in_order k more ≡ front ++ (placed_new p ∷ back)
  lands front back p cut hp f g = same_ascending (lower k.kind.earlier) (in_order k more) (front ++ (placed_new p ∷ back))
      (reading_ascends k o more apart' held')
      (ascending_insert (lower k.kind.earlier) front back (placed_new p) (rw cut at (reading_ascends k o rows apart held)) f g)
      (reading_none_both k o more apart' held')
      fore
      again
    where
      old : (z : Placed) → IsPlaced rows z → In z (front ++ (placed_new p ∷ back))
      old z a = in_insert z (placed_new p) front back (rw cut at (is_read k o rows apart held z a))

      fore : (z : Placed) → In z (in_order k more) → In z (front ++ (placed_new p ∷ back))
      fore z i =
          let a = read_is k o more apart' held' z i in
          elim (same_lists_or_not s z.item.stamp) [
            | inl e ↦ in_right z front (placed_new p ∷ back) (inl (placed_one more (placed_new p) z (new_placed p hp) a e))
            | inr n ↦ elim (new_or_old rows more s w takes unnamed z.item.stamp z.steps a.path_is) [
              | inl e ↦ absurd (n (sym e))
              | inr h ↦ old z (placed_before z a h n)
            ]
          ]

      again : (z : Placed) → In z (front ++ (placed_new p ∷ back)) → In z (in_order k more)
      again z i = elim (from_insert z (placed_new p) front back i) [
        | inl e ↦ in_is (placed_new p) z (in_order k more) e (is_read k o more apart' held' (placed_new p) (new_placed p hp))
        | inr j ↦
            let was : In z (in_order k rows) = rw cut j in
            is_read k o more apart' held' z (old_placed z (read_is k o rows apart held z was))
      ]

  pub lands_top : (f : NewRightAfter rows more k.kind.earlier [] s) → reading k more ≡ new_item s w.entry ∷ reading k rows
  lands_top f = ap items (lands [] (in_order k rows) f.steps refl f.path (λ y i. absurd i) (λ y i.
      let h = (read_is k o rows apart held y i).path_is in
      f.next y.item.stamp y.steps h (after_ground k o rows (stamps_read k o rows apart held) y.item.stamp y.steps h)))

  -- what comes before and after a placed item of the reading
  around : (fore rest : List Placed) (n : Placed) → Ascending (lower k.kind.earlier) (fore ++ (n ∷ rest)) → ((y : Placed) → In y fore → lower k.kind.earlier y n ≡ true) × ((y : Placed) → In y rest → lower k.kind.earlier n y ≡ true)
  around [] rest n a = (λ y i. absurd i, a.0)
  around (x ∷ fore) rest n a =
      let c = around fore rest n a.1 in
      (λ y i. elim i [ inl e ↦ rw e at (a.0 n (in_right n fore (n ∷ rest) (inl refl))) | inr j ↦ c.0 y j ], c.1)

  pub lands_after : (fore rest : List Placed) (n : Placed) → in_order k rows ≡ fore ++ (n ∷ rest) → (f : NewRightAfter rows more k.kind.earlier n.steps s) → in_order k more ≡ fore ++ (n ∷ (placed_new f.steps ∷ rest))
  lands_after fore rest n cut f =
      let found = lands (fore ++ (n ∷ [])) rest f.steps (cut ∙ sym (append_assoc fore (n ∷ []) rest)) f.path before_new after_new in
      found ∙ append_assoc fore (n ∷ []) (placed_new f.steps ∷ rest)
    where
      sides : ((y : Placed) → In y fore → lower k.kind.earlier y n ≡ true) × ((y : Placed) → In y rest → lower k.kind.earlier n y ≡ true)
      sides = around fore rest n (rw cut at (reading_ascends k o rows apart held))

      stands : (y : Placed) → In y (fore ++ (n ∷ rest)) → PathOf rows y.item.stamp y.steps
      stands y i = (read_is k o rows apart held y (rw cut i)).path_is

      hn : PathOf rows n.item.stamp n.steps
      hn = stands n (in_right n fore (n ∷ rest) (inl refl))

      before_new : (y : Placed) → In y (fore ++ (n ∷ [])) → before k.kind.earlier y.steps f.steps ≡ true
      before_new y i = elim (in_append y fore (n ∷ []) i) [
        | inl j ↦
            let hy = stands y (in_left y fore (n ∷ rest) j) in
            before_transitive k o y.steps n.steps f.steps (path_reads k o rows apart held hy) (path_reads k o rows apart held hn) (path_reads k o more apart' held' f.path) (sides.0 y j) f.after
        | inr j ↦ elim j [ inl e ↦ rw e at f.after | inr l ↦ absurd l ]
      ]

      after_new : (y : Placed) → In y rest → before k.kind.earlier f.steps y.steps ≡ true
      after_new y i = f.next y.item.stamp y.steps (stands y (in_right y fore (n ∷ rest) (inr i))) (sides.1 y i)

-- ---- the rows after an insert
abbrev pub rows_after : List ℕ → Node → List Row → List Row
rows_after s w rows = mark Insert s (added (insertion s w) rows)

pub insert_takes : (rows : List Row) (s : List ℕ) (w : Node) → row_of s rows ≡ None → TakesIn rows (rows_after s w rows) s w
insert_takes rows s w new =
    let t = added_takes rows s w (ap node_in new) in
    let a = mark_alike Insert s (added (insertion s w) rows) in
    record {
      before = t.before;
      own = alike_node (added (insertion s w) rows) (rows_after s w rows) s a ∙ t.own;
      others = λ x n. alike_node (added (insertion s w) rows) (rows_after s w rows) x a ∙ t.others x n;
    }

pub insert_struck : (rows : List Row) (s : List ℕ) (w : Node) → row_of s rows ≡ None → (t : List ℕ) → struck_of t (rows_after s w rows) ≡ struck_of t rows
insert_struck rows s w new t = alike_struck (added (insertion s w) rows) (rows_after s w rows) t (mark_alike Insert s (added (insertion s w) rows)) ∙ elim (same_lists_or_not s t) [
  | inl e ↦ rw (← e) (ap struck_in (added_new (insertion s w) rows new) ∙ sym (ap struck_in new))
  | inr n ↦ ap struck_in (added_other (insertion s w) rows t n)
]

module _ (k : Stamps) (o : Ordered k) (l : Ledger) (apart : Apart l.rows) (held : (r : Row) → In r l.rows → k.form.reads r.stamp ≡ true)
    (s e : List ℕ) (new : row_of s l.rows ≡ None) (unnamed : NoneWaitsFor l.rows s) where
  abbrev written : Spot → Node
  written spot = record { place = place_for k l spot; entry = e }

  pub lands_there : (spot : Spot) → Apart (rows_after s (written spot) l.rows) → ((r : Row) → In r (rows_after s (written spot) l.rows) → k.form.reads r.stamp ≡ true) → StandsThere k l (with_rows l (rows_after s (written spot) l.rows)) spot (new_item s e)
  lands_there at_top apart' held' =
      let more = rows_after s (written at_top) l.rows in
      let takes = insert_takes l.rows s (written at_top) new in
      lands_top k o l.rows apart held more apart' held' s (written at_top) takes (insert_struck l.rows s (written at_top) new) (ap struck_in new) unnamed
      (slot_law k.kind.earlier l.rows more s e unnamed takes at_ground (place_at_top_slot k o l.rows apart held))
  lands_there (after n) apart' held' = λ front back named is cut. go front back named is (cut_items (in_order k l.rows) front back named cut)
    where
      more : List Row
      more = rows_after s (written (after n)) l.rows

      takes : TakesIn l.rows more s (written (after n))
      takes = insert_takes l.rows s (written (after n)) new

      go : (front back : List Item) (named : Item) → named.stamp ≡ n → Cut (in_order k l.rows) front back named → reading k more ≡ front ++ (named ∷ (new_item s e ∷ back))
      go front back named is c =
          ap items (lands_after k o l.rows apart held more apart' held' s (written (after n)) takes (insert_struck l.rows s (written (after n)) new) (ap struck_in new) unnamed c.fore c.rest c.here c.is f)
          ∙ items_append c.fore (c.here ∷ (record { steps = f.steps; item = new_item s e } ∷ c.rest))
          ∙ (λ i. c.fore_is i ++ (c.here_is i ∷ (new_item s e ∷ c.rest_is i)))
        where
          stamp_is : c.here.item.stamp ≡ n
          stamp_is = ap (λ (x : Item). x.stamp) c.here_is ∙ is

          inside : In c.here (in_order k l.rows)
          inside = rw c.is (in_right c.here c.fore (c.here ∷ c.rest) (inl refl))

          hn : PathOf l.rows n c.here.steps
          hn = subst (λ (x : List ℕ). PathOf l.rows x c.here.steps) stamp_is (read_is k o l.rows apart held c.here inside).path_is

          f : NewRightAfter l.rows more k.kind.earlier c.here.steps s
          f = slot_law k.kind.earlier l.rows more s e unnamed takes (at_under n c.here.steps Right hn) (place_after_slot k o l.rows apart held n c.here.steps hn)

-- ---- the law of insert
pub stands_there : (k : Kinds) → Ordered k.stamps → (a : History k) (spot : Spot) (vs : List ℕ) (m : Ledger) → refusal (insert_questions k a.ledger spot vs) ≡ None → (i : Inserted k a.ledger m spot vs) → NoneWaitsFor a.ledger.rows i.stamp → StandsThere k.stamps a.ledger m spot (new_item i.stamp vs)
stands_there k o a spot vs m yes_all i unnamed = subst (λ (x : Ledger). StandsThere k.stamps a.ledger x spot (new_item i.stamp vs)) (sym i.after)
    (lands_there k.stamps o a.ledger sound.apart (λ r j. (sound.good r j).stamp_reads) i.stamp vs (fresh_not_held k.stamps a.ledger i.stamp i.fresh_stamp) unnamed spot sound'.apart (λ r j. (sound'.good r j).stamp_reads))
  where
    sound : Sound k.stamps a.ledger
    sound = history_sound k a

    then : Ledger
    then = with_rows a.ledger (rows_after i.stamp (record { place = place_for k.stamps a.ledger spot; entry = vs }) a.ledger.rows)

    sound' : Sound k.stamps then
    sound' = subst (λ (x : Ledger). Sound k.stamps x) i.after (after_insert k a.ledger m spot vs sound (not_refused (insert_questions k a.ledger spot vs) yes_all) i).sound

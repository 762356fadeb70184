-- The reading of rows with each stamp in one row and held stamps that read: it has the standing entries, in the order of their paths.
use Rattle.std.proofs.Common.{◌≡◌, ℕ, ◌<◌, true, false, List, [], ◌∷◌, ◌++◌, length, get_or, Some, None, Option, sym, refl, ap, ◌∙◌, inl, inr, arith}
use Rattle.ledger.specs.Kinds.{Stamps, Ordered}
use Rattle.ledger.specs.Ledger.{Node, Row, row_of, node_of, struck_of, Apart}
use Rattle.ledger.specs.Paths.{Step, Placed, Item, PathOf, path, before, placed_at, placed_all, in_order, reading}
use Rattle.ledger.specs.Laws.{entry_at, ReadBefore, ReadsByPaths}
use Rattle.ledger.proofs.Same.{never}
use Rattle.ledger.specs.Theorems.{AllRead}
use Rattle.ledger.proofs.Order.{before_transitive, before_asymmetric, before_or_after}
use Rattle.ledger.proofs.Members.{In, in_append, in_right, in_is, in_get_or, place_of}
use Rattle.ledger.proofs.Rows.{row_found, row_none, row_at, node_found, node_here, struck_here}
use Rattle.ledger.proofs.Chains.{path_unique, path_node, path_names, steps_held, path_from, path_is}
use Rattle.ledger.proofs.Sorting.{Ascending, NoneBoth, ascending_at, places_ascend, lower, from_sorted, in_sorted, Comparable, sorted_ascending, length_items, item_at}

abbrev pub placed : List Step → Row → Node → Placed
placed p r w = record { steps = p; item = record { stamp = r.stamp; entry = w.entry; struck = r.struck } }

-- a placed item comes from a row that holds an insertion and has a path
pub record Comes (rows rs : List Row) (x : Placed) : Type 0 where
  pub row : Row
  pub node : Node
  pub inside : In row rs
  pub path_found : path rows row.stamp ≡ Some x.steps
  pub written : row.node ≡ Some node
  pub is : x ≡ placed x.steps row node

from_placed_at : (rows : List Row) (r : Row) (x : Placed) (p : Option (List Step)) (w : Option Node) → In x (placed_at rows r p w)
    → (v : Node) × (p ≡ Some x.steps) × (w ≡ Some v) × (x ≡ placed x.steps r v)
from_placed_at rows r x None w h = elim h [ ]
from_placed_at rows r x (Some p) None h = elim h [ ]
from_placed_at rows r x (Some p) (Some w) (inl e) = (w, ap (λ (y : Placed). Some y.steps) e, refl, rw (← e))
from_placed_at rows r x (Some p) (Some w) (inr h) = elim h [ ]

pub from_placed : (rows rs : List Row) (x : Placed) → In x (placed_all rows rs) → Comes rows rs x
from_placed rows [] x h = elim h [ ]
from_placed rows (r ∷ rs) x h = elim (in_append x (placed_at rows r (path rows r.stamp) r.node) (placed_all rows rs) h) [
  | inl i ↦ let c = from_placed_at rows r x (path rows r.stamp) r.node i in record { row = r; node = c.0; inside = inl refl; path_found = c.1; written = c.2; is = c.3 }
  | inr i ↦ let c = from_placed rows rs x i in record { row = c.row; node = c.node; inside = inr c.inside; path_found = c.path_found; written = c.written; is = c.is }
]

pub in_placed : (rows rs : List Row) (r : Row) (p : List Step) (w : Node) → In r rs → path rows r.stamp ≡ Some p → r.node ≡ Some w → In (placed p r w) (placed_all rows rs)
in_placed rows [] r p w h f g = elim h [ ]
in_placed rows (q ∷ rs) r p w (inl e) f g = rw (e, f, g) (inl refl)
in_placed rows (q ∷ rs) r p w (inr i) f g = in_right (placed p r w) (placed_at rows q (path rows q.stamp) q.node) (placed_all rows rs) (in_placed rows rs r p w i f g)

-- what a placed item says, by its stamp alone
pub record IsPlaced (rows : List Row) (x : Placed) : Type 0 where
  pub path_is : PathOf rows x.item.stamp x.steps
  pub node : Node
  pub written : node_of x.item.stamp rows ≡ Some node
  pub entry_is : x.item.entry ≡ node.entry
  pub struck_is : x.item.struck ≡ struck_of x.item.stamp rows

-- the item that stands at a path
abbrev pub standing_item : List Row → List ℕ → List Step → Node → Placed
standing_item rows s p w = record { steps = p; item = record { stamp = s; entry = w.entry; struck = struck_of s rows } }

pub standing_placed : (rows : List Row) (s : List ℕ) (p : List Step) (w : Node) → PathOf rows s p → node_of s rows ≡ Some w → IsPlaced rows (standing_item rows s p w)
standing_placed rows s p w a h = record { path_is = a; node = w; written = h; entry_is = refl; struck_is = refl }

all_read_from : (k : Stamps) (p : List Step) → ((x : Step) → In x p → k.form.reads x.stamp ≡ true) → AllRead k p
all_read_from k [] h = tt
all_read_from k (x ∷ p) h = (h x (inl refl), all_read_from k p (λ y i. h y (inr i)))

-- the placed item at a place of the reading
unfoldable pub at_place : Stamps → List Row → ℕ → Placed
at_place k rows i = get_or (in_order k rows) i (record { steps = []; item = record { stamp = []; entry = []; struck = false } })

module _ (k : Stamps) (o : Ordered k) (rows : List Row) (apart : Apart rows) (held : (r : Row) → In r rows → k.form.reads r.stamp ≡ true) where
  pub path_reads : {s : List ℕ} {p : List Step} → PathOf rows s p → AllRead k p
  path_reads {s} {p} a = all_read_from k p each
    where
      each : (x : Step) → In x p → k.form.reads x.stamp ≡ true
      each x i =
          let w = steps_held rows a x i in
          let r = node_found x.stamp rows w.0 w.1 in
          let f = row_found x.stamp rows r.0 r.1 in
          rw f.1 at (held r.0 f.0)

  pub placed_is : (x : Placed) → In x (placed_all rows rows) → IsPlaced rows x
  placed_is x h = record {
    path_is = rw at_stamp (path_is rows r.stamp x.steps c.path_found);
    node = c.node;
    written = ap (λ t. node_of t rows) at_stamp ∙ node_here r.stamp rows r here ∙ c.written;
    entry_is = ap (λ (y : Placed). y.item.entry) c.is;
    struck_is = ap (λ (y : Placed). y.item.struck) c.is ∙ sym (ap (λ t. struck_of t rows) at_stamp ∙ struck_here r.stamp rows r here);
  }
    where
      c : Comes rows rows x
      c = from_placed rows rows x h

      r : Row
      r = c.row

      here : row_of r.stamp rows ≡ Some r
      here = row_at rows apart r c.inside

      at_stamp : x.item.stamp ≡ r.stamp
      at_stamp = ap (λ (y : Placed). y.item.stamp) c.is

  pub is_placed : (x : Placed) → IsPlaced rows x → In x (placed_all rows rows)
  is_placed x a = in_is (placed x.steps r a.node) x (placed_all rows rows) same (in_placed rows rows r x.steps a.node f.0 (rw f.1 (path_from rows x.item.stamp x.steps a.path_is)) found.2)
    where
      found : (r : Row) × (row_of x.item.stamp rows ≡ Some r) × (r.node ≡ Some a.node)
      found = node_found x.item.stamp rows a.node a.written

      r : Row
      r = found.0

      f : In r rows × (r.stamp ≡ x.item.stamp)
      f = row_found x.item.stamp rows r found.1

      stroke : r.struck ≡ x.item.struck
      stroke = sym (a.struck_is ∙ struck_here x.item.stamp rows r found.1)

      same : placed x.steps r a.node ≡ x
      same = λ i. record { steps = x.steps; item = record { stamp = f.1 i; entry = sym a.entry_is i; struck = stroke i } }

  comparable : (rs : List Row) → Apart rs → Comparable k.kind.earlier (placed_all rows rs)
  comparable [] a = tt
  comparable (r ∷ rs) a = go (path rows r.stamp) r.node refl (comparable rs a.1)
    where
      go : (p : Option (List Step)) (w : Option Node) → path rows r.stamp ≡ p → Comparable k.kind.earlier (placed_all rows rs) → Comparable k.kind.earlier (placed_at rows r p w ++ placed_all rows rs)
      go None w e c = c
      go (Some p) None e c = c
      go (Some p) (Some w) e c = (λ y i h. in_turn y (from_placed rows rs y i) h, c)
        where
          in_turn : (y : Placed) → Comes rows rs y → lower k.kind.earlier y (placed p r w) ≡ false → lower k.kind.earlier (placed p r w) y ≡ true
          in_turn y d h =
              let a₁ : PathOf rows d.row.stamp y.steps = path_is rows d.row.stamp y.steps d.path_found in
              let a₂ : PathOf rows r.stamp p = path_is rows r.stamp p e in
              before_or_after k o y.steps p (path_reads a₁) (path_reads a₂) (λ same. row_none r.stamp rs d.row a.0 d.inside (path_names a₁ a₂ same)) h

  pub read_is : (x : Placed) → In x (in_order k rows) → IsPlaced rows x
  read_is x h = placed_is x (from_sorted k.kind.earlier x (placed_all rows rows) h)

  pub is_read : (x : Placed) → IsPlaced rows x → In x (in_order k rows)
  is_read x a = in_sorted k.kind.earlier x (placed_all rows rows) (is_placed x a)

  pub reading_ascends : Ascending (lower k.kind.earlier) (in_order k rows)
  reading_ascends = sorted_ascending k.kind.earlier (λ x. AllRead k x.steps) (λ x y z. before_transitive k o x.steps y.steps z.steps) (placed_all rows rows) (λ y i. path_reads (placed_is y i).path_is) (comparable rows apart)

  pub reading_none_both : NoneBoth (lower k.kind.earlier) (in_order k rows)
  reading_none_both x y i j h g = never (lower k.kind.earlier y x) g (before_asymmetric k o x.steps y.steps (path_reads (read_is x i).path_is) (path_reads (read_is y j).path_is) h)

  -- by places: what stands at a place of the reading, and the place of what stands
  within : (i : ℕ) → i < length (reading k rows) → i < length (in_order k rows)
  within i h = rw (length_items (in_order k rows)) at h

  pub entry_is : (i : ℕ) → i < length (reading k rows) → entry_at (reading k rows) i ≡ (at_place k rows i).item
  unfolding at_place
  entry_is i h = item_at (in_order k rows) i _ _ (within i h)

  pub placed_there : (i : ℕ) → i < length (reading k rows) → IsPlaced rows (at_place k rows i)
  unfolding at_place
  placed_there i h = read_is (at_place k rows i) (in_get_or (in_order k rows) i _ (within i h))

  pub found : (s : List ℕ) (p : List Step) (w : Node) → PathOf rows s p → node_of s rows ≡ Some w → (i : ℕ) × (i < length (reading k rows)) × (at_place k rows i ≡ standing_item rows s p w)
  unfolding at_place
  found s p w a h =
      let f = place_of (standing_item rows s p w) (in_order k rows) (record { steps = []; item = record { stamp = []; entry = []; struck = false } }) (is_read (standing_item rows s p w) (standing_placed rows s p w a h)) in
      (f.0, rw (length_items (in_order k rows)) f.1, f.2)

  pub in_turn : (i j : ℕ) → i < j → j < length (reading k rows) → before k.kind.earlier (at_place k rows i).steps (at_place k rows j).steps ≡ true
  unfolding at_place
  in_turn i j h g = ascending_at (lower k.kind.earlier) (in_order k rows) reading_ascends i j _ h (within j g)

  pub turn : (i j : ℕ) → i < length (reading k rows) → j < length (reading k rows) → before k.kind.earlier (at_place k rows i).steps (at_place k rows j).steps ≡ true → i < j
  unfolding at_place
  turn i j h g b = places_ascend (lower k.kind.earlier) (in_order k rows) reading_ascends reading_none_both i j _ (within i h) (within j g) b

  pub reads_by_paths : ReadsByPaths k rows
  reads_by_paths = record {
    ascending = λ i j p q l m a b.
        let p' : p ≡ (at_place k rows i).steps = path_unique rows a (stands_at i (omega arith)) in
        let q' : q ≡ (at_place k rows j).steps = path_unique rows b (stands_at j m) in
        rw (p', q') (in_turn i j l m);
    standing = λ i h. ((at_place k rows i).steps, stands_at i h);
    entries = λ i h. let c = placed_there i h in (c.node, ap (λ (x : Item). node_of x.stamp rows) (entry_is i h) ∙ c.written, ap (λ (x : Item). x.entry) (entry_is i h) ∙ c.entry_is);
    deletions = λ i h. let c = placed_there i h in ap (λ (x : Item). x.struck) (entry_is i h) ∙ c.struck_is ∙ sym (ap (λ (x : Item). struck_of x.stamp rows) (entry_is i h));
    complete = λ s p a. let w = path_node a in let f = found s p w.0 a w.1 in (f.0, f.1, ap (λ (x : Item). x.stamp) (entry_is f.0 f.1) ∙ ap (λ (x : Placed). x.item.stamp) f.2);
  }
    where
      stands_at : (i : ℕ) → i < length (reading k rows) → PathOf rows (entry_at (reading k rows) i).stamp (at_place k rows i).steps
      stands_at i h = rw (entry_is i h) (placed_there i h).path_is

  -- an entry is read before another if and only if its path is before the other's
  pub read_before_from : (s t : List ℕ) (p q : List Step) → PathOf rows s p → PathOf rows t q → before k.kind.earlier p q ≡ true → ReadBefore (reading k rows) s t
  read_before_from s t p q a b h =
      let v = path_node a in
      let w = path_node b in
      let f = found s p v.0 a v.1 in
      let g = found t q w.0 b w.1 in
      let h' : before k.kind.earlier (at_place k rows f.0).steps (at_place k rows g.0).steps ≡ true = rw (f.2, g.2) h in
      record {
        i = f.0;
        j = g.0;
        in_turn = turn f.0 g.0 f.1 g.1 h';
        within = g.1;
        first_is = ap (λ (x : Item). x.stamp) (entry_is f.0 f.1) ∙ ap (λ (x : Placed). x.item.stamp) f.2;
        second_is = ap (λ (x : Item). x.stamp) (entry_is g.0 g.1) ∙ ap (λ (x : Placed). x.item.stamp) g.2;
      }

  pub read_before_is : (s t : List ℕ) → ReadBefore (reading k rows) s t → (p : List Step) × (q : List Step) × PathOf rows s p × PathOf rows t q × (before k.kind.earlier p q ≡ true)
  read_before_is s t b =
      let li : b.i < length (reading k rows) = omega (arith, b.in_turn, b.within) in
      let ei : (at_place k rows b.i).item.stamp ≡ s = sym (ap (λ (x : Item). x.stamp) (entry_is b.i li)) ∙ b.first_is in
      let ej : (at_place k rows b.j).item.stamp ≡ t = sym (ap (λ (x : Item). x.stamp) (entry_is b.j b.within)) ∙ b.second_is in
      ((at_place k rows b.i).steps, (at_place k rows b.j).steps, rw ei at (placed_there b.i li).path_is, rw ej at (placed_there b.j b.within).path_is, in_turn b.i b.j b.in_turn b.within)

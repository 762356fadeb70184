-- The counts of two pages that have taken in the same.
use Rattle.std.proofs.Common.{◌≡◌, ℕ, ◌≤◌, Bool, true, not, ◌&&◌, List, [], ◌∷◌, map, length, is_some, Some, sym, refl, ◌∙◌, inl, inr, arith}
use Rattle.std.proofs.lemmas.Bool.{and_parts}
use Rattle.ledger.specs.Ledger.{Row, row_of, node_of, struck_of, Apart}
use Rattle.ledger.specs.Paths.{path, stands}
use Rattle.ledger.specs.Laws.{waits, waiting_rows, lone_deletions}
use Rattle.ledger.proofs.Same.{true_or_false}
use Rattle.ledger.proofs.Members.{In, Distinct, pigeonhole, passing, in_passing, from_passing, distinct_passing, in_map, from_map, in_is}
use Rattle.ledger.proofs.Rows.{none_or_some, none_not_some, some_is, row_found, row_none, row_at, node_found, struck_found}
use Rattle.ledger.proofs.Chains.{path_stays, path_from, path_is, Holds}

abbrev pub row_stamps : List Row → List (List ℕ)
row_stamps rows = map (λ (r : Row). r.stamp) rows

pub row_stamps_distinct : (rows : List Row) → Apart rows → Distinct (row_stamps rows)
row_stamps_distinct [] a = tt
row_stamps_distinct (r ∷ rows) a = (λ i. let f = from_map (λ (q : Row). q.stamp) r.stamp rows i in row_none r.stamp rows f.0 a.0 f.1 f.2, row_stamps_distinct rows a.1)

pub row_stamp_held : (rows : List Row) (s : List ℕ) (r : Row) → row_of s rows ≡ Some r → In s (row_stamps rows)
row_stamp_held rows s r h = let f = row_found s rows r h in in_is r.stamp s (row_stamps rows) f.1 (in_map (λ (q : Row). q.stamp) r rows f.0)

-- as many stamps pass a test on one page as pass it on the other
pub same_count : (rows more : List Row) → Apart rows → Apart more → (f g : List ℕ → Bool) → ((s : List ℕ) → f s ≡ g s)
    → ((s : List ℕ) → f s ≡ true → In s (row_stamps rows)) → ((s : List ℕ) → g s ≡ true → In s (row_stamps more))
    → length (passing f (row_stamps rows)) ≡ length (passing g (row_stamps more))
same_count rows more a b f g same inf ing =
    let less : length (passing f (row_stamps rows)) ≤ length (passing g (row_stamps more)) =
    pigeonhole (passing f (row_stamps rows)) (passing g (row_stamps more)) (distinct_passing f (row_stamps rows) (row_stamps_distinct rows a))
    (λ s i. let t : g s ≡ true = sym (same s) ∙ (from_passing f s (row_stamps rows) i).1 in in_passing g s (row_stamps more) (ing s t) t) in
    let more : length (passing g (row_stamps more)) ≤ length (passing f (row_stamps rows)) =
    pigeonhole (passing g (row_stamps more)) (passing f (row_stamps rows)) (distinct_passing g (row_stamps more) (row_stamps_distinct more b))
    (λ s i. let t : f s ≡ true = same s ∙ (from_passing g s (row_stamps more) i).1 in in_passing f s (row_stamps rows) (inf s t) t) in
    omega arith

-- a path is there or not alike
pub path_same : (rows more : List Row) → Holds rows more → Holds more rows → (s : List ℕ) → path rows s ≡ path more s
path_same rows more f g s = elim (none_or_some (path rows s)) [
  | inr p ↦ p.1 ∙ sym (path_from more s p.0 (path_stays rows more f (path_is rows s p.0 p.1)))
  | inl n ↦ elim (none_or_some (path more s)) [
    | inl m ↦ n ∙ sym m
    | inr p ↦ absurd (none_not_some p.0 (sym n ∙ path_from rows s p.0 (path_stays more rows g (path_is more s p.0 p.1))))
  ]
]

-- ---- waiting entries
waiting_count : (rows rs : List Row) → waiting_rows rows rs ≡ length (passing (waits rows) (row_stamps rs))
waiting_count rows [] = refl
waiting_count rows (r ∷ rs) = elim (true_or_false (waits rows r.stamp)) [
  | inl t ↦ rw t (omega (arith, waiting_count rows rs))
  | inr t ↦ rw t (omega (arith, waiting_count rows rs))
]

waits_held : (rows : List Row) (s : List ℕ) → waits rows s ≡ true → In s (row_stamps rows)
waits_held rows s h =
    let w = some_is (node_of s rows) (and_parts (is_some (node_of s rows)) (not (stands rows s)) h).0 in
    let r = node_found s rows w.0 w.1 in
    row_stamp_held rows s r.0 r.1

-- ---- deletions with no entry
abbrev pub lone : List Row → List ℕ → Bool
lone rows s = struck_of s rows && not (is_some (node_of s rows))

lone_count : (rows rs : List Row) → ((r : Row) → In r rs → row_of r.stamp rows ≡ Some r) → lone_deletions rs ≡ length (passing (lone rows) (row_stamps rs))
lone_count rows [] h = refl
lone_count rows (r ∷ rs) h =
    let here : lone rows r.stamp ≡ (r.struck && not (is_some r.node)) = rw (h r (inl refl)) in
    let more = lone_count rows rs (λ q i. h q (inr i)) in
    elim (true_or_false (r.struck && not (is_some r.node))) [
      | inl t ↦ rw (here, t) (omega arith)
      | inr t ↦ rw (here, t) (omega arith)
    ]

lone_held : (rows : List Row) (s : List ℕ) → lone rows s ≡ true → In s (row_stamps rows)
lone_held rows s h =
    let r = struck_found s rows (and_parts (struck_of s rows) (not (is_some (node_of s rows))) h).0 in
    row_stamp_held rows s r.0 r.1

module _ (rows more : List Row) (apart : Apart rows) (apart' : Apart more)
    (insertions : (s : List ℕ) → node_of s rows ≡ node_of s more) (deletions : (s : List ℕ) → struck_of s rows ≡ struck_of s more) where
  pub same_path : (s : List ℕ) → path rows s ≡ path more s
  same_path s = path_same rows more (λ t w h. sym (insertions t) ∙ h) (λ t w h. insertions t ∙ h) s

  pub same_waits : (s : List ℕ) → waits rows s ≡ waits more s
  same_waits s = rw (insertions s, same_path s)

  pub same_waiting : waiting_rows rows rows ≡ waiting_rows more more
  same_waiting = waiting_count rows rows ∙ same_count rows more apart apart' (waits rows) (waits more) same_waits (waits_held rows) (waits_held more) ∙ sym (waiting_count more more)

  pub same_lone : lone_deletions rows ≡ lone_deletions more
  same_lone = lone_count rows rows (row_at rows apart) ∙ same_count rows more apart apart' (lone rows) (lone more) (λ s. rw (deletions s, insertions s)) (lone_held rows) (lone_held more) ∙ sym (lone_count more more (row_at more apart'))

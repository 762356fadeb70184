-- The path of a stamp: there is one at most, it ends in the stamp's own step, each front of it is the path of an ancestor, and it is no longer than
-- the page has rows. So the bounded function `path` finds it, and nothing else.
use Rattle.std.proofs.Common.{◌≡◌, ℕ, zero, suc, ◌≤◌, true, ◌⊎◌, List, [], ◌∷◌, ◌++◌, map, length, is_some, Some, None, Option, sym, refl, ap, ◌∙◌, inl, inr, arith, length-append}
use Rattle.ledger.specs.Ledger.{Node, Row, node_of, Location}
use Rattle.messages.specs.declared.model.Side.{Side}
use Rattle.messages.specs.declared.model.Side.TheVariants.{Right}
use Rattle.messages.specs.declared.model.Place.TheVariants.{Ground, Under}
use Rattle.ledger.specs.Paths.{Step, PathOf, path, path_within, from_node, from_place, stands}
use Rattle.ledger.specs.Paths.PathOf.{top, below}
use Rattle.ledger.proofs.Members.{In, Distinct, distinct_push, pigeonhole, in_parts, in_map, from_map, in_is}
use Rattle.ledger.proofs.Rows.{none_or_some, none_not_some, some_is, row_found, node_found}
use Rattle.std.proofs.lemmas.List.{length-map, map-append}

pub no_empty : {A : Type 0} (front : List A) (x : A) (rest : List A) → [] ≡ front ++ (x ∷ rest) → ⊥
no_empty [] x rest e = let z : ◌≡◌ {A = ℕ} 0 1 = cc in omega arith
no_empty (f ∷ front) x rest e = let z : ◌≡◌ {A = ℕ} 0 1 = cc in omega arith

-- a list and one more member, cut at a member
pub cut_push : {A : Type 0} (xs front : List A) (l x : A) (rest : List A) → xs ++ (l ∷ []) ≡ front ++ (x ∷ rest)
    → ((xs ≡ front) × (l ≡ x) × (rest ≡ [])) ⊎ ((r : List A) × (xs ≡ front ++ (x ∷ r)) × (rest ≡ r ++ (l ∷ [])))
cut_push [] [] l x rest e = inl (refl, cc, cc)
cut_push [] (f ∷ []) l x rest e = inl (cc, cc, cc)
cut_push [] (f ∷ (g ∷ front)) l x rest e = inl (cc, cc, cc)
cut_push (a ∷ xs) [] l x rest e = inr (xs, cc, cc)
cut_push (a ∷ xs) (f ∷ front) l x rest e =
    let heads : a ≡ f = cc in
    let tails : xs ++ (l ∷ []) ≡ front ++ (x ∷ rest) = cc in
    elim (cut_push xs front l x rest tails) [
      | inl c ↦ inl (rw (heads, c.0), c.1, c.2)
      | inr c ↦ inr (c.0, rw (heads, c.1), c.2)
    ]

-- two pages have no two insertions under one stamp
abbrev pub Agree : List Row → List Row → Type 0
Agree rows more = (s : List ℕ) (v w : Node) → node_of s rows ≡ Some v → node_of s more ≡ Some w → v ≡ w

-- the second page holds what the first holds
abbrev pub Holds : List Row → List Row → Type 0
Holds rows more = (s : List ℕ) (w : Node) → node_of s rows ≡ Some w → node_of s more ≡ Some w

-- pages without two insertions under one stamp agree on the paths that both have
pub paths_agree : (rows more : List Row) → Agree rows more → {s : List ℕ} {p q : List Step} → PathOf rows s p → PathOf more s q → p ≡ q
paths_agree rows more agree (top s e h) (top t e' h') = refl
paths_agree rows more agree (top s e h) (below t e' p' d' steps' h' b') =
    let places : Ground ≡ Under d' p' = ap (λ (w : Node). w.place) (agree _ _ _ h h') in cc
paths_agree rows more agree (below s e p d steps h b) (top t e' h') =
    let places : Under d p ≡ Ground = ap (λ (w : Node). w.place) (agree _ _ _ h h') in cc
paths_agree rows more agree (below s e p d steps h b) (below t e' p' d' steps' h' b') =
    let places : Under d p ≡ Under d' p' = ap (λ (w : Node). w.place) (agree _ _ _ h h') in
    let sides : d ≡ d' = cc in
    let parents : p ≡ p' = cc in
    let parent : PathOf more p steps' = rw parents b' in
    let fronts : steps ≡ steps' = paths_agree rows more agree b parent in
    rw (sides, fronts)

-- one path for a stamp
pub path_unique : (rows : List Row) {s : List ℕ} {p q : List Step} → PathOf rows s p → PathOf rows s q → p ≡ q
path_unique rows a b = paths_agree rows rows (λ s v w x y. cc) a b

-- a path stays as long as its insertions are held
pub path_stays : (rows more : List Row) → Holds rows more → {s : List ℕ} {p : List Step} → PathOf rows s p → PathOf more s p
path_stays rows more holds (top s e h) = top s e (holds s _ h)
path_stays rows more holds (below s e p d steps h b) = below s e p d steps (holds s _ h) (path_stays rows more holds b)

-- the path of a stamp ends in its own step
pub path_ends : {rows : List Row} {s : List ℕ} {p : List Step} → PathOf rows s p → (front : List Step) × (d : Side) × (p ≡ front ++ (record { side = d; stamp = s } ∷ []))
path_ends (top s e h) = ([], Right, refl)
path_ends (below s e p d steps h b) = (steps, d, refl)

-- the stamp of a path holds an insertion
pub path_node : {rows : List Row} {s : List ℕ} {p : List Step} → PathOf rows s p → (w : Node) × (node_of s rows ≡ Some w)
path_node (top s e h) = (_, h)
path_node (below s e p d steps h b) = (_, h)

-- two stamps with one path are one stamp
pub path_names : {rows more : List Row} {s t : List ℕ} {p q : List Step} → PathOf rows s p → PathOf more t q → p ≡ q → s ≡ t
path_names a b e =
    let x = path_ends a in
    let y = path_ends b in
    elim (cut_push x.0 y.0 (record { side = x.1; stamp = _ }) (record { side = y.1; stamp = _ }) [] (sym x.2 ∙ e ∙ y.2)) [
      | inl c ↦ ap (λ (z : Step). z.stamp) c.1
      | inr c ↦ absurd (no_empty c.0 (record { side = x.1; stamp = _ }) [] c.2)
    ]

-- each front of a path is the path of an ancestor
pub ancestor : (rows : List Row) {s : List ℕ} {p : List Step} → PathOf rows s p → (front rest : List Step) (x : Step) → p ≡ front ++ (x ∷ rest) → PathOf rows x.stamp (front ++ (x ∷ []))
ancestor rows (top s e h) front rest x cut = elim (cut_push [] front (record { side = Right; stamp = s }) x rest cut) [
  | inl c ↦ rw (← c.0, ← c.1) (top s e h)
  | inr c ↦ absurd (no_empty front x c.0 c.1)
]
ancestor rows (below s e p d steps h b) front rest x cut = elim (cut_push steps front (record { side = d; stamp = s }) x rest cut) [
  | inl c ↦ rw (← c.0, ← c.1) (below s e p d steps h b)
  | inr c ↦ ancestor rows b front c.0 x c.1
]

-- the stamps of a path are held
pub steps_held : (rows : List Row) {s : List ℕ} {p : List Step} → PathOf rows s p → (x : Step) → In x p → (w : Node) × (node_of x.stamp rows ≡ Some w)
steps_held rows {s} {p} a x h = let c = in_parts x p h in path_node (ancestor rows a c.0 c.1 x c.2)

abbrev pub stamps : List Step → List (List ℕ)
stamps p = map (λ (x : Step). x.stamp) p

-- and they are pairwise different, since an ancestor's path is shorter
pub stamps_distinct : (rows : List Row) {s : List ℕ} {p : List Step} → PathOf rows s p → Distinct (stamps p)
stamps_distinct rows (top s e h) = (λ n. n, tt)
stamps_distinct rows (below s e p d steps h b) = rw (map-append (λ (x : Step). x.stamp) steps (record { side = d; stamp = s } ∷ [])) (distinct_push s (stamps steps) (stamps_distinct rows b) new)
  where
    new : In s (stamps steps) → ⊥
    new i =
        let f = from_map (λ (x : Step). x.stamp) s steps i in
        let x : Step = f.0 in
        let c = in_parts x steps f.1 in
        let up : PathOf rows s (c.0 ++ (x ∷ [])) = rw f.2 at (ancestor rows b c.0 c.1 x c.2) in
        let same : c.0 ++ (x ∷ []) ≡ steps ++ (record { side = d; stamp = s } ∷ []) = path_unique rows up (below s e p d steps h b) in
        let long = simp length-append at (ap length same) in
        let longer = simp length-append at (ap length c.2) in
        omega arith

pub path_short : (rows : List Row) {s : List ℕ} {p : List Step} → PathOf rows s p → length p ≤ length rows
path_short rows {s} {p} a = simp (length-map) at (pigeonhole (stamps p) (map (λ (r : Row). r.stamp) rows) (stamps_distinct rows a) held)
  where
    held : (t : List ℕ) → In t (stamps p) → In t (map (λ (r : Row). r.stamp) rows)
    held t i =
        let f = from_map (λ (x : Step). x.stamp) t p i in
        let w = steps_held rows a f.0 f.1 in
        let r = node_found f.0.stamp rows w.0 w.1 in
        let q = row_found f.0.stamp rows r.0 r.1 in
        in_is r.0.stamp t (map (λ (r : Row). r.stamp) rows) (q.1 ∙ f.2) (in_map (λ (r : Row). r.stamp) r.0 rows q.0)

-- the bounded function finds the path, and nothing else
found_within : (n : ℕ) (rows : List Row) {s : List ℕ} {p : List Step} → PathOf rows s p → length p ≤ n → path_within n rows s ≡ Some p
found_within zero rows (top s e h) l = let no : ⊥ = omega arith in absurd no
found_within (suc n) rows (top s e h) l = rw h
found_within zero rows (below s e p d steps h b) l = let no : ⊥ = omega (arith, length-append steps (record { side = d; stamp = s } ∷ [])) in absurd no
found_within (suc n) rows (below s e p d steps h b) l = rw (h, found_within n rows b (omega (arith, length-append steps (record { side = d; stamp = s } ∷ []))))

within_found : (n : ℕ) (rows : List Row) (s : List ℕ) (p : List Step) → path_within n rows s ≡ Some p → PathOf rows s p
within_found zero rows s p h = absurd (none_not_some p h)
within_found (suc n) rows s p h = go (node_of s rows) refl h (within_found n rows)
  where
    go : (w : Option Node) → node_of s rows ≡ w → from_node (path_within n rows) s w ≡ Some p → ((t : List ℕ) (q : List Step) → path_within n rows t ≡ Some q → PathOf rows t q) → PathOf rows s p
    go None e f up = absurd (none_not_some p f)
    go (Some w) e f up = go_place w.place w.entry e f
      where
        go_place : (v : Location) (b : List ℕ) → node_of s rows ≡ Some (record { place = v; entry = b }) → from_place (path_within n rows) s v ≡ Some p → PathOf rows s p
        go_place Ground b e f = let same : record { side = Right; stamp = s } ∷ [] ≡ p = cc in rw (← same) (top s b e)
        go_place (Under d t) b e f = elim (none_or_some (path_within n rows t)) [
          | inl x ↦ absurd (none_not_some p (rw x at f))
          | inr x ↦
              let same : Some (x.0 ++ (record { side = d; stamp = s } ∷ [])) ≡ Some p = rw x.1 at f in
              let is : x.0 ++ (record { side = d; stamp = s } ∷ []) ≡ p = cc in
              rw (← is) (below s b t d x.0 e (up t x.0 x.1))
        ]

pub path_from : (rows : List Row) (s : List ℕ) (p : List Step) → PathOf rows s p → path rows s ≡ Some p
path_from rows s p a = found_within (length rows) rows a (path_short rows a)

pub path_is : (rows : List Row) (s : List ℕ) (p : List Step) → path rows s ≡ Some p → PathOf rows s p
path_is rows s p h = within_found (length rows) rows s p h

pub stands_from : (rows : List Row) (s : List ℕ) (p : List Step) → PathOf rows s p → stands rows s ≡ true
stands_from rows s p a = ap is_some (path_from rows s p a)

pub stands_is : (rows : List Row) (s : List ℕ) → stands rows s ≡ true → (p : List Step) × PathOf rows s p
stands_is rows s h = let f = some_is (path rows s) h in (f.0, path_is rows s f.0 f.1)

-- The walk goes through the reading, place by place.
use Rattle.std.proofs.Common.{◌≡◌, ℕ, ◌+◌, ◌<◌, ◌≤◌, true, ◌⊎◌, List, [], ◌∷◌, length, Option, ap, ◌∙◌, inl, inr, arith, length-append}
use Rattle.ledger.specs.Kinds.{Stamps, Ordered}
use Rattle.ledger.specs.Ledger.{Row, Apart}
use Rattle.messages.specs.declared.model.Place.TheVariants.{Under}
use Rattle.ledger.specs.Calls.{steps_or_none}
use Rattle.ledger.specs.Laws.{entry_at}
use Rattle.ledger.specs.Paths.{Step, Placed, Item, PathOf, before, path, reading}
use Rattle.ledger.specs.Walk.{ChildAt, RightAfter, FirstOfAll, WalksReading}
use Rattle.ledger.proofs.Same.{never}
use Rattle.ledger.proofs.Members.{In}
use Rattle.ledger.proofs.Order.{before_irreflexive}
use Rattle.ledger.proofs.Chains.{path_node, path_from, path_short}
use Rattle.ledger.proofs.Reading.{at_place, entry_is, placed_there, found, in_turn, turn}
use Rattle.ledger.proofs.Trails.{one_path, path_child}
use Rattle.ledger.proofs.Trails.At.{at_under}
use Rattle.ledger.proofs.Walk.{onward_sound, starts_sound, step}
use Rattle.ledger.proofs.Placing.{stamps_read}
use Rattle.std.proofs.lemmas.Bool.{cases_lt}
use Rattle.messages.specs.declared.model.Side.{Side}

module _ (k : Stamps) (o : Ordered k) (rows : List Row) (apart : Apart rows) (held : (r : Row) → In r rows → k.form.reads r.stamp ≡ true) where
  abbrev ways : ℕ → List Step
  ways i = (at_place k rows i).steps

  stands_at : (i : ℕ) → i < length (reading k rows) → PathOf rows (entry_at (reading k rows) i).stamp (ways i)
  stands_at i h = rw (entry_is k o rows apart held i h) (placed_there k o rows apart held i h).path_is

  -- the place of what stands
  pub record Stood (y : List ℕ) (q : List Step) : Type 0 where
    pub place : ℕ
    pub within : place < length (reading k rows)
    pub steps_is : ways place ≡ q
    pub stamp_is : (entry_at (reading k rows) place).stamp ≡ y

  stood : {y : List ℕ} {q : List Step} → PathOf rows y q → Stood y q
  stood {y} {q} h =
      let w = path_node h in
      let f = found k o rows apart held y q w.0 h w.1 in
      record {
        place = f.0;
        within = f.1;
        steps_is = ap (λ (x : Placed). x.steps) f.2;
        stamp_is = ap (λ (x : Item). x.stamp) (entry_is k o rows apart held f.0 f.1) ∙ ap (λ (x : Placed). x.item.stamp) f.2;
      }

  -- what is at a place before that of y is not y, nor after y
  not_before : {y : List ℕ} {q : List Step} (i j : ℕ) → i < j → j < length (reading k rows) → PathOf rows y q → ways j ≡ q → ((entry_at (reading k rows) i).stamp ≡ y) ⊎ (before k.kind.earlier q (ways i) ≡ true) → ⊥
  not_before {y} {q} i j l m h e (inl s) =
      let same : ways i ≡ q = one_path (stands_at i (omega arith)) h s in
      never (before k.kind.earlier q q) (rw (same, e) at (in_turn k o rows apart held i j l m)) (before_irreflexive k.kind.earlier q)
  not_before {y} {q} i j l m h e (inr b) =
      let back : j < i = turn k o rows apart held j i m (omega arith) (rw e b) in
      let no : ⊥ = omega arith in no

  first_place : {y : List ℕ} → FirstOfAll rows k.kind.earlier y → (0 < length (reading k rows)) × ((entry_at (reading k rows) 0).stamp ≡ y)
  first_place {y} f = go (stood f.path) (cases_lt 0 (stood f.path).place)
    where
      go : (s : Stood y f.steps) → (0 < s.place) ⊎ (s.place ≤ 0) → (0 < length (reading k rows)) × ((entry_at (reading k rows) 0).stamp ≡ y)
      go s (inl l) = absurd (not_before 0 s.place l s.within f.path s.steps_is (f.least (entry_at (reading k rows) 0).stamp (ways 0) (stands_at 0 (omega (arith, s.within)))))
      go s (inr l) = let z : s.place ≡ 0 = omega arith in (omega (arith, s.within), rw z at s.stamp_is)

  next_place : {y : List ℕ} (i : ℕ) → i < length (reading k rows) → RightAfter rows k.kind.earlier (ways i) y → (i + 1 < length (reading k rows)) × ((entry_at (reading k rows) (i + 1)).stamp ≡ y)
  next_place {y} i h f = go (stood f.path) (cases_lt (i + 1) (stood f.path).place)
    where
      later_on : (s : Stood y f.steps) → i < s.place
      later_on s = turn k o rows apart held i s.place h s.within (rw s.steps_is f.after)

      go : (s : Stood y f.steps) → (i + 1 < s.place) ⊎ (s.place ≤ i + 1) → (i + 1 < length (reading k rows)) × ((entry_at (reading k rows) (i + 1)).stamp ≡ y)
      go s (inl l) =
          let m : i + 1 < length (reading k rows) = omega (arith, s.within) in
          absurd (not_before (i + 1) s.place l s.within f.path s.steps_is (f.least (entry_at (reading k rows) (i + 1)).stamp (ways (i + 1)) (stands_at (i + 1) m) (in_turn k o rows apart held i (i + 1) (omega arith) m)))
      go s (inr l) = let z : s.place ≡ i + 1 = omega (arith, later_on s) in (omega (arith, s.within), rw z at s.stamp_is)

  pub walks_reading : WalksReading k rows
  walks_reading = record {
    starts_nowhere = λ st. elim (cases_lt 0 (length (reading k rows))) [
      | inl l ↦ absurd (starts_sound k o rows (stamps_read k o rows apart held) st (entry_at (reading k rows) 0).stamp (ways 0) (stands_at 0 l))
      | inr l ↦ omega arith
    ];
    starts_at = λ y st. first_place (starts_sound k o rows (stamps_read k o rows apart held) st);
    goes_on = λ i y h on. next_place i h (onward_sound k o rows (stamps_read k o rows apart held) on (ways i) (stands_at i h));
    ends = λ i h on. elim (cases_lt (i + 1) (length (reading k rows))) [
      | inl l ↦ absurd (onward_sound k o rows (stamps_read k o rows apart held) on (ways i) (stands_at i h) (entry_at (reading k rows) (i + 1)).stamp (ways (i + 1)) (stands_at (i + 1) l) (in_turn k o rows apart held i (i + 1) (omega arith) l))
      | inr l ↦ omega arith
    ];
  }

-- ---- how deep a stamp hangs, to see that the walk ends
abbrev pub depth : List Row → List ℕ → ℕ
depth rows s = length (steps_or_none (path rows s))

pub depth_is : (rows : List Row) {s : List ℕ} {p : List Step} → PathOf rows s p → depth rows s ≡ length p
depth_is rows {s} {p} h = ap (λ (m : Option (List Step)). length (steps_or_none m)) (path_from rows s p h)

pub depth_within : (rows : List Row) {s : List ℕ} {p : List Step} → PathOf rows s p → depth rows s ≤ length rows
depth_within rows h = let e = depth_is rows h in let l = path_short rows h in omega arith

pub depth_child : (rows : List Row) {s c : List ℕ} {p : List Step} {d : Side} → PathOf rows s p → ChildAt rows (Under d s) c → depth rows c ≡ depth rows s + 1
depth_child rows {s} {c} {p} {d} h ch =
    let e = depth_is rows h in
    let f = depth_is rows (path_child (at_under s p d h) ch) in
    let l = length-append p (step d c ∷ []) in
    omega arith

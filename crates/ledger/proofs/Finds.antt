-- The walk always comes to an answer: the least child is found or there is none, and the ways down and up end.
use Rattle.std.proofs.Common.{◌≡◌, ℕ, zero, suc, ◌-◌, ◌<◌, Bool, true, false, ◌⊎◌, List, [], ◌∷◌, ◌++◌, length, Some, None, Option, sym, refl, ap, ◌∙◌, subst, inl, inr, append_assoc, append-nil, arith}
use Rattle.ledger.specs.Kinds.{Stamps, Ordered}
use Rattle.ledger.specs.Ledger.{Node, Row, same_place, Location, Apart}
use Rattle.messages.specs.declared.model.Side.{Side}
use Rattle.messages.specs.declared.model.Side.TheVariants.{Left, Right}
use Rattle.messages.specs.declared.model.Place.TheVariants.{Ground, Under}
use Rattle.ledger.specs.Paths.{Step, PathOf, stands}
use Rattle.ledger.specs.Paths.PathOf.{top, below}
use Rattle.ledger.specs.Walk.{ChildAt, later, LeastChild, NoChild, Leftmost, Climb, WalkFinds}
use Rattle.ledger.specs.Walk.Leftmost.{here, deeper}
use Rattle.ledger.specs.Walk.Climb.{sibling, parent, on, ended}
use Rattle.ledger.specs.Walk.Onward.{down, up}
use Rattle.ledger.specs.Walk.Starts.{at, nowhere}
use Rattle.ledger.specs.Walk.AfterPlace.{its_right, beside}
use Rattle.ledger.specs.Walk.TopPlace.{on_ground, beside_first}
use Rattle.ledger.proofs.Same.{true_or_false, never, same_place_true, same_side_refl, same_list_refl}
use Rattle.ledger.proofs.Members.{In, in_left, in_right}
use Rattle.ledger.proofs.Rows.{none_not_some}
use Rattle.ledger.proofs.Chains.{stands_from}
use Rattle.ledger.proofs.Trails.{At, path_child, one_node}
use Rattle.ledger.proofs.Trails.At.{at_ground, at_under}
use Rattle.ledger.proofs.Touring.{depth}
use Rattle.ledger.proofs.Scan.{Fits, Best, best_none, best_skip, best_first, best_keeps, best_better, best_nothing, best_least}
use Rattle.ledger.proofs.Steps.{child_stands, down_falls}

pub same_place_refl : (v : Location) → same_place v v ≡ true
same_place_refl Ground = refl
same_place_refl (Under d p) = rw (same_side_refl d, same_list_refl p)

-- whether a row fits is a test
pub fits_or_not : (earlier : List ℕ → List ℕ → Bool) (pl : Location) (lower : Option (List ℕ)) (r : Row) → Fits earlier pl lower r ⊎ (Fits earlier pl lower r → ⊥)
fits_or_not earlier pl lower r = go r.node refl (true_or_false (later earlier lower r.stamp))
  where
    at_place : (w : Node) → r.node ≡ Some w → later earlier lower r.stamp ≡ true → (same_place w.place pl ≡ true) ⊎ (same_place w.place pl ≡ false) → Fits earlier pl lower r ⊎ (Fits earlier pl lower r → ⊥)
    at_place w e l (inl t) = inl (record { entry = w.entry; is = e ∙ ap (λ (v : Location). Some (record { place = v; entry = w.entry })) (same_place_true w.place pl t); is_later = l })
    at_place w e l (inr t) = inr (λ f.
        let same : w.place ≡ pl = ap (λ (v : Node). v.place) (one_node e f.is) in
        never (same_place w.place pl) (rw same (same_place_refl pl)) t)

    go : (w : Option Node) → r.node ≡ w → (later earlier lower r.stamp ≡ true) ⊎ (later earlier lower r.stamp ≡ false) → Fits earlier pl lower r ⊎ (Fits earlier pl lower r → ⊥)
    go None e l = inr (λ f. none_not_some (record { place = pl; entry = f.entry }) (sym e ∙ f.is))
    go (Some w) e (inl l) = at_place w e l (true_or_false (same_place w.place pl))
    go (Some w) e (inr l) = inr (λ f. never (later earlier lower r.stamp) f.is_later l)

module _ (k : Stamps) (o : Ordered k) (rows : List Row) (apart : Apart rows) (held : (r : Row) → In r rows → k.form.reads r.stamp ≡ true) where
  module _ (pl : Location) (lower : Option (List ℕ)) where
    one_more : (seen : List Row) (r : Row) → ((q : Row) → In q seen → k.form.reads q.stamp ≡ true) → k.form.reads r.stamp ≡ true → (b : Option (List ℕ)) → Best k.kind.earlier pl lower seen b → Fits k.kind.earlier pl lower r ⊎ (Fits k.kind.earlier pl lower r → ⊥) → (c : Option (List ℕ)) × Best k.kind.earlier pl lower (seen ++ (r ∷ [])) c
    one_more seen r reads_seen reads b h (inr n) = (b, best_skip k o pl lower seen r b h n)
    one_more seen r reads_seen reads None h (inl f) = (Some r.stamp, best_first k o pl lower seen r h f reads)
    one_more seen r reads_seen reads (Some c) h (inl f) = elim (true_or_false (k.kind.earlier r.stamp c)) [
      | inl e ↦ (Some r.stamp, best_better k o pl lower seen r c reads_seen reads h f e)
      | inr e ↦ (Some c, best_keeps k o pl lower seen r c h e)
    ]

    all_seen : (seen rest : List Row) → seen ++ rest ≡ rows → (b : Option (List ℕ)) → Best k.kind.earlier pl lower seen b → (c : Option (List ℕ)) × Best k.kind.earlier pl lower rows c
    all_seen seen [] e b h = (b, subst (λ (x : List Row). Best k.kind.earlier pl lower x b) (sym (append-nil seen) ∙ e) h)
    all_seen seen (r ∷ rest) e b h =
        let reads_seen : (q : Row) → In q seen → k.form.reads q.stamp ≡ true = λ q i. held q (rw e at (in_left q seen (r ∷ rest) i)) in
        let reads : k.form.reads r.stamp ≡ true = held r (rw e at (in_right r seen (r ∷ rest) (inl refl))) in
        let s = one_more seen r reads_seen reads b h (fits_or_not k.kind.earlier pl lower r) in
        all_seen (seen ++ (r ∷ [])) rest (append_assoc seen (r ∷ []) rest ∙ e) s.0 s.1

    pub least_or_none : NoChild rows k.kind.earlier pl lower ⊎ ((c : List ℕ) × LeastChild rows k.kind.earlier pl lower c)
    least_or_none = let b = all_seen [] rows refl None (best_none k o pl lower) in go b.0 b.1
      where
        go : (b : Option (List ℕ)) → Best k.kind.earlier pl lower rows b → NoChild rows k.kind.earlier pl lower ⊎ ((c : List ℕ) × LeastChild rows k.kind.earlier pl lower c)
        go None h = inl (best_nothing k o pl lower rows h)
        go (Some c) h = inr (c, best_least k o pl lower rows c apart h)

  leftmost_within : (n : ℕ) (c : List ℕ) → stands rows c ≡ true → length rows - depth rows c < n → (m : List ℕ) × Leftmost rows k.kind.earlier c m
  leftmost_within zero c h l = let no : ⊥ = omega arith in absurd no
  leftmost_within (suc n) c h l = elim (least_or_none (Under Left c) None) [
    | inl nc ↦ (c, here c nc)
    | inr lc ↦
        let falls = down_falls rows c lc.0 Left h lc.1.child in
        let m = leftmost_within n lc.0 (child_stands rows c lc.0 Left h lc.1.child) (omega arith) in
        (m.0, deeper c lc.0 m.0 lc.1 m.1)
  ]

  pub leftmost_finds : (c : List ℕ) → stands rows c ≡ true → (m : List ℕ) × Leftmost rows k.kind.earlier c m
  leftmost_finds c h = leftmost_within (suc (length rows - depth rows c)) c h (omega arith)

  -- a child at a place whose parent stands has a leftmost
  child_finds : {pl : Location} {p : List Step} {d : Side} (c : List ℕ) → At rows pl p d → ChildAt rows pl c → (m : List ℕ) × Leftmost rows k.kind.earlier c m
  child_finds {pl} {p} {d} c a ch = leftmost_finds c (stands_from rows c (p ++ (record { side = d; stamp = c } ∷ [])) (path_child a ch))

  climb_under : (x p : List ℕ) (d : Side) → ChildAt rows (Under d p) x → NoChild rows k.kind.earlier (Under d p) (Some x) → (r : Option (List ℕ)) × Climb rows k.kind.earlier p r → (r : Option (List ℕ)) × Climb rows k.kind.earlier x r
  climb_under x p Left ch nc up_there = (Some p, parent x p ch nc)
  climb_under x p Right ch nc up_there = (up_there.0, on x p up_there.0 ch nc up_there.1)

  pub climb_finds : {x : List ℕ} {px : List Step} → PathOf rows x px → (r : Option (List ℕ)) × Climb rows k.kind.earlier x r
  climb_finds (top x e h) =
      let ch : ChildAt rows Ground x = record { entry = e; is = h } in
      elim (least_or_none Ground (Some x)) [
        | inl nc ↦ (None, ended x ch nc)
        | inr lc ↦ let m = child_finds lc.0 at_ground lc.1.child in (Some m.0, sibling x lc.0 m.0 Ground ch lc.1 m.1)
      ]
  climb_finds (below x e p d steps h g) =
      let ch : ChildAt rows (Under d p) x = record { entry = e; is = h } in
      let up_there = climb_finds g in
      elim (least_or_none (Under d p) (Some x)) [
        | inl nc ↦ climb_under x p d ch nc up_there
        | inr lc ↦ let m = child_finds lc.0 (at_under p steps d g) lc.1.child in (Some m.0, sibling x lc.0 m.0 (Under d p) ch lc.1 m.1)
      ]

  pub walk_finds : WalkFinds rows k.kind.earlier
  walk_finds = record {
    onward = λ x px h. elim (least_or_none (Under Right x) None) [
      | inl nc ↦ let r = climb_finds h in (r.0, up x r.0 nc r.1)
      | inr lc ↦ let m = child_finds lc.0 (at_under x px Right h) lc.1.child in (Some m.0, down x lc.0 m.0 lc.1 m.1)
    ];
    starts = elim (least_or_none Ground None) [
      | inl nc ↦ (None, nowhere nc)
      | inr lc ↦ let m = child_finds lc.0 at_ground lc.1.child in (Some m.0, at lc.0 m.0 lc.1 m.1)
    ];
    after_place = λ n pn h. elim (least_or_none (Under Right n) None) [
      | inl nc ↦ (Under Right n, its_right nc)
      | inr lc ↦ let m = child_finds lc.0 (at_under n pn Right h) lc.1.child in (Under Left m.0, beside lc.0 m.0 lc.1 m.1)
    ];
    top_place = elim (least_or_none Ground None) [
      | inl nc ↦ (Ground, on_ground (nowhere nc))
      | inr lc ↦ let m = child_finds lc.0 at_ground lc.1.child in (Under Left m.0, beside_first m.0 (at lc.0 m.0 lc.1 m.1))
    ];
  }

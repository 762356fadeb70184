-- The walk over the tree finds what the order of paths says comes next.
use Rattle.std.proofs.Common.{◌≡◌, ℕ, Bool, true, false, ◌⊎◌, List, [], ◌∷◌, ◌++◌, Some, None, Option, sym, refl, ap, ◌∙◌, subst, inl, inr, append_assoc, append-nil}
use borrow.Author.Tests.{both_ways}
use Rattle.ledger.specs.Kinds.{Stamps, Ordered}
use Rattle.ledger.specs.Ledger.{Row, same_side, Location}
use Rattle.messages.specs.declared.model.Side.{Side}
use Rattle.messages.specs.declared.model.Side.TheVariants.{Left, Right}
use Rattle.messages.specs.declared.model.Place.TheVariants.{Ground, Under}
use Rattle.ledger.specs.Paths.{Step, PathOf, before, same_step, step_before}
use Rattle.ledger.specs.Walk.{ChildAt, later, LeastChild, NoChild, Leftmost, Climb, Onward, Starts, StampsRead, RightAfter, NextIs, FirstOfAll, FirstIs, WalkStands}
use Rattle.ledger.specs.Walk.Leftmost.{here, deeper}
use Rattle.ledger.specs.Walk.Climb.{sibling, parent, on, ended}
use Rattle.ledger.specs.Walk.Onward.{down, up}
use Rattle.ledger.specs.Walk.Starts.{at, nowhere}
use Rattle.ledger.proofs.Same.{same_step_true, true_or_false}
use Rattle.ledger.proofs.Prefix.{Past, RightBelow, past_before, past_more, before_cases, left_step, right_step, past_left_step, steps_order, past_steps, PastMore, past_step_cases}
use Rattle.ledger.proofs.Prefix.RightBelow.{right_below}
use Rattle.ledger.proofs.Prefix.PastMore.{over, parent_is, beside}
use Rattle.ledger.proofs.Trails.{At, Hangs, Way, path_child, child_path, one_stamp, one_path, on_way, child_on_way, path_no_nil}
use Rattle.ledger.proofs.Trails.At.{at_ground, at_under}

abbrev pub step : Side → List ℕ → Step
step d s = record { side = d; stamp = s }

abbrev pub AllLeft : List Step → Type 0
AllLeft [] = Unit {0}
AllLeft (a ∷ r) = (a.side ≡ Left) × AllLeft r

-- m stands below p by left steps, and is the first that stands there
pub record FirstBelow (rows : List Row) (earlier : List ℕ → List ℕ → Bool) (p : List Step) (m : List ℕ) : Type 0 where
  pub tail : List Step
  pub lefts : AllLeft tail
  pub path : PathOf rows m (p ++ tail)
  pub least : (z : List ℕ) (r : List Step) → PathOf rows z (p ++ r) → (z ≡ m) ⊎ (before earlier (p ++ tail) (p ++ r) ≡ true)

-- m is the first that stands below the children at a place that are later than the bound
pub record FirstAt (rows : List Row) (earlier : List ℕ → List ℕ → Bool) (p : List Step) (d : Side) (lower : Option (List ℕ)) (m : List ℕ) : Type 0 where
  pub child : List ℕ
  pub tail : List Step
  pub lefts : AllLeft tail
  pub is_later : later earlier lower child ≡ true
  pub path : PathOf rows m (p ++ (step d child ∷ tail))
  pub least : (z t : List ℕ) (r : List Step) → later earlier lower t ≡ true → PathOf rows z (p ++ (step d t ∷ r)) → (z ≡ m) ⊎ (before earlier (p ++ (step d child ∷ tail)) (p ++ (step d t ∷ r)) ≡ true)

-- what comes past all that is below a path
pub record NextPast (rows : List Row) (earlier : List ℕ → List ℕ → Bool) (px : List Step) (y : List ℕ) : Type 0 where
  pub steps : List Step
  pub path : PathOf rows y steps
  pub past : Past earlier px steps
  pub least : (z : List ℕ) (q : List Step) → PathOf rows z q → Past earlier px q → (z ≡ y) ⊎ (before earlier steps q ≡ true)

abbrev pub Passed : List Row → (List ℕ → List ℕ → Bool) → List Step → Option (List ℕ) → Type 0
Passed rows earlier px None = (z : List ℕ) (q : List Step) → PathOf rows z q → Past earlier px q → ⊥
Passed rows earlier px (Some y) = NextPast rows earlier px y

snoc_more : (p r : List Step) (a : Step) → (p ++ (a ∷ [])) ++ r ≡ p ++ (a ∷ r)
snoc_more p r a = append_assoc p (a ∷ []) r

same_side_step : (earlier : List ℕ → List ℕ → Bool) (d : Side) (s t : List ℕ) → step_before earlier d d s t ≡ earlier s t
same_side_step earlier Left s t = refl
same_side_step earlier Right s t = refl

module _ (k : Stamps) (o : Ordered k) (rows : List Row) (held : StampsRead k.form.reads rows) where
  child_reads : {pl : Location} {c : List ℕ} → ChildAt rows pl c → k.form.reads c ≡ true
  child_reads {pl} {c} h = held c (record { place = pl; entry = h.entry }) h.is

  not_same : (a b : Step) → k.form.reads a.stamp ≡ true → k.kind.earlier a.stamp b.stamp ≡ true → same_step a b ≡ false
  not_same a b r e = go (true_or_false (same_step a b))
    where
      go : (same_step a b ≡ true) ⊎ (same_step a b ≡ false) → same_step a b ≡ false
      go (inl h) =
          let g = same_step_true a b h in
          let i = o.irreflexive a.stamp r in
          absurd (both_ways (k.kind.earlier a.stamp b.stamp) (subst (λ (x : Step). k.kind.earlier a.stamp x.stamp ≡ false) g i) e)
      go (inr h) = h

  -- the least child at a place, and the first below it, make the first below the place
  pub first_at : {pl : Location} {p : List Step} {d : Side} {lower : Option (List ℕ)} {c m : List ℕ} → At rows pl p d → LeastChild rows k.kind.earlier pl lower c → FirstBelow rows k.kind.earlier (p ++ (step d c ∷ [])) m → FirstAt rows k.kind.earlier p d lower m
  first_at {pl} {p} {d} {lower} {c} {m} a lc f = record {
    child = c;
    tail = f.tail;
    lefts = f.lefts;
    is_later = lc.is_later;
    path = rw (snoc_more p f.tail (step d c)) at f.path;
    least = λ z t r l h. go z t r l h (child_on_way a t r h) (true_or_false (k.kind.earlier c t));
  }
    where
      same : (z t : List ℕ) (r : List Step) → c ≡ t → PathOf rows z (p ++ (step d t ∷ r)) → (z ≡ m) ⊎ (before k.kind.earlier (p ++ (step d c ∷ f.tail)) (p ++ (step d t ∷ r)) ≡ true)
      same z t r e h =
          let b : p ++ (step d t ∷ r) ≡ (p ++ (step d c ∷ [])) ++ r = ap (λ (x : List ℕ). p ++ (step d x ∷ r)) (sym e) ∙ sym (snoc_more p r (step d c)) in
          let g = snoc_more p f.tail (step d c) in
          rw (b, ← g) (f.least z r (subst (PathOf rows z) b h))

      go : (z t : List ℕ) (r : List Step) → later k.kind.earlier lower t ≡ true → PathOf rows z (p ++ (step d t ∷ r)) → ChildAt rows pl t → (k.kind.earlier c t ≡ true) ⊎ (k.kind.earlier c t ≡ false) → (z ≡ m) ⊎ (before k.kind.earlier (p ++ (step d c ∷ f.tail)) (p ++ (step d t ∷ r)) ≡ true)
      go z t r l h ch (inl e) = inr (steps_order k.kind.earlier p f.tail r (step d c) (step d t) (not_same (step d c) (step d t) (child_reads lc.child) e) ∙ same_side_step k.kind.earlier d c t ∙ e)
      go z t r l h ch (inr e) = same z t r (o.connected c t (child_reads lc.child) (child_reads ch) e (lc.least t ch l)) h

  pub leftmost_first : {c m : List ℕ} → Leftmost rows k.kind.earlier c m → (p : List Step) → PathOf rows c p → FirstBelow rows k.kind.earlier p m
  leftmost_first (here c nc) p hc = record {
    tail = [];
    lefts = tt;
    path = rw (append-nil p) hc;
    least = least;
  }
    where
      deep : (z : List ℕ) (d : Side) (t : List ℕ) (r : List Step) → PathOf rows z (p ++ (step d t ∷ r)) → (z ≡ c) ⊎ (before k.kind.earlier (p ++ []) (p ++ (step d t ∷ r)) ≡ true)
      deep z Left t r h = absurd (nc t (child_on_way (at_under c p Left hc) t r h) refl)
      deep z Right t r h = inr (rw (append-nil p) (right_step k.kind.earlier p r t))

      least : (z : List ℕ) (r : List Step) → PathOf rows z (p ++ r) → (z ≡ c) ⊎ (before k.kind.earlier (p ++ []) (p ++ r) ≡ true)
      least z [] h = inl (one_stamp h hc (append-nil p))
      least z (a ∷ r) h = deep z a.side a.stamp r h
  leftmost_first (deeper c l m lc lm) p hc = go (first_at (at_under c p Left hc) lc (leftmost_first lm (p ++ (step Left l ∷ [])) (path_child (at_under c p Left hc) lc.child)))
    where
      go : FirstAt rows k.kind.earlier p Left None m → FirstBelow rows k.kind.earlier p m
      go f = record {
        tail = step Left f.child ∷ f.tail;
        lefts = (refl, f.lefts);
        path = f.path;
        least = least;
      }
        where
          deep : (z : List ℕ) (d : Side) (t : List ℕ) (r : List Step) → PathOf rows z (p ++ (step d t ∷ r)) → (z ≡ m) ⊎ (before k.kind.earlier (p ++ (step Left f.child ∷ f.tail)) (p ++ (step d t ∷ r)) ≡ true)
          deep z Left t r h = f.least z t r refl h
          deep z Right t r h = inr (steps_order k.kind.earlier p f.tail r (step Left f.child) (step Right t) refl)

          least : (z : List ℕ) (r : List Step) → PathOf rows z (p ++ r) → (z ≡ m) ⊎ (before k.kind.earlier (p ++ (step Left f.child ∷ f.tail)) (p ++ r) ≡ true)
          least z [] h = inr (rw (append-nil p) (left_step k.kind.earlier p f.tail f.child))
          least z (a ∷ r) h = deep z a.side a.stamp r h

  -- the least child and its leftmost
  pub first_from : {pl : Location} {p : List Step} {d : Side} {lower : Option (List ℕ)} {c m : List ℕ} → At rows pl p d → LeastChild rows k.kind.earlier pl lower c → Leftmost rows k.kind.earlier c m → FirstAt rows k.kind.earlier p d lower m
  first_from {p} {d} {c} a lc lm = first_at a lc (leftmost_first lm (p ++ (step d c ∷ [])) (path_child a lc.child))

  -- ---- the climb
  -- no later sibling: what is past a child is past its parent, or its parent, or to the right of a left child
  none_beside : {pl : Location} {p : List Step} {d : Side} {x : List ℕ} → At rows pl p d → NoChild rows k.kind.earlier pl (Some x) → (z t : List ℕ) (v : List Step) → PathOf rows z (p ++ (step d t ∷ v)) → step_before k.kind.earlier d d x t ≡ true → ⊥
  none_beside {d} {x} a nc z t v h e = nc t (child_on_way a t v h) (sym (same_side_step k.kind.earlier d x t) ∙ e)

  sibling_next : {x y : List ℕ} (p : List Step) (d d' : Side) (f : FirstAt rows k.kind.earlier p d (Some x) y) (z t : List ℕ) (v : List Step) → PathOf rows z (p ++ (step d' t ∷ v)) → step_before k.kind.earlier d d' x t ≡ true → (z ≡ y) ⊎ (before k.kind.earlier (p ++ (step d f.child ∷ f.tail)) (p ++ (step d' t ∷ v)) ≡ true)
  sibling_next p Left Left f z t v h e = f.least z t v e h
  sibling_next p Left Right f z t v h e = inr (steps_order k.kind.earlier p f.tail v (step Left f.child) (step Right t) refl)
  sibling_next p Right Left f z t v h e = absurd (both_ways false refl e)
  sibling_next p Right Right f z t v h e = f.least z t v e h

  parent_next : (p r : List Step) (d : Side) (c : List ℕ) → same_side d Left ≡ true → before k.kind.earlier (p ++ (step d c ∷ r)) p ≡ true
  parent_next p r Left c e = left_step k.kind.earlier p r c
  parent_next p r Right c e = absurd (both_ways false refl e)

  climb_sibling : (p : List Step) (d : Side) {x y : List ℕ} → k.form.reads x ≡ true → FirstAt rows k.kind.earlier p d (Some x) y → NextPast rows k.kind.earlier (p ++ (step d x ∷ [])) y
  climb_sibling p d {x} {y} rx f = record {
    steps = p ++ (step d f.child ∷ f.tail);
    path = f.path;
    past = past_steps k.kind.earlier p [] f.tail (step d x) (step d f.child) (not_same (step d x) (step d f.child) rx f.is_later) (same_side_step k.kind.earlier d x f.child ∙ f.is_later);
    least = λ z q h e. go z h (past_step_cases k.kind.earlier p q (step d x) e);
  }
    where
      go : {q : List Step} (z : List ℕ) → PathOf rows z q → PastMore k.kind.earlier p (step d x) q → (z ≡ y) ⊎ (before k.kind.earlier (p ++ (step d f.child ∷ f.tail)) q ≡ true)
      go z h (over q e) = inr (past_before k.kind.earlier (p ++ (step d f.child ∷ f.tail)) q (past_more k.kind.earlier p q (step d f.child ∷ f.tail) e))
      go z h (parent_is e) = inr (parent_next p f.tail d f.child e)
      go z h (beside b v n e) = sibling_next p d b.side f z b.stamp v h e

  climb_parent : (p : List Step) {x y : List ℕ} → PathOf rows y p → NoChild rows k.kind.earlier (Under Left y) (Some x) → NextPast rows k.kind.earlier (p ++ (step Left x ∷ [])) y
  climb_parent p {x} {y} hy nc = record {
    steps = p;
    path = hy;
    past = past_left_step k.kind.earlier p [] x;
    least = λ z q h e. go z h (past_step_cases k.kind.earlier p q (step Left x) e);
  }
    where
      next : (z : List ℕ) (d : Side) (t : List ℕ) (v : List Step) → PathOf rows z (p ++ (step d t ∷ v)) → step_before k.kind.earlier Left d x t ≡ true → (z ≡ y) ⊎ (before k.kind.earlier p (p ++ (step d t ∷ v)) ≡ true)
      next z Left t v h e = absurd (none_beside (at_under y p Left hy) nc z t v h e)
      next z Right t v h e = inr (right_step k.kind.earlier p v t)

      go : {q : List Step} (z : List ℕ) → PathOf rows z q → PastMore k.kind.earlier p (step Left x) q → (z ≡ y) ⊎ (before k.kind.earlier p q ≡ true)
      go z h (over q e) = inr (past_before k.kind.earlier p q e)
      go z h (parent_is e) = inl (one_stamp h hy refl)
      go z h (beside b v n e) = next z b.side b.stamp v h e

  -- past a right child with no later sibling is past its parent
  past_right : {pl : Location} {p : List Step} {x : List ℕ} → At rows pl p Right → NoChild rows k.kind.earlier pl (Some x) → (z : List ℕ) (q : List Step) → PathOf rows z q → Past k.kind.earlier (p ++ (step Right x ∷ [])) q → Past k.kind.earlier p q
  past_right {pl} {p} {x} a nc z q h e = go h (past_step_cases k.kind.earlier p q (step Right x) e)
    where
      next : (d : Side) (t : List ℕ) (v : List Step) → PathOf rows z (p ++ (step d t ∷ v)) → step_before k.kind.earlier Right d x t ≡ true → ⊥
      next Left t v h e = both_ways false refl e
      next Right t v h e = none_beside a nc z t v h e

      go : {q : List Step} → PathOf rows z q → PastMore k.kind.earlier p (step Right x) q → Past k.kind.earlier p q
      go h (over q e) = e
      go h (parent_is e) = absurd (both_ways false refl e)
      go h (beside b v n e) = absurd (next b.side b.stamp v h e)

  climb_on : {pl : Location} (p : List Step) {x : List ℕ} (r : Option (List ℕ)) → At rows pl p Right → NoChild rows k.kind.earlier pl (Some x) → Passed rows k.kind.earlier p r → Passed rows k.kind.earlier (p ++ (step Right x ∷ [])) r
  climb_on p None a nc f = λ z q h e. f z q h (past_right a nc z q h e)
  climb_on p {x} (Some y) a nc f = record {
    steps = f.steps;
    path = f.path;
    past = past_more k.kind.earlier p f.steps (step Right x ∷ []) f.past;
    least = λ z q h e. f.least z q h (past_right a nc z q h e);
  }

  passed_cast : {p q : List Step} (r : Option (List ℕ)) → p ≡ q → Passed rows k.kind.earlier q r → Passed rows k.kind.earlier p r
  passed_cast r e h = subst (λ (x : List Step). Passed rows k.kind.earlier x r) (sym e) h

  pub climb_sound : {x : List ℕ} {r : Option (List ℕ)} → Climb rows k.kind.earlier x r → (px : List Step) → PathOf rows x px → Passed rows k.kind.earlier px r
  climb_sound (sibling x c y pl ch lc lm) px hx =
      let g = child_path ch hx in
      passed_cast (Some y) g.is (climb_sibling g.front g.side (child_reads ch) (first_from g.at lc lm))
  climb_sound (parent x p ch nc) px hx = go (child_path ch hx)
    where
      at_left : {f : List Step} {d : Side} → At rows (Under Left p) f d → px ≡ f ++ (step d x ∷ []) → NextPast rows k.kind.earlier px p
      at_left (at_under s f d h) e = passed_cast (Some p) e (climb_parent f h nc)

      go : Hangs rows (Under Left p) x px → NextPast rows k.kind.earlier px p
      go g = at_left g.at g.is
  climb_sound (on x p r ch nc cl) px hx = go (climb_sound cl) (child_path ch hx)
    where
      at_right : {f : List Step} {d : Side} → At rows (Under Right p) f d → ((pp : List Step) → PathOf rows p pp → Passed rows k.kind.earlier pp r) → px ≡ f ++ (step d x ∷ []) → Passed rows k.kind.earlier px r
      at_right (at_under s f d h) ih e = passed_cast r e (climb_on f r (at_under p f Right h) nc (ih f h))

      go : ((pp : List Step) → PathOf rows p pp → Passed rows k.kind.earlier pp r) → Hangs rows (Under Right p) x px → Passed rows k.kind.earlier px r
      go ih g = at_right g.at ih g.is
  climb_sound (ended x ch nc) px hx = go (child_path ch hx)
    where
      at_top : {f : List Step} {d : Side} → At rows Ground f d → px ≡ f ++ (step d x ∷ []) → Passed rows k.kind.earlier px None
      at_top at_ground e = passed_cast None e (climb_on [] None at_ground nc (λ z q h u. u))

      go : Hangs rows Ground x px → Passed rows k.kind.earlier px None
      go g = at_top g.at g.is

  -- ---- onward
  onward_down : (px : List Step) {y : List ℕ} → FirstAt rows k.kind.earlier px Right None y → RightAfter rows k.kind.earlier px y
  onward_down px {y} f = record {
    steps = px ++ (step Right f.child ∷ f.tail);
    path = f.path;
    after = right_step k.kind.earlier px f.tail f.child;
    least = λ z q h e. go z h (before_cases k.kind.earlier px q e);
  }
    where
      next : {q : List Step} (z : List ℕ) → PathOf rows z q → RightBelow px q → (z ≡ y) ⊎ (before k.kind.earlier (px ++ (step Right f.child ∷ f.tail)) q ≡ true)
      next z h (right_below t v) = f.least z t v refl h

      go : {q : List Step} (z : List ℕ) → PathOf rows z q → Past k.kind.earlier px q ⊎ RightBelow px q → (z ≡ y) ⊎ (before k.kind.earlier (px ++ (step Right f.child ∷ f.tail)) q ≡ true)
      go {q} z h (inl e) = inr (past_before k.kind.earlier (px ++ (step Right f.child ∷ f.tail)) q (past_more k.kind.earlier px q (step Right f.child ∷ f.tail) e))
      go z h (inr e) = next z h e

  -- with no right child, what is after a path is past it
  after_past : {px : List Step} {x : List ℕ} → PathOf rows x px → NoChild rows k.kind.earlier (Under Right x) None → (z : List ℕ) (q : List Step) → PathOf rows z q → before k.kind.earlier px q ≡ true → Past k.kind.earlier px q
  after_past {px} {x} hx nc z q h e = go h (before_cases k.kind.earlier px q e)
    where
      next : {q : List Step} → PathOf rows z q → RightBelow px q → ⊥
      next h (right_below t v) = nc t (child_on_way (at_under x px Right hx) t v h) refl

      go : {q : List Step} → PathOf rows z q → Past k.kind.earlier px q ⊎ RightBelow px q → Past k.kind.earlier px q
      go h (inl u) = u
      go h (inr u) = absurd (next h u)

  onward_up : {px : List Step} {x : List ℕ} (r : Option (List ℕ)) → PathOf rows x px → NoChild rows k.kind.earlier (Under Right x) None → Passed rows k.kind.earlier px r → NextIs rows k.kind.earlier px r
  onward_up None hx nc f = λ z q h e. f z q h (after_past hx nc z q h e)
  onward_up {px} (Some y) hx nc f = record {
    steps = f.steps;
    path = f.path;
    after = past_before k.kind.earlier px f.steps f.past;
    least = λ z q h e. f.least z q h (after_past hx nc z q h e);
  }

  pub onward_sound : {x : List ℕ} {r : Option (List ℕ)} → Onward rows k.kind.earlier x r → (px : List Step) → PathOf rows x px → NextIs rows k.kind.earlier px r
  onward_sound (down x c y lc lm) px hx = onward_down px (first_from (at_under x px Right hx) lc lm)
  onward_sound (up x r nc cl) px hx = onward_up r hx nc (climb_sound cl px hx)

  -- ---- the start
  first_step : {z : List ℕ} {q : List Step} → PathOf rows z q → (a : Step) (r : List Step) → q ≡ a ∷ r → a.side ≡ Right
  first_step h a r e = go (on_way h [] r a e)
    where
      side_is : {pl : Location} {p : List Step} {d : Side} → At rows pl p d → p ≡ [] → d ≡ Right
      side_is at_ground e = refl
      side_is (at_under s p d h) e = absurd (path_no_nil h e)

      go : Way rows [] a → a.side ≡ Right
      go w = side_is w.at refl

  -- each standing path begins with a right step
  pub from_ground : (z : List ℕ) (q : List Step) → PathOf rows z q → RightBelow [] q
  from_ground z [] h = absurd (path_no_nil h refl)
  from_ground z (a ∷ r) h =
      let e = first_step h a r refl in
      subst (λ (d : Side). RightBelow [] (step d a.stamp ∷ r)) (sym e) (right_below a.stamp r)

  pub starts_sound : {r : Option (List ℕ)} → Starts rows k.kind.earlier r → FirstIs rows k.kind.earlier r
  starts_sound (nowhere nc) = λ z q h. go h (from_ground z q h)
    where
      go : {z : List ℕ} {q : List Step} → PathOf rows z q → RightBelow [] q → ⊥
      go h (right_below t v) = nc t (child_on_way at_ground t v h) refl
  starts_sound (at c y lc lm) = go (first_from at_ground lc lm)
    where
      go : FirstAt rows k.kind.earlier [] Right None y → FirstOfAll rows k.kind.earlier y
      go f = record { steps = step Right f.child ∷ f.tail; path = f.path; least = λ z q h. next h (from_ground z q h) }
        where
          next : {z : List ℕ} {q : List Step} → PathOf rows z q → RightBelow [] q → (z ≡ y) ⊎ (before k.kind.earlier (step Right f.child ∷ f.tail) q ≡ true)
          next {z} h (right_below t v) = f.least z t v refl h

  pub walk_stands : WalkStands k rows
  walk_stands = record {
    onward = λ x r h px hx. onward_sound h px hx;
    starts = λ r h. starts_sound h;
    one_path = λ s p q h g. one_path h g refl;
  }

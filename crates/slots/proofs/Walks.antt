-- The walk in code goes as the walk of the theory does, and comes to an end: each step down is one deeper, each step up one less deep, and nothing hangs deeper than there are rows.
use Rattle.std.proofs.Common.{◌≡◌, ℕ, ◌+◌, ◌<◌, ◌≤◌, Bool, true, List, [], ◌∷◌, length, Some, None, Option, sym, refl, ap, ◌∙◌, subst, arith}
use Rattle.std.specs.Option.{MatchOption, option_map}
use Rattle.messages.specs.declared.model.Place.TheVariants.{Ground, Under}
use Rattle.messages.specs.declared.model.Side.{Side}
use Rattle.messages.specs.declared.model.Side.TheVariants.{Left, Right}
use Rattle.ledger.specs.Ledger.{Apart, Row, Location, node_of}
use Rattle.ledger.specs.Paths.{Step, stands}
use Rattle.ledger.specs.Calls.{beside, place_after, place_at_top}
use Rattle.ledger.specs.Kinds.{Stamps, Ordered}
use Rattle.ledger.specs.Walk.{AfterPlace, ChildAt, Climb, LeastChild, Leftmost, NoChild, Onward, Starts, TopPlace}
use Rattle.ledger.specs.Walk.AfterPlace.{its_right, beside as beside_child}
use Rattle.ledger.specs.Walk.Climb.{ended, on, parent, sibling}
use Rattle.ledger.specs.Walk.Onward.{down, up}
use Rattle.ledger.specs.Walk.Starts.{at as from_child, nowhere}
use Rattle.ledger.specs.Walk.TopPlace.{on_ground, beside_first}
use Rattle.ledger.specs.Walk.Leftmost.{here, deeper}
use Rattle.ledger.proofs.Chains.{path_node, stands_is}
use Rattle.ledger.proofs.Members.{In}
use Rattle.ledger.proofs.Placing.{after_place_is, top_place_is}
use Rattle.ledger.proofs.Rows.{none_not_some}
use Rattle.ledger.proofs.Steps.{child_deeper, child_stands, deep_within, ground_stands, parent_stands, up_falls}
use Rattle.ledger.proofs.Touring.{depth, depth_is}
use Rattle.ledger.proofs.Trails.{path_no_nil}
use Rattle.slots.specs.Finding.{EntersAt, FirstAt, FirstAtIs, place_stands, place_under}
use Rattle.slots.proofs.Chains.{node_of_place, no_node}

not_nil : (p : List Step) → (p ≡ [] → ⊥) → 0 < length p
not_nil [] h = absurd (h refl)
not_nil (a ∷ p) h = omega arith

module _ (rows : List Row) where
  pub deep : (s : List ℕ) → stands rows s ≡ true → 0 < depth rows s
  deep s h = let p = stands_is rows s h in let d = depth_is rows p.1 in let l = not_nil p.0 (path_no_nil p.1) in omega arith

  -- where it hangs
  pub hangs : (s : List ℕ) (pl : Location) → place_under s rows ≡ Some pl → ChildAt rows pl s
  hangs s pl h = let w = node_of_place (node_of s rows) pl h in record { entry = w.0; is = w.1 }

  pub somewhere : (s : List ℕ) → stands rows s ≡ true → place_under s rows ≡ None → ⊥
  somewhere s h e = let p = stands_is rows s h in let w = path_node p.1 in none_not_some w.0 (sym (no_node (node_of s rows) e) ∙ w.1)

  -- what hangs at a place where entries stand stands
  pub child_there : (pl : Location) (c : List ℕ) → place_stands rows pl ≡ true → ChildAt rows pl c → stands rows c ≡ true
  child_there Ground c h ch = ground_stands rows c ch
  child_there (Under d p) c h ch = child_stands rows p c d h ch

  -- and so it is at the place of a standing entry
  pub place_there : (pl : Location) (s : List ℕ) → stands rows s ≡ true → ChildAt rows pl s → place_stands rows pl ≡ true
  place_there Ground s h at = refl
  place_there (Under d p) s h at = parent_stands rows p s d h at

  pub beside_stands : (pl : Location) (s c : List ℕ) → stands rows s ≡ true → ChildAt rows pl s → ChildAt rows pl c → stands rows c ≡ true
  beside_stands pl s c h at ch = child_there pl c (place_there pl s h at) ch

module _ (rows : List Row) (earlier : List ℕ → List ℕ → Bool) where
  -- ---- down: what is left to find from here is what was asked for, and here is deeper than there were steps
  pub record Down (from at : List ℕ) (k : ℕ) : Type 0 where
    pub standing : stands rows at ≡ true
    pub down : k < depth rows at
    pub finds : (m : List ℕ) → Leftmost rows earlier at m → Leftmost rows earlier from m

  pub down_start : (from : List ℕ) → stands rows from ≡ true → Down from from 0
  down_start from h = record { standing = h; down = deep rows from h; finds = λ m l. l }

  pub down_more : (from at child : List ℕ) (k : ℕ) → Down from at k → LeastChild rows earlier (Under Left at) None child → Down from child (k + 1)
  down_more from at child k w least = record {
    standing = child_stands rows at child Left w.standing least.child;
    down = omega (arith, child_deeper rows at child Left w.standing least.child, w.down);
    finds = λ m l. w.finds m (deeper at child m least l);
  }

  pub down_found : (from at : List ℕ) (k : ℕ) → Down from at k → NoChild rows earlier (Under Left at) None → Leftmost rows earlier from at
  down_found from at k w none = w.finds at (here at none)

  pub down_ends : (from at : List ℕ) (k : ℕ) → Down from at k → length rows ≤ k → ⊥
  down_ends from at k w h = let no : ⊥ = omega (arith, deep_within rows at w.standing, w.down) in no

  -- ---- up
  pub record Up (from at : List ℕ) (k : ℕ) : Type 0 where
    pub standing : stands rows at ≡ true
    pub up : depth rows at + k ≤ length rows
    pub finds : (o : Option (List ℕ)) → Climb rows earlier at o → Climb rows earlier from o

  pub up_start : (from : List ℕ) → stands rows from ≡ true → Up from from 0
  up_start from h = record { standing = h; up = omega (arith, deep_within rows from h); finds = λ o c. c }

  pub up_ends : (from at : List ℕ) (k : ℕ) → Up from at k → length rows ≤ k → ⊥
  up_ends from at k w h = let no : ⊥ = omega (arith, deep rows at w.standing, w.up) in no

  -- the place that it is at, where what hangs stands
  pub up_place : (from at : List ℕ) (k : ℕ) (pl : Location) → Up from at k → place_under at rows ≡ Some pl → ChildAt rows pl at × (place_stands rows pl ≡ true)
  up_place from at k pl w is = let ch = hangs rows at pl is in (ch, place_there rows pl at w.standing ch)

  pub up_found : (from at : List ℕ) (k : ℕ) (pl : Location) (y : List ℕ) → Up from at k → ChildAt rows pl at → FirstAt rows earlier pl (Some at) y → Climb rows earlier from (Some y)
  up_found from at k pl y w ch f = w.finds (Some y) (sibling at f.child y pl ch f.least f.leftmost)

  LastAt : List ℕ → Location → Type 0
  LastAt at pl = ChildAt rows pl at × NoChild rows earlier pl (Some at)

  pub up_ended : (from at : List ℕ) (k : ℕ) (pl : Location) → Up from at k → ChildAt rows pl at → NoChild rows earlier pl (Some at) → pl ≡ Ground → Climb rows earlier from None
  unfolding LastAt
  up_ended from at k pl w ch none e = let last = subst (LastAt at) e (ch, none) in w.finds None (ended at last.0 last.1)

  pub up_parent : (from at p : List ℕ) (k : ℕ) (pl : Location) → Up from at k → ChildAt rows pl at → NoChild rows earlier pl (Some at) → (d : Side) → pl ≡ Under d p → d ≡ Left → Climb rows earlier from (Some p)
  unfolding LastAt
  up_parent from at p k pl w ch none d e f = let last = subst (LastAt at) (e ∙ ap (λ x. Under x p) f) (ch, none) in w.finds (Some p) (parent at p last.0 last.1)

  pub up_more : (from at p : List ℕ) (k : ℕ) (pl : Location) → Up from at k → ChildAt rows pl at → NoChild rows earlier pl (Some at) → (d : Side) → pl ≡ Under d p → d ≡ Right → Up from p (k + 1)
  unfolding LastAt
  up_more from at p k pl w ch none d e f =
      let last = subst (LastAt at) (e ∙ ap (λ x. Under x p) f) (ch, none) in
      record {
        standing = parent_stands rows p at Right w.standing last.0;
        up = omega (arith, up_falls rows p at Right w.standing last.0, w.up);
        finds = λ o c. w.finds o (on at p o last.0 last.1 c);
      }

  -- ---- first entries
  pub starts_at : (o : Option (List ℕ)) → FirstAtIs rows earlier Ground None o → Starts rows earlier o
  starts_at None f = nowhere f
  starts_at (Some y) f = from_child f.child y f.least f.leftmost

  -- what hangs right of an entry comes after it, and where nothing does, what comes after all below it
  pub onward_is : {A : Type 0} (vs : A → List ℕ) (x : List ℕ) (P : Type 0) (first next : Option A) → FirstAtIs rows earlier (Under Right x) None (option_map vs first) → (P → Climb rows earlier x (option_map vs next)) → MatchOption first P (λ y. next ≡ Some y) → Onward rows earlier x (option_map vs next)
  onward_is vs x P None next f climb m = up x (option_map vs next) f (climb m)
  onward_is vs x P (Some y) next f climb m = rw m (down x f.child (vs y) f.least f.leftmost)

  after_at : (x : List ℕ) (o : Option (List ℕ)) → FirstAtIs rows earlier (Under Right x) None o → AfterPlace rows earlier x (beside (Under Right x) o)
  after_at x None f = its_right f
  after_at x (Some y) f = beside_child f.child y f.least f.leftmost

  top_at : (o : Option (List ℕ)) → FirstAtIs rows earlier Ground None o → TopPlace rows earlier (beside Ground o)
  top_at None f = on_ground (nowhere f)
  top_at (Some y) f = beside_first y (starts_at (Some y) f)

-- ---- the place of a new entry
module _ (k : Stamps) (o : Ordered k) (rows : List Row) (apart : Apart rows) (read : (r : Row) → In r rows → k.form.reads r.stamp ≡ true) where
  pub after_is : (x : List ℕ) (pl : Location) → stands rows x ≡ true → EntersAt rows k.kind.earlier (Under Right x) pl → pl ≡ place_after k rows x
  after_is x pl standing e =
      let p = stands_is rows x standing in
      e.2 ∙ after_place_is k o rows apart read x p.0 _ p.1 (after_at rows k.kind.earlier x e.0 e.1)

  pub top_is : (pl : Location) → EntersAt rows k.kind.earlier Ground pl → pl ≡ place_at_top k rows
  top_is pl e = e.2 ∙ top_place_is k o rows apart read _ (top_at rows k.kind.earlier e.0 e.1)

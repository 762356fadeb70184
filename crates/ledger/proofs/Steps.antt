-- What a loop of the walk keeps: that it is at a stamp that stands, and how deep that stamp hangs.
use Rattle.std.proofs.Common.{◌≡◌, ℕ, ◌+◌, ◌-◌, ◌<◌, ◌≤◌, true, List, length, Some, arith}
use Rattle.ledger.specs.Kinds.{Stamps, Ordered}
use Rattle.ledger.specs.Ledger.{Row}
use Rattle.messages.specs.declared.model.Place.TheVariants.{Ground, Under}
use Rattle.ledger.specs.Paths.{Step, stands}
use Rattle.ledger.specs.Walk.{ChildAt, Leftmost, Onward, Starts, StampsRead}
use Rattle.ledger.proofs.Chains.{stands_from, stands_is}
use Rattle.ledger.proofs.Trails.{At, path_child, child_path}
use Rattle.ledger.proofs.Trails.At.{at_ground, at_under}
use Rattle.ledger.proofs.Touring.{depth, depth_within, depth_child}
use Rattle.ledger.proofs.Walk.{leftmost_first, onward_sound, starts_sound}
use Rattle.messages.specs.declared.model.Side.{Side}

pub ground_stands : (rows : List Row) (c : List ℕ) → ChildAt rows Ground c → stands rows c ≡ true
ground_stands rows c ch = stands_from rows c _ (path_child at_ground ch)

pub child_stands : (rows : List Row) (s c : List ℕ) (d : Side) → stands rows s ≡ true → ChildAt rows (Under d s) c → stands rows c ≡ true
child_stands rows s c d h ch = let p = stands_is rows s h in stands_from rows c _ (path_child (at_under s p.0 d p.1) ch)

pub parent_stands : (rows : List Row) (s c : List ℕ) (d : Side) → stands rows c ≡ true → ChildAt rows (Under d s) c → stands rows s ≡ true
parent_stands rows s c d h ch = let p = stands_is rows c h in go (child_path ch p.1).at
  where
    go : {q : List Step} {e : Side} → At rows (Under d s) q e → stands rows s ≡ true
    go (at_under t q e g) = stands_from rows s q g

pub deep_within : (rows : List Row) (s : List ℕ) → stands rows s ≡ true → depth rows s ≤ length rows
deep_within rows s h = depth_within rows (stands_is rows s h).1

-- down to a child: the rows left below fall; up to a parent: the depth falls
pub child_deeper : (rows : List Row) (s c : List ℕ) (d : Side) → stands rows s ≡ true → ChildAt rows (Under d s) c → depth rows c ≡ depth rows s + 1
child_deeper rows s c d h ch = depth_child rows (stands_is rows s h).1 ch

pub down_falls : (rows : List Row) (s c : List ℕ) (d : Side) → stands rows s ≡ true → ChildAt rows (Under d s) c → length rows - depth rows c < length rows - depth rows s
down_falls rows s c d h ch =
    let e : depth rows c ≡ depth rows s + 1 = child_deeper rows s c d h ch in
    let l : depth rows c ≤ length rows = deep_within rows c (child_stands rows s c d h ch) in
    omega arith

pub up_falls : (rows : List Row) (s c : List ℕ) (d : Side) → stands rows c ≡ true → ChildAt rows (Under d s) c → depth rows s < depth rows c
up_falls rows s c d h ch =
    let e : depth rows c ≡ depth rows s + 1 = child_deeper rows s c d (parent_stands rows s c d h ch) ch in
    omega arith

module _ (k : Stamps) (o : Ordered k) (rows : List Row) (held : StampsRead k.form.reads rows) where
  pub leftmost_stands : (c m : List ℕ) → stands rows c ≡ true → Leftmost rows k.kind.earlier c m → stands rows m ≡ true
  leftmost_stands c m h lm = let p = stands_is rows c h in stands_from rows m _ (leftmost_first k o rows held lm p.0 p.1).path

  pub onward_stands : (x y : List ℕ) → stands rows x ≡ true → Onward rows k.kind.earlier x (Some y) → stands rows y ≡ true
  onward_stands x y h on = let p = stands_is rows x h in stands_from rows y _ (onward_sound k o rows held on p.0 p.1).path

  pub starts_stands : (y : List ℕ) → Starts rows k.kind.earlier (Some y) → stands rows y ≡ true
  starts_stands y st = stands_from rows y _ (starts_sound k o rows held st).path

-- Paths of standing entries: one for a stamp, one stamp for a path, and what stands on the way.
use Rattle.std.proofs.Common.{◌≡◌, ℕ, List, [], ◌∷◌, ◌++◌, Some, None, Option, sym, refl, ap, ◌∙◌, subst, inl, inr}
use Rattle.ledger.specs.Ledger.{Node, Row, Location}
use Rattle.messages.specs.declared.model.Side.{Side}
use Rattle.messages.specs.declared.model.Side.TheVariants.{Right}
use Rattle.messages.specs.declared.model.Place.TheVariants.{Ground, Under}
use Rattle.ledger.specs.Paths.{Step, PathOf}
use Rattle.ledger.specs.Paths.PathOf.{top, below}
use Rattle.ledger.specs.Walk.{ChildAt}
use Rattle.ledger.proofs.Chains.{no_empty, cut_push, path_unique, path_names}

-- ---- insertions
node_or : Node → Option Node → Node
node_or v None = v
node_or v (Some w) = w

pub one_node : {m : Option Node} {v w : Node} → m ≡ Some v → m ≡ Some w → v ≡ w
unfolding node_or
one_node {m} {v} {w} p q = ap (node_or v) (sym p ∙ q)

pub one_place : {rows : List Row} {c : List ℕ} {pl pm : Location} → ChildAt rows pl c → ChildAt rows pm c → pl ≡ pm
one_place h k = ap (λ (w : Node). w.place) (one_node h.is k.is)

-- ---- a place with the path of its parent
pub data At (rows : List Row) : Location → List Step → Side → Type 0 where
  at_ground : At rows Ground [] Right
  at_under : (s : List ℕ) (p : List Step) (d : Side) → PathOf rows s p → At rows (Under d s) p d

pub path_child : {rows : List Row} {pl : Location} {p : List Step} {d : Side} {c : List ℕ} → At rows pl p d → ChildAt rows pl c → PathOf rows c (p ++ (record { side = d; stamp = c } ∷ []))
path_child {c} at_ground h = top c h.entry h.is
path_child {c} (at_under s p d hs) h = below c h.entry s d p h.is hs

pub record Hangs (rows : List Row) (pl : Location) (x : List ℕ) (px : List Step) : Type 0 where
  pub front : List Step
  pub side : Side
  pub at : At rows pl front side
  pub is : px ≡ front ++ (record { side = side; stamp = x } ∷ [])

pub record Hung (rows : List Row) (x : List ℕ) (px : List Step) : Type 0 where
  pub place : Location
  pub child : ChildAt rows place x
  pub hangs : Hangs rows place x px

pub path_hangs : {rows : List Row} {x : List ℕ} {px : List Step} → PathOf rows x px → Hung rows x px
path_hangs (top s e w) = record { place = Ground; child = record { entry = e; is = w }; hangs = record { front = []; side = Right; at = at_ground; is = refl } }
path_hangs (below s e p d steps w h) = record { place = Under d p; child = record { entry = e; is = w }; hangs = record { front = steps; side = d; at = at_under p steps d h; is = refl } }

pub child_path : {rows : List Row} {pl : Location} {x : List ℕ} {px : List Step} → ChildAt rows pl x → PathOf rows x px → Hangs rows pl x px
child_path {rows} {pl} {x} {px} c h =
    let k = path_hangs h in
    subst (λ (q : Location). Hangs rows q x px) (one_place k.child c) k.hangs

-- ---- one stamp for a path, one path for a stamp
pub one_stamp : {rows : List Row} {s t : List ℕ} {p q : List Step} → PathOf rows s p → PathOf rows t q → p ≡ q → s ≡ t
one_stamp hs ht e = path_names hs ht e

pub one_path : {rows : List Row} {s t : List ℕ} {p q : List Step} → PathOf rows s p → PathOf rows t q → s ≡ t → p ≡ q
one_path {rows} {s} {t} {p} {q} hs ht e = path_unique rows hs (subst (λ (x : List ℕ). PathOf rows x q) (sym e) ht)

pub path_no_nil : {rows : List Row} {s : List ℕ} {p : List Step} → PathOf rows s p → p ≡ [] → ⊥
path_no_nil (top s e w) h = no_empty [] (record { side = Right; stamp = s }) [] (sym h)
path_no_nil (below s e p d steps w k) h = no_empty steps (record { side = d; stamp = s }) [] (sym h)

-- ---- what stands on the way
pub record Way (rows : List Row) (p : List Step) (a : Step) : Type 0 where
  pub place : Location
  pub at : At rows place p a.side
  pub child : ChildAt rows place a.stamp

way_cast : {rows : List Row} {p q : List Step} {a b : Step} → p ≡ q → a ≡ b → Way rows p a → Way rows q b
way_cast {rows} {p} {q} {a} {b} e f w = subst (λ (x : List Step). Way rows x b) e (subst (λ (x : Step). Way rows p x) f w)

pub on_way : {rows : List Row} {z : List ℕ} {q : List Step} → PathOf rows z q → (p r : List Step) (a : Step) → q ≡ p ++ (a ∷ r) → Way rows p a
on_way (top s e w) p r a h = elim (cut_push [] p (record { side = Right; stamp = s }) a r h) [
  | inl c ↦ way_cast c.0 c.1 (record { place = Ground; at = at_ground; child = record { entry = e; is = w } })
  | inr c ↦ absurd (no_empty p a c.0 c.1)
]
on_way (below s e f d steps w k) p r a h = elim (cut_push steps p (record { side = d; stamp = s }) a r h) [
  | inl c ↦ way_cast c.0 c.1 (record { place = Under d f; at = at_under f steps d k; child = record { entry = e; is = w } })
  | inr c ↦ on_way k p c.0 a c.1
]

pub at_one : {rows : List Row} {pl pm : Location} {p q : List Step} {d : Side} → At rows pl p d → At rows pm q d → p ≡ q → pl ≡ pm
at_one at_ground at_ground e = refl
at_one at_ground (at_under s p d h) e = absurd (path_no_nil h (sym e))
at_one (at_under s p d h) at_ground e = absurd (path_no_nil h e)
at_one (at_under s p d h) (at_under t q d' k) e = ap (Under d) (one_stamp h k e)

pub child_on_way : {rows : List Row} {pl : Location} {p : List Step} {d : Side} {z : List ℕ} → At rows pl p d → (t : List ℕ) (r : List Step) → PathOf rows z (p ++ (record { side = d; stamp = t } ∷ r)) → ChildAt rows pl t
child_on_way {rows} {pl} {p} {d} {z} a t r h =
    let w = on_way h p r (record { side = d; stamp = t }) refl in
    subst (λ (x : Location). ChildAt rows x t) (at_one w.at a refl) w.child

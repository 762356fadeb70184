-- What the paths are once an insertion of a new stamp is added.
use Rattle.std.proofs.Common.{◌≡◌, ℕ, false, ◌⊎◌, List, [], ◌∷◌, ◌++◌, Some, None, sym, ap, ◌∙◌, inl, inr}
use Rattle.words.specs.Forms.{same_values}
use Rattle.ledger.specs.Ledger.{Node, Row, node_of, Location, insertion}
use Rattle.ledger.specs.Calls.{added}
use Rattle.ledger.specs.Laws.{NoneWaitsFor}
use Rattle.ledger.specs.Paths.{Step, PathOf}
use Rattle.ledger.specs.Paths.PathOf.{top, below}
use Rattle.ledger.specs.Walk.{TakesIn}
use Rattle.ledger.proofs.Same.{true_or_false, same_list_refl, same_list_true, apart_lists, same_lists_or_not}
use Rattle.ledger.proofs.Rows.{none_not_some}
use Rattle.ledger.proofs.Chains.{path_stays, path_node}
use Rattle.ledger.proofs.Trails.{At, path_child}
use Rattle.ledger.proofs.Trails.At.{at_ground, at_under}
use Rattle.messages.specs.declared.model.Side.{Side}

-- the insertion of the stamp that is added
pub node_new : (s : List ℕ) (w : Node) (rows : List Row) → node_of s (added (insertion s w) rows) ≡ Some w
node_new s w [] = rw (same_list_refl s)
node_new s w (r ∷ rows) = elim (true_or_false (same_values r.stamp s)) [
  | inl t ↦ rw t (rw t)
  | inr t ↦ rw t (rw t (node_new s w rows))
]

-- of any other stamp
pub node_other : (s t : List ℕ) (w : Node) (rows : List Row) → (s ≡ t → ⊥) → node_of t (added (insertion s w) rows) ≡ node_of t rows
node_other s t w [] n = rw (apart_lists s t n)
node_other s t w (r ∷ rows) n = elim (true_or_false (same_values r.stamp s)) [
  | inl e ↦
      let is = same_list_true r.stamp s e in
      let f : same_values r.stamp t ≡ false = rw is (apart_lists s t n) in
      rw e (rw f)
  | inr e ↦ rw e (elim (true_or_false (same_values r.stamp t)) [ inl f ↦ rw f | inr f ↦ rw f (node_other s t w rows n) ])
]

pub added_takes : (rows : List Row) (s : List ℕ) (w : Node) → node_of s rows ≡ None → TakesIn rows (added (insertion s w) rows) s w
added_takes rows s w new = record { before = new; own = node_new s w rows; others = λ t n. node_other s t w rows n }

module _ (rows more : List Row) (s : List ℕ) (w : Node) (takes : TakesIn rows more s w) where
  pub held_not_new : (t : List ℕ) (v : Node) → node_of t rows ≡ Some v → s ≡ t → ⊥
  held_not_new t v h e = none_not_some v (sym takes.before ∙ ap (λ (x : List ℕ). node_of x rows) e ∙ h)

  pub holds_on : (t : List ℕ) (v : Node) → node_of t rows ≡ Some v → node_of t more ≡ Some v
  holds_on t v h = takes.others t (held_not_new t v h) ∙ h

  pub path_kept : {t : List ℕ} {p : List Step} → PathOf rows t p → PathOf more t p
  path_kept h = path_stays rows more holds_on h

  pub standing_not_new : {t : List ℕ} {p : List Step} → PathOf rows t p → s ≡ t → ⊥
  standing_not_new {t} h e = let v = path_node h in held_not_new t v.0 v.1 e

  pub path_new : {p : List Step} {d : Side} → At rows w.place p d → PathOf more s (p ++ (record { side = d; stamp = s } ∷ []))
  path_new {p} {d} a = path_child (further a) (record { entry = w.entry; is = takes.own })
    where
      further : {pl : Location} {q : List Step} {e : Side} → At rows pl q e → At more pl q e
      further at_ground = at_ground
      further (at_under t q e h) = at_under t q e (path_kept h)

  module _ (unnamed : NoneWaitsFor rows s) where
    pub path_old : {t : List ℕ} {p : List Step} → PathOf more t p → (s ≡ t → ⊥) → PathOf rows t p
    path_old (top t e h) n = top t e (sym (takes.others t n) ∙ h)
    path_old (below t e p d steps h g) n =
        let held = sym (takes.others t n) ∙ h in
        below t e p d steps held (path_old g (λ x. unnamed t e d (rw x held)))

    pub new_or_old : (t : List ℕ) (p : List Step) → PathOf more t p → (t ≡ s) ⊎ PathOf rows t p
    new_or_old t p h = elim (same_lists_or_not s t) [ inl e ↦ inl (sym e) | inr n ↦ inr (path_old h n) ]

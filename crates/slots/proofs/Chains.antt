-- Going from parent to parent.
use Rattle.std.proofs.Common.{◌≡◌, ℕ, suc, ◌+◌, ◌-◌, ◌<◌, ◌≤◌, true, false, List, is_some, Some, None, Option, sym, refl, ap, ◌∙◌, arith}
use Rattle.std.specs.Option.{option_map}
use Rattle.messages.specs.declared.model.Place.TheVariants.{Ground, Under}
use Rattle.messages.specs.declared.model.Side.{Side}
use Rattle.ledger.specs.Ledger.{Node, Row, Location, node_of}
use Rattle.ledger.specs.Paths.{Step, from_node, one_more, path_within}
use Rattle.ledger.proofs.Rows.{none_not_some}
use Rattle.slots.specs.Finding.{place_under}

-- the node of a place
pub node_of_place : (o : Option Node) (pl : Location) → option_map (λ w. w.place) o ≡ Some pl → (e : List ℕ) × (o ≡ Some (record { place = pl; entry = e }))
node_of_place None pl h = absurd (none_not_some pl h)
node_of_place (Some w) pl h = let e : w.place ≡ pl = cc in (w.entry, λ i. Some (record { place = e i; entry = w.entry }))

pub no_node : (o : Option Node) → option_map (λ w. w.place) o ≡ None → o ≡ None
no_node None h = refl
no_node (Some w) h = absurd (none_not_some w.place (sym h))

longer : (o : Option (List Step)) (x : Step) → is_some (one_more o x) ≡ is_some o
longer None x = refl
longer (Some p) x = refl

-- one step of the chain, with k of n steps made
chain_step : (n k : ℕ) (rows : List Row) (s : List ℕ) → k < n → path_within (n - k) rows s ≡ from_node (path_within (n - (k + 1)) rows) s (node_of s rows)
chain_step n k rows s h = let e : n - k ≡ suc (n - (k + 1)) = omega arith in ap (λ m. path_within m rows s) e

pub chain_none : (n k : ℕ) (rows : List Row) (s : List ℕ) → k < n → place_under s rows ≡ None → is_some (path_within (n - k) rows s) ≡ false
chain_none n k rows s h e = ap is_some (chain_step n k rows s h ∙ ap (from_node (path_within (n - (k + 1)) rows) s) (no_node (node_of s rows) e))

pub chain_ground : (n k : ℕ) (rows : List Row) (s : List ℕ) → k < n → place_under s rows ≡ Some Ground → is_some (path_within (n - k) rows s) ≡ true
chain_ground n k rows s h e = ap is_some (chain_step n k rows s h ∙ ap (from_node (path_within (n - (k + 1)) rows) s) (node_of_place (node_of s rows) Ground e).1)

pub chain_parent : (n k : ℕ) (rows : List Row) (s p : List ℕ) (d : Side) → k < n → place_under s rows ≡ Some (Under d p) → is_some (path_within (n - k) rows s) ≡ is_some (path_within (n - (k + 1)) rows p)
chain_parent n k rows s p d h e =
    ap is_some (chain_step n k rows s h ∙ ap (from_node (path_within (n - (k + 1)) rows) s) (node_of_place (node_of s rows) (Under d p) e).1)
    ∙ longer (path_within (n - (k + 1)) rows p) (record { side = d; stamp = s })

pub chain_end : (n k : ℕ) (rows : List Row) (s : List ℕ) → n ≤ k → is_some (path_within (n - k) rows s) ≡ false
chain_end n k rows s h = let z : n - k ≡ 0 = omega arith in ap (λ m. is_some (path_within m rows s)) z

use Rattle.std.proofs.Common.{◌≡◌, ℕ, ◌/◌, ◌%◌, true, nat_lt, List, [], ◌∷◌, Some, refl, sym, ap, ◌∙◌, map, arith, rules}
use Rattle.std.specs.List.{flat_map}
use Rattle.std.proofs.lemmas.Bool.{and_parts, cond-true, ltb-true}
use Rattle.std.proofs.lemmas.Iterator.{YieldsList-from_slice}
use Rattle.std.proofs.lemmas.Iterator.Search.{all_from_yields_List}
use borrow.Author.Tests.{tests}
use Rattle.entries.specs.Surnames.{three_bytes, unpacked}
use Rattle.entries.proofs.Calls.{map_is}
use Rattle.entries.proofs.registers.surnames.threes.Goals as goal

abbrev three : ℕ → List ℕ
three v = v / 65536 % 256 ∷ v / 256 % 256 ∷ v % 256 ∷ []

flat_threes : (vs : List ℕ) → three_bytes vs ≡ true → flat_map (λ x. x) (map three vs) ≡ unpacked vs
flat_threes [] h = refl
flat_threes (v ∷ vs) h =
    let p = and_parts (nat_lt v 16777216) (three_bytes vs) h in
    let l = ltb-true v 16777216 p.0 in
    let e : v / 65536 % 256 ≡ v / 65536 = omega arith in
    λ i. e i ∷ v / 256 % 256 ∷ v % 256 ∷ flat_threes vs p.1 i

pub returns : goal.returns
returns c =
    let vs = c.args.values in
    let small = sym (all_from_yields_List (λ v. nat_lt v 16777216) _ _ _ c.all.ensures.ran (YieldsList-from_slice vs (cc)) (λ x b q k. search (rules, tests))) ∙ c.if-not-all.false in
    let split = map_is _ three (λ p q x y k. search rules) _ vs c.map.result 8 0 (omega arith) c.map.ensures.items in
    ap Some (ap (flat_map (λ x. x)) split ∙ flat_threes vs small) ∙ sym (cond-true (three_bytes vs) _ _ small)

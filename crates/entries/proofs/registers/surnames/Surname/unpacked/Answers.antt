use Rattle.std.proofs.Common.{◌≡◌, ℕ, Bool, true, false, cond, ◌==◌, List, length, take, drop, Some, None, refl, sym, ap, ◌∙◌, arith, rules}
use Rattle.std.proofs.lemmas.Bool.{both_ways, cond-false, false_from_ne_true}
use Rattle.std.proofs.lemmas.Bool.Decides.{nat_tests}
use Rattle.std.proofs.lemmas.Option.{cond_some}
use Rattle.std.proofs.lemmas.Iterator.{YieldsList-from_slice}
use Rattle.std.proofs.lemmas.Iterator.Search.{all_from_yields_List}
use borrow.Author.Tests.{tests}
use Rattle.entries.specs.Surnames.{is_surname, surname_held, three_bytes, unpacked}
use Rattle.entries.specs.Fitting.{zeros, held_parts}
use Rattle.entries.specs.Packing.{held_three}
use Rattle.entries.proofs.registers.surnames.Surname.unpacked.Goals as goal

not_three : (b : Bool) (bs : List ℕ) → None ≡ cond b (Some bs) None → b ≡ false
not_three true bs e = cc
not_three false bs e = refl

-- a surname with zeros after it is held where it fits
fits_held : (n : ℕ) (bs : List ℕ) → length (take n bs) ≡ n → zeros (drop n bs) ≡ true → is_surname (take n bs) ≡ surname_held n bs
fits_held n bs l z = grind (arith, nat_tests)

pub returns-in_err-threes : goal.returns-in_err-threes
returns-in_err-threes c =
    let vs = c.args.values in
    let large = not_three (three_bytes vs) (unpacked vs) c.in_err-threes.ensures in
    let held = false_from_ne_true (surname_held c.args.len (unpacked vs)) (λ h. both_ways (three_bytes vs) large (held_three c.args.len vs h)) in
    c.from_residual.ensures ∙ sym (cond-false (surname_held c.args.len (unpacked vs)) _ _ held)

pub returns-then-not-all : goal.returns-then-not-all
returns-then-not-all c =
    let vs = c.args.values in
    let n = c.args.len in
    let bytes = c.as_flattened.ensures.value ∙ sym (cond_some (three_bytes vs) (unpacked vs) _ (sym c.in_ok-threes.ensures)).1 in
    let rest = c.in_ok-surname.ensures.cases.2 ∙ ap (drop n) bytes in
    let tail = sym (ap zeros rest) ∙ sym (all_from_yields_List (λ b. b == 0) _ _ _ c.all.ensures.ran (YieldsList-from_slice c.in_ok-surname.rest.now (cc)) (λ x b q k. search (rules, tests))) ∙ c.if-not-all.true in
    let held = false_from_ne_true (surname_held n (unpacked vs)) (λ h. both_ways (zeros (drop n (unpacked vs))) tail (held_parts n (unpacked vs) h).rest) in
    sym (cond-false (surname_held n (unpacked vs)) _ _ held)

pub returns : goal.returns
returns c =
    let vs = c.args.values in
    let n = c.args.len in
    let bytes = c.as_flattened.ensures.value ∙ sym (cond_some (three_bytes vs) (unpacked vs) _ (sym c.in_ok-threes.ensures)).1 in
    let split = c.in_ok-surname.ensures.cases in
    let front = split.1 ∙ ap (take n) bytes in
    let tail = sym (ap zeros (split.2 ∙ ap (drop n) bytes)) ∙ sym (all_from_yields_List (λ b. b == 0) _ _ _ c.all.ensures.ran (YieldsList-from_slice c.in_ok-surname.rest.now (cc)) (λ x b q k. search (rules, tests))) ∙ c.if-not-all.false in
    c.new.ensures
    ∙ ap (λ s. cond (is_surname s) (Some s) None) front
    ∙ ap (λ t. cond t (Some (take n (unpacked vs))) None) (fits_held n (unpacked vs) (sym (ap length front) ∙ split.3) tail)

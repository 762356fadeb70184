use Rattle.std.proofs.Common.{◌≡◌, ℕ, Fits, w8, suc, ◌<◌, not, ◌&&◌, ◌==◌, nat_le, List, [], ◌∷◌, length, get_or, ap, sym, refl, ◌∙◌, arith, rules}
use Rattle.std.specs.List.{list_all}
use Rattle.std.proofs.lemmas.Bool.{le-leb}
use Rattle.std.proofs.lemmas.Bool.Decides.{nat_tests}
use Rattle.std.proofs.lemmas.Iterator.{YieldsList-from_slice}
use Rattle.std.proofs.lemmas.Iterator.Search.{all_from_yields_List}
use borrow.Author.Tests.{tests}
use Rattle.entries.specs.Surnames.{surname_byte, surname_bytes}
use Rattle.entries.proofs.registers.surnames.fits.Goals as goal

-- bytes need no test from above
bytes_named : (bs : List ℕ) → ((k : ℕ) → Fits w8 (get_or bs k 0)) → list_all (λ b. nat_le 32 b && not (b == 127)) bs ≡ surname_bytes bs
bytes_named [] h = refl
bytes_named (b ∷ bs) h =
    let low : b < 256 = omega (arith, h 0) in
    let here : (nat_le 32 b && not (b == 127)) ≡ surname_byte b = grind (arith, nat_tests) in
    λ i. here i && bytes_named bs (λ k. h (suc k)) i

pub returns-then-bytes-le24 : goal.returns-then-bytes-le24
returns-then-bytes-le24 c =
    let bs = c.args.bytes.now in
    all_from_yields_List (λ b. nat_le 32 b && not (b == 127)) _ _ _ c.all.ensures.ran (YieldsList-from_slice bs (cc)) (λ x b q k. search (rules, tests))
    ∙ bytes_named bs (λ k. c.type_inv.bytes k)
    ∙ ap (λ t. t && surname_bytes bs) (sym (le-leb (length bs) 24 c.if-bytes-le24.true))

-- The text of an item, and a text put at the front of a space.
use Rattle.std.proofs.Common.{◌≡◌, ℕ, Bool, true, false, cond, leb, List, [], ◌++◌, length, drop, Some, None, Option, unwrap_or, sym, ap, ◌∙◌, arith}
use Rattle.std.proofs.lemmas.List.{drop_at}
use Rattle.std.proofs.lemmas.Bool.{cond-true}
use Rattle.std.specs.Option.{option_map}
use Rattle.words.specs.Layout.{put_front}
use Rattle.ledger.specs.Paths.{Item}
use Rattle.ledger.proofs.Rows.{none_not_some}
use Rattle.readings.specs.Printing.{text_in}

-- what an entry that is not struck prints
pub not_struck : (o : Option Bool) → unwrap_or o true ≡ false → Some false ≡ o
not_struck None e = let no : ◌≡◌ {A = Bool} true false = e in absurd (never_so no)
  where
    never_so : ◌≡◌ {A = Bool} true false → ⊥
    never_so h = let gone : ◌≡◌ {A = ℕ} 0 1 = cc in omega arith
not_struck (Some b) e = ap Some (sym e)

pub text_is : (prints : List ℕ → List ℕ) (o : Option Item) (e : List ℕ) → Some false ≡ option_map (λ (x : Item). x.struck) o → Some e ≡ option_map (λ (x : Item). x.entry) o → text_in prints o ≡ prints e
text_is prints None e h g = absurd (none_not_some false (sym h))
text_is prints (Some x) e h g =
    let s : false ≡ x.struck = cc in
    let w : e ≡ x.entry = cc in
    ap (λ b. cond b [] (prints x.entry)) (sym s) ∙ ap prints (sym w)

-- past what was put at the front, a space is as it was
pub put_rest : (ws out : List ℕ) (n : ℕ) → n ≡ length ws → leb (length ws) (length out) ≡ true → drop n (put_front ws out) ≡ drop n out
put_rest ws out n e h =
    ap (drop n) (cond-true (leb (length ws) (length out)) (ws ++ drop (length ws) out) out h)
    ∙ drop_at ws (drop (length ws) out) n (sym e)
    ∙ ap (λ m. drop m out) (sym e)

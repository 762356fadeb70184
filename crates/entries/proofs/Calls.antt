-- What the calls of a closure that always answers the same gave an array.
use Rattle.std.proofs.Common.{◌≡◌, ℕ, zero, suc, ◌+◌, ◌<◌, ◌≤◌, List, length, get_or, map, subst, sym, ◌∙◌, ⊎_elim, arith}
use Rattle.std.specs.Array.{IsFromFnResult, IsFromFnResultFrom, IsMapOf}
use Rattle.std.specs.List.{range_with_len}
use Rattle.std.proofs.lemmas.Bool.{cases_eq, cases_lt}
use Rattle.std.proofs.lemmas.List.{get_or-map, length-map, same_lists}
use Rattle.std.proofs.lemmas.List.FromFn.{fill_by_all}
use denote.Param.Members.{Mut, Called}

-- `array::from_fn`
module _ {F B : Type 0} (g : Mut F (ℕ × Unit {0}) B) (f : F) (h : ℕ → B) (step : (i : ℕ) (y : B) (q : F) → Called g f (i, tt) y q → (q ≡ f) × (y ≡ h i)) where
  from_fn_at : (ys : List B) (i n k : ℕ) (d : B) → IsFromFnResultFrom g f ys i n → i ≤ k → k < i + n → get_or ys k d ≡ h k
  from_fn_at ys i zero k d r l u = absurd (omega arith)
  from_fn_at ys i (suc n) k d (q, y, at, call, rest) l u =
      let s = step i y q call in
      ⊎_elim
      (λ e. subst (λ j. get_or ys j d ≡ h j) e (at.1 d ∙ s.1))
      (λ ne. from_fn_at ys (i + 1) n k d (subst (λ z. IsFromFnResultFrom g z ys (i + 1) n) s.0 rest) (above i k l ne) (omega arith))
      (cases_eq i k)
    where
      above : (i k : ℕ) → i ≤ k → (i ≡ k → ⊥) → i + 1 ≤ k
      above i k l ne = ⊎_elim (λ m. absurd (ne (omega arith))) (λ m. m) (cases_lt k (i + 1))

  pub from_fn_is : (ys : List B) (n : ℕ) (d : B) → IsFromFnResult g f ys n → ys ≡ map h (range_with_len 0 n)
  from_fn_is ys n d r = fill_by_all h ys n d r.long (λ k l. from_fn_at ys 0 n k d r.each (omega arith) (omega arith))

-- an array's `map`
pub map_is : {F A B : Type 0} (g : Mut F (A × Unit {0}) B) (h : A → B) (step : (p q : F) (x : A) (y : B) → Called g p (x, tt) y q → y ≡ h x) → (f : F) (xs : List A) (ys : List B) (n : ℕ) (d : A) → length xs ≡ n → IsMapOf g f xs ys n → ys ≡ map h xs
map_is g h step f xs ys n d l r =
    same_lists ys (map h xs) (r.long ∙ sym l ∙ sym (length-map xs h)) (λ k e u.
    let at = r.at k d e (omega (arith, r.long)) in
    step at.0 at.1 (get_or xs k d) (get_or ys k e) at.2 ∙ sym (get_or-map h xs k d e (omega (arith, r.long))))

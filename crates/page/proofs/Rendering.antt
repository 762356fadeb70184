-- The printed bytes, item by item.
use Rattle.std.proofs.Common.{◌≡◌, ℕ, ◌+◌, ◌-◌, ◌≤◌, leb, List, [], ◌∷◌, ◌++◌, length, take, drop, Option, sym, refl, ap, ◌∙◌, inl, inr, arith, length-append, length-drop}
use borrow.Rule.Slice.PartMut.{put_mid}
use Rattle.std.proofs.lemmas.List.{append_assoc, append-nil, drop_all, drop_at, drop-drop, length-take-le, take_at}
use Rattle.std.proofs.lemmas.Bool.{cond-true, le-leb}
use Rattle.words.specs.Layout.{put_front}
use Rattle.ledger.specs.Answering.{printed}
use Rattle.ledger.specs.Basics.{first}
use Rattle.ledger.specs.Paths.{Item}
use Rattle.ledger.proofs.Same.{true_or_false}
use Rattle.readings.specs.Printing.{text_in}
use Rattle.readings.specs.Readings.{others}
use Rattle.page.specs.Rendering.{Written}

-- the first item's text comes first
pub printed_first : (prints : List ℕ → List ℕ) (xs : List Item) → printed prints xs ≡ text_in prints (first xs) ++ printed prints (others xs)
printed_first prints [] = refl
printed_first prints (x ∷ xs) = elim (true_or_false x.struck) [ inl t ↦ rw t | inr t ↦ rw t ]

pub one_more_text : (prints : List ℕ → List ℕ) (xs ys : List Item) (o : Option Item) → o ≡ first xs → ys ≡ others xs → printed prints xs ≡ text_in prints o ++ printed prints ys
one_more_text prints xs ys o e f = printed_first prints xs ∙ (λ i. text_in prints (sym e i) ++ printed prints (sym f i))

-- ---- a text that is written piece by piece
pub written_start : (text was : List ℕ) → Written text was was 0 text
written_start text was = record { done = []; whole = refl; long = refl; space = refl }

pub written_fits : (text was is : List ℕ) (n : ℕ) (piece rest : List ℕ) → Written text was is n (piece ++ rest) → length text ≤ length was → length piece ≤ length (drop n is)
written_fits text was is n piece rest w h =
    let a = ap length w.whole ∙ length-append w.done (piece ++ rest) in
    let b = length-append piece rest in
    let d = ap length (ap (drop n) w.space ∙ drop_at w.done (drop n was) n w.long) ∙ length-drop n was in
    let e = w.long in
    omega arith

pub written_more : (text was is new : List ℕ) (n m : ℕ) (piece rest : List ℕ) → Written text was is n (piece ++ rest) → m ≡ n + length piece → length piece ≤ length (drop n is) → new ≡ take n is ++ put_front piece (drop n is) → Written text was new m rest
written_more text was is new n m piece rest w e h put = record {
  done = w.done ++ piece;
  whole = w.whole ∙ sym (append_assoc w.done piece rest);
  long = length-append w.done piece ∙ ap (λ z. z + length piece) w.long ∙ sym e;
  space = put ∙ (λ i. front i ++ back i) ∙ sym (append_assoc w.done piece (drop m was));
}
  where
    front : take n is ≡ w.done
    front = ap (take n) w.space ∙ take_at w.done (drop n was) n w.long

    rest_is : drop n is ≡ drop n was
    rest_is = ap (drop n) w.space ∙ drop_at w.done (drop n was) n w.long

    back : put_front piece (drop n is) ≡ piece ++ drop m was
    back =
        cond-true (leb (length piece) (length (drop n is))) (piece ++ drop (length piece) (drop n is)) (drop n is) (le-leb (length piece) (length (drop n is)) h)
        ∙ ap (λ z. piece ++ z) (ap (drop (length piece)) rest_is ∙ drop-drop (length piece) n was ∙ ap (λ z. drop z was) (sym e))

pub written_all : (text was is : List ℕ) (n : ℕ) → Written text was is n [] → length text ≤ length was → (n ≡ length text) × (is ≡ put_front text was)
written_all text was is n w h =
    let done : w.done ≡ text = sym (w.whole ∙ append-nil w.done) in
    let long : n ≡ length text = sym w.long ∙ ap length done in
    (long, w.space ∙ (λ i. done i ++ drop (long i) was) ∙ sym (cond-true (leb (length text) (length was)) (text ++ drop (length text) was) was (le-leb (length text) (length was) h)))

-- ---- a write to the rest of a space
pub put_end : (a : ℕ) (xs ys : List ℕ) → a ≤ length xs → put_mid a (length xs - a) xs ys ≡ take a xs ++ ys
put_end a xs ys h =
    let all : drop (length xs - a) (drop a xs) ≡ [] = drop-drop (length xs - a) a xs ∙ drop_all (a + (length xs - a)) xs (omega arith) in
    ap (λ z. take a xs ++ (ys ++ z)) all ∙ ap (λ z. take a xs ++ z) (append-nil ys)

pub end_rest : (a n : ℕ) (xs ys was : List ℕ) → a ≤ length xs → drop n ys ≡ drop n (drop a xs) → drop a xs ≡ drop a was → drop (a + n) (take a xs ++ ys) ≡ drop (a + n) was
end_rest a n xs ys was h e same =
    sym (drop-drop n a (take a xs ++ ys))
    ∙ ap (drop n) (drop_at (take a xs) ys a (length-take-le a xs h))
    ∙ e
    ∙ ap (drop n) same
    ∙ drop-drop n a was

pub end_length : (a : ℕ) (xs ys : List ℕ) → a ≤ length xs → length ys ≡ length (drop a xs) → length (take a xs ++ ys) ≡ length xs
end_length a xs ys h e =
    let x = length-append (take a xs) ys in
    let y = length-take-le a xs h in
    let z = length-drop a xs in
    omega arith

-- Spaces that are filled part by part.
use Rattle.std.proofs.Common.{◌≡◌, ℕ, zero, suc, ◌+◌, ◌^◌, ◌<◌, ◌≤◌, leb, List, [], ◌∷◌, ◌++◌, map, length, get_or, take, drop, set, sym, ap, subst, ◌∙◌, add-one, arith}
use borrow.Rule.Slice.PartMut.{put_mid}
use Rattle.std.proofs.lemmas.List.{append_assoc, append-nil, drop_all, drop-drop, drop_more, get_or_at, length-append, length-map, length-take-le, map_more, set_at, set_split, take_all, take_at}
use Rattle.std.proofs.lemmas.Slice.{drop-append-drop}
use Rattle.std.proofs.lemmas.Bool.{cond-true, le-leb}
use Rattle.words.specs.Forms.{Small}
use Rattle.words.specs.Layout.{put_front}
use Rattle.messages.specs.InWords.{put_at}

-- ---- word by word from the front
fill_more : (front old : List ℕ) (i v : ℕ) → length front ≡ i → i < length old → set (front ++ drop i old) i v ≡ (front ++ v ∷ []) ++ drop (i + 1) old
fill_more front old i v e h =
    ap (λ z. set (front ++ z) i v) (drop_more old i 0 h)
    ∙ set_at front (get_or old i 0) (drop (i + 1) old) v i e
    ∙ sym (append_assoc front (v ∷ []) (drop (i + 1) old))

-- the front is what f makes of the first words of a list
mapped_length : (f : ℕ → ℕ) (ws : List ℕ) (i : ℕ) → i ≤ length ws → length (map f (take i ws)) ≡ i
mapped_length f ws i h = length-map (take i ws) f ∙ length-take-le i ws h

pub map_fill_more : (f : ℕ → ℕ) (ws old now : List ℕ) (i v : ℕ) → i < length ws → i < length old → v ≡ f (get_or ws i 0)
    → now ≡ map f (take i ws) ++ drop i old → set now i v ≡ map f (take (i + 1) ws) ++ drop (i + 1) old
map_fill_more f ws old now i v h l e inv =
    ap (λ z. set z i v) inv
    ∙ fill_more (map f (take i ws)) old i v (mapped_length f ws i (omega arith)) l
    ∙ ap (λ z. z ++ drop (i + 1) old) ((λ j. map f (take i ws) ++ e j ∷ []) ∙ sym (map_more f ws i 0 h))

pub map_fill_all : (f : ℕ → ℕ) (ws old now : List ℕ) (i : ℕ) → i ≡ length ws
    → now ≡ map f (take i ws) ++ drop i old → now ≡ map f ws ++ drop (length ws) old
map_fill_all f ws old now i e inv =
    inv ∙ (λ j. map f (take (e j) ws) ++ drop (e j) old) ∙ ap (λ z. map f z ++ drop (length ws) old) (take_all (length ws) ws (omega arith))

-- what is not reached yet is as it was
pub fill_next : (f : ℕ → ℕ) (ws now : List ℕ) (i : ℕ) → i < length ws → now ≡ map f (take i ws) ++ drop i ws → get_or now i 0 ≡ get_or ws i 0
fill_next f ws now i h inv =
    ap (λ z. get_or z i 0) (inv ∙ ap (λ z. map f (take i ws) ++ z) (drop_more ws i 0 h))
    ∙ get_or_at (map f (take i ws)) (get_or ws i 0) (drop (i + 1) ws) 0 i (mapped_length f ws i (omega arith))

small_at : (ws : List ℕ) (i : ℕ) → Small ws → i < length ws → get_or ws i 0 < 2 ^ 28
small_at [] i s h = absurd (omega arith)
small_at (w ∷ ws) zero s h = s.0
small_at (w ∷ ws) (suc i) s h = small_at ws i s.1 (omega arith)

pub small_next : (f : ℕ → ℕ) (ws now : List ℕ) (i : ℕ) → Small ws → i < length ws → now ≡ map f (take i ws) ++ drop i ws → get_or now i 0 < 2 ^ 28
small_next f ws now i s h inv = subst (λ n. n < 2 ^ 28) (sym (fill_next f ws now i h inv)) (small_at ws i s h)

-- a space of just the length
pub put_whole : (xs space : List ℕ) → length xs ≡ length space → put_front xs space ≡ xs
put_whole xs space e =
    cond-true (leb (length xs) (length space)) (xs ++ drop (length xs) space) space (le-leb (length xs) (length space) (omega arith))
    ∙ ap (λ z. xs ++ z) (drop_all (length xs) space (omega arith)) ∙ append-nil xs

-- ---- part by part
pub put_one : (space : List ℕ) (i v : ℕ) → i < length space → set space i v ≡ put_at i (v ∷ []) space
put_one space i v h = set_split space i v h ∙ ap (λ k. take i space ++ v ∷ drop k space) (sym (add-one i))

-- a write to a part, by lengths
pub put_part : (i k : ℕ) (ys space : List ℕ) → length ys ≡ k → put_mid i k space ys ≡ put_at i ys space
put_part i k ys space e =
    ap (λ z. take i space ++ (ys ++ z)) (drop-drop k i space) ∙ ap (λ j. take i space ++ (ys ++ drop (i + j) space)) (sym e)

-- the front grows by a part
put_more : (front ys old now after : List ℕ) (i : ℕ) → length front ≡ i → now ≡ front ++ drop i old → after ≡ put_at i ys now
    → after ≡ (front ++ ys) ++ drop (i + length ys) old
put_more front ys old now after i e was is =
    is ∙ ap (put_at i ys) was
    ∙ ap (λ z. z ++ (ys ++ drop (i + length ys) (front ++ drop i old))) (take_at front (drop i old) i e)
    ∙ ap (λ z. front ++ (ys ++ z)) (drop-append-drop i old front (i + length ys) (omega arith) e)
    ∙ sym (append_assoc front ys (drop (i + length ys) old))

-- one part behind another is one part
pub put_twice : (i k : ℕ) (xs ys space now after : List ℕ) → i ≤ length space → k ≡ i + length xs → now ≡ put_at i xs space → after ≡ put_at k ys now
    → after ≡ put_at i (xs ++ ys) space
put_twice i k xs ys space now after h e was is =
    let front = take i space ++ xs in
    let long : length front ≡ k = omega (arith, length-append (take i space) xs, length-take-le i space h) in
    let first : now ≡ front ++ drop k space = was ∙ sym (append_assoc (take i space) xs (drop (i + length xs) space)) ∙ ap (λ j. front ++ drop j space) (sym e) in
    let all : k + length ys ≡ i + length (xs ++ ys) = omega (arith, length-append xs ys) in
    put_more front ys space now after k long first is
    ∙ ap (λ j. (front ++ ys) ++ drop j space) all
    ∙ append_assoc front ys (drop (i + length (xs ++ ys)) space)
    ∙ append_assoc (take i space) xs (ys ++ drop (i + length (xs ++ ys)) space)
    ∙ ap (λ z. take i space ++ z) (sym (append_assoc xs ys (drop (i + length (xs ++ ys)) space)))

-- a part at the front
pub put_first : (xs space : List ℕ) → put_at 0 xs space ≡ xs ++ drop (length xs) space
put_first xs space = let e : 0 + length xs ≡ length xs = omega arith in ap (λ k. xs ++ drop k space) e

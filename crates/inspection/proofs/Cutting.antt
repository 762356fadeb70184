-- A run of words, piece by piece.
use Rattle.std.proofs.Common.{◌≡◌, ℕ, zero, suc, ◌+◌, ◌%◌, ◌≤◌, Bool, true, false, cond, ◌&&◌, leb, List, [], ◌∷◌, ◌++◌, map, length, take, drop, ◌==◌, Some, None, Option, sym, refl, ap, ◌∙◌, arith}
use Rattle.std.proofs.lemmas.Bool.{cond-false, cond-true, eq-eqb, ne_eqb}
use Rattle.std.proofs.lemmas.List.{append_assoc, append-nil, length-drop, map-append}
use Rattle.words.specs.Answers.Answer.{refused}
use Rattle.messages.specs.FromWords.{count_in, has_head, piece}
use Rattle.inspection.specs.Reports.{answers, cut, left_over}

-- a piece has a word
pub piece_some : (ws : List ℕ) (n : ℕ) → piece ws ≡ Some n → 1 ≤ n
piece_some ws n e = go (has_head ws && leb (1 + count_in ws) (length ws)) e
  where
    go : (b : Bool) → cond b (Some (1 + count_in ws)) None ≡ Some n → 1 ≤ n
    go true h = let k : 1 + count_in ws ≡ n = cc in omega arith
    go false h = let gone : ◌≡◌ {A = ℕ} 0 1 = cc in absurd (omega arith)

module _ {X : Type 0} (read : List ℕ → X) (left : List X) where
  -- with pieces enough it does not matter how many there may be
  more_pieces : (k j : ℕ) (ws : List ℕ) → length ws ≤ k → length ws ≤ j → answers k read left ws ≡ answers j read left ws
  more_pieces zero zero ws h l = refl
  more_pieces zero (suc j) [] h l = refl
  more_pieces zero (suc j) (w ∷ ws) h l = absurd (omega arith)
  more_pieces (suc k) zero [] h l = refl
  more_pieces (suc k) zero (w ∷ ws) h l = absurd (omega arith)
  more_pieces (suc k) (suc j) [] h l = refl
  more_pieces (suc k) (suc j) (w ∷ ws) h l = go (piece (w ∷ ws)) refl (λ n some. more_pieces k j (drop n (w ∷ ws)) (shorter n some k h) (shorter n some j l))
    where
      shorter : (n : ℕ) → 1 ≤ n → (i : ℕ) → length (w ∷ ws) ≤ suc i → length (drop n (w ∷ ws)) ≤ i
      shorter n some i room = let d = length-drop n (w ∷ ws) in omega arith

      go : (o : Option ℕ) → piece (w ∷ ws) ≡ o → ((n : ℕ) → 1 ≤ n → answers k read left (drop n (w ∷ ws)) ≡ answers j read left (drop n (w ∷ ws)))
          → cut read (answers k read left) (w ∷ ws) o ≡ cut read (answers j read left) (w ∷ ws) o
      go None e more = refl
      go (Some n) e more = ap (λ z. read (take n (w ∷ ws)) ∷ z) (more n (piece_some (w ∷ ws) n e))

  -- behind a piece it goes on
  pub piece_more : (ws : List ℕ) (n : ℕ) → piece ws ≡ Some n → answers (length ws) read left ws ≡ read (take n ws) ∷ answers (length (drop n ws)) read left (drop n ws)
  piece_more [] n e = let gone : ◌≡◌ {A = ℕ} 0 1 = cc in absurd (omega arith)
  piece_more (w ∷ ws) n e =
      let some = piece_some (w ∷ ws) n e in
      let d = length-drop n (w ∷ ws) in
      ap (cut read (answers (length ws) read left) (w ∷ ws)) e
      ∙ ap (λ z. read (take n (w ∷ ws)) ∷ z) (more_pieces (length ws) (length (drop n (w ∷ ws))) (drop n (w ∷ ws)) (omega arith) (omega arith))

  -- a rest is the last
  pub rest_last : (ws : List ℕ) → (length ws == 0) ≡ false → piece ws ≡ None → answers (length ws) read left ws ≡ read ws ∷ []
  rest_last [] h e = absurd (grind arith)
  rest_last (w ∷ ws) h e = ap (cut read (answers (length ws) read left) (w ∷ ws)) e

  pub no_more : (ws : List ℕ) → (length ws == 0) ≡ true → answers (length ws) read left ws ≡ left
  no_more [] h = refl
  no_more (w ∷ ws) h = absurd (grind arith)

-- what is left of a word behind the words is an answer, and the last
pub some_left : (bytes : List ℕ) → ¬ (length bytes % 4 ≡ 0) → left_over bytes ≡ refused 3 None ∷ []
some_left bytes h = cond-false _ _ _ (ne_eqb (length bytes % 4) 0 h)

pub none_left : (bytes : List ℕ) → length bytes % 4 ≡ 0 → left_over bytes ≡ []
none_left bytes h = cond-true _ _ _ (eq-eqb (length bytes % 4) 0 h)

-- one answer more
pub pushed_answer : {X Y : Type 0} (f : X → Y) (was now : List X) (x : X) (rest all : List Y) → now ≡ was ++ x ∷ [] → map f was ++ (f x ∷ rest) ≡ all → map f now ++ rest ≡ all
pushed_answer f was now x rest all n inv =
    ap (λ z. map f z ++ rest) n
    ∙ ap (λ z. z ++ rest) (map-append f was (x ∷ []))
    ∙ append_assoc (map f was) (f x ∷ []) rest
    ∙ inv

pub last_answer : {X Y : Type 0} (f : X → Y) (was now : List X) (x : X) (all : List Y) → now ≡ was ++ x ∷ [] → map f was ++ (f x ∷ []) ≡ all → map f now ≡ all
last_answer f was now x all n inv = sym (append-nil (map f now)) ∙ pushed_answer f was now x [] all n inv

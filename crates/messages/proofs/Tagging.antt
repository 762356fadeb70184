-- Tags, word by word.
use Rattle.std.proofs.Common.{◌≡◌, ℕ, zero, suc, ◌+◌, ◌-◌, ◌≤◌, Bool, true, false, cond, not, List, [], ◌∷◌, ◌++◌, length, take, drop, replicate, Some, None, Option, sym, refl, ap, ◌∙◌, arith}
use Rattle.std.proofs.lemmas.Iterator.Adapters.{position_from-zero}
use Rattle.std.proofs.lemmas.List.{drop-drop, length-drop, length-replicate}
use Rattle.std.specs.List.{position, position_from}
use Rattle.std.specs.Option.{option_map}
use Rattle.messages.specs.FromWords.{fits, bad_word}
use Rattle.messages.specs.declared.model.Tag.{Tag}

-- the first fault, if there is one
abbrev pub or_else : Option ℕ → Option ℕ → Option ℕ
or_else None p = p
or_else (Some i) p = Some i

pub both_none : (o p : Option ℕ) → or_else o p ≡ None → (o ≡ None) × (p ≡ None)
both_none None p e = (refl, e)
both_none (Some i) p e = cc

-- ---- the first word of a run that does not fit is the first bad word
misfit_from : (from j k : ℕ) (t : Tag) (ws : List ℕ) → k ≤ length ws
    → bad_word (from + j) (replicate k t) ws ≡ option_map (λ i. from + i) (position_from (λ w. not (fits t w)) j (take k ws))
misfit_from from j zero t ws h = refl
misfit_from from j (suc k) t [] h = absurd (omega arith)
misfit_from from j (suc k) t (w ∷ ws) h = go (fits t w) (ap (λ n. bad_word n (replicate k t) ws) e ∙ misfit_from from (j + 1) k t ws (omega arith))
  where
    e : (from + j) + 1 ≡ from + (j + 1)
    e = omega arith

    go : (b : Bool) → bad_word ((from + j) + 1) (replicate k t) ws ≡ option_map (λ i. from + i) (position_from (λ v. not (fits t v)) (j + 1) (take k ws))
        → cond b (bad_word ((from + j) + 1) (replicate k t) ws) (Some (from + j)) ≡ option_map (λ i. from + i) (cond (not b) (Some j) (position_from (λ v. not (fits t v)) (j + 1) (take k ws)))
    go true next = next
    go false next = refl

pub misfit_told : (from to : ℕ) (t : Tag) (ws : List ℕ) (r : Option ℕ) → from ≤ to → to ≤ length ws → r ≡ position (λ w. not (fits t w)) (take (to - from) (drop from ws))
    → bad_word from (replicate (to - from) t) (drop from ws) ≡ option_map (λ i. from + i) r
misfit_told from to t ws r f l e =
    let zero_on : from ≡ from + 0 = omega arith in
    let part = take (to - from) (drop from ws) in
    ap (λ n. bad_word n (replicate (to - from) t) (drop from ws)) zero_on
    ∙ misfit_from from 0 (to - from) t (drop from ws) (omega (arith, length-drop from ws))
    ∙ ap (option_map (λ i. from + i)) (sym (position_from-zero (λ w. not (fits t w)) part) ∙ sym e)

-- ---- one run of words behind another
pub bad_word_append : (i : ℕ) (ts us : List Tag) (ws : List ℕ) → bad_word i (ts ++ us) ws ≡ or_else (bad_word i ts ws) (bad_word (i + length ts) us (drop (length ts) ws))
bad_word_append i [] us ws = let e : i ≡ i + 0 = omega arith in ap (λ k. bad_word k us ws) e
bad_word_append i (t ∷ ts) us [] = refl
bad_word_append i (t ∷ ts) us (w ∷ ws) = go (fits t w) (bad_word_append (i + 1) ts us ws)
  where
    e : (i + 1) + length ts ≡ i + length (t ∷ ts)
    e = omega arith

    go : (b : Bool) → bad_word (i + 1) (ts ++ us) ws ≡ or_else (bad_word (i + 1) ts ws) (bad_word ((i + 1) + length ts) us (drop (length ts) ws))
        → cond b (bad_word (i + 1) (ts ++ us) ws) (Some i) ≡ or_else (cond b (bad_word (i + 1) ts ws) (Some i)) (bad_word (i + length (t ∷ ts)) us (drop (length ts) ws))
    go true next = next ∙ ap (λ k. or_else (bad_word (i + 1) ts ws) (bad_word k us (drop (length ts) ws))) e
    go false next = refl

-- the words from one place to another have one tag, and others follow
pub bad_words_then : (from to : ℕ) (t : Tag) (us : List Tag) (ws : List ℕ) → from ≤ to
    → bad_word from (replicate (to - from) t ++ us) (drop from ws) ≡ or_else (bad_word from (replicate (to - from) t) (drop from ws)) (bad_word to us (drop to ws))
bad_words_then from to t us ws h =
    let k : length (replicate (to - from) t) ≡ to - from = length-replicate (to - from) t in
    let e : from + length (replicate (to - from) t) ≡ to = omega arith in
    let d : drop (length (replicate (to - from) t)) (drop from ws) ≡ drop to ws = drop-drop (length (replicate (to - from) t)) from ws ∙ ap (λ j. drop j ws) e in
    bad_word_append from (replicate (to - from) t) us (drop from ws)
    ∙ (λ j. or_else (bad_word from (replicate (to - from) t) (drop from ws)) (bad_word (e j) us (d j)))

-- Words that fit their tags: written so, they fit; and where they fit, they are so written.
use Rattle.std.proofs.Common.{◌≡◌, ℕ, zero, suc, ◌+◌, ◌^◌, ◌<◌, Bool, true, false, cond, List, [], ◌∷◌, ◌++◌, map, length, take, replicate, Some, None, sym, refl, ap, ◌∙◌, arith}
use Rattle.std.proofs.lemmas.Bool.{and_from, and_parts, eq-eqb, eqb-true}
use Rattle.words.specs.Forms.{Small}
use Rattle.words.specs.Layout.{tag_of, value_of, word}
use Rattle.messages.specs.FromWords.{allows, bad_word, fits}
use Rattle.messages.specs.InWords.{tagged}
use Rattle.messages.specs.Model.{tag_number}
use Rattle.messages.specs.declared.model.Tag.{Tag}
use Rattle.messages.proofs.Heads.{tag_back, value_back, word_back}

-- a tag that goes with every value
abbrev Free : Tag → Type 0
Free t = (v : ℕ) → allows t v ≡ true

pub no_place : {X : Type 0} (i : ℕ) → Some i ≡ None → X
no_place i e = let gone : ◌≡◌ {A = ℕ} 0 1 = cc in absurd (omega arith)

-- ---- written words fit
word_fits : (t : Tag) (v : ℕ) → v < 2 ^ 28 → allows t v ≡ true → fits t (word (tag_number t) v) ≡ true
word_fits t v h a = and_from _ _ (eq-eqb (tag_of (word (tag_number t) v)) (tag_number t) (tag_back (tag_number t) v h)) (ap (allows t) (value_back (tag_number t) v h) ∙ a)

pub first_fits : (i : ℕ) (t : Tag) (ts : List Tag) (w : ℕ) (ws : List ℕ) → fits t w ≡ true → bad_word i (t ∷ ts) (w ∷ ws) ≡ bad_word (i + 1) ts ws
first_fits i t ts w ws e = ap (λ b. cond b (bad_word (i + 1) ts ws) (Some i)) e

all_fit : (i : ℕ) (t : Tag) → Free t → (vs : List ℕ) → Small vs → bad_word i (replicate (length vs) t) (tagged t vs) ≡ None
all_fit i t f [] s = refl
all_fit i t f (v ∷ vs) s = first_fits i t (replicate (length vs) t) (word (tag_number t) v) (tagged t vs) (word_fits t v s.0 (f v)) ∙ all_fit (i + 1) t f vs s.1

pub tags_fit : (i : ℕ) (t : Tag) → Free t → (vs : List ℕ) (k : ℕ) → Small vs → length vs ≡ k → bad_word i (replicate k t) (tagged t vs) ≡ None
tags_fit i t f vs k s e = ap (λ n. bad_word i (replicate n t) (tagged t vs)) (sym e) ∙ all_fit i t f vs s

pub fit_then : (i : ℕ) (ts us : List Tag) (xs ys : List ℕ) → length ts ≡ length xs → bad_word i ts xs ≡ None → bad_word (i + length ts) us ys ≡ None → bad_word i (ts ++ us) (xs ++ ys) ≡ None
fit_then i [] us [] ys e f g = let k : i ≡ i + 0 = omega arith in ap (λ n. bad_word n us ys) k ∙ g
fit_then i [] us (x ∷ xs) ys e f g = absurd (omega arith)
fit_then i (t ∷ ts) us [] ys e f g = absurd (omega arith)
fit_then i (t ∷ ts) us (x ∷ xs) ys e f g = go (fits t x) f (λ h. fit_then (i + 1) ts us xs ys (omega arith) h (ap (λ n. bad_word n us ys) k ∙ g))
  where
    k : (i + 1) + length ts ≡ i + length (t ∷ ts)
    k = omega arith

    go : (b : Bool) → cond b (bad_word (i + 1) ts xs) (Some i) ≡ None → (bad_word (i + 1) ts xs ≡ None → bad_word (i + 1) (ts ++ us) (xs ++ ys) ≡ None)
        → cond b (bad_word (i + 1) (ts ++ us) (xs ++ ys)) (Some i) ≡ None
    go true h more = more h
    go false h more = no_place i h

pub values_back : (t : Tag) (vs : List ℕ) → Small vs → map value_of (tagged t vs) ≡ vs
values_back t [] s = refl
values_back t (v ∷ vs) s = λ i. value_back (tag_number t) v s.0 i ∷ values_back t vs s.1 i

-- ---- words that fit are so written
pub fitting_word : (t : Tag) (w : ℕ) → fits t w ≡ true → (w ≡ word (tag_number t) (value_of w)) × (allows t (value_of w) ≡ true)
fitting_word t w e =
    let p = and_parts _ _ e in
    (word_back w (tag_number t) (eqb-true (tag_of w) (tag_number t) p.0), p.1)

pub first_fitting : (i : ℕ) (t : Tag) (ts : List Tag) (w : ℕ) (ws : List ℕ) → bad_word i (t ∷ ts) (w ∷ ws) ≡ None → (fits t w ≡ true) × (bad_word (i + 1) ts ws ≡ None)
first_fitting i t ts w ws e = go (fits t w) e
  where
    go : (b : Bool) → cond b (bad_word (i + 1) ts ws) (Some i) ≡ None → (b ≡ true) × (bad_word (i + 1) ts ws ≡ None)
    go true h = (refl, h)
    go false h = no_place i h

fitting_words : (i k : ℕ) (t : Tag) (ws : List ℕ) → bad_word i (replicate k t) ws ≡ None → take k ws ≡ tagged t (map value_of (take k ws))
fitting_words i zero t ws e = refl
fitting_words i (suc k) t [] e = no_place i e
fitting_words i (suc k) t (w ∷ ws) e =
    let p = first_fitting i t (replicate k t) w ws e in
    λ j. (fitting_word t w p.0).0 j ∷ fitting_words (i + 1) k t ws p.1 j

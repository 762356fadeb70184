-- The answer to a list of questions, and the first no among them.
use Rattle.std.proofs.Common.{◌≡◌, ℕ, Bool, true, false, List, [], ◌∷◌, ◌++◌, Some, None, Option, sym, refl, ap, ◌∙◌, inl, inr, arith}
use Rattle.words.specs.Answers.{Answer, Question, answer, ask}
use Rattle.words.specs.Answers.Answer.{granted, refused}
use Rattle.ledger.specs.Basics.{refusal}
use Rattle.ledger.proofs.Histories.{AllYes}
use Rattle.ledger.proofs.Same.{true_or_false}

pub granted_not_refused : {X : Type 0} (x : X) (n : ℕ) (o : Option ℕ) → granted x ≡ refused n o → ⊥
granted_not_refused x n o h = let gone : ◌≡◌ {A = ℕ} 0 1 = cc in omega arith

-- something was granted: each question got a yes
pub all_yes : {X : Type 0} (qs : List Question) (x y : X) → granted y ≡ answer qs x → AllYes qs
all_yes [] x y h = tt
all_yes (q ∷ qs) x y h = elim (true_or_false q.yes) [
  | inl t ↦ (t, all_yes qs x y (rw t at h))
  | inr t ↦ absurd (granted_not_refused y q.number q.place (rw t at h))
]

pub none_refused : (qs : List Question) → AllYes qs → refusal qs ≡ None
none_refused [] y = refl
none_refused (q ∷ qs) y = rw y.0 (none_refused qs y.1)

pub yes_answer : {X : Type 0} (qs : List Question) (x : X) → AllYes qs → answer qs x ≡ granted x
yes_answer [] x y = refl
yes_answer (q ∷ qs) x y = rw y.0 (yes_answer qs x y.1)

-- questions that were passed can be left out
pub answer_past : {X : Type 0} (ps qs : List Question) (x : X) → AllYes ps → answer (ps ++ qs) x ≡ answer qs x
answer_past [] qs x y = refl
answer_past (p ∷ ps) qs x y = rw y.0 (answer_past ps qs x y.1)

-- a no that was told is the first no
pub no_refused : {X : Type 0} (qs : List Question) (x : X) (n : ℕ) (o : Option ℕ) → refused n o ≡ answer qs x → refusal qs ≡ Some n
no_refused [] x n o h = absurd (granted_not_refused x n o (sym h))
no_refused {X} (q ∷ qs) x n o h = elim (true_or_false q.yes) [
  | inl t ↦ rw t (no_refused qs x n o (rw t at h))
  | inr t ↦ let e : ◌≡◌ {A = Answer X} (refused n o) (refused q.number q.place) = rw t at h in let f : n ≡ q.number = cc in rw t (ap Some (sym f))
]

pub refusal_past : (ps qs : List Question) → AllYes ps → refusal (ps ++ qs) ≡ refusal qs
refusal_past [] qs y = refl
refusal_past (p ∷ ps) qs y = rw y.0 (refusal_past ps qs y.1)

-- what was granted is what the questions were about
pub granted_is : {X : Type 0} (qs : List Question) (x y : X) → granted y ≡ answer qs x → y ≡ x
granted_is {X} qs x y h = let e : ◌≡◌ {A = Answer X} (granted y) (granted x) = h ∙ yes_answer qs x (all_yes qs x y h) in cc

-- one question, and it got a no
pub no_fifteen : (b : Bool) (x n : ℕ) (o : Option ℕ) → refused n o ≡ answer (ask 15 b ∷ []) x → b ≡ false
no_fifteen true x n o h = absurd (granted_not_refused x n o (sym h))
no_fifteen false x n o h = refl

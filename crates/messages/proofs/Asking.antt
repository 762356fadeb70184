-- The answer to a list of questions, question by question.
use Rattle.std.proofs.Common.{◌≡◌, ℕ, Bool, true, false, cond, List, [], ◌∷◌, ◌++◌, is_some, IsErrAnd, Some, None, Ok, Err, Option, Result, sym, refl, ap, ◌∙◌, arith}
use Rattle.words.specs.Answers.{Question, answer, ask_fault, told, refusal_number, refusal_place}
use Rattle.words.specs.Answers.Answer.{granted, refused}
use Rattle.words.specs.declared.refusals.Refusal.{Refusal}
use Rattle.messages.proofs.Tagging.{or_else}

-- what a `?` hands on is what was told
pub handed_on : {T X : Type 0} (f : T → X) (r : Result T Refusal) (e : Refusal) → IsErrAnd r (λ y. y ≡ e) → told f r ≡ refused (refusal_number e) (refusal_place e)
handed_on f (Ok x) e h = absurd h
handed_on f (Err y) e h = ap (λ z. refused (refusal_number z) (refusal_place z)) h

-- a question that was passed
pub passes : {X : Type 0} (q : Question) (x y : X) → granted y ≡ answer (q ∷ []) x → q.yes ≡ true
passes q x y e = go q.yes refl e
  where
    go : (b : Bool) → q.yes ≡ b → granted y ≡ answer (q ∷ []) x → q.yes ≡ true
    go true p h = p
    go false p h = let k = rw p at h in let gone : ◌≡◌ {A = ℕ} 0 1 = cc in absurd (omega arith)

pub go_on : {X : Type 0} (q : Question) (qs : List Question) (x : X) → q.yes ≡ true → answer (q ∷ qs) x ≡ answer qs x
go_on q qs x e = ap (λ b. cond b (answer qs x) (refused q.number q.place)) e

-- a no among the first questions is the answer to all
pub stops : {X Y : Type 0} (ps qs : List Question) (x : X) (y : Y) (n : ℕ) (o : Option ℕ) → refused n o ≡ answer ps y → refused n o ≡ answer (ps ++ qs) x
stops [] qs x y n o e = let gone : ◌≡◌ {A = ℕ} 0 1 = cc in absurd (omega arith)
stops (p ∷ ps) qs x y n o e = go p.yes e (stops ps qs x y n o)
  where
    go : (b : Bool) → refused n o ≡ cond b (answer ps y) (refused p.number p.place) → (refused n o ≡ answer ps y → refused n o ≡ answer (ps ++ qs) x)
        → refused n o ≡ cond b (answer (ps ++ qs) x) (refused p.number p.place)
    go true h more = more h
    go false h more = let a : n ≡ p.number = cc in let b : o ≡ p.place = cc in λ i. refused (a i) (b i)

-- ---- a question that tells a fault
pub fault_told : {X : Type 0} (n : ℕ) (x : X) (i : ℕ) (o : Option ℕ) → o ≡ Some i → refused n (Some i) ≡ answer (ask_fault n o ∷ []) x
fault_told n x i o e = ap (λ p. answer (ask_fault n p ∷ []) x) (sym e)

pub no_fault_told : {X : Type 0} (n : ℕ) (x : X) (o : Option ℕ) → o ≡ None → granted x ≡ answer (ask_fault n o ∷ []) x
no_fault_told n x o e = ap (λ p. answer (ask_fault n p ∷ []) x) (sym e)

-- of a question that was passed: no fault, and what was granted
pub no_fault : {X : Type 0} (n : ℕ) (x y : X) (o : Option ℕ) → granted y ≡ answer (ask_fault n o ∷ []) x → (o ≡ None) × (y ≡ x)
no_fault n x y None e = (refl, cc)
no_fault n x y (Some i) e = let gone : ◌≡◌ {A = ℕ} 0 1 = cc in absurd (omega arith)

pub no_fault_from : (o : Option ℕ) → is_some o ≡ false → o ≡ None
no_fault_from None e = refl
no_fault_from (Some i) e = let gone : ◌≡◌ {A = ℕ} 0 1 = cc in absurd (omega arith)

-- the fault that is told is the fault of the whole
pub fault_is : {X Y : Type 0} (n : ℕ) (whole f : Option ℕ) (x : X) (y : Y) (k : ℕ) (o : Option ℕ) → whole ≡ f → refused k o ≡ answer (ask_fault n f ∷ []) y → refused k o ≡ answer (ask_fault n whole ∷ []) x
fault_is n whole None x y k o w e = let gone : ◌≡◌ {A = ℕ} 0 1 = cc in absurd (omega arith)
fault_is n whole (Some i) x y k o w e = let a : k ≡ n = cc in let b : o ≡ Some i = cc in (λ j. refused (a j) (b j)) ∙ fault_told n x i whole w

-- so is the first of two
pub first_fault_is : {X Y : Type 0} (n : ℕ) (whole f g : Option ℕ) (x : X) (y : Y) (k : ℕ) (o : Option ℕ) → whole ≡ or_else f g → refused k o ≡ answer (ask_fault n f ∷ []) y → refused k o ≡ answer (ask_fault n whole ∷ []) x
first_fault_is n whole None g x y k o w e = let gone : ◌≡◌ {A = ℕ} 0 1 = cc in absurd (omega arith)
first_fault_is n whole (Some i) g x y k o w e = fault_is n whole (Some i) x y k o w e

-- where there is no fault, nothing hides what follows
pub past : (f g : Option ℕ) → f ≡ None → or_else f g ≡ g
past f g e = ap (λ h. or_else h g) e

-- where all of the first questions passed, the others decide
pub passed : {X Y : Type 0} (ps qs : List Question) (x y : X) (z : Y) → granted y ≡ answer ps x → (answer (ps ++ qs) z ≡ answer qs z) × (y ≡ x)
passed [] qs x y z e = (refl, cc)
passed (p ∷ ps) qs x y z e = go p.yes e (passed ps qs x y z)
  where
    go : (b : Bool) → granted y ≡ cond b (answer ps x) (refused p.number p.place) → (granted y ≡ answer ps x → (answer (ps ++ qs) z ≡ answer qs z) × (y ≡ x))
        → (cond b (answer (ps ++ qs) z) (refused p.number p.place) ≡ answer qs z) × (y ≡ x)
    go true h more = more h
    go false h more = let gone : ◌≡◌ {A = ℕ} 0 1 = cc in absurd (omega arith)

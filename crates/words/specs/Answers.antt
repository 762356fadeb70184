-- What a call answers: something granted, or a refusal, known by its number and the place that it tells.
use Rattle.std.specs.Prelude.{ℕ, ◌-◌, Bool, true, false, cond, not, List, [], ◌∷◌, ◌++◌, length, is_some, Some, None, Ok, Err, codes, decimal, Option, Result, nat_le, slice_index_or}
use Rattle.words.specs.declared.refusals.Refusal.{Refusal}
use Rattle.words.specs.declared.refusals.Refusal.TheVariants.{TableSize, SiteNumber, Head, Kinds, Length, Word, Stamp, Entry, OtherInsertion, NoSlot, NotInserted, NotStanding, NoFreshCounter, AlreadyStruck, SpaceTooShort, NothingUnsent}
use Rattle.words.specs.declared.refusals.Received.{Received}
use Rattle.words.specs.declared.refusals.Received.TheVariants.{New, Held}

-- ---- the refusals
abbrev pub refusal_number : Refusal → ℕ
refusal_number TableSize = 1
refusal_number SiteNumber = 2
refusal_number Head = 3
refusal_number Kinds = 4
refusal_number Length = 5
refusal_number (Word at) = 6
refusal_number (Stamp at) = 7
refusal_number (Entry at) = 8
refusal_number OtherInsertion = 9
refusal_number NoSlot = 10
refusal_number NotInserted = 11
refusal_number NotStanding = 12
refusal_number NoFreshCounter = 13
refusal_number AlreadyStruck = 14
refusal_number SpaceTooShort = 15
refusal_number NothingUnsent = 16

-- the place of the first word at fault, the head being 0, where the refusal tells one
abbrev pub refusal_place : Refusal → Option ℕ
refusal_place TableSize = None
refusal_place SiteNumber = None
refusal_place Head = None
refusal_place Kinds = None
refusal_place Length = None
refusal_place (Word at) = Some at
refusal_place (Stamp at) = Some at
refusal_place (Entry at) = at
refusal_place OtherInsertion = None
refusal_place NoSlot = None
refusal_place NotInserted = None
refusal_place NotStanding = None
refusal_place NoFreshCounter = None
refusal_place AlreadyStruck = None
refusal_place SpaceTooShort = None
refusal_place NothingUnsent = None

-- ---- answers
pub data Answer (X : Type 0) : Type 0 where
  granted : X → Answer X
  refused : ℕ → Option ℕ → Answer X

-- what a `Result` of the code says, by what its values mean
abbrev pub told : {T X : Type 0} → (T → X) → Result T Refusal → Answer X
told meaning (Ok x) = granted (meaning x)
told meaning (Err e) = refused (refusal_number e) (refusal_place e)

-- A question that a call must pass: its number, the place that a no tells, and the answer.
pub record Question : Type 0 where
  pub number : ℕ
  pub place : Option ℕ
  pub yes : Bool

abbrev pub ask : ℕ → Bool → Question
ask n b = record { number = n; place = None; yes = b }

-- is nothing at fault? A no tells where the fault is
abbrev pub ask_fault : ℕ → Option ℕ → Question
ask_fault n fault = record { number = n; place = fault; yes = not (is_some fault) }

-- the first no is the answer; with none, x is granted
abbrev pub answer : {X : Type 0} → List Question → X → Answer X
answer [] x = granted x
answer (q ∷ qs) x = cond q.yes (answer qs x) (refused q.number q.place)

-- what is told of putting xs at the front of a space
abbrev pub put_answer : {X : Type 0} → List X → List X → Answer ℕ
put_answer xs space = answer (ask 15 (nat_le (length xs) (length space)) ∷ []) (length xs)

-- ---- receiving
-- was the message new, or held already?
abbrev pub is_new : Received → Bool
is_new New = true
is_new Held = false

-- ---- in plain English
-- what each number refuses, from 1 on
abbrev pub meanings : List (List ℕ)
meanings =
    codes "the table does not have 1 to 4096 slots"
    ∷ codes "the site is not a number from 1 to 999"
    ∷ codes "there is no head that names an insertion or a deletion"
    ∷ codes "the kinds of stamp and entry are not those expected"
    ∷ codes "the number of words is not that of the head and the layout"
    ∷ codes "a word has the wrong tag or a value that its tag does not allow"
    ∷ codes "the values of a stamp do not read, or an entry is placed under itself"
    ∷ codes "the values of the entry do not read"
    ∷ codes "another insertion is held under the stamp"
    ∷ codes "no slot is free"
    ∷ codes "the stamp named is not inserted here"
    ∷ codes "the entry named does not stand"
    ∷ codes "the site has no fresh counter left"
    ∷ codes "the entry is struck already"
    ∷ codes "the space is too short"
    ∷ codes "nothing is unsent"
    ∷ []

abbrev pub meaning_of : ℕ → List ℕ
meaning_of n = slice_index_or meanings (n - 1) []

-- "refused 6 at word 2: what is wrong"
abbrev pub refusal_shown : ℕ → Option ℕ → List ℕ
refusal_shown n None = codes "refused " ++ (decimal n ++ (codes ": " ++ meaning_of n))
refusal_shown n (Some at) = codes "refused " ++ (decimal n ++ (codes " at word " ++ (decimal at ++ (codes ": " ++ meaning_of n))))

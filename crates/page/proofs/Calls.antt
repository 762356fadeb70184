-- What a call answers, and what it makes of the ledger, by its questions.
use Rattle.std.proofs.Common.{◌≡◌, ℕ, List, Some, None, Option, sym, ap}
use Rattle.words.specs.Answers.{Question, answer}
use Rattle.words.specs.Answers.Answer.{granted, refused}
use Rattle.ledger.specs.Basics.{refusal}
use Rattle.ledger.specs.Ledger.{Ledger}
use Rattle.ledger.proofs.Histories.{AllYes}
use Rattle.ledger.proofs.Questions.{no_refused, none_refused, yes_answer}
use Rattle.page.specs.Tokens.{granting}

-- a call that grants x, in the form f, and makes after None of the ledger l; a refusal leaves l
module _ {X Y : Type 0} (qs : List Question) (x : X) (f : X → Y) (after : Option ℕ → Ledger) where
  pub denied : (n : ℕ) (o : Option ℕ) → refused n o ≡ answer qs x → after (Some n) ≡ after (refusal qs)
  denied n o e = ap after (sym (no_refused qs x n o e))

  pub allowed : AllYes qs → granted (f x) ≡ granting f (answer qs x)
  allowed y = ap (granting f) (sym (yes_answer qs x y))

  pub made : AllYes qs → after None ≡ after (refusal qs)
  made y = ap after (sym (none_refused qs y))

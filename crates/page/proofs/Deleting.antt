-- An entry that is named, and one that is struck.
use Rattle.std.proofs.Common.{◌≡◌, ℕ, Bool, List, [], ◌∷◌, get_or, set, is_some, Some, Option, sym, ap, ◌∙◌}
use Rattle.words.specs.Answers.{Question, answer, ask}
use Rattle.ledger.specs.Paths.{stands}
use Rattle.messages.specs.declared.model.Message.TheVariants.{Deletion}
use Rattle.messages.specs.declared.model.Operation.TheVariants.{Delete}
use Rattle.ledger.specs.Calls.{added, blank}
use Rattle.ledger.specs.Laws.{mark}
use Rattle.ledger.specs.Ledger.{Row, node_in, node_of, row_of}
use Rattle.slots.specs.Finding.{FirstWith}
use Rattle.slots.specs.Rows.{struck_row}
use Rattle.slots.proofs.Scans.{first_row}
use Rattle.page.proofs.Updating.{anew_set, deleted_anew}

-- is the stamp inserted here, and does it stand?
abbrev pub standing_questions : List Row → List ℕ → List Question
standing_questions rows v = ask 11 (is_some (node_of v rows)) ∷ ask 12 (stands rows v) ∷ []

-- the same, asked of the stamp's row
pub asked : (rows : List Row) (v : List ℕ) (r : Row) (inserted standing : Bool) → row_of v rows ≡ Some r → inserted ≡ is_some r.node → standing ≡ stands rows v → answer {X = Unit {0}} (ask 11 inserted ∷ ask 12 standing ∷ []) tt ≡ answer (standing_questions rows v) tt
asked rows v r inserted standing row a b =
    let is : inserted ≡ is_some (node_of v rows) = a ∙ sym (ap (λ (o : Option Row). is_some (node_in o)) row) in
    λ i. answer (ask 11 (is i) ∷ ask 12 (b i) ∷ []) tt

-- the row of the stamp, struck
pub rows_struck : (rows : List Row) (v : List ℕ) (i : ℕ) → FirstWith v rows (Some i) → set rows i (struck_row (get_or rows i (blank []))) ≡ mark Delete v (added (Deletion v) rows)
rows_struck rows v i f = sym (deleted_anew v rows _ (first_row v rows i (blank []) f.0 f.1 f.2) ∙ anew_set struck_row v rows i (blank []) f.0 f.1 f.2)

use Rattle.std.proofs.Common.{◌≡◌, ℕ, List, [], ◌∷◌, ◌++◌, decimal, sym, ap, ◌∙◌, append_assoc}
use Rattle.entries.specs.Lines.{text}
use Rattle.entries.specs.Registers.{type_letter}
use Rattle.entries.specs.Reading.{entry_type}
use Rattle.entries.specs.declared.lines.Line.{Line}
use Rattle.entries.proofs.registers.RegisterEntry.line.Goals as goal

abbrev text_of : Line → List ℕ
text_of x = text x.bytes x.used

-- eight pieces, one behind the other
pieces : (a b s : List ℕ) (l : ℕ) (x₀ x₁ x₂ x₃ x₄ x₅ x₆ x₇ x₈ : List ℕ) → x₀ ≡ [] → x₁ ≡ x₀ ++ a → x₂ ≡ x₁ ++ 32 ∷ [] → x₃ ≡ x₂ ++ b → x₄ ≡ x₃ ++ 32 ∷ [] → x₅ ≡ x₄ ++ l ∷ [] → x₆ ≡ x₅ ++ 32 ∷ [] → x₇ ≡ x₆ ++ s → x₈ ≡ x₇ ++ 10 ∷ [] → x₈ ≡ a ++ (32 ∷ b ++ (32 ∷ l ∷ 32 ∷ s ++ (10 ∷ [])))
pieces a b s l x₀ x₁ x₂ x₃ x₄ x₅ x₆ x₇ x₈ e₀ e₁ e₂ e₃ e₄ e₅ e₆ e₇ e₈ =
    simp (e₈, e₇, e₆, e₅, e₄, e₃, e₂, e₁, e₀, append_assoc)

pub returns : goal.returns
returns c =
    let x = c.args.self.now in
    let letter = c.letter.ensures ∙ ap type_letter (sym (entry_type x)) in
    pieces (decimal x.number) (decimal c.unwrap_or.result) c.surname.result.now c.letter.result
    (text_of c.new-line.result) (text_of c.push_decimal.new.self) (text_of c.push.new.self) (text_of c.push_decimal-2.new.self) (text_of c.push-2.new.self) (text_of c.push-3.new.self) (text_of c.push-4.new.self) (text_of c.push_all.new.self) (text_of c.push-5.new.self)
    c.new-line.ensures.text c.push_decimal.ensures.text c.push.ensures.text c.push_decimal-2.ensures.text c.push-2.ensures.text c.push-3.ensures.text c.push-4.ensures.text c.push_all.ensures.text c.push-5.ensures.text
    ∙ (λ i. decimal x.number ++ (32 ∷ decimal (c.unwrap_or.ensures i) ++ (32 ∷ letter i ∷ 32 ∷ c.surname.ensures.value i ++ (10 ∷ []))))

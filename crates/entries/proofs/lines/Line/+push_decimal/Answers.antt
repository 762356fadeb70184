use Rattle.std.proofs.Common.{◌≡◌, ℕ, ◌+◌, ◌/◌, ◌%◌, ◌^◌, ◌<◌, ◌≤◌, List, [], ◌∷◌, ◌++◌, length, decimal, sym, ap, ◌∙◌, arith}
use Rattle.std.proofs.lemmas.Fmt.{decimal_digit, decimal_step, length-decimal-le}
use Rattle.std.proofs.lemmas.List.{length_push, append_assoc}
use Rattle.entries.specs.Lines.{text}
use Rattle.entries.proofs.lines.Line.+push_decimal.Goals as goal
use Rattle.entries.proofs.lines.Line.+push_decimal.Goals.{then-n-ge10, else-n-ge10}

-- the last digit adds one to the length
length_step : (n : ℕ) → 10 ≤ n → n < 2 ^ 64 → length (decimal n) ≡ length (decimal (n / 10)) + 1
length_step n h fits = ap length (decimal_step n h fits) ∙ length_push (decimal (n / 10)) (48 + n % 10)

-- the digits before the last are written, and then the last
then_digit : (n : ℕ) (before middle after : List ℕ) → 10 ≤ n → n < 2 ^ 64 → middle ≡ before ++ decimal (n / 10) → after ≡ middle ++ (48 + n % 10) ∷ [] → after ≡ before ++ decimal n
then_digit n before middle after h fits p q =
    q ∙ ap (λ z. z ++ (48 + n % 10) ∷ []) p ∙ append_assoc before (decimal (n / 10)) ((48 + n % 10) ∷ []) ∙ ap (λ z. before ++ z) (sym (decimal_step n h fits))

one_digit : (n : ℕ) (before after : List ℕ) → n < 10 → after ≡ before ++ (48 + n % 10) ∷ [] → after ≡ before ++ decimal n
one_digit n before after h q =
    let s : n % 10 ≡ n = omega arith in
    q ∙ ap (λ m. before ++ (48 + m) ∷ []) s ∙ ap (λ z. before ++ z) (sym (decimal_digit n h))

pub push-requires : goal.push-requires
push-requires t c =
    elim c.if-n-ge10.branch [
      | then-n-ge10 w ↦
          let s = length-decimal-le 9 (c.args.n / 10) (omega arith) (omega arith) (omega arith) in
          omega (arith, ap (λ x. x.used) w.self-is, w.push_decimal.ensures.used.0)
      | else-n-ge10 w ↦ omega (arith, ap (λ x. x.used) w.self-is)
    ]

pub returns : goal.returns
returns t c =
    let before = text c.args.self.now.bytes c.args.self.now.used in
    let middle = text c.if-n-ge10.self.bytes c.if-n-ge10.self.used in
    let short = length-decimal-le 10 c.args.n (omega arith) (omega arith) (omega arith) in
    let after = text c.push.new.self.bytes c.push.new.self.used in
    elim c.if-n-ge10.branch [
      | then-n-ge10 w ↦
          let s = length_step c.args.n w.if-n-ge10.true (omega arith) in
          record {
            used = (omega (arith, ap (λ x. x.used) w.self-is, w.push_decimal.ensures.used.0, c.push.ensures.used), short);
            text = then_digit c.args.n before middle after w.if-n-ge10.true (omega arith) (ap (λ x. text x.bytes x.used) w.self-is ∙ w.push_decimal.ensures.text) c.push.ensures.text;
          }
      | else-n-ge10 w ↦
          let s = ap length (decimal_digit c.args.n w.if-n-ge10.false) in
          record {
            used = (omega (arith, ap (λ x. x.used) w.self-is, c.push.ensures.used), short);
            text = one_digit c.args.n before after w.if-n-ge10.false (c.push.ensures.text ∙ ap (λ x. text x.bytes x.used ++ (48 + c.args.n % 10) ∷ []) w.self-is);
          }
    ]

-- The fields of a head, and of a word.
use Rattle.std.proofs.Common.{◌≡◌, ℕ, ◌/◌, ◌%◌, ◌^◌, ◌<◌, ◌≤◌, sym, ap, ◌∙◌, arith}
use Rattle.std.proofs.lemmas.Nat.{mod_low, shr_high, shr_split}
use Rattle.words.specs.Layout.{tag_of, value_of, word}
use Rattle.messages.specs.InWords.{head_value}

pub tag_back : (t v : ℕ) → v < 2 ^ 28 → tag_of (word t v) ≡ t
tag_back t v h = shr_high t 28 v h

pub value_back : (t v : ℕ) → v < 2 ^ 28 → value_of (word t v) ≡ v
value_back t v h = mod_low t 28 v h

pub word_back : (w t : ℕ) → tag_of w ≡ t → w ≡ word t (value_of w)
word_back w t e = sym (shr_split w 28) ∙ ap (λ k. word k (value_of w)) e

module _ (op sn en k : ℕ) (small : op ≤ 15) (stamps : sn ≤ 255) (entries : en ≤ 255) (count : k ≤ 255) where
  pub head_small : head_value op sn en k < 2 ^ 28
  head_small = omega arith

  pub head_operation : head_value op sn en k / 2 ^ 24 ≡ op
  head_operation = omega arith

  pub head_stamps : head_value op sn en k / 2 ^ 16 % 2 ^ 8 ≡ sn
  head_stamps = omega arith

  pub head_entries : head_value op sn en k / 2 ^ 8 % 2 ^ 8 ≡ en
  head_entries = omega arith

  pub head_count : head_value op sn en k % 2 ^ 8 ≡ k
  head_count = omega arith

-- the fields are all there is
pub head_whole : (v op sn en k : ℕ) → v / 2 ^ 24 ≡ op → v / 2 ^ 16 % 2 ^ 8 ≡ sn → v / 2 ^ 8 % 2 ^ 8 ≡ en → v % 2 ^ 8 ≡ k → v ≡ head_value op sn en k
head_whole v op sn en k a b c d = omega arith

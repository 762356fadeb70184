-- Values compared by way of spaces that they were written into.
use Rattle.std.proofs.Common.{◌≡◌, ℕ, ◌≤◌, Bool, leb, List, ◌++◌, length, take, drop, Decides, sym, ap, ◌∙◌, arith}
use Rattle.std.proofs.lemmas.List.{take_at}
use Rattle.std.proofs.lemmas.Bool.{cond-true, le-leb}
use Rattle.std.proofs.lemmas.Bool.Decides.{same_from_decides}
use Rattle.words.specs.Forms.{same_values}
use Rattle.words.specs.Layout.{put_front}
use Rattle.ledger.proofs.Same.{same_list_true, same_list_refl}

-- what stands at the front of a space that is long enough
pub front_is : (v z : List ℕ) (n : ℕ) → length v ≡ n → n ≤ length z → take n (put_front v z) ≡ v
front_is v z n e h = ap (take n) (cond-true (leb (length v) (length z)) (v ++ drop (length v) z) z (le-leb (length v) (length z) (omega arith))) ∙ take_at v (drop (length v) z) n e

decides_same : (v w : List ℕ) → Decides (same_values v w) (v ≡ w)
decides_same v w = (same_list_true v w, λ e. rw e (same_list_refl w))

-- two values of one length are the same where the spaces that hold them are
pub same_in_spaces : (v w z l r : List ℕ) (n : ℕ) (b : Bool) → length v ≡ n → length w ≡ n → n ≤ length z → l ≡ put_front v z → r ≡ put_front w z → Decides b (l ≡ r) → b ≡ same_values v w
same_in_spaces v w z l r n b ev ew h el er d =
    let e : Decides b (v ≡ w) = (λ t. sym (front_is v z n ev h) ∙ ap (take n) (sym el ∙ d.0 t ∙ er) ∙ front_is w z n ew h, λ s. d.1 (el ∙ ap (λ x. put_front x z) s ∙ sym er)) in
    same_from_decides b (same_values v w) e (decides_same v w)

-- The tests of equal values say true of equal values, and of no others.
use Rattle.std.proofs.Common.{◌≡◌, ℕ, Bool, true, false, eqb, ◌⊎◌, List, [], ◌∷◌, refl, inl, inr}
use Rattle.std.proofs.lemmas.Bool.{eq-eqb, eqb-true, and_parts, both_ways}
use Rattle.words.specs.Forms.{same_values}
use Rattle.ledger.specs.Ledger.{Node, same_side, same_place, same_node, Location}
use Rattle.messages.specs.declared.model.Side.{Side}
use Rattle.messages.specs.declared.model.Side.TheVariants.{Left, Right}
use Rattle.messages.specs.declared.model.Place.TheVariants.{Ground, Under}
use Rattle.ledger.specs.Paths.{Step, same_step}

-- a test is true or false, and its equation goes along
pub true_or_false : (b : Bool) → (b ≡ true) ⊎ (b ≡ false)
true_or_false true = inl refl
true_or_false false = inr refl

pub never : (b : Bool) → b ≡ true → b ≡ false → ⊥
never b t f = both_ways b f t

pub same_list_refl : (xs : List ℕ) → same_values xs xs ≡ true
same_list_refl [] = refl
same_list_refl (x ∷ xs) = rw (eq-eqb x x refl, same_list_refl xs)

pub same_list_true : (xs ys : List ℕ) → same_values xs ys ≡ true → xs ≡ ys
same_list_true [] [] h = refl
same_list_true [] (y ∷ ys) h = cc
same_list_true (x ∷ xs) [] h = cc
same_list_true (x ∷ xs) (y ∷ ys) h =
    let parts = and_parts (eqb x y) (same_values xs ys) h in
    let heads = eqb-true x y parts.0 in
    let tails = same_list_true xs ys parts.1 in
    cc

pub same_list_false : (xs ys : List ℕ) → same_values xs ys ≡ false → xs ≡ ys → ⊥
same_list_false xs ys h e = never (same_values xs ys) (rw e (same_list_refl ys)) h

pub apart_lists : (xs ys : List ℕ) → (xs ≡ ys → ⊥) → same_values xs ys ≡ false
apart_lists xs ys h = elim (true_or_false (same_values xs ys)) [ inl t ↦ absurd (h (same_list_true xs ys t)) | inr f ↦ f ]

pub same_lists_or_not : (xs ys : List ℕ) → (xs ≡ ys) ⊎ (xs ≡ ys → ⊥)
same_lists_or_not xs ys = elim (true_or_false (same_values xs ys)) [ inl t ↦ inl (same_list_true xs ys t) | inr f ↦ inr (same_list_false xs ys f) ]

pub same_side_refl : (d : Side) → same_side d d ≡ true
same_side_refl Left = refl
same_side_refl Right = refl

pub same_side_true : (d e : Side) → same_side d e ≡ true → d ≡ e
same_side_true Left Left h = refl
same_side_true Left Right h = cc
same_side_true Right Left h = cc
same_side_true Right Right h = refl

pub same_step_refl : (a : Step) → same_step a a ≡ true
same_step_refl a = rw (same_side_refl a.side, same_list_refl a.stamp)

pub step_is : (a b : Step) → a.side ≡ b.side → a.stamp ≡ b.stamp → a ≡ b
step_is a b p q = λ i. record { side = p i; stamp = q i }

pub same_step_true : (a b : Step) → same_step a b ≡ true → a ≡ b
same_step_true a b h =
    let parts = and_parts (same_side a.side b.side) (same_values a.stamp b.stamp) h in
    step_is a b (same_side_true a.side b.side parts.0) (same_list_true a.stamp b.stamp parts.1)

pub same_step_false : (a b : Step) → same_step a b ≡ false → a ≡ b → ⊥
same_step_false a b h e = never (same_step a b) (rw e (same_step_refl b)) h

pub apart_steps : (a b : Step) → (a ≡ b → ⊥) → same_step a b ≡ false
apart_steps a b h = elim (true_or_false (same_step a b)) [ inl t ↦ absurd (h (same_step_true a b t)) | inr f ↦ f ]

pub same_steps_or_not : (a b : Step) → (a ≡ b) ⊎ (a ≡ b → ⊥)
same_steps_or_not a b = elim (true_or_false (same_step a b)) [ inl t ↦ inl (same_step_true a b t) | inr f ↦ inr (same_step_false a b f) ]

pub same_place_true : (v w : Location) → same_place v w ≡ true → v ≡ w
same_place_true Ground Ground h = refl
same_place_true Ground (Under e q) h = cc
same_place_true (Under d p) Ground h = cc
same_place_true (Under d p) (Under e q) h =
    let parts = and_parts (same_side d e) (same_values p q) h in
    let sides = same_side_true d e parts.0 in
    let stamps = same_list_true p q parts.1 in
    cc

pub same_node_true : (v w : Node) → same_node v w ≡ true → v ≡ w
same_node_true v w h =
    let parts = and_parts (same_place v.place w.place) (same_values v.entry w.entry) h in
    let places = same_place_true v.place w.place parts.0 in
    let entries = same_list_true v.entry w.entry parts.1 in
    λ i. record { place = places i; entry = entries i }

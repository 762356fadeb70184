-- The members of a list, lists without a repeated member, and the count of members.
use Rattle.std.proofs.Common.{◌≡◌, ℕ, zero, suc, ◌<◌, ◌≤◌, Bool, true, cond, ◌⊎◌, List, [], ◌∷◌, ◌++◌, map, length, get_or, sym, refl, ap, ◌∙◌, inl, inr, arith}
use Rattle.ledger.proofs.Same.{true_or_false}

abbrev pub In : {A : Type 0} → A → List A → Type 0
In x [] = ⊥
In x (y ∷ ys) = (y ≡ x) ⊎ In x ys

abbrev pub Distinct : {A : Type 0} → List A → Type 0
Distinct [] = Unit {0}
Distinct (x ∷ xs) = (In x xs → ⊥) × Distinct xs

module _ {A : Type 0} where
  pub in_is : (x y : A) (xs : List A) → x ≡ y → In x xs → In y xs
  in_is x y xs e h = rw e at h

  pub in_left : (x : A) (xs ys : List A) → In x xs → In x (xs ++ ys)
  in_left x (y ∷ xs) ys (inl e) = inl e
  in_left x (y ∷ xs) ys (inr h) = inr (in_left x xs ys h)
  in_left x [] ys h = elim h [ ]

  pub in_right : (x : A) (xs ys : List A) → In x ys → In x (xs ++ ys)
  in_right x [] ys h = h
  in_right x (y ∷ xs) ys h = inr (in_right x xs ys h)

  pub in_append : (x : A) (xs ys : List A) → In x (xs ++ ys) → In x xs ⊎ In x ys
  in_append x [] ys h = inr h
  in_append x (y ∷ xs) ys (inl e) = inl (inl e)
  in_append x (y ∷ xs) ys (inr h) = elim (in_append x xs ys h) [ inl l ↦ inl (inr l) | inr r ↦ inr r ]

  pub in_last : (x : A) (xs : List A) → In x (xs ++ (x ∷ []))
  in_last x xs = in_right x xs (x ∷ []) (inl refl)

  -- a member has a front and a rest
  pub in_parts : (x : A) (xs : List A) → In x xs → (front : List A) × (rest : List A) × (xs ≡ front ++ (x ∷ rest))
  in_parts x [] h = elim h [ ]
  in_parts x (y ∷ xs) (inl e) = ([], xs, rw e)
  in_parts x (y ∷ xs) (inr h) = let p = in_parts x xs h in (y ∷ p.0, p.1, ap (λ l. y ∷ l) p.2)

  pub distinct_push : (x : A) (xs : List A) → Distinct xs → (In x xs → ⊥) → Distinct (xs ++ (x ∷ []))
  distinct_push x [] d n = (λ h. h, tt)
  distinct_push x (y ∷ xs) d n = (λ h. elim (in_append y xs (x ∷ []) h) [ inl l ↦ d.0 l | inr r ↦ elim r [ inl e ↦ n (inl (sym e)) | inr None ↦ None ] ], distinct_push x xs d.1 (λ h. n (inr h)))

  -- what is left when a member is taken out
  pub without : (x : A) (ys : List A) → In x ys → List A
  without x [] h = elim h [ ]
  without x (y ∷ ys) (inl e) = ys
  without x (y ∷ ys) (inr h) = y ∷ without x ys h

  length_without : (x : A) (ys : List A) (h : In x ys) → suc (length (without x ys h)) ≡ length ys
  unfolding without
  length_without x [] h = elim h [ ]
  length_without x (y ∷ ys) (inl e) = refl
  length_without x (y ∷ ys) (inr h) = ap suc (length_without x ys h)

  in_without : (x z : A) (ys : List A) (h : In x ys) → In z ys → (x ≡ z → ⊥) → In z (without x ys h)
  unfolding without
  in_without x z [] h g n = elim h [ ]
  in_without x z (y ∷ ys) (inl e) (inl f) n = absurd (n (sym e ∙ f))
  in_without x z (y ∷ ys) (inl e) (inr g) n = g
  in_without x z (y ∷ ys) (inr h) (inl f) n = inl f
  in_without x z (y ∷ ys) (inr h) (inr g) n = inr (in_without x z ys h g n)

  -- a list without repetition is no longer than one that has its members
  pub pigeonhole : (xs ys : List A) → Distinct xs → ((x : A) → In x xs → In x ys) → length xs ≤ length ys
  pigeonhole [] ys d h = omega arith
  pigeonhole (x ∷ xs) ys d h =
      let here : In x ys = h x (inl refl) in
      let more : length xs ≤ length (without x ys here) = pigeonhole xs (without x ys here) d.1 (λ z g. in_without x z ys here (h z (inr g)) (λ e. d.0 (in_is z x xs (sym e) g))) in
      let same = length_without x ys here in
      omega arith

  -- by places
  pub in_get_or : (xs : List A) (i : ℕ) (d : A) → i < length xs → In (get_or xs i d) xs
  in_get_or [] i d h = omega arith
  in_get_or (x ∷ xs) zero d h = inl refl
  in_get_or (x ∷ xs) (suc i) d h = inr (in_get_or xs i d (omega arith))

  pub place_of : (x : A) (xs : List A) (d : A) → In x xs → (i : ℕ) × (i < length xs) × (get_or xs i d ≡ x)
  place_of x [] d h = elim h [ ]
  place_of x (y ∷ xs) d (inl e) = (0, omega arith, e)
  place_of x (y ∷ xs) d (inr h) = let p = place_of x xs d h in (suc p.0, omega (arith, p.1), p.2)

-- the members that a function gives
pub in_map : {A B : Type 0} (f : A → B) (x : A) (xs : List A) → In x xs → In (f x) (map f xs)
in_map f x [] h = elim h [ ]
in_map f x (y ∷ xs) (inl e) = inl (ap f e)
in_map f x (y ∷ xs) (inr h) = inr (in_map f x xs h)

pub from_map : {A B : Type 0} (f : A → B) (z : B) (xs : List A) → In z (map f xs) → (x : A) × (In x xs) × (f x ≡ z)
from_map f z [] h = elim h [ ]
from_map f z (y ∷ xs) (inl e) = (y, inl refl, e)
from_map f z (y ∷ xs) (inr h) = let p = from_map f z xs h in (p.0, inr p.1, p.2)

-- the members that pass a test
abbrev pub passing : {A : Type 0} → (A → Bool) → List A → List A
passing test [] = []
passing test (x ∷ xs) = cond (test x) (x ∷ passing test xs) (passing test xs)

module _ {A : Type 0} (test : A → Bool) where
  pub in_passing : (x : A) (xs : List A) → In x xs → test x ≡ true → In x (passing test xs)
  in_passing x [] h t = elim h [ ]
  in_passing x (y ∷ xs) (inl e) t = rw (e, t) (inl refl)
  in_passing x (y ∷ xs) (inr h) t = elim (true_or_false (test y)) [ inl u ↦ rw u (inr (in_passing x xs h t)) | inr u ↦ rw u (in_passing x xs h t) ]

  pub from_passing : (x : A) (xs : List A) → In x (passing test xs) → In x xs × (test x ≡ true)
  from_passing x [] h = elim h [ ]
  from_passing x (y ∷ xs) h = elim (true_or_false (test y)) [
    | inl u ↦ elim (rw u at h) [ inl e ↦ (inl e, rw (← e) u) | inr g ↦ (inr (from_passing x xs g).0, (from_passing x xs g).1) ]
    | inr u ↦ let g : In x (passing test xs) = rw u at h in (inr (from_passing x xs g).0, (from_passing x xs g).1)
  ]

  pub distinct_passing : (xs : List A) → Distinct xs → Distinct (passing test xs)
  distinct_passing [] d = tt
  distinct_passing (x ∷ xs) d = elim (true_or_false (test x)) [
    | inl u ↦ rw u (λ h. d.0 (from_passing x xs h).0, distinct_passing xs d.1)
    | inr u ↦ rw u (distinct_passing xs d.1)
  ]

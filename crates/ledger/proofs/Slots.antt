-- A new entry at the place that the walk finds stands right after the named one, or at the top.
use Rattle.std.proofs.Common.{◌≡◌, ℕ, Bool, true, ◌⊎◌, List, [], ◌∷◌, ◌++◌, None, sym, refl, ap, inl, inr, append_assoc}
use Rattle.ledger.specs.Kinds.{Stamps, Ordered}
use Rattle.ledger.specs.Ledger.{Row, Location}
use Rattle.messages.specs.declared.model.Side.TheVariants.{Left, Right}
use Rattle.messages.specs.declared.model.Place.TheVariants.{Ground, Under}
use Rattle.ledger.specs.Laws.{NoneWaitsFor}
use Rattle.ledger.specs.Paths.{Step, PathOf, before}
use Rattle.ledger.specs.Paths.PathOf.{top, below}
use Rattle.ledger.specs.Walk.{NoChild, AfterPlace, TopPlace, StampsRead, Slot, TakesIn, NewRightAfter, NewStands}
use Rattle.ledger.specs.Walk.Starts.{at, nowhere}
use Rattle.ledger.specs.Walk.AfterPlace.{its_right, beside}
use Rattle.ledger.specs.Walk.TopPlace.{on_ground, beside_first}
use Rattle.ledger.specs.Walk.Slot.{free, taken}
use Rattle.ledger.proofs.Same.{true_or_false, never}
use Rattle.ledger.specs.Theorems.{AllRead}
use Rattle.ledger.proofs.Order.{all_read_append, before_asymmetric, before_connected}
use Rattle.ledger.proofs.Prefix.{Past, RightBelow, past_before, past_more, before_cases, left_step, right_step, left_still_before}
use Rattle.ledger.proofs.Prefix.RightBelow.{right_below}
use Rattle.ledger.proofs.Trails.{At, child_on_way, one_path, one_stamp}
use Rattle.ledger.proofs.Trails.At.{at_ground, at_under}
use Rattle.ledger.proofs.Walk.{step, FirstAt, first_from, from_ground}
use Rattle.ledger.proofs.Newly.{added_takes, path_kept, path_new, new_or_old}

-- ---- the law, from a slot
module _ (earlier : List ℕ → List ℕ → Bool) (rows : List Row) (more : List Row) (s e : List ℕ) (unnamed : NoneWaitsFor rows s) where
  slot_free : {p : List Step} {pl : Location} → TakesIn rows more s (record { place = pl; entry = e }) → At rows pl p Right → ((z t : List ℕ) (r : List Step) → PathOf rows z (p ++ (step Right t ∷ r)) → ⊥) → NewRightAfter rows more earlier p s
  slot_free {p} {pl} takes a nothing = record {
    steps = p ++ (step Right s ∷ []);
    path = path_new rows more s (record { place = pl; entry = e }) takes a;
    after = right_step earlier p [] s;
    next = λ z q h b. go z h (before_cases earlier p q b);
    kept = λ z q h. path_kept rows more s (record { place = pl; entry = e }) takes h;
    only = new_or_old rows more s (record { place = pl; entry = e }) takes unnamed;
  }
    where
      no_right : {q : List Step} (z : List ℕ) → PathOf rows z q → RightBelow p q → ⊥
      no_right z h (right_below t r) = nothing z t r h

      go : {q : List Step} (z : List ℕ) → PathOf rows z q → Past earlier p q ⊎ RightBelow p q → before earlier (p ++ (step Right s ∷ [])) q ≡ true
      go {q} z h (inl b) = past_before earlier (p ++ (step Right s ∷ [])) q (past_more earlier p q (step Right s ∷ []) b)
      go z h (inr b) = absurd (no_right z h b)

  slot_taken : (p : List Step) (m t : List ℕ) (r : List Step) → TakesIn rows more s (record { place = Under Left m; entry = e }) → PathOf rows m (p ++ (step Right t ∷ r))
      → ((z u : List ℕ) (v : List Step) → PathOf rows z (p ++ (step Right u ∷ v)) → (z ≡ m) ⊎ (before earlier (p ++ (step Right t ∷ r)) (p ++ (step Right u ∷ v)) ≡ true))
      → NewRightAfter rows more earlier p s
  slot_taken p m t r takes hm least = record {
    steps = (p ++ (step Right t ∷ r)) ++ (step Left s ∷ []);
    path = path_new rows more s (record { place = Under Left m; entry = e }) takes (at_under m (p ++ (step Right t ∷ r)) Left hm);
    after = rw (append_assoc p (step Right t ∷ r) (step Left s ∷ [])) (right_step earlier p (r ++ (step Left s ∷ [])) t);
    next = λ z q h b. go z h (before_cases earlier p q b);
    kept = λ z q h. path_kept rows more s (record { place = Under Left m; entry = e }) takes h;
    only = new_or_old rows more s (record { place = Under Left m; entry = e }) takes unnamed;
  }
    where
      pm : List Step
      pm = p ++ (step Right t ∷ r)

      at_right : {q : List Step} (z : List ℕ) → PathOf rows z q → (z ≡ m) ⊎ (before earlier pm q ≡ true) → before earlier (pm ++ (step Left s ∷ [])) q ≡ true
      at_right {q} z h (inl i) = let is : q ≡ pm = one_path h hm i in rw is (left_step earlier pm [] s)
      at_right {q} z h (inr b) = left_still_before earlier pm q [] s b

      beyond : {q : List Step} (z : List ℕ) → PathOf rows z q → RightBelow p q → before earlier (pm ++ (step Left s ∷ [])) q ≡ true
      beyond z h (right_below u v) = at_right z h (least z u v h)

      go : {q : List Step} (z : List ℕ) → PathOf rows z q → Past earlier p q ⊎ RightBelow p q → before earlier (pm ++ (step Left s ∷ [])) q ≡ true
      go {q} z h (inl b) = past_before earlier (pm ++ (step Left s ∷ [])) q (past_more earlier pm q (step Left s ∷ []) (past_more earlier p q (step Right t ∷ r) b))
      go z h (inr b) = beyond z h b

  pub slot_law : {p : List Step} {otherwise pl : Location} → TakesIn rows more s (record { place = pl; entry = e }) → At rows otherwise p Right → Slot rows earlier p otherwise pl → NewRightAfter rows more earlier p s
  slot_law takes a (free nothing) = slot_free takes a nothing
  slot_law {p} takes a (taken m t r hm least) = slot_taken p m t r takes hm least

module _ (k : Stamps) (o : Ordered k) (rows : List Row) (held : StampsRead k.form.reads rows) where
  pub path_reads : {s : List ℕ} {p : List Step} → PathOf rows s p → AllRead k p
  path_reads (top s e h) = (held s (record { place = Ground; entry = e }) h, tt)
  path_reads (below s e p d steps h g) = all_read_append k steps (step d s ∷ []) (path_reads g) (held s (record { place = Under d p; entry = e }) h, tt)

  -- ---- the walk finds the slot
  slot_first : {p : List Step} {otherwise : Location} {m : List ℕ} → FirstAt rows k.kind.earlier p Right None m → Slot rows k.kind.earlier p otherwise (Under Left m)
  slot_first {m} f = taken m f.child f.tail f.path (λ z u v h. f.least z u v refl h)

  slot_none : {p : List Step} {pl : Location} → At rows pl p Right → NoChild rows k.kind.earlier pl None → Slot rows k.kind.earlier p pl pl
  slot_none a nc = free (λ z t r h. nc t (child_on_way a t r h) refl)

  pub after_slot : {n : List ℕ} {pn : List Step} {pl : Location} → PathOf rows n pn → AfterPlace rows k.kind.earlier n pl → Slot rows k.kind.earlier pn (Under Right n) pl
  after_slot {n} {pn} hn (its_right nc) = slot_none (at_under n pn Right hn) nc
  after_slot {n} {pn} hn (beside c m lc lm) = slot_first (first_from k o rows held (at_under n pn Right hn) lc lm)

  pub top_slot : {pl : Location} → TopPlace rows k.kind.earlier pl → Slot rows k.kind.earlier [] Ground pl
  top_slot (on_ground (nowhere nc)) = slot_none at_ground nc
  top_slot (beside_first y (at c m lc lm)) = slot_first (first_from k o rows held at_ground lc lm)

  -- ---- a slot is one place
  pub slot_one : {p : List Step} {otherwise pl pm : Location} → Slot rows k.kind.earlier p otherwise pl → Slot rows k.kind.earlier p otherwise pm → pl ≡ pm
  slot_one (free nothing) (free nothing') = refl
  slot_one (free nothing) (taken m t r hm least) = absurd (nothing m t r hm)
  slot_one (taken m t r hm least) (free nothing) = absurd (nothing m t r hm)
  slot_one {p} (taken m t r hm least) (taken n u v hn least') = ap (Under Left) (elim (least n u v hn) [
    | inl i ↦ sym i
    | inr b ↦ elim (least' m t r hm) [
      | inl i ↦ i
      | inr c ↦ absurd (never (before k.kind.earlier (p ++ (step Right u ∷ v)) (p ++ (step Right t ∷ r))) c (before_asymmetric k o (p ++ (step Right t ∷ r)) (p ++ (step Right u ∷ v)) (path_reads hm) (path_reads hn) b))
    ]
  ])

  -- ---- the law
  pub sides_of : {n : List ℕ} {pn : List Step} {more : List Row} {s : List ℕ} → PathOf rows n pn → (f : NewRightAfter rows more k.kind.earlier pn s) → (z : List ℕ) (q : List Step) → PathOf rows z q → (z ≡ n) ⊎ ((before k.kind.earlier q pn ≡ true) ⊎ (before k.kind.earlier f.steps q ≡ true))
  sides_of {n} {pn} hn f z q h = elim (true_or_false (before k.kind.earlier pn q)) [
    | inl b ↦ inr (inr (f.next z q h b))
    | inr b ↦ elim (true_or_false (before k.kind.earlier q pn)) [
      | inl c ↦ inr (inl c)
      | inr c ↦ inl (one_stamp h hn (before_connected k o q pn (path_reads h) (path_reads hn) c b))
    ]
  ]

  pub after_ground : (z : List ℕ) (q : List Step) → PathOf rows z q → before k.kind.earlier [] q ≡ true
  after_ground z q h = go (from_ground k o rows held z q h)
    where
      go : {q : List Step} → RightBelow [] q → before k.kind.earlier [] q ≡ true
      go (right_below t r) = refl

  pub new_stands : (s e : List ℕ) → NoneWaitsFor rows s → NewStands k rows s e
  new_stands s e unnamed = record {
    after = λ n pn pl more hn a takes. let f = slot_law k.kind.earlier rows more s e unnamed takes (at_under n pn Right hn) (after_slot hn a) in record { new = f; sides = sides_of hn f };
    at_top = λ pl more a takes. let f = slot_law k.kind.earlier rows more s e unnamed takes at_ground (top_slot a) in record { new = f; first = λ z q h. f.next z q h (after_ground z q h) };
    adds = λ w new. added_takes rows s w new;
  }

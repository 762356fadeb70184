-- A search through the rows for the least child at a place: what it has found so far, and what it has found at the end.
use Rattle.std.proofs.Common.{◌≡◌, ℕ, Bool, true, false, List, [], ◌∷◌, ◌++◌, Some, None, Option, refl, ◌∙◌, subst, inl, inr}
use Rattle.ledger.specs.Kinds.{Stamps, Ordered}
use Rattle.ledger.specs.Ledger.{Row, Location, Apart}
use Rattle.ledger.specs.Walk.{ChildAt, later, LeastChild, NoChild}
use Rattle.ledger.proofs.Same.{true_or_false, never}
use Rattle.ledger.proofs.Members.{In, in_append, in_left, in_right}
use Rattle.ledger.proofs.Rows.{row_at, row_found, node_found, node_here}

-- the row's insertion hangs at the place, and its stamp is later than the bound
pub record Fits (earlier : List ℕ → List ℕ → Bool) (pl : Location) (lower : Option (List ℕ)) (r : Row) : Type 0 where
  pub entry : List ℕ
  pub is : r.node ≡ Some (record { place = pl; entry = entry })
  pub is_later : later earlier lower r.stamp ≡ true

pub record BestIs (earlier : List ℕ → List ℕ → Bool) (pl : Location) (lower : Option (List ℕ)) (seen : List Row) (c : List ℕ) : Type 0 where
  pub row : Row
  pub inside : In row seen
  pub fits : Fits earlier pl lower row
  pub stamp_is : row.stamp ≡ c
  pub least : (r : Row) → In r seen → Fits earlier pl lower r → earlier r.stamp c ≡ false

-- the best of the rows seen
abbrev pub Best : (List ℕ → List ℕ → Bool) → Location → Option (List ℕ) → List Row → Option (List ℕ) → Type 0
Best earlier pl lower seen None = (r : Row) → In r seen → Fits earlier pl lower r → ⊥
Best earlier pl lower seen (Some c) = BestIs earlier pl lower seen c

module _ (k : Stamps) (o : Ordered k) (pl : Location) (lower : Option (List ℕ)) where
  pub best_none : Best k.kind.earlier pl lower [] None
  best_none = λ r i f. i

  -- the next row does not fit
  pub best_skip : (seen : List Row) (r : Row) (b : Option (List ℕ)) → Best k.kind.earlier pl lower seen b → (Fits k.kind.earlier pl lower r → ⊥) → Best k.kind.earlier pl lower (seen ++ (r ∷ [])) b
  best_skip seen r None b n = λ q i f. elim (in_append q seen (r ∷ []) i) [ inl j ↦ b q j f | inr j ↦ elim j [ inl e ↦ n (rw e f) | inr l ↦ l ] ]
  best_skip seen r (Some c) b n = record {
    row = b.row;
    inside = in_left b.row seen (r ∷ []) b.inside;
    fits = b.fits;
    stamp_is = b.stamp_is;
    least = λ q i f. elim (in_append q seen (r ∷ []) i) [ inl j ↦ b.least q j f | inr j ↦ elim j [ inl e ↦ absurd (n (rw e f)) | inr l ↦ absurd l ] ];
  }

  -- it is the first that fits
  pub best_first : (seen : List Row) (r : Row) → Best k.kind.earlier pl lower seen None → Fits k.kind.earlier pl lower r → k.form.reads r.stamp ≡ true → Best k.kind.earlier pl lower (seen ++ (r ∷ [])) (Some r.stamp)
  best_first seen r b f reads = record {
    row = r;
    inside = in_right r seen (r ∷ []) (inl refl);
    fits = f;
    stamp_is = refl;
    least = λ q i g. elim (in_append q seen (r ∷ []) i) [ inl j ↦ absurd (b q j g) | inr j ↦ elim j [ inl e ↦ subst (λ (x : Row). k.kind.earlier x.stamp r.stamp ≡ false) e (o.irreflexive r.stamp reads) | inr l ↦ absurd l ] ];
  }

  -- it fits, and is no better
  pub best_keeps : (seen : List Row) (r : Row) (c : List ℕ) → Best k.kind.earlier pl lower seen (Some c) → k.kind.earlier r.stamp c ≡ false → Best k.kind.earlier pl lower (seen ++ (r ∷ [])) (Some c)
  best_keeps seen r c b n = record {
    row = b.row;
    inside = in_left b.row seen (r ∷ []) b.inside;
    fits = b.fits;
    stamp_is = b.stamp_is;
    least = λ q i f. elim (in_append q seen (r ∷ []) i) [ inl j ↦ b.least q j f | inr j ↦ elim j [ inl e ↦ subst (λ (x : Row). k.kind.earlier x.stamp c ≡ false) e n | inr l ↦ absurd l ] ];
  }

  -- it fits, and is better
  pub best_better : (seen : List Row) (r : Row) (c : List ℕ) → ((q : Row) → In q seen → k.form.reads q.stamp ≡ true) → k.form.reads r.stamp ≡ true → Best k.kind.earlier pl lower seen (Some c) → Fits k.kind.earlier pl lower r → k.kind.earlier r.stamp c ≡ true → Best k.kind.earlier pl lower (seen ++ (r ∷ [])) (Some r.stamp)
  best_better seen r c reads_seen reads b f e = record {
    row = r;
    inside = in_right r seen (r ∷ []) (inl refl);
    fits = f;
    stamp_is = refl;
    least = λ q i g. elim (in_append q seen (r ∷ []) i) [ inl j ↦ over q j g | inr j ↦ elim j [ inl h ↦ subst (λ (x : Row). k.kind.earlier x.stamp r.stamp ≡ false) h (o.irreflexive r.stamp reads) | inr l ↦ absurd l ] ];
  }
    where
      reads_c : k.form.reads c ≡ true
      reads_c = subst (λ (x : List ℕ). k.form.reads x ≡ true) b.stamp_is (reads_seen b.row b.inside)

      over : (q : Row) → In q seen → Fits k.kind.earlier pl lower q → k.kind.earlier q.stamp r.stamp ≡ false
      over q j g = elim (true_or_false (k.kind.earlier q.stamp r.stamp)) [
        | inl h ↦ absurd (never (k.kind.earlier q.stamp c) (o.transitive q.stamp r.stamp c (reads_seen q j) reads reads_c h e) (b.least q j g))
        | inr h ↦ h
      ]

  -- ---- all rows seen
  row_fits : (rows : List Row) (t : List ℕ) → ChildAt rows pl t → later k.kind.earlier lower t ≡ true → (r : Row) × In r rows × Fits k.kind.earlier pl lower r × (r.stamp ≡ t)
  row_fits rows t ch l =
      let f = node_found t rows (record { place = pl; entry = ch.entry }) ch.is in
      let g = row_found t rows f.0 f.1 in
      (f.0, g.0, record { entry = ch.entry; is = f.2; is_later = rw g.1 l }, g.1)

  pub best_nothing : (rows : List Row) → Best k.kind.earlier pl lower rows None → NoChild rows k.kind.earlier pl lower
  best_nothing rows b = λ t ch l. let f = row_fits rows t ch l in b f.0 f.1 f.2

  pub best_least : (rows : List Row) (c : List ℕ) → Apart rows → Best k.kind.earlier pl lower rows (Some c) → LeastChild rows k.kind.earlier pl lower c
  best_least rows c apart b = record {
    child = subst (ChildAt rows pl) b.stamp_is (record { entry = b.fits.entry; is = node_here b.row.stamp rows b.row (row_at rows apart b.row b.inside) ∙ b.fits.is });
    is_later = subst (λ (x : List ℕ). later k.kind.earlier lower x ≡ true) b.stamp_is b.fits.is_later;
    least = λ t ch l. let f = row_fits rows t ch l in subst (λ (x : List ℕ). k.kind.earlier x c ≡ false) f.3 (b.least f.0 f.1 f.2);
  }

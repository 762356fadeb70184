use Rattle.std.proofs.Common.{◌≡◌, ℕ, List, ◌++◌, length, take, drop, replicate, Some, sym, ap, ◌∙◌, rules}
use Rattle.std.proofs.lemmas.Bool.{cond-true}
use Rattle.std.proofs.lemmas.List.{drop-replicate}
use Rattle.entries.specs.Surnames.{padded, is_surname}
use Rattle.entries.specs.Fitting.{fits_parts, take_padded}
use Rattle.entries.proofs.registers.surnames.Surname.new.Goals as goal

-- a surname over the front of 24 zeros
over_zeros : (part s : List ℕ) → part ≡ s → part ++ drop (length s) (replicate 24 0) ≡ padded s
over_zeros part s e = (λ i. e i ++ drop (length s) (replicate 24 0)) ∙ ap (λ z. s ++ z) (drop-replicate (length s) 24 0)

pub invariant_of-result : goal.invariant_of-result
invariant_of-result c =
    let s = c.args.surname.now in
    let fits = sym c.fits.ensures ∙ c.if-not-fits.false in
    let laid = over_zeros c.copy_from_slice.new.self s (search rules) in
    ((fits_parts s fits).0, laid ∙ ap padded (sym (ap (take (length s)) laid ∙ take_padded s)))

pub returns : goal.returns
returns c =
    let s = c.args.surname.now in
    let fits = sym c.fits.ensures ∙ c.if-not-fits.false in
    let laid = over_zeros c.copy_from_slice.new.self s (search rules) in
    ap Some (ap (take (length s)) laid ∙ take_padded s) ∙ sym (cond-true (is_surname s) _ _ fits)

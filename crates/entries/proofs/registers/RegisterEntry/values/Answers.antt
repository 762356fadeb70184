use Rattle.std.proofs.Common.{◌+◌, ◌*◌, ◌∷◌, length, get_or, refl, sym, ap, ◌∙◌}
use Rattle.std.proofs.lemmas.List.FromFn.{fill_by_all}
use Rattle.entries.specs.Fitting.{fits_parts, length_padded}
use Rattle.entries.specs.Surnames.{padded}
use Rattle.entries.specs.Packing.{length_packed}
use Rattle.entries.proofs.registers.RegisterEntry.values.Goals as goal

pub returns : goal.returns
returns c =
    let x = c.args.self.now in
    let vs = c.packed.result in
    let eight = fill_by_all (λ k. get_or vs k 0) vs 8 0 (ap length c.packed.ensures ∙ length_packed 8 (padded x.surname) (length_padded x.surname (fits_parts x.surname x.named).0)) (λ k h. refl) in
    let kind = c.from-kind.ensures ∙ c.from.ensures in
    λ i. x.number ∷ c.unwrap_or.ensures i ∷ (kind i * 256 + length (c.as_bytes.ensures.value i)) ∷ (sym eight ∙ c.packed.ensures) i

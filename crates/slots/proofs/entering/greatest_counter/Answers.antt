use Rattle.std.proofs.Common.{rules, ap, ◌∙◌}
use Rattle.std.proofs.lemmas.Iterator.{YieldsList-from_map_by, YieldsList-from_slice}
use Rattle.std.proofs.lemmas.Iterator.Consumers.{YieldsList-from_filter, max_from_yields_List}
use Rattle.std.specs.Option.{unwrap_or}
use Rattle.slots.specs.Finding.{stamps_of}
use Rattle.slots.proofs.Counters.{greatest_is, of_site}
use Rattle.slots.proofs.entering.greatest_counter.Goals as goal

pub returns : goal.returns
returns g c =
    let vs = g.S.WordForm.values in
    let es = g.E.WordForm.values in
    let k = stamps_of g.S.WordForm.form g.S.Stamp.kind in
    let site = c.args.site in
    let xs = c.args.slots.now in
    let is =
    max_from_yields_List _ c.max.result c.max.ensures.ran
    (YieldsList-from_map_by _ (λ n. n.number) (λ x. k.kind.counter (vs x.stamp)) (YieldsList-from_filter _ (of_site vs es k site) (YieldsList-from_slice xs cc) (ap (λ i. i.p) c.map.ensures.source ∙ c.filter.ensures.closure) (λ x b q h. search rules)) c.map.ensures.closure (λ x r q h. search rules)) in
    record { value = ap (λ o. unwrap_or o 0) is ∙ greatest_is vs es k site xs }

use Rattle.std.proofs.Common.{◌≡◌, length, is_ok, rules, tests, arith}
use Rattle.std.proofs.lemmas.Iterator.{YieldsList-from_slice}
use Rattle.std.proofs.lemmas.Iterator.Consumers.{YieldsList-from_filter, count_from_yields_List}
use Rattle.std.specs.List.{filter}
use Rattle.messages.specs.Model.{said}
use Rattle.inspection.proofs.Counting.{messages_counted, refusals_counted}
use Rattle.inspection.proofs.reports.Counts.of.Goals as goal

pub returns : goal.returns
returns g c =
    let meaning = said g.S.WordForm.values g.E.WordForm.values in
    let xs = c.args.found.now in
    let counted : c.count-messages.result ≡ length (filter is_ok xs) = count_from_yields_List c.filter.result _ c.count-messages.ensures.ran (YieldsList-from_filter _ is_ok (YieldsList-from_slice xs (cc)) c.filter.ensures.closure (λ x r q k. search (rules, tests))) in
    let others = refusals_counted meaning xs in
    record {
      messages = omega (arith, messages_counted meaning xs);
      refusals = omega arith;
    }

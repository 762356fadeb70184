use Rattle.std.proofs.Common.{rules, None, refl, sym, subst}
use Rattle.std.proofs.lemmas.Iterator.{YieldsList-from_slice}
use Rattle.std.proofs.lemmas.Iterator.Consumers.{YieldsList-from_filter}
use Rattle.std.specs.Option.{option_map}
use Rattle.messages.specs.Model.{place_said}
use Rattle.slots.specs.Finding.{LeastIs, stamps_of}
use Rattle.slots.specs.Rows.{rows_in}
use Rattle.slots.proofs.Leasts.{ComesTo, comes_on, fits, folded, least_is, ordered}
use Rattle.slots.proofs.walking.least_child.Goals as goal

pub returns : goal.returns
returns g c = λ apart.
    let vs = g.S.WordForm.values in
    let es = g.E.WordForm.values in
    let k = stamps_of g.S.WordForm.form g.S.Stamp.kind in
    let o = ordered g.S.WordForm.form g.S.Stamp.kind g.met.S.Stamp.connected g.met.S.Stamp.irreflexive g.met.S.Stamp.transitive in
    let law = g.met.S.WordForm.written_reads in
    let pl = place_said vs c.args.place in
    let lower = option_map vs c.args.after in
    let xs = c.args.slots.now in
    let e = k.kind.earlier in
    let is =
    folded _ (ComesTo vs es k o law pl lower) None c.fold.result c.fold.ensures.ran
    (YieldsList-from_filter _ (fits vs es k o law pl lower) (YieldsList-from_slice xs cc) c.filter.ensures.closure (λ x b q h. search rules))
    refl
    (λ ys b x n q h d. (comes_on vs es k o law pl lower ys b x.now n h (search rules), search rules)) in
    subst (LeastIs (rows_in vs es xs) e pl lower) (sym is) (least_is vs es k o law pl lower xs apart)

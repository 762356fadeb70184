use Rattle.std.proofs.Common.{sym, ap, ◌∙◌, subst}
use Rattle.std.proofs.lemmas.List.{append_assoc}
use Rattle.messages.specs.InWords.{body, place_words, tagged}
use Rattle.messages.specs.Model.{place_said, said}
use Rattle.messages.specs.Writing.{Put}
use Rattle.messages.specs.declared.model.Tag.TheVariants.{OwnStamp, EntryValue}
use Rattle.messages.proofs.Putting.{put_then}
use Rattle.messages.proofs.model.Message.put_body.Goals as goal

pub returns-in-Insertion : goal.returns-in-Insertion
returns-in-Insertion g c =
    let sv = g.S.WordForm.values in
    let ev = g.E.WordForm.values in
    let s = tagged OwnStamp (sv c.in-Insertion.stamp) in
    let pl = place_words (place_said sv c.in-Insertion.place) in
    let e = tagged EntryValue (ev c.in-Insertion.entry) in
    let first : Put c.args.writer.now c.put_form.new.self s = c.put_form.ensures in
    let second : Put c.put_form.new.self c.put_place.new.self pl = c.put_place.ensures in
    let third : Put c.put_place.new.self c.put_form-in-Insertion.new.self e = c.put_form-in-Insertion.ensures in
    subst (Put c.args.writer.now c.put_form-in-Insertion.new.self) (append_assoc s pl e ∙ ap (λ m. body (said sv ev m)) (sym c.in-Insertion.is)) (put_then (put_then first second) third)

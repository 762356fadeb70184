use Rattle.std.proofs.Common.{◌≡◌, [], ◌∷◌, sym, ◌∙◌, subst}
use Rattle.words.specs.Layout.{word}
use Rattle.messages.specs.InWords.{place_words, tagged}
use Rattle.messages.specs.Model.{place_said, side_number}
use Rattle.messages.specs.Writing.{Put}
use Rattle.messages.specs.declared.model.Tag.TheVariants.{ParentStamp}
use Rattle.messages.proofs.Putting.{put_then}
use Rattle.messages.proofs.writer.Writer.put_place.Goals as goal

pub returns-in-Under : goal.returns-in-Under
returns-in-Under g c =
    let sv = g.S.WordForm.values in
    let side : c.from-in-Under.result ≡ side_number c.in-Under.side = c.from-in-Under.ensures ∙ c.from.ensures in
    let first = subst (λ n. Put c.args.self.now c.put_word-in-Under.new.self (word 5 n ∷ [])) side c.put_word-in-Under.ensures in
    let second : Put c.put_word-in-Under.new.self c.put_form.new.self (tagged ParentStamp (sv c.in-Under.parent)) = c.put_form.ensures in
    subst (λ p. Put c.args.self.now c.put_form.new.self (place_words (place_said sv p))) (sym c.in-Under.is) (put_then first second)

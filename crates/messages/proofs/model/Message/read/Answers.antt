use Rattle.std.proofs.Common.{◌≡◌, arith}
use Rattle.std.proofs.lemmas.List.{take_all}
use Rattle.words.specs.Answers.{told}
use Rattle.messages.specs.FromWords.{read_answer}
use Rattle.messages.specs.Model.{said}
use Rattle.messages.proofs.OneForm.{told_one_form}
use Rattle.messages.proofs.model.Message.read.Goals as goal

pub returns-clause-one_form : goal.returns-clause-one_form
returns-clause-one_form g c =
    let sf = g.S.WordForm.form in
    let ef = g.E.WordForm.form in
    let sv = g.S.WordForm.values in
    let ev = g.E.WordForm.values in
    let answer : told (said sv ev) c.read_message.result ≡ read_answer sf ef c.args.words.now = grind (arith, take_all, c.read_message.ensures) in
    told_one_form sf ef sv ev c.args.words.now c.read_message.result answer

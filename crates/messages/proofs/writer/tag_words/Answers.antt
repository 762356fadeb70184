use Rattle.std.proofs.Common.{arith}
use Rattle.words.specs.Layout.{word}
use Rattle.messages.specs.Model.{tag_number}
use Rattle.messages.proofs.Filling.{small_next}
use Rattle.messages.proofs.writer.tag_words.Goals as goal

pub tagged_word-requires : goal.tagged_word-requires
tagged_word-requires c =
    small_next (word (tag_number c.args.tag)) c.args.words.now c.loop-word.words c.loop-word.word-index c.requires (omega arith) c.loop-word.invariant

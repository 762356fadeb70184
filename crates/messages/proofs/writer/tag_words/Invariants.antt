use Rattle.std.proofs.Common.{◌≡◌, ◌++◌, map, take, drop}
use Rattle.words.specs.Layout.{word}
use Rattle.messages.specs.Model.{tag_number}
use Rattle.messages.proofs.writer.tag_words.Given as goal

abbrev pub invariant-loop-word : goal.invariant-loop-word
invariant-loop-word l = l.words ≡ map (word (tag_number l.tag)) (take l.word-index l.initial.words) ++ drop l.word-index l.initial.words

use Rattle.std.proofs.Common.{◌≡◌, ◌++◌, map, take, drop}
use Rattle.words.specs.Layout.{value_of}
use Rattle.messages.proofs.reading.untag_words.Given as goal

abbrev pub invariant-loop-word : goal.invariant-loop-word
invariant-loop-word l = l.words ≡ map value_of (take l.word-index l.initial.words) ++ drop l.word-index l.initial.words

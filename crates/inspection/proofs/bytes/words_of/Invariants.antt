use Rattle.std.proofs.Common.{◌≡◌, map, take}
use Rattle.std.specs.Int.{from_be_bytes, w32}
use Rattle.inspection.proofs.bytes.words_of.Given as goal

abbrev pub invariant-loop-word : goal.invariant-loop-word
invariant-loop-word l = l.words.items ≡ map (from_be_bytes w32) (take l.word-index l.whole)

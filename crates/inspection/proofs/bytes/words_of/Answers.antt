use Rattle.std.proofs.Common.{ap, sym, ◌∙◌, map, arith}
use Rattle.std.specs.Int.{from_be_bytes, w32}
use Rattle.std.proofs.lemmas.List.{take_all}
use Rattle.inspection.proofs.Wording.{words_from_chunks}
use Rattle.inspection.proofs.bytes.words_of.Goals as goal

pub returns : goal.returns
returns c =
    c.loop-word.invariant
    ∙ ap (map (from_be_bytes w32)) (take_all c.loop-word.word-index c.as_chunks.result.0.now (omega arith) ∙ c.as_chunks.ensures.front)
    ∙ sym (words_from_chunks c.args.bytes.now)

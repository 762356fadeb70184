use Rattle.std.proofs.Common.{rules}
use Rattle.std.proofs.lemmas.Slice.{overwrites}
use Rattle.entries.proofs.lines.Line.push_all.Goals as goal

pub returns : goal.returns
returns c = record { used = search rules; text = search (rules, overwrites) }

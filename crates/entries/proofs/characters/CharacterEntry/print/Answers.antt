use Rattle.entries.proofs.Apart.{characters_apart}
use Rattle.entries.proofs.characters.CharacterEntry.print.Goals as goal

pub returns-clause-apart : goal.returns-clause-apart
returns-clause-apart c = characters_apart

use Rattle.entries.proofs.Apart.{registers_apart}
use Rattle.entries.proofs.registers.forms.RegisterEntryEntry.print.Goals as goal

pub returns-clause-apart : goal.returns-clause-apart
returns-clause-apart c = registers_apart

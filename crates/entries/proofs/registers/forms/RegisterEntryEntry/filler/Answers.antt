use Rattle.std.proofs.Common.{None, ap}
use Rattle.entries.specs.Registers.{register_values}
use Rattle.entries.specs.declared.types.RegisterType.TheVariants.{Burial}
use Rattle.entries.proofs.registers.forms.RegisterEntryEntry.filler.Goals as goal

pub returns : goal.returns
returns c = ap (register_values 1 None Burial) c.empty.ensures

-- What a register entry of the code means.
use Rattle.std.specs.Prelude.{ℕ, List}
use Rattle.entries.specs.Registers.{register_values}
use Rattle.entries.specs.declared.registers.RegisterEntry.{RegisterEntry}

abbrev pub entry_values : RegisterEntry → List ℕ
entry_values x = register_values x.number x.grave x.kind x.surname

use Rattle.std.proofs.Common.{◌≡◌, ◌-◌}
use Rattle.pim_file.specs.Items.{many}
use Rattle.pim_file.specs.BinaryReading.{port_at}
use Rattle.pim_file.specs.inner.BinaryKept.{kept_with, with_outputs}
use Rattle.pim_file.proofs.binary.parsing.add_outputs.Given as goal

-- what is kept, with what is left to read, is all
abbrev pub invariant-loop : goal.invariant-loop
invariant-loop l =
    kept_with with_outputs l.kept (many port_at (l.count - l.counter) l.items) ≡ kept_with with_outputs l.initial.kept (many port_at l.count l.initial.items)

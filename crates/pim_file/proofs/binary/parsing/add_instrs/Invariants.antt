use Rattle.std.proofs.Common.{◌≡◌, ◌-◌}
use Rattle.pim_file.specs.Items.{many}
use Rattle.pim_file.specs.BinaryReading.{instr_at}
use Rattle.pim_file.specs.inner.BinaryKept.{kept_with, with_instrs}
use Rattle.pim_file.proofs.binary.parsing.add_instrs.Given as goal

-- what is kept, with what is left to read, is all
abbrev pub invariant-loop : goal.invariant-loop
invariant-loop l =
    kept_with with_instrs l.kept (many instr_at (l.count - l.counter) l.items) ≡ kept_with with_instrs l.initial.kept (many instr_at l.count l.initial.items)

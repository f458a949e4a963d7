use Rattle.std.proofs.Common.{◌≡◌, ◌-◌, ◌++◌}
use Rattle.pim_file.specs.Items.{number_at, many}
use Rattle.pim_file.specs.inner.BinaryKept.{kept_with}
use Rattle.pim_file.proofs.binary.items.Items.cells.Given as goal

-- the cells so far, with those that are left to read, are all
abbrev pub invariant-loop : goal.invariant-loop
invariant-loop l =
    kept_with (λ front xs. front ++ xs) l.cells (many number_at (l.count - l.counter) l.self) ≡ many number_at l.count l.initial.self

use Rattle.std.proofs.Common.{◌≡◌, ◌≤◌, ◌-◌, ◌++◌, length, take, drop}
use Rattle.pim_file.specs.Items.{shown_at, many}
use Rattle.pim_file.specs.inner.BinaryKept.{kept_with}
use Rattle.pim_file.proofs.binary.items.Items.label.Given as goal

-- the bytes so far, with those that are left to read, are all
abbrev pub invariant-loop : goal.invariant-loop
invariant-loop l = record {
  exact : kept_with (λ front xs. front ++ xs) (take l.counter l.bytes) (many shown_at (l.count - l.counter) l.self) ≡ many shown_at l.count l.initial.self;
  rest : l.self.rest ≡ drop l.counter l.bytes;
  within : l.counter ≤ length l.bytes;
}

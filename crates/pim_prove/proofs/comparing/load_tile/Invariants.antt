use Rattle.std.proofs.Common.{◌≡◌, ℕ, ◌+◌, ◌*◌, ◌<◌, drop, length}
use Rattle.pim_isa.specs.Results.{with_inputs}
use Rattle.pim_lanes.specs.Banks.{row_of, SameFrame}
use Rattle.pim_prove.specs.Vectors.{digits}
use Rattle.pim_prove.proofs.comparing.load_tile.Given as goal

-- the inputs that are left, put into the rows so far, give what all of them give
abbrev pub invariant-loop-port : goal.invariant-loop-port
invariant-loop-port l = record {
  rows : (r : ℕ) → r < 64 * l.initial.bank.words →
      with_inputs (drop l.port-index l.inputs) (digits l.left (64 * l.start + r)) (row_of l.bank r)
      ≡ with_inputs l.inputs (digits (length l.inputs) (64 * l.start + r)) (row_of l.initial.bank r);
  left : l.left + l.port-index ≡ length l.inputs;
  frame : SameFrame l.initial.bank l.bank;
  long : length l.column ≡ l.initial.bank.words;
}

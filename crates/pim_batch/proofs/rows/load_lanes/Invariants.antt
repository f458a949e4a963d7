use Rattle.std.proofs.Common.{◌≡◌, ℕ, ◌+◌, ◌*◌, ◌<◌, drop}
use Rattle.pim_isa.specs.Results.{with_inputs}
use Rattle.pim_lanes.specs.Banks.{row_of, SameFrame}
use Rattle.pim_vectors.specs.Tiles.{vector_of}
use Rattle.pim_batch.proofs.rows.load_lanes.Given as goal

-- the inputs that are left, put into the rows so far, give what all of them give
abbrev pub invariant-loop-k : goal.invariant-loop-k
invariant-loop-k l = record {
  rows : (r : ℕ) → r < 64 * l.initial.bank.words →
      with_inputs (drop l.k l.port-items) (drop l.k (vector_of l.vectors (64 * l.first + r))) (row_of l.bank r)
      ≡ with_inputs l.port-items (vector_of l.vectors (64 * l.first + r)) (row_of l.initial.bank r);
  frame : SameFrame l.initial.bank l.bank;
}

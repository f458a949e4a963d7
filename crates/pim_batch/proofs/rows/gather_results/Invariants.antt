use Rattle.std.proofs.Common.{◌≡◌, ℕ, ◌*◌, ◌<◌, false, get_or}
use Rattle.pim_isa.specs.Steps.{bit}
use Rattle.pim_isa.specs.Sound.{cells_of}
use Rattle.pim_lanes.specs.Banks.{row_of}
use Rattle.pim_vectors.specs.Tiles.{vector_of, SameSizes}
use Rattle.pim_batch.proofs.rows.gather_results.Given as goal

-- the columns of the outputs so far hold their cells' bits
abbrev pub invariant-loop-k : goal.invariant-loop-k
invariant-loop-k l = record {
  rows : (r : ℕ) → r < 64 * l.bank.words → (j : ℕ) → j < l.k →
      get_or (vector_of l.results r) j false ≡ bit (row_of l.bank r) (get_or (cells_of l.port-items) j 0);
  sizes : SameSizes l.initial.results l.results;
}

use Rattle.std.proofs.Common.{◌≡◌, ℕ, ◌+◌, ◌<◌, drop, slice_index, vec_len}
use Rattle.pim_aig.specs.Graph.{nodes}
use Rattle.pim_nor.specs.Leaves.{operand_reads}
use Rattle.pim_nor.proofs.singles.read_counts.Given as goal

abbrev pub invariant-loop-and : goal.invariant-loop-and
invariant-loop-and l = record {
  len : vec_len l.counts ≡ nodes l.aig;
  rest : (n : ℕ) → n < nodes l.aig → slice_index l.counts.items n + operand_reads (drop l.and-index l.and-items) n ≡ operand_reads l.and-items n;
}

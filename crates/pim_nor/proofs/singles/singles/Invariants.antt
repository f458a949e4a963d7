use Rattle.std.proofs.Common.{◌≡◌, ℕ, ◌<◌, drop, cond, slice_index, vec_len}
use Rattle.pim_aig.specs.Graph.{nodes}
use Rattle.pim_nor.specs.Leaves.{is_among, operand_reads}
use Rattle.pim_nor.proofs.singles.singles.Given as goal

abbrev pub invariant-loop-out : goal.invariant-loop-out
invariant-loop-out l = record {
  len : vec_len l.counts ≡ nodes l.aig;
  rest : (n : ℕ) → n < nodes l.aig → cond (is_among (drop l.out-index l.out-items) n) 0 (slice_index l.counts.items n) ≡ cond (is_among l.out-items n) 0 (operand_reads l.aig.ands n);
}

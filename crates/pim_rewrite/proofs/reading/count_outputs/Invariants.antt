use Rattle.std.proofs.Common.{◌≡◌, ◌<◌, ℕ, length, map, take, slice_index_or}
use Rattle.pim_aig.specs.Literals.{node}
use Rattle.pim_mig.specs.Graph.{size}
use Rattle.pim_mig.specs.Needs.{times}
use Rattle.pim_rewrite.proofs.reading.count_outputs.Given as goal

-- the outputs so far are counted
abbrev pub invariant-loop-output : goal.invariant-loop-output
invariant-loop-output l = record {
  count : length l.outs.items ≡ size l.mig;
  counts : (n : ℕ) → n < size l.mig → slice_index_or l.outs.items n 0 ≡ times n (map node (take l.output-index l.outputs));
}

use Rattle.std.proofs.Common.{◌≡◌, ◌+◌, ◌-◌, ◌<◌, ℕ, drop, length, map, slice_index_or}
use Rattle.pim_aig.specs.Literals.{node}
use Rattle.pim_mig.specs.Graph.{size}
use Rattle.pim_mig.specs.Needs.{reads_from, times}
use Rattle.pim_rewrite.proofs.reading.count_reads.Given as goal

-- the reads of the last nodes are counted
abbrev pub invariant-loop-done : goal.invariant-loop-done
invariant-loop-done l = record {
  count : length l.reads.items ≡ size l.mig;
  counts : (n : ℕ) → n < size l.mig → slice_index_or l.reads.items n 0
      ≡ times n (reads_from (map node l.mig.outputs) (1 + l.mig.inputs + (length l.nodes - l.done)) (drop (length l.nodes - l.done) l.nodes));
}

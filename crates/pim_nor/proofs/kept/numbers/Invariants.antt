use Rattle.std.proofs.Common.{◌≡◌, ℕ, ◌<◌, vec_len, slice_index}
use Rattle.pim_nor.specs.Reached.{number}
use Rattle.pim_nor.proofs.kept.numbers.Given as goal

abbrev pub invariant-loop-marked : goal.invariant-loop-marked
invariant-loop-marked l = record {
  len : vec_len l.numbers ≡ l.marked-index;
  count : l.count ≡ number l.marks l.marked-index;
  counts : (s : ℕ) → s < l.marked-index → slice_index l.numbers.items s ≡ number l.marks s;
}

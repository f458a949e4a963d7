use Rattle.std.proofs.Common.{◌+◌, ◌*◌, None}
use Rattle.pim_prove.specs.inner.Comparing.{HoldsBlock, IsFound}
use Rattle.pim_prove.proofs.comparing.compare_tile.Given as goal

-- nothing was found for the words so far, and the values are those of the next one's block
abbrev pub invariant-loop-place : goal.invariant-loop-place
invariant-loop-place l = record {
  found : IsFound l.program l.aig (64 * l.start) (64 * (l.start + l.place)) None;
  held : HoldsBlock l.aig l.values l.start l.place;
}

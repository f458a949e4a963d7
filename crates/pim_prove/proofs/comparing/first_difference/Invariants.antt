use Rattle.std.proofs.Common.{◌≡◌, ◌-◌, ◌*◌, None, vec_len}
use Rattle.pim_prove.specs.inner.Comparing.{IsFound}
use Rattle.pim_prove.proofs.comparing.first_difference.Given as goal

-- nothing was found for the tiles so far, and the sizes are those of the first
abbrev pub invariant-loop-start : goal.invariant-loop-start
invariant-loop-start l = record {
  found : IsFound l.program l.aig 0 (64 * l.start) None;
  cells : l.bank.cells ≡ l.program.cells;
  words : l.bank.words ≡ l.words;
  long : vec_len l.column ≡ l.words;
}

abbrev pub decreases-loop-start : goal.decreases-loop-start
decreases-loop-start l = l.total - l.start

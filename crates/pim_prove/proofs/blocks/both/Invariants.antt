use Rattle.std.proofs.Common.{◌≡◌, ℕ, ◌<◌, length, get_or, bit_and}
use Rattle.pim_prove.specs.declared.blocks.TheConstants.{BLOCK}
use Rattle.pim_prove.proofs.blocks.both.Given as goal

-- the words so far have the bits of both
abbrev pub invariant-loop-k : goal.invariant-loop-k
invariant-loop-k l = record {
  done : (j : ℕ) → j < l.k → get_or l.words j 0 ≡ bit_and (get_or l.x j 0) (get_or l.y j 0);
  long : length l.words ≡ BLOCK;
}

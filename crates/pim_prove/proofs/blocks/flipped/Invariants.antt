use Rattle.std.proofs.Common.{◌≡◌, ℕ, ◌<◌, length, get_or}
use Rattle.std.specs.Prelude.{bit_xor}
use Rattle.pim_prove.specs.declared.blocks.TheConstants.{BLOCK}
use Rattle.pim_prove.proofs.blocks.flipped.Given as goal

-- the words so far have the bits of the mask flipped
abbrev pub invariant-loop-k : goal.invariant-loop-k
invariant-loop-k l = record {
  done : (j : ℕ) → j < l.k → get_or l.words j 0 ≡ bit_xor (get_or l.x j 0) l.mask;
  long : length l.words ≡ BLOCK;
}

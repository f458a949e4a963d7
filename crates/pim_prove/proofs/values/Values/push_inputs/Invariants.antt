use Rattle.std.proofs.Common.{◌≡◌, ℕ, ◌+◌, ◌*◌, ◌<◌, ◌≤◌, ◌++◌}
use Rattle.pim_prove.specs.declared.blocks.TheConstants.{BLOCK}
use Rattle.pim_prove.specs.Vectors.{digits}
use Rattle.pim_prove.specs.inner.Comparing.{lanes_of, words_at}
use Rattle.pim_prove.proofs.values.Values.push_inputs.Given as goal

-- the words so far, with the digits that are left, have all digits
abbrev pub invariant-loop-left : goal.invariant-loop-left
invariant-loop-left l = record {
  few : l.left ≤ 20;
  all : (j r : ℕ) → j < BLOCK → r < 64 → lanes_of (words_at l.self-inside.blocks.items j) r ++ digits l.left (64 * (l.word + j) + r)
      ≡ lanes_of (words_at l.initial.self-inside.blocks.items j) r ++ digits l.inputs (64 * (l.word + j) + r);
}

abbrev pub decreases-loop-left : goal.decreases-loop-left
decreases-loop-left l = l.left

use Rattle.std.proofs.Common.{◌≡◌, ℕ, ◌<◌, drop}
use Rattle.pim_aig.specs.Values.{values_from}
use Rattle.pim_prove.specs.declared.blocks.TheConstants.{BLOCK}
use Rattle.pim_prove.specs.inner.Comparing.{lanes_of, words_at}
use Rattle.pim_prove.proofs.values.Values.push_ands.Given as goal

-- the values of the nodes that are left make the whole
abbrev pub invariant-loop-and : goal.invariant-loop-and
invariant-loop-and l =
    (j r : ℕ) → j < BLOCK → r < 64 → values_from (lanes_of (words_at l.self j) r) (drop l.and-index l.ands)
    ≡ values_from (lanes_of (words_at l.initial.self j) r) l.ands

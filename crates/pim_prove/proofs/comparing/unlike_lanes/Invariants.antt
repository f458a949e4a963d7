use Rattle.std.proofs.Common.{◌≡◌, ℕ, ◌+◌, ◌*◌, ◌%◌, ◌<◌, ◌||◌, drop}
use Rattle.pim_aig.specs.Values.{literal_value}
use Rattle.pim_io.specs.Lanes.{is_set}
use Rattle.pim_isa.specs.Steps.{bit}
use Rattle.pim_lanes.specs.Banks.{row_of}
use Rattle.pim_prove.specs.declared.blocks.TheConstants.{BLOCK}
use Rattle.pim_prove.specs.inner.Comparing.{differ, lanes_of, words_at}
use Rattle.pim_prove.proofs.comparing.unlike_lanes.Given as goal

-- the lanes so far, with those of the outputs that are left, are all
abbrev pub invariant-loop-k : goal.invariant-loop-k
invariant-loop-k l =
    (r : ℕ) → r < 64 →
    (is_set l.lanes r || differ (bit (row_of l.bank (64 * l.place + r))) (literal_value (lanes_of (words_at l.values (l.place % BLOCK)) r)) (drop l.k l.outputs) (drop l.k l.literals))
    ≡ differ (bit (row_of l.bank (64 * l.place + r))) (literal_value (lanes_of (words_at l.values (l.place % BLOCK)) r)) l.outputs l.literals

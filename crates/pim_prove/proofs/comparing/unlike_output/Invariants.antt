use Rattle.std.proofs.Common.{◌≡◌, ◌+◌, ◌*◌, ◌%◌, drop}
use Rattle.pim_aig.specs.Values.{literal_value}
use Rattle.pim_isa.specs.Steps.{bit}
use Rattle.pim_lanes.specs.Banks.{row_of}
use Rattle.pim_prove.specs.declared.blocks.TheConstants.{BLOCK}
use Rattle.pim_prove.specs.inner.Comparing.{first_unlike, lanes_of, words_at}
use Rattle.pim_prove.proofs.comparing.unlike_output.Given as goal

-- the first of the outputs that are left is the first of all
abbrev pub invariant-loop-k : goal.invariant-loop-k
invariant-loop-k l =
    first_unlike (bit (row_of l.bank (64 * l.place + l.lane))) (literal_value (lanes_of (words_at l.values (l.place % BLOCK)) l.lane)) l.k (drop l.k l.outputs) (drop l.k l.literals)
    ≡ first_unlike (bit (row_of l.bank (64 * l.place + l.lane))) (literal_value (lanes_of (words_at l.values (l.place % BLOCK)) l.lane)) 0 l.outputs l.literals

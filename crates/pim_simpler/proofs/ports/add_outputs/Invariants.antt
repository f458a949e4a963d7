use Rattle.std.proofs.Common.{◌≡◌, ◌++◌, drop, length}
use Rattle.pim_nor.specs.Network.{AreInputsOrFirst}
use Rattle.pim_simpler.specs.inner.Kept.{cell_of, output_ports}
use Rattle.pim_simpler.proofs.ports.add_outputs.Given as goal

-- the draft so far, with the ports of the outputs that are left, is the draft with all of them
abbrev pub invariant-loop-k : goal.invariant-loop-k
invariant-loop-k l = record {
  there : AreInputsOrFirst (length l.cells) (drop l.k l.outs);
  whole : record l.draft { outputs = l.draft.outputs ++ output_ports (cell_of l.cells) (drop l.k l.outs) (drop l.k l.labels) }
      ≡ record l.initial.draft { outputs = l.initial.draft.outputs ++ output_ports (cell_of l.cells) l.outs l.labels };
}

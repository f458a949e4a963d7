use Rattle.std.proofs.Common.{◌≡◌, ◌++◌, map, take}
use Rattle.pim_net.specs.Tables.{values as literals_of}
use Rattle.pim_aig.specs.Flat.{output_literal}
use Rattle.pim_aig.proofs.flattening.outputs.Given as goal

abbrev pub invariant-loop-out : goal.invariant-loop-out
invariant-loop-out l =
    l.aig ≡ record l.initial.aig { outputs = l.initial.aig.outputs ++ map (output_literal (literals_of l.table)) (take l.out-index l.outputs) }

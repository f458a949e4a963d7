use Rattle.std.proofs.Common.{◌≡◌, map, take}
use Rattle.pim_nor.specs.Named.{source}
use Rattle.pim_nor.specs.Reached.{numbered}
use Rattle.pim_nor.proofs.kept.Kept.outs.Given as goal

abbrev pub invariant-loop-out : goal.invariant-loop-out
invariant-loop-out l = l.outs.items ≡ map (numbered l.self) (map (source l.inputs) (take l.out-index l.out-items))

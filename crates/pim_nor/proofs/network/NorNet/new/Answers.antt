use Rattle.std.proofs.Common.{List, length, subst, sym}
use Rattle.pim_nor.specs.declared.network.Pin.{Pin}
use Rattle.pim_nor.specs.declared.network.Gate.{Gate}
use Rattle.pim_nor.specs.Network.{AreInputsOrFirst}
use Rattle.pim_nor.proofs.GateLists.{AreInputsOrFirst-from}
use Rattle.pim_nor.proofs.network.NorNet.new.Goals as goal

pub graph_of-requires-clause-outs : goal.graph_of-requires-clause-outs
graph_of-requires-clause-outs c =
    let P : List Pin → Type 0 = AreInputsOrFirst (length c.args.gates.items) in
    let Q : List Gate → Type 0 = λ gs. AreInputsOrFirst (length gs) c.deref-3.result.now in
    subst Q (sym c.deref-2.ensures.value) (subst P (sym c.deref-3.ensures.value) (AreInputsOrFirst-from c.args.inputs (length c.args.gates.items) c.args.outs.items c.requires.outs_there))

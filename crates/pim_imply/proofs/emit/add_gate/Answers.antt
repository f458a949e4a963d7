use Rattle.std.proofs.Common.{ℕ, ◌*◌, ◌<◌, subst, sym}
use Rattle.pim_aig.specs.Graph.{nodes}
use Rattle.pim_imply.proofs.GateReads.{turned_below}
use Rattle.pim_imply.proofs.emit.add_gate.Goals as goal

pub put_operands-requires : goal.put_operands-requires
put_operands-requires c =
    let n = nodes c.args.aig.now in
    let P : ℕ → Type 0 = λ l. l < 2 * n in
    subst P (sym c.turned.ensures) (turned_below c.args.gate n c.requires)

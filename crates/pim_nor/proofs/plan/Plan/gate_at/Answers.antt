use Rattle.std.proofs.Common.{◌≡◌, arith, sym, ap, subst}
use Rattle.std.proofs.lemmas.Grind.{common_steps}
use Rattle.pim_aig.specs.Graph.{AigView, IsAig}
use Rattle.pim_nor.specs.Leaves.{leaves}
use Rattle.pim_nor.specs.Named.{gate_at}
use Rattle.pim_nor.specs.Network.{ReadsFirst}
use Rattle.pim_nor.specs.inner.Plans.{PlanView}
use Rattle.pim_nor.specs.declared.network.Gate.{Gate}
use Rattle.pim_nor.proofs.LeafLists.{leaves-AreLeaves}
use Rattle.pim_nor.proofs.Sound.{gate_at-before}
use Rattle.pim_nor.proofs.plan.Plan.gate_at.Goals as goal

pub returns-else-is_complemented-clause-before : goal.returns-else-is_complemented-clause-before
returns-else-is_complemented-clause-before c =
    let g = c.args.self.now.graph in
    let lists = leaves g c.args.self.now.width in
    let Q : AigView → Type 0 = IsAig in
    let sound = subst Q (ap (λ (p : PlanView). p.graph) c.self.view_is) c.inputs-inputs.ensures.sound in
    let P : Gate → Type 0 = ReadsFirst g.inputs c.args.slot in
    let e : c.and_gate.result ≡ gate_at g lists c.args.slot = grind (arith, common_steps) in
    subst P (sym e) (gate_at-before g lists (leaves-AreLeaves g sound c.args.self.now.width) c.args.slot c.requires)

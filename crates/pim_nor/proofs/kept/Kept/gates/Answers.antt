use Rattle.std.proofs.Common.{arith, ap, ◌∙◌, ◌+◌, ◌++◌, drop, Vec, Global}
use Rattle.pim_nor.specs.declared.network.Gate.{Gate}
use Rattle.std.proofs.lemmas.Grind.{common_steps}
use Rattle.pim_nor.specs.Leaves.{leaves}
use Rattle.pim_nor.specs.Named.{gate_at}
use Rattle.pim_nor.specs.Reached.{kept, numbered_gate}
use Rattle.pim_nor.proofs.Numbering.{kept_marked, kept_unmarked}
use Rattle.pim_nor.proofs.kept.Kept.gates.Goals as goal
use Rattle.pim_nor.proofs.kept.Kept.gates.Goals.{then-index+in_ok-push, else-index}

pub loop-slot-preserved : goal.loop-slot-preserved
loop-slot-preserved c =
    elim c.if-index.branch [
      | then-index+in_ok-push w ↦ kept_marked (λ s. numbered_gate c.args.self.now (gate_at c.args.plan.now.graph (leaves c.args.plan.now.graph c.args.plan.now.width) s)) c.args.self.now c.loop-slot.gates.items c.if-index.gates.items _ c.loop-slot.slot c.index.result.now (grind (arith, common_steps)) (grind (arith, common_steps)) w.if-index.true (grind (arith, common_steps)) c.loop-slot.invariant
      | else-index w ↦ ap (λ (v : Vec Gate Global). v.items ++ kept (λ s. numbered_gate c.args.self.now (gate_at c.args.plan.now.graph (leaves c.args.plan.now.graph c.args.plan.now.width) s)) (c.loop-slot.slot + 1) (drop (c.loop-slot.slot + 1) c.args.self.now)) w.gates-is ∙ kept_unmarked (λ s. numbered_gate c.args.self.now (gate_at c.args.plan.now.graph (leaves c.args.plan.now.graph c.args.plan.now.width) s)) c.args.self.now c.loop-slot.gates.items _ c.loop-slot.slot c.index.result.now (grind (arith, common_steps)) (grind (arith, common_steps)) w.if-index.false c.loop-slot.invariant
    ]

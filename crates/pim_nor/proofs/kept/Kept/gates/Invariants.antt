use Rattle.std.proofs.Common.{◌≡◌, ◌++◌, drop}
use Rattle.pim_nor.specs.Leaves.{leaves}
use Rattle.pim_nor.specs.Named.{gate_at}
use Rattle.pim_nor.specs.Reached.{kept, numbered_gate}
use Rattle.pim_nor.proofs.kept.Kept.gates.Given as goal

abbrev pub invariant-loop-slot : goal.invariant-loop-slot
invariant-loop-slot l =
    l.gates.items ++ kept (λ s. numbered_gate l.self (gate_at l.plan.graph (leaves l.plan.graph l.plan.width) s)) l.slot (drop l.slot l.self) ≡ kept (λ s. numbered_gate l.self (gate_at l.plan.graph (leaves l.plan.graph l.plan.width) s)) 0 l.self

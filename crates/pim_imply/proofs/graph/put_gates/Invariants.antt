use Rattle.std.proofs.Common.{◌≡◌, ◌++◌, drop}
use Rattle.pim_imply.specs.Gates.{gates_of}
use Rattle.pim_imply.proofs.graph.put_gates.Given as goal

-- the gates so far, before those of the literals that are left, are the gates of all literals
abbrev pub invariant-loop-literal : goal.invariant-loop-literal
invariant-loop-literal l = l.gates.items ++ gates_of l.aig (drop l.literal-index l.literals) ≡ gates_of l.aig l.literals

use Rattle.std.proofs.Common.{◌≡◌, [], map}
use Rattle.std.specs.List.{range_with_len}
use Rattle.pim_imply.specs.Gates.{gates_of, operands, turned}
use Rattle.pim_imply.proofs.graph.rootless.Given as goal

-- the gates so far
abbrev pub invariant-loop-gate : goal.invariant-loop-gate
invariant-loop-gate l = l.graph ≡ record { kids = map (λ k. gates_of l.aig (operands l.aig (turned k))) (range_with_len 0 l.gate); roots = [] }

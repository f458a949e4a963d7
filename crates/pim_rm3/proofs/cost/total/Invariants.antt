use Rattle.std.proofs.Common.{◌≡◌, ◌+◌, ◌*◌, ◌≤◌, drop, sum_by}
use Rattle.pim_rm3.specs.Costs.{cost_of}
use Rattle.pim_rm3.specs.Gates.{gate_of, taken}
use Rattle.pim_rm3.proofs.cost.total.Given as goal

abbrev pub invariant-loop-place : goal.invariant-loop-place
invariant-loop-place l = record {
  rest : l.cycles + sum_by (λ k. cost_of (taken l.aig k) (gate_of l.aig k)) (drop l.place l.order) ≡ sum_by (λ k. cost_of (taken l.aig k) (gate_of l.aig k)) l.order;
  few : l.cycles ≤ 3 * l.place;
}

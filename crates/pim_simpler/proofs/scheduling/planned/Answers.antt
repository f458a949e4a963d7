use Rattle.std.proofs.Common.{ℕ, ◌+◌, ◌^◌, ◌<◌, ◌≤◌, List, length, sym, subst, arith, vec_len}
use Rattle.pim_graph.specs.Graphs.{GraphView}
use Rattle.pim_graph.specs.Orders.{order}
use Rattle.pim_graph.specs.Peaks.{IsPlaced}
use Rattle.pim_nor.specs.Network.{NorView}
use Rattle.pim_simpler.proofs.GateCounts.{gates-le}
use Rattle.pim_simpler.proofs.Peaks.{peak_within, need_fits}
use Rattle.pim_simpler.proofs.Scheduled.{ready, counted}
use Rattle.pim_simpler.proofs.scheduling.planned.Goals as goal

pub overflow_add-needed : goal.overflow_add-needed
overflow_add-needed c =
    let n : NorView = c.args.net.now in
    let small : c.inputs-inputs.result + c.in_ok-needed.field-0 < 2 ^ 32 = need_fits n c.inputs-inputs.result c.in_ok-needed.field-0 c.inputs-inputs.ensures.sound c.inputs-inputs.ensures.count (peak_within n c.graph-graph.result.now c.in_ok-gates.gates.items c.deref.result.now c.in_ok-needed.field-0 c.graph-graph.ensures.graph c.deref.ensures.value c.in_ok-gates.ensures.order c.in_ok-needed.ensures.within c.graph-graph.ensures.full) in
    omega arith

pub returns-then-budget-needed-clause-most : goal.returns-then-budget-needed-clause-most
returns-then-budget-needed-clause-most c =
    let n : NorView = c.args.net.now in
    let within : c.in_ok-needed.field-0 ≤ length n.gates = peak_within n c.graph-graph.result.now c.in_ok-gates.gates.items c.deref.result.now c.in_ok-needed.field-0 c.graph-graph.ensures.graph c.deref.ensures.value c.in_ok-gates.ensures.order c.in_ok-needed.ensures.within c.graph-graph.ensures.full in
    omega (arith, within, c.inputs-inputs.ensures.count, gates-le n c.inputs-inputs.ensures.sound)

pub returns-then-budget-needed-clause-roomy : goal.returns-then-budget-needed-clause-roomy
returns-then-budget-needed-clause-roomy c =
    let n : NorView = c.args.net.now in
    let within : c.in_ok-needed.field-0 ≤ length n.gates = peak_within n c.graph-graph.result.now c.in_ok-gates.gates.items c.deref.result.now c.in_ok-needed.field-0 c.graph-graph.ensures.graph c.deref.ensures.value c.in_ok-gates.ensures.order c.in_ok-needed.ensures.within c.graph-graph.ensures.full in
    omega (arith, within, c.inputs-inputs.ensures.count)

pub returns-clause-plan : goal.returns-clause-plan
returns-clause-plan c =
    ready c.args.net.now c.graph-graph.result.now c.in_ok-gates.gates.items c.deref.result.now (vec_len c.in_ok-gates.gates) c.in_ok-needed.field-0 c.inputs-inputs.result c.args.budget
    c.graph-graph.ensures.graph c.inputs-inputs.ensures.sound c.in_ok-gates.ensures.order (sym c.in_ok-gates.gates.ok.0) c.in_ok-gates.ensures.placed c.in_ok-gates.ensures.complete c.in_ok-gates.ensures.needed
    c.deref.ensures.value c.in_ok-needed.ensures.bounds c.in_ok-needed.ensures.within c.graph-graph.ensures.full c.inputs-inputs.ensures.count c.if-budget-needed.false

pub returns-clause-nors : goal.returns-clause-nors
returns-clause-nors c =
    let P : List ℕ → Type 0 = λ xs. IsPlaced c.graph-graph.result.now xs in
    let Q : GraphView → Type 0 = λ g. IsPlaced g (order g) in
    let placed = subst Q c.graph-graph.ensures.graph (subst P c.in_ok-gates.ensures.order c.in_ok-gates.ensures.placed) in
    counted c.args.net.now c.graph-graph.result.now c.in_ok-gates.gates.items c.graph-graph.ensures.graph c.in_ok-gates.ensures.order placed c.in_ok-gates.ensures.complete c.graph-graph.ensures.reached

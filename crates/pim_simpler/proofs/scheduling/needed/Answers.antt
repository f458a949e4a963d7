use Rattle.std.proofs.Common.{◌+◌, ◌^◌, ◌<◌, ◌≤◌, length, arith}
use Rattle.pim_simpler.proofs.GateCounts.{gates-le}
use Rattle.pim_simpler.proofs.Peaks.{peak_within, need_fits}
use Rattle.pim_simpler.proofs.scheduling.needed.Goals as goal

pub overflow_add-result : goal.overflow_add-result
overflow_add-result c =
    let n = c.args.net.now in
    let small : c.inputs.result + c.in_ok-peak.field-0 < 2 ^ 32 = need_fits n c.inputs.result c.in_ok-peak.field-0 c.inputs.ensures.sound c.inputs.ensures.count
    (peak_within n c.graph-graph.result.now c.in_ok-gates.gates.items c.deref.result.now c.in_ok-peak.field-0 c.graph-graph.ensures.graph c.deref.ensures.value c.in_ok-gates.ensures.order c.in_ok-peak.ensures.within c.graph-graph.ensures.full) in
    omega arith

pub returns-clause-most : goal.returns-clause-most
returns-clause-most c =
    let n = c.args.net.now in
    let within : c.in_ok-peak.field-0 ≤ length n.gates =
    peak_within n c.graph-graph.result.now c.in_ok-gates.gates.items c.deref.result.now c.in_ok-peak.field-0 c.graph-graph.ensures.graph c.deref.ensures.value c.in_ok-gates.ensures.order c.in_ok-peak.ensures.within c.graph-graph.ensures.full in
    omega (arith, within, c.inputs.ensures.count, gates-le n c.inputs.ensures.sound)

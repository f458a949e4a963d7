use Rattle.std.proofs.Common.{◌+◌, ◌<◌, ◌≤◌, ◌^◌, subst, sym, arith}
use Rattle.std.specs.List.{All}
use Rattle.pim_isa.specs.declared.port.Port.{Port}
use Rattle.pim_share.proofs.Laying.{ports_low, room_left}
use Rattle.pim_share.proofs.merging.add_ports.Goals as goal

pub add_inputs-requires : goal.add_inputs-requires
add_inputs-requires c =
    let part = c.part-item.result in
    let room : c.loop-part.base + part.cells ≤ 1048576 =
    omega (arith, c.loop-part.invariant.1, room_left c.args.parts.now c.loop-part.part-index part c.loop-part-test.true c.part-item.is) in
    subst (All (λ (p : Port). c.loop-part.base + p.cell < 2 ^ 32)) (sym c.inputs.ensures.value)
    (ports_low part.inputs part.cells c.loop-part.base c.inputs.ensures.valid.sound.inputs room)

pub add_outputs-requires : goal.add_outputs-requires
add_outputs-requires c =
    let part = c.part-item.result in
    let room : c.loop-part.base + part.cells ≤ 1048576 =
    omega (arith, c.loop-part.invariant.1, room_left c.args.parts.now c.loop-part.part-index part c.loop-part-test.true c.part-item.is) in
    subst (All (λ (p : Port). c.loop-part.base + p.cell < 2 ^ 32)) (sym c.outputs.ensures.value)
    (ports_low part.outputs part.cells c.loop-part.base c.outputs.ensures.valid.sound.outputs room)

use Rattle.std.proofs.Common.{ap, sym, false, replicate}
use Rattle.std.proofs.lemmas.List.{length-replicate}
use Rattle.pim_isa.specs.Sound.{cells_of}
use Rattle.pim_isa.specs.Touches.{writes}
use Rattle.pim_prove.proofs.Marking.{length_marked, walk_begins, walk_more, writes_within}
use Rattle.pim_prove.proofs.unset.find_unset.Goals as goal

pub loop-place-init : goal.loop-place-init
loop-place-init c =
    let p = c.args.program.now in
    let items = c.instrs-instr-items in
    record {
      first = walk_begins p items.result.now _ c.in_ok-marks.marks items.ensures.valid items.ensures.value (ap cells_of c.outputs-outputs.ensures.value) c.in_ok-marks.ensures;
      long = length_marked (cells_of p.inputs) (replicate p.cells false) c.in_ok-marks.marks p.cells c.in_ok-marks.ensures (length-replicate p.cells false);
    }

pub loop-place-preserved : goal.loop-place-preserved
loop-place-preserved c =
    let p = c.args.program.now in
    let items = c.instrs-instr-items in
    let i = c.instr-item in
    let within = writes_within p items.result.now c.loop-place.marks c.loop-place.place i.result items.ensures.value items.ensures.valid c.loop-place.invariant.long c.loop-place-test.true i.is in
    record {
      first = walk_more items.result.now _ c.loop-place.place i.result c.loop-place.marks c.write.new.self _ c.loop-place-test.true i.is within
          (sym c.in_default.ensures) c.write.ensures c.loop-place.invariant.first;
      long = length_marked (writes i.result) c.loop-place.marks c.write.new.self p.cells c.write.ensures c.loop-place.invariant.long;
    }

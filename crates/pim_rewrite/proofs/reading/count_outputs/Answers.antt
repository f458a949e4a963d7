use Rattle.std.proofs.Common.{List, length, ◌∙◌, ap, arith}
use Rattle.pim_aig.specs.declared.literal.Lit.{Lit}
use Rattle.pim_mig.specs.Graph.{size}
use Rattle.pim_rewrite.proofs.Loops.{count_step, outs_few}
use Rattle.pim_rewrite.proofs.reading.count_outputs.Goals as goal

pub count-requires-clause-room : goal.count-requires-clause-room
count-requires-clause-room c = λ n h.
    let inv = c.loop-output.invariant in
    let outs = c.outputs-outputs.result.now in
    let e = ap (λ (xs : List Lit). length xs) c.outputs-outputs.ensures.literals in
    let few = outs_few outs c.loop-output.output-index n c.loop-output.auto.output-index-end in
    let is = inv.counts n (omega (arith, inv.count)) in
    omega (arith, c.outputs-outputs.ensures.sound.outputs_fit, c.loop-output.auto.output-index-end)

pub loop-output-preserved : goal.loop-output-preserved
loop-output-preserved c =
    let inv = c.loop-output.invariant in
    record {
      count = c.count.ensures.count ∙ inv.count;
      counts = count_step c.outputs-outputs.result.now c.loop-output.outs.items c.count.new.table.items (size c.args.mig.now) c.loop-output.output-index c.node.result inv.count c.loop-output-test.true
          c.node.ensures inv.counts c.count.ensures.counts;
    }

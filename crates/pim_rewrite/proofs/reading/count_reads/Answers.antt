use Rattle.std.proofs.Common.{◌+◌, ◌-◌, ℕ, List, drop, get_or, length, ltb, map, ◌∙◌, ap, arith}
use Rattle.std.proofs.lemmas.List.{length-drop}
use Rattle.pim_aig.specs.Literals.{node}
use Rattle.pim_mig.specs.Graph.{size}
use Rattle.pim_mig.specs.declared.node.Maj.{Maj}
use Rattle.pim_rewrite.proofs.Loops.{reads_few, reads_step}
use Rattle.pim_rewrite.proofs.reading.count_reads.Goals as goal

pub read_operands-requires-clause-room : goal.read_operands-requires-clause-room
read_operands-requires-clause-room c = λ n h.
    let inv = c.loop-done.invariant in
    let g = c.args.mig.now in
    let nodes = c.nodes-nodes.result.now in
    let left = length nodes - c.loop-done.done in
    let e = ap (λ (xs : List Maj). length xs) c.nodes-nodes.ensures.nodes in
    let few = reads_few (map node g.outputs) (1 + g.inputs + left) n (drop left nodes) in
    let is = inv.counts n (omega (arith, inv.count)) in
    omega (arith, c.nodes-nodes.ensures.sound.nodes_fit, length-drop left nodes)

pub loop-done-preserved : goal.loop-done-preserved
loop-done-preserved c =
    let inv = c.loop-done.invariant in
    let g = c.args.mig.now in
    let nodes = c.nodes-nodes.result.now in
    let done = c.loop-done.done in
    let k = length nodes - 1 - done in
    let old = c.loop-done.reads.items in
    let outs = c.args.outs.now in
    let e = ap (λ (xs : List Maj). length xs) c.nodes-nodes.ensures.nodes in
    record {
      count = c.read_operands.ensures.count ∙ inv.count;
      counts = reads_step (map node g.outputs) nodes (1 + g.inputs) done (size g) outs old c.read_operands.new.reads.items c.is_read-needed.result inv.count (omega arith) c.loop-done-test.true
          c.requires.counts inv.counts
          (c.is_read-needed.ensures ∙ ap (λ (i : ℕ). ltb 0 (get_or outs (1 + i + k) 0 + get_or c.deref.result.now (1 + i + k) 0)) c.inputs.ensures.count
          ∙ ap (λ (xs : List ℕ). ltb 0 (get_or outs (1 + g.inputs + k) 0 + get_or xs (1 + g.inputs + k) 0)) c.deref.ensures.value)
          c.read_operands.ensures.counts;
    }

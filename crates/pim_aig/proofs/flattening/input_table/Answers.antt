use Rattle.std.proofs.Common.{◌+◌, ℕ, length, ap, arith}
use Rattle.pim_net.specs.Tables.{values as literals_of}
use Rattle.pim_aig.specs.Flat.{inputs_from}
use Rattle.pim_aig.specs.Graph.{IsOfFirst}
use Rattle.pim_aig.specs.declared.literal.Lit.{Lit}
use Rattle.pim_aig.proofs.TableSteps.{inputs_from_more, of_first_none, of_first_put}
use Rattle.pim_aig.proofs.flattening.input_table.Goals as goal

pub loop-k-init : goal.loop-k-init
loop-k-init c = record {
  rest = ap (λ (f : ℕ → Lit). inputs_from f 0 c.args.inputs.now) c.in_ok-table.ensures;
  there = of_first_none (1 + length c.args.inputs.now) (literals_of c.in_ok-table.table) (omega arith) c.in_ok-table.ensures;
}

pub loop-k-preserved : goal.loop-k-preserved
loop-k-preserved c =
    let n = 1 + length c.args.inputs.now in
    let old = literals_of c.loop-k.table in
    let new = literals_of c.put.new.self in
    let plain : IsOfFirst n c.plain.result = omega (arith, ap (λ (l : Lit). l.0) c.plain.ensures) in
    record {
      rest = inputs_from_more old new c.args.inputs.now c.loop-k.k c.plain.result _ c.loop-k-test.true c.in_ok-put.ensures c.plain.ensures c.loop-k.invariant.rest;
      there = of_first_put n n old new _ c.plain.result (omega arith) c.loop-k.invariant.there plain c.in_ok-put.ensures;
    }

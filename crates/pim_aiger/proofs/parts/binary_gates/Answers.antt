use Rattle.std.proofs.Common.{arith}
use Rattle.std.proofs.lemmas.Result.{err_from_is_err_and}
use Rattle.std.proofs.lemmas.List.{length_push}
use Rattle.pim_aiger.specs.Deltas.{binary_gate_at}
use Rattle.pim_aiger.proofs.Many.{goes_on, ends, is_done}
use Rattle.pim_aiger.proofs.parts.binary_gates.Goals as goal

pub returns-in_err-gate-clause-exact : goal.returns-in_err-gate-clause-exact
returns-in_err-gate-clause-exact c =
    let p = err_from_is_err_and c.from_residual-in_err-gate.result c.from_residual-in_err-gate.ensures.1 in
    rw (p.1, p.2) (ends (binary_gate_at c.args.header.now.inputs) c.loop-k.draft.equations c.args.header.now.gates c.loop-k.k c.loop-k.reader _ c.in_err-gate.field-0.0 c.loop-k-test.true c.in_err-gate.ensures.exact c.loop-k.invariant.exact)

pub loop-k-preserved : goal.loop-k-preserved
loop-k-preserved c = record {
  exact = rw c.in_ok-add_cover.ensures.ok (goes_on (binary_gate_at c.args.header.now.inputs) c.loop-k.draft.equations c.args.header.now.gates c.loop-k.k c.loop-k.reader _ c.in_ok-gate.gate c.binary_gate.new.self c.loop-k-test.true c.in_ok-gate.ensures.exact c.loop-k.invariant.exact);
  count = rw c.in_ok-add_cover.ensures.ok (omega (arith, length_push c.loop-k.draft.equations c.in_ok-gate.gate, c.loop-k.invariant.count));
  gates = rw c.in_ok-add_cover.ensures.ok (record { inputs = c.loop-k.invariant.gates.inputs; input_labels = c.loop-k.invariant.gates.input_labels; outputs = c.loop-k.invariant.gates.outputs; output_labels = c.loop-k.invariant.gates.output_labels });
}

pub returns-clause-exact : goal.returns-clause-exact
returns-clause-exact c = is_done (binary_gate_at c.args.header.now.inputs) c.loop-k.draft.equations c.args.header.now.gates c.loop-k.k c.loop-k.reader _ c.loop-k-test.false c.loop-k.invariant.exact

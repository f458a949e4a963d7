use Rattle.std.proofs.Common.{arith}
use Rattle.std.proofs.lemmas.Result.{err_from_is_err_and}
use Rattle.std.proofs.lemmas.List.{length_push}
use Rattle.pim_aiger.specs.Literals.{gate_at}
use Rattle.pim_aiger.proofs.Many.{goes_on, ends, is_done}
use Rattle.pim_aiger.proofs.parts.gates.Goals as goal

pub returns-in_err-gate-clause-exact : goal.returns-in_err-gate-clause-exact
returns-in_err-gate-clause-exact c =
    let p = err_from_is_err_and c.from_residual-in_err-gate.result c.from_residual-in_err-gate.ensures.1 in
    rw (p.1, p.2) (ends (λ k. gate_at c.args.header.now.greatest) c.loop.draft.equations c.args.header.now.gates c.loop.counter c.loop.reader _ c.in_err-gate.field-0.0 c.loop-test.true c.in_err-gate.ensures.exact c.loop.invariant.exact)

pub loop-preserved : goal.loop-preserved
loop-preserved c = record {
  exact = rw c.in_ok-add_cover.ensures.ok (goes_on (λ k. gate_at c.args.header.now.greatest) c.loop.draft.equations c.args.header.now.gates c.loop.counter c.loop.reader _ c.in_ok-gate.gate c.gate.new.self c.loop-test.true c.in_ok-gate.ensures.exact c.loop.invariant.exact);
  count = rw c.in_ok-add_cover.ensures.ok (omega (arith, length_push c.loop.draft.equations c.in_ok-gate.gate, c.loop.invariant.count));
  gates = rw c.in_ok-add_cover.ensures.ok (record { inputs = c.loop.invariant.gates.inputs; input_labels = c.loop.invariant.gates.input_labels; outputs = c.loop.invariant.gates.outputs; output_labels = c.loop.invariant.gates.output_labels });
}

pub returns-clause-exact : goal.returns-clause-exact
returns-clause-exact c = is_done (λ k. gate_at c.args.header.now.greatest) c.loop.draft.equations c.args.header.now.gates c.loop.counter c.loop.reader _ c.loop-test.false c.loop.invariant.exact

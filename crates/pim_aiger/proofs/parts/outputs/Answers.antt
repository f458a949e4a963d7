use Rattle.std.proofs.Common.{◌<◌, arith}
use Rattle.std.proofs.lemmas.Result.{err_from_is_err_and}
use Rattle.std.proofs.lemmas.List.{length_push}
use Rattle.std.proofs.lemmas.List.Elements.{All-push}
use Rattle.pim_net.specs.declared.limits.TheConstants.{MAX_SIGNALS}
use Rattle.pim_aiger.specs.Literals.{output_at}
use Rattle.pim_aiger.proofs.Many.{goes_on, ends, is_done}
use Rattle.pim_aiger.proofs.parts.outputs.Goals as goal

pub returns-in_err-output-clause-exact : goal.returns-in_err-output-clause-exact
returns-in_err-output-clause-exact c =
    let p = err_from_is_err_and c.from_residual.result c.from_residual.ensures.1 in
    rw (p.1, p.2) (ends (λ k. output_at c.args.header.now.greatest) c.loop.outputs.items c.args.header.now.outputs c.loop.counter c.loop.reader _ c.in_err-output.field-0.0 c.loop-test.true c.in_err-output.ensures.exact c.loop.invariant.exact)

pub loop-preserved : goal.loop-preserved
loop-preserved c = record {
  exact = rw c.in_ok-push.ensures.items (goes_on (λ k. output_at c.args.header.now.greatest) c.loop.outputs.items c.args.header.now.outputs c.loop.counter c.loop.reader _ c.in_ok-output.output c.output.new.self c.loop-test.true c.in_ok-output.ensures.exact c.loop.invariant.exact);
  count = rw c.in_ok-push.ensures.items (omega (arith, length_push c.loop.outputs.items c.in_ok-output.output, c.loop.invariant.count));
  below = rw c.in_ok-push.ensures.items (All-push (λ o. o.sig < MAX_SIGNALS) c.loop.outputs.items c.in_ok-output.output c.loop.invariant.below c.in_ok-output.ensures.below);
}

pub returns-clause-exact : goal.returns-clause-exact
returns-clause-exact c = is_done (λ k. output_at c.args.header.now.greatest) c.loop.outputs.items c.args.header.now.outputs c.loop.counter c.loop.reader _ c.loop-test.false c.loop.invariant.exact

use Rattle.std.proofs.lemmas.Result.{err_from_is_err_and}
use Rattle.pim_file.specs.inner.Kept.{with_input}
use Rattle.pim_file.specs.BinaryReading.{port_at}
use Rattle.pim_file.specs.inner.BinaryKept.{with_inputs}
use Rattle.pim_text.specs.PortLines.{port_view}
use Rattle.pim_file.proofs.ManyLemmas.{goes_on, ends, is_done}
use Rattle.pim_file.proofs.KeptLemmas.{no_inputs, more_inputs}
use Rattle.pim_file.proofs.binary.parsing.add_inputs.Goals as goal

pub returns-in_err-port : goal.returns-in_err-port
returns-in_err-port c =
    let p = err_from_is_err_and c.from_residual.result c.from_residual.ensures.1 in
    rw (p.1, p.2) (ends port_at with_input with_inputs c.args.count c.loop.counter c.loop.items c.loop.kept _ c.in_err-port.field-0.0 c.loop-test.true c.in_err-port.ensures.exact c.loop.invariant)

pub loop-preserved : goal.loop-preserved
loop-preserved c =
    rw c.in_ok-add_input.ensures (goes_on port_at with_input with_inputs c.args.count c.loop.counter c.loop.items c.loop.kept _ more_inputs (port_view c.in_ok-port.port) c.port.new.self c.loop-test.true c.in_ok-port.ensures.exact c.loop.invariant)

pub returns : goal.returns
returns c = is_done port_at with_input with_inputs c.args.count c.loop.counter c.loop.items c.loop.kept _ (no_inputs c.loop.kept) c.loop-test.false c.loop.invariant

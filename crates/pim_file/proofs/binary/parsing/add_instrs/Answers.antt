use Rattle.std.proofs.lemmas.Result.{err_from_is_err_and}
use Rattle.pim_file.specs.inner.Kept.{with_instr}
use Rattle.pim_file.specs.BinaryReading.{instr_at}
use Rattle.pim_file.specs.inner.BinaryKept.{with_instrs}
use Rattle.pim_file.proofs.ManyLemmas.{goes_on, ends, is_done}
use Rattle.pim_file.proofs.KeptLemmas.{no_instrs, more_instrs}
use Rattle.pim_file.proofs.binary.parsing.add_instrs.Goals as goal

pub returns-in_err-instr : goal.returns-in_err-instr
returns-in_err-instr c =
    let p = err_from_is_err_and c.from_residual.result c.from_residual.ensures.1 in
    rw (p.1, p.2) (ends instr_at with_instr with_instrs c.args.count c.loop.counter c.loop.items c.loop.kept _ c.in_err-instr.field-0.0 c.loop-test.true c.in_err-instr.ensures c.loop.invariant)

pub loop-preserved : goal.loop-preserved
loop-preserved c =
    rw c.in_ok-add.ensures (goes_on instr_at with_instr with_instrs c.args.count c.loop.counter c.loop.items c.loop.kept _ more_instrs c.in_ok-instr.instr c.instr.new.self c.loop-test.true c.in_ok-instr.ensures c.loop.invariant)

pub returns : goal.returns
returns c = is_done instr_at with_instr with_instrs c.args.count c.loop.counter c.loop.items c.loop.kept _ (no_instrs c.loop.kept) c.loop-test.false c.loop.invariant

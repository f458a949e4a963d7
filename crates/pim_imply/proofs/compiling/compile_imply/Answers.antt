use Rattle.std.proofs.Common.{◌∙◌, ap}
use Rattle.std.proofs.lemmas.Result.{err_from_is_err_and}
use Rattle.pim_imply.specs.Costs.{impcost, needed_of}
use Rattle.pim_imply.proofs.Netlists.{computes, unfit}
use Rattle.pim_imply.proofs.compiling.compile_imply.Goals as goal

pub returns-clause-computes : goal.returns-clause-computes
returns-clause-computes c =
    let ports = c.in_ok-ports.ensures in
    computes c.in_ok-program.program c.args.net.now c.in_ok-aig.aig c.in_ok-ports.ports ports.inputs ports.outputs ports.as_many_inputs c.in_ok-aig.ensures.values c.in_ok-program.ensures.realizes c.in_ok-program.ensures.labels

pub returns-clause-needed : goal.returns-clause-needed
returns-clause-needed c = c.in_ok-program.ensures.needed ∙ ap needed_of c.in_ok-aig.ensures.flat

pub returns-clause-cycles : goal.returns-clause-cycles
returns-clause-cycles c = c.in_ok-program.ensures.cycles ∙ ap impcost c.in_ok-aig.ensures.flat

pub returns-in_err-program-clause-refused : goal.returns-in_err-program-clause-refused
returns-in_err-program-clause-refused c =
    let e = c.in_err-program in
    let p = err_from_is_err_and c.from_residual-in_err-program.result c.from_residual-in_err-program.ensures.1 in
    rw (p.1, p.2) (unfit c.args.net.now (needed_of c.in_ok-aig.aig) c.args.budget e.field-0.0 c.in_ok-aig.ensures.accepted (ap needed_of c.in_ok-aig.ensures.flat) e.ensures.refused)

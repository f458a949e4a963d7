use Rattle.std.proofs.lemmas.Result.{IfOk-weaker}
use Rattle.pim_isa.specs.Programs.{ProgramView}
use Rattle.pim_simpler.proofs.Stages.{begun, drafted}
use Rattle.pim_simpler.proofs.scheduling.draft.Goals as goal

pub new-requires-clause-placed : goal.new-requires-clause-placed
new-requires-clause-placed c = c.requires.plan.placed

pub new-requires-clause-enough : goal.new-requires-clause-enough
new-requires-clause-enough c = c.requires.plan.inputs_within

pub run-requires-clause-plan : goal.run-requires-clause-plan
run-requires-clause-plan c =
    let made = c.in_ok-scheduler.ensures in
    (begun c.args.net.now c.args.order.now c.args.cells c.in_ok-scheduler.scheduler made.net made.draft made.free made.left c.requires.plan).0

pub run-requires-clause-begins : goal.run-requires-clause-begins
run-requires-clause-begins c =
    let made = c.in_ok-scheduler.ensures in
    (begun c.args.net.now c.args.order.now c.args.cells c.in_ok-scheduler.scheduler made.net made.draft made.free made.left c.requires.plan).1

pub returns : goal.returns
returns c =
    let made = c.in_ok-scheduler.ensures in
    IfOk-weaker c.finish.result _ _
    (λ (d : ProgramView) is. drafted c.args.net.now c.args.ports.now c.args.order.now c.args.cells c.in_ok-scheduler.scheduler c.run.new.self d c.requires.plan c.requires.outputs made.net made.draft c.in_ok-run.ensures is)
    c.finish.ensures

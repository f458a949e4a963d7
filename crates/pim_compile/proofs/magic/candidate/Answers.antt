use Rattle.std.proofs.Common.{◌+◌, subst}
use Rattle.std.specs.Prelude.{IfOk}
use Rattle.pim_nor.specs.Network.{NorView, nor_count}
use Rattle.pim_simpler.specs.Needs.{needed_of}
use Rattle.pim_compile.specs.inner.Fits.{TellsNeed}
use Rattle.pim_compile.proofs.Composed.{candidate_best}
use Rattle.pim_compile.proofs.magic.candidate.Goals as goal

pub returns-clause-best : goal.returns-clause-best
returns-clause-best c =
    let j = c.args.job.now in
    candidate_best j.aig.now c.in_ok-network.network j.ports.now c.args.width j.budget c.scheduled.result c.in_ok-network.ensures.network c.in_ok-network.ensures.values c.in_ok-network.ensures.no_more c.args.job.now.inputs c.scheduled.ensures.schedule

pub returns-clause-need : goal.returns-clause-need
returns-clause-need c =
    let j = c.args.job.now in
    let N : NorView → Type 0 = λ w. IfOk c.scheduled.result (TellsNeed (needed_of w) (w.inputs + nor_count w.gates + 1) j.budget) in
    subst N c.in_ok-network.ensures.network c.scheduled.ensures.need

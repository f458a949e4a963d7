use Rattle.std.proofs.Common.{Option, arith, ◌∙◌, sym, subst}
use Rattle.pim_isa.specs.Programs.{ProgramView}
use Rattle.pim_nor.specs.Lowered.{nors}
use Rattle.pim_compile.specs.Networks.{if_few}
use Rattle.pim_compile.specs.inner.Candidates.{IsBestOf}
use Rattle.pim_compile.specs.inner.Fits.{program_of}
use Rattle.pim_compile.proofs.Composed.{few_enough}
use Rattle.pim_compile.proofs.magic.thrifty.Goals as goal

pub returns : goal.returns
returns c =
    let few = c.if-nors-most.false in
    let B : Option ProgramView → Type 0 = IsBestOf c.args.aig.now c.args.job.now.ports.now c.args.most c.args.job.now.budget (if_few c.args.most (nors c.args.aig.now c.args.width)) in
    subst B (sym c.program.ensures)
    (few_enough c.args.aig.now c.in_ok-network.network c.args.job.now.ports.now c.args.width c.args.most c.args.job.now.budget (program_of c.in_ok-fit.fit) c.in_ok-network.ensures.network c.in_ok-network.ensures.values (omega (arith, few, c.nors.ensures)) (c.args.job.now.inputs ∙ sym c.requires.inputs) c.in_ok-fit.ensures.schedule)

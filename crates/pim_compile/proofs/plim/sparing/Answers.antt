use Rattle.std.proofs.Common.{[], ◌∷◌, ◌∙◌, Option, sym, subst}
use Rattle.pim_isa.specs.Programs.{ProgramView}
use Rattle.pim_compile.specs.inner.Smart.{IsSmartest}
use Rattle.pim_compile.proofs.Sparing.{kept, unfit}
use Rattle.pim_compile.proofs.plim.sparing.Goals as goal

pub returns-in-Ok : goal.returns-in-Ok
returns-in-Ok c =
    let e = c.in-Ok.ensures in
    let S : Option ProgramView → Type 0 = IsSmartest c.args.job.now.aig.now c.args.job.now.ports.now c.args.job.now.budget (c.args.mig.now ∷ []) in
    subst S (sym c.if_short.ensures)
    (kept c.args.job.now.aig.now c.args.job.now.ports.now c.args.job.now.budget c.args.mig.now c.requires.same (c.args.job.now.inputs ∙ sym c.requires.inputs) c.args.most c.in-Ok.program c.requires.most e.realizes e.labels e.target e.cells e.primed e.cycles)

pub returns-in-Err-Unfit : goal.returns-in-Err-Unfit
returns-in-Err-Unfit c =
    let wide = rw c.in-Err-Unfit.field-0-is at c.in-Err-Unfit.ensures.unfit in
    unfit c.args.job.now.aig.now c.args.job.now.ports.now c.args.job.now.budget c.args.mig.now c.requires.same (c.args.job.now.inputs ∙ sym c.requires.inputs) c.in-Err-Unfit.field-0-0 wide.1 wide.2

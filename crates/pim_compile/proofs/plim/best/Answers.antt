use Rattle.std.specs.Prelude.{IfSome}
use Rattle.std.proofs.Common.{Option, ◌∙◌, sym, ap, subst}
use Rattle.pim_isa.specs.Programs.{ProgramView}
use Rattle.pim_isa.specs.declared.target.Target.TheVariants.{Plim}
use Rattle.pim_compile.specs.Networks.{coarse_of, need_of}
use Rattle.pim_compile.specs.declared.fit.Fit.{Fit}
use Rattle.pim_compile.specs.inner.Fits.{TellsNeed, program_of}
use Rattle.pim_compile.specs.inner.Smart.{IsPlim}
use Rattle.pim_compile.proofs.Fits.{need-beside, program_of-beside}
use Rattle.pim_compile.proofs.Sparing.{plim_fits}
use Rattle.pim_compile.proofs.plim.best.Goals as goal

pub returns-clause-fits : goal.returns-clause-fits
returns-clause-fits c =
    let j = c.args.job.now in
    let smart = c.in_ok-smart.smart in
    let plain = c.in_ok-plain.plain in
    let P : Option ProgramView → Type 0 = λ r. IfSome r (IsPlim c.args.level j.aig.now j.ports.now j.budget) in
    subst P (sym (ap program_of c.beside.ensures ∙ program_of-beside smart plain))
    (plim_fits j.aig.now j.ports.now j.budget c.args.level smart (program_of plain) c.in_ok-smart.ensures c.in_ok-plain.ensures.base)

pub returns-clause-need : goal.returns-clause-need
returns-clause-need c =
    let j = c.args.job.now in
    let T : Fit → Type 0 = TellsNeed (need_of j.aig.now Plim) (coarse_of j.aig.now Plim) j.budget in
    subst T (sym c.beside.ensures)
    (need-beside (need_of j.aig.now Plim) (coarse_of j.aig.now Plim) j.budget c.in_ok-smart.smart c.in_ok-plain.plain c.in_ok-plain.ensures.need)

use Rattle.std.proofs.Common.{◌++◌, List, Option, sym, ◌∙◌, ap, subst}
use Rattle.std.specs.Prelude.{IfOk}
use Rattle.pim_isa.specs.Programs.{ProgramView}
use Rattle.pim_isa.specs.declared.target.Target.TheVariants.{Magic}
use Rattle.pim_nor.specs.Network.{NorView}
use Rattle.pim_compile.specs.Networks.{coarse_of, most_nors, need_of, networks_at, networks_of, tidy_networks}
use Rattle.pim_compile.specs.declared.compiling.Level.{Level}
use Rattle.pim_compile.specs.declared.fit.Fit.{Fit}
use Rattle.pim_compile.specs.inner.Candidates.{IsBestOf, IsOfNetwork}
use Rattle.pim_compile.specs.inner.Fits.{TellsNeed, program_of}
use Rattle.pim_compile.proofs.Best.{both_best}
use Rattle.pim_compile.proofs.Composed.{above_zero}
use Rattle.pim_compile.proofs.Fits.{need-beside, program_of-beside}
use Rattle.pim_compile.proofs.magic.best.Goals as goal

pub returns-in-Zero-clause-best : goal.returns-in-Zero-clause-best
returns-in-Zero-clause-best c =
    let j = c.args.job.now in
    let L : Level → Type 0 = λ e. IfOk c.best_flat.result (λ f. IsBestOf j.aig.now j.ports.now (most_nors j.aig.now) j.budget (networks_at e j.aig.now) (program_of f)) in
    subst L (sym c.in-Zero.is) c.best_flat.ensures.best

pub returns-in_ok-flat-in-One-clause-best : goal.returns-in_ok-flat-in-One-clause-best
returns-in_ok-flat-in-One-clause-best c =
    let j = c.args.job.now in
    let B : List NorView → Option ProgramView → Type 0 = λ ws r. IsBestOf j.aig.now j.ports.now (most_nors j.aig.now) j.budget ws r in
    let both : B (tidy_networks j.aig.now ++ networks_of j.aig.now) (program_of c.beside.result) =
    subst (B (tidy_networks j.aig.now ++ networks_of j.aig.now)) (sym (ap program_of c.beside.ensures ∙ program_of-beside c.in_ok-tidy-in-One.tidy c.in_ok-flat-in-One.flat))
    (both_best (IsOfNetwork j.aig.now j.ports.now (most_nors j.aig.now) j.budget) j.budget (tidy_networks j.aig.now) (networks_of j.aig.now) c.in_ok-tidy-in-One.tidy (program_of c.in_ok-flat-in-One.flat) c.in_ok-tidy-in-One.ensures c.in_ok-flat-in-One.ensures.best) in
    subst (λ (ws : List NorView). B ws (program_of c.beside.result)) (sym (above_zero c.args.level j.aig.now c.in-One.is)) both

pub returns-in_ok-flat-in-One-clause-need : goal.returns-in_ok-flat-in-One-clause-need
returns-in_ok-flat-in-One-clause-need c =
    let j = c.args.job.now in
    let T : Fit → Type 0 = TellsNeed (need_of j.aig.now Magic) (coarse_of j.aig.now Magic) j.budget in
    subst T (sym c.beside.ensures)
    (need-beside (need_of j.aig.now Magic) (coarse_of j.aig.now Magic) j.budget c.in_ok-tidy-in-One.tidy c.in_ok-flat-in-One.flat c.in_ok-flat-in-One.ensures.need)

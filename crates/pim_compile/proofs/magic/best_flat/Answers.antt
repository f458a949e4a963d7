use Rattle.std.proofs.Common.{◌+◌, [], ◌∷◌, Option, sym, ◌∙◌, ap, subst, arith}
use Rattle.pim_isa.specs.Programs.{ProgramView}
use Rattle.pim_isa.specs.declared.target.Target.TheVariants.{Magic}
use Rattle.pim_nor.specs.Lowered.{nors}
use Rattle.pim_nor.specs.Network.{nor_count}
use Rattle.pim_nor.specs.declared.lowering.Width.TheVariants.{Two, Four}
use Rattle.pim_simpler.specs.Needs.{needed_of}
use Rattle.pim_compile.specs.Networks.{coarse_of, most_nors, need_of, networks_of}
use Rattle.pim_compile.specs.declared.fit.Fit.{Fit}
use Rattle.pim_compile.specs.inner.Candidates.{IsBestOf, IsOfNetwork}
use Rattle.pim_compile.specs.inner.Fits.{TellsNeed, program_of}
use Rattle.pim_compile.proofs.Best.{both_best}
use Rattle.pim_compile.proofs.Fits.{need-joined, program_of-joined}
use Rattle.pim_compile.proofs.magic.best_flat.Goals as goal

pub returns-clause-best : goal.returns-clause-best
returns-clause-best c =
    let j = c.args.job.now in
    let most = most_nors j.aig.now in
    let B : Option ProgramView → Type 0 = λ r. IsBestOf j.aig.now j.ports.now most j.budget (networks_of j.aig.now) r in
    subst B (sym (ap program_of c.joined.ensures ∙ program_of-joined c.in_ok-four.four c.in_ok-two.two))
    (both_best (IsOfNetwork j.aig.now j.ports.now most j.budget) j.budget (nors j.aig.now Four ∷ []) (nors j.aig.now Two ∷ []) (program_of c.in_ok-four.four) (program_of c.in_ok-two.two) c.in_ok-four.ensures.best c.in_ok-two.ensures.best)

pub returns-clause-need : goal.returns-clause-need
returns-clause-need c =
    let j = c.args.job.now in
    let T : Fit → Type 0 = TellsNeed (need_of j.aig.now Magic) (coarse_of j.aig.now Magic) j.budget in
    subst T (sym c.joined.ensures)
    (need-joined (needed_of (nors j.aig.now Four)) (needed_of (nors j.aig.now Two)) (j.aig.now.inputs + nor_count (nors j.aig.now Four).gates + 1) (j.aig.now.inputs + most_nors j.aig.now + 1) (coarse_of j.aig.now Magic) j.budget c.in_ok-four.four c.in_ok-two.two (omega arith) c.in_ok-four.ensures.need c.in_ok-two.ensures.need)

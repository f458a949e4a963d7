use Rattle.std.proofs.Common.{◌≡◌, ◌∙◌, Option, sym, ap, subst}
use Rattle.pim_isa.specs.Programs.{ProgramView}
use Rattle.pim_nor.specs.Network.{NorView, nor_count}
use Rattle.pim_compile.specs.Networks.{most_nors, tidy_networks}
use Rattle.pim_compile.specs.inner.Candidates.{IsBestOf}
use Rattle.pim_compile.proofs.Composed.{tidy_best}
use Rattle.pim_compile.proofs.magic.best_tidy.Goals as goal

pub returns : goal.returns
returns c =
    let j = c.args.job.now in
    let most : c.nors-most.result ≡ most_nors j.aig.now = c.nors-most.ensures ∙ ap (λ (w : NorView). nor_count w.gates) c.in_ok-lower.ensures.network in
    let B : Option ProgramView → Type 0 = λ r. IsBestOf j.aig.now j.ports.now (most_nors j.aig.now) j.budget (tidy_networks j.aig.now) r in
    subst B (sym c.shorter.ensures)
    (tidy_best j.aig.now c.in_ok-tidy.tidy j.ports.now c.nors-most.result j.budget c.in_ok-four.four c.in_ok-two.two c.in_ok-tidy.ensures.tidied most c.args.job.now.inputs c.in_ok-tidy.ensures.values c.in_ok-four.ensures c.in_ok-two.ensures)

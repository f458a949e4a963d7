use Rattle.std.proofs.Common.{◌≡◌, ◌∙◌, Option, length, sym, subst}
use Rattle.pim_isa.specs.Programs.{ProgramView}
use Rattle.pim_mig.specs.Values.{mval}
use Rattle.pim_compile.specs.Cycles.{graphs_at}
use Rattle.pim_compile.specs.declared.compiling.Level.{Level}
use Rattle.pim_compile.specs.declared.compiling.Level.TheVariants as level
use Rattle.pim_compile.specs.inner.Smart.{IsSmartest, IsSmartestAt}
use Rattle.pim_compile.proofs.Sparing.{as_many, two_graphs}
use Rattle.pim_compile.proofs.plim.smartest.Goals as goal

pub sparing-requires-in-Two-clause-outputs : goal.sparing-requires-in-Two-clause-outputs
sparing-requires-in-Two-clause-outputs c =
    let m = c.in_ok-mig-in-Two.mig in
    let r = c.in_ok-rewritten-in-Two.rewritten in
    let many : length r.outputs ≡ length m.outputs = as_many m.inputs r.outputs m.outputs (mval r) (mval m) c.in_ok-rewritten-in-Two.ensures.values in
    many ∙ c.in_ok-mig-in-Two.ensures.outputs

pub returns-in_ok-second-in-Two : goal.returns-in_ok-second-in-Two
returns-in_ok-second-in-Two c =
    let g = c.args.job.now.aig.now in
    let S : Option ProgramView → Type 0 = IsSmartest g c.args.job.now.ports.now c.args.job.now.budget (graphs_at level.Two g) in
    let found : IsSmartestAt level.Two g c.args.job.now.ports.now c.args.job.now.budget c.shorter.result =
    subst S (sym c.shorter.ensures)
    (two_graphs g c.args.job.now.ports.now c.args.job.now.budget c.in_ok-mig-in-Two.mig c.in_ok-rewritten-in-Two.rewritten c.in_ok-first-in-Two.first c.in_ok-second-in-Two.second c.in_ok-mig-in-Two.ensures.majs c.in_ok-rewritten-in-Two.ensures.rewritten c.in_ok-first-in-Two.ensures c.in_ok-second-in-Two.ensures) in
    let L : Level → Type 0 = λ e. IsSmartestAt e g c.args.job.now.ports.now c.args.job.now.budget c.shorter.result in
    subst L (sym c.in-Two.is) found

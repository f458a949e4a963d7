-- Inner. The step of each pass.
use Rattle.pim_mig.specs.Graph.{MigView}
use Rattle.pim_rewrite.specs.Cases.{case_of, spread}
use Rattle.pim_rewrite.specs.Passes.{flipped, plainly, Step}
use Rattle.pim_rewrite.specs.declared.passes.Pass.{Pass}
use Rattle.pim_rewrite.specs.declared.passes.Pass.TheVariants.{Copy, Distribute, Flip}

abbrev pub step_of : Pass → MigView → Step
step_of Copy g = plainly g.inputs
step_of Flip g = flipped g.inputs
step_of Distribute g = λ st m. spread (case_of g m) g.inputs st m

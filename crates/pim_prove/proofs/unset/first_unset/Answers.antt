use Rattle.std.proofs.Common.{◌≡◌}
use Rattle.std.specs.Prelude.{◌↔◌, IsNone}
use Rattle.std.proofs.lemmas.Result.{IfOk-weaker}
use Rattle.pim_prove.specs.Clean.{IsClean, unset_of}
use Rattle.pim_prove.proofs.Cleaning.{clean_front, none_iff}
use Rattle.pim_prove.proofs.Steadiness.{steady}
use Rattle.pim_prove.proofs.unset.first_unset.Goals as goal

pub returns-clause-clean : goal.returns-clause-clean
returns-clause-clean c =
    let p = c.args.program.now in
    IfOk-weaker c.find_unset.result (λ unset. unset ≡ unset_of p) (λ unset. IsNone unset ↔ IsClean p) (none_iff p) c.find_unset.ensures

pub returns-clause-steady : goal.returns-clause-steady
returns-clause-steady c = λ clean. steady c.laws.ensures.exec c.args.program.now c.cells.ensures.valid (clean_front c.args.program.now clean)

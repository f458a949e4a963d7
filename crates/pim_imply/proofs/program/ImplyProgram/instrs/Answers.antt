use Rattle.std.proofs.Common.{◌≡◌, None, subst}
use Rattle.pim_imply.specs.Programs.{ImplyView}
use Rattle.pim_imply.specs.Validity.{fault_of}
use Rattle.pim_imply.proofs.FitLemmas.{all_fit}
use Rattle.pim_imply.proofs.program.ImplyProgram.instrs.Goals as goal

pub returns-clause-fit : goal.returns-clause-fit
returns-clause-fit c = all_fit c.args.self.now (subst (λ (p : ImplyView). fault_of p ≡ None) c.self.view_is c.self.invariant.faultless)

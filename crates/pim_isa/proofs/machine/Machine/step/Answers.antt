use Rattle.std.proofs.Common.{◌≡◌, ◌<◌, List, Bool, length, arith, ap, ◌∙◌, sym, Some}
use Rattle.std.specs.Prelude.{slice_get}
use Rattle.std.proofs.lemmas.Grind.{common_steps}
use Rattle.std.proofs.lemmas.Option.{gets, slice_get_within}
use Rattle.pim_isa.specs.Steps.{step}
use Rattle.pim_isa.proofs.RowLemmas.{exec_k-suc}
use Rattle.pim_isa.proofs.machine.Machine.step.Goals as goal

-- the row keeps its length, and the instruction was one of the program
pub invariant_of-self : goal.invariant_of-self
invariant_of-self c =
    let here : slice_get c.self.inside.program.now.instrs c.self.inside.at ≡ Some c.in-Some.instr.now = grind (arith, common_steps, gets) in
    let within : c.self.inside.at < length c.self.inside.program.now.instrs = slice_get_within _ _ _ here in
    (c.execute.ensures.long ∙ c.self.invariant.0, omega (arith, within), c.self.invariant.2)

-- one instruction more was executed
pub returns-clause-follows : goal.returns-clause-follows
returns-clause-follows c =
    let here : slice_get c.self.inside.program.now.instrs c.self.inside.at ≡ Some c.in-Some.instr.now = grind (arith, common_steps, gets) in
    rw (← c.self.view_is) (λ start so_far.
    c.execute.ensures.step
    ∙ ap (λ (m : List Bool). step m c.in-Some.instr.now) so_far
    ∙ sym (exec_k-suc c.self.inside.at c.self.inside.program.now.instrs c.in-Some.instr.now start here))

use Rattle.std.proofs.Common.{◌≡◌, ℕ, ◌+◌, ◌<◌, [], length, Option, sym, ◌∙◌, subst, arith, Some}
use Rattle.std.specs.Option.{IfSome, option_or}
use Rattle.pim_isa.specs.Validity.{bad_input, bad_output, bad_port}
use Rattle.pim_isa.proofs.NoteLemmas.{bad_port-below}
use Rattle.pim_isa.proofs.draft.ProgramDraft.fault.Goals as goal

-- the place is below the number of ports
pub overflow_cast-result : goal.overflow_cast-result
overflow_cast-result c =
    let found : Some c.in-Some.place
    ≡ option_or (bad_input c.self.inside.cells 0 [] c.self.inside.inputs.items)
    (bad_output c.self.inside.cells (length c.self.inside.inputs.items) c.self.inside.outputs.items) =
    c.in-Some.ensures
    ∙ rw (c.bad_output.ensures, c.self.invariant.notes.first, c.len.ensures, c.self.inside.inputs.ok.0, c.deref.ensures.value) in
    let is_place : Some c.in-Some.place ≡ bad_port c.args.self.now = rw (← c.self.view_is) found in
    let below : c.in-Some.place < length c.args.self.now.inputs + length c.args.self.now.outputs =
    subst (λ (o : Option ℕ). IfSome o (λ n. n < length c.args.self.now.inputs + length c.args.self.now.outputs)) (sym is_place)
    (bad_port-below c.args.self.now) in
    omega (arith, below)

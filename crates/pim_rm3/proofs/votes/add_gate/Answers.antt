use Rattle.std.proofs.Common.{◌≡◌, ℕ, ◌+◌, ◌*◌, ◌<◌, List, MatchOption, Option, Some, None, get_or, length, ◌∙◌, ap, refl, subst, sym, arith}
use Rattle.std.proofs.lemmas.List.FromFn.{length-map-range_with_len}
use Rattle.pim_aig.specs.declared.literal.Lit.{Lit}
use Rattle.pim_mig.specs.Graph.{MigView, size}
use Rattle.pim_rm3.specs.Roles.{temporary}
use Rattle.pim_rm3.specs.SmartSchedules.{gate_cells}
use Rattle.pim_rm3.specs.Temporaries.{gate_number, temporary_of}
use Rattle.pim_rm3.specs.inner.Operands.{IsBelow, StepsBelow}
use Rattle.pim_rm3.specs.declared.role.Role.{Role}
use Rattle.pim_rm3.specs.declared.step.Step.{Step}
use Rattle.pim_rm3.specs.declared.step.Step.TheVariants as step
use Rattle.pim_rm3.proofs.StepLaws.{temporary_one}
use Rattle.pim_rm3.proofs.votes.add_gate.Goals as goal

count : (g : MigView) (cs held : List ℕ) → cs ≡ gate_cells (2 * size g) held → length cs ≡ 2 * size g
count g cs held is = ap (λ (xs : List ℕ). length xs) is ∙ length-map-range_with_len (λ l. get_or held (gate_number l) 0) 0 (2 * size g)

wanted_below : (r : Role) (o : Option Lit) (l n : ℕ) → IsBelow l r → l < n → temporary r ≡ o → MatchOption o (Unit {0}) (λ e. e.0 + 1 < n)
wanted_below r None l n h k is = tt
wanted_below r (Some e) l n h k is = temporary_one (λ d. d.0 + 1 < n) r e (let a = h.0 in omega arith) (let a = h.1 in omega arith) is

below : (s : Step) (l n : ℕ) → StepsBelow l s → l < n → MatchOption (temporary_of s) (Unit {0}) (λ e. e.0 + 1 < n)
below (step.Constant b) l n h k = tt
below step.Input l n h k = tt
below (step.Complement e) l n h k = tt
below (step.Vote r) l n h k = wanted_below r (temporary r) l n h k refl

pub add_temporary-requires-clause-there : goal.add_temporary-requires-clause-there
add_temporary-requires-clause-there c =
    let n = length c.args.cells.now in
    let len = count c.args.mig.now c.args.cells.now c.args.held.now c.requires.cells in
    let P : Option Lit → Type 0 = λ o. MatchOption o (Unit {0}) (λ e. e.0 + 1 < n) in
    subst P (sym c.temporary_of.ensures) (below c.args.step c.args.literal n c.requires.below (omega (arith, c.requires.there)))

pub add_temporary-requires-clause-few : goal.add_temporary-requires-clause-few
add_temporary-requires-clause-few c =
    let len = count c.args.mig.now c.args.cells.now c.args.held.now c.requires.cells in
    omega (arith, c.inputs-inputs.ensures.sound.inputs_fit, c.inputs-inputs.ensures.sound.nodes_fit)

pub add_step-requires-clause-there : goal.add_step-requires-clause-there
add_step-requires-clause-there c =
    let len = count c.args.mig.now c.args.cells.now c.args.held.now c.requires.cells in
    omega (arith, c.requires.there)

use Rattle.std.proofs.Common.{◌≡◌, ◌∙◌, ◌+◌, ◌<◌, ◌≤◌, ℕ, rules, length, false, subst, sym, inl, inr, arith, Some, None}
use Rattle.std.specs.Prelude.{Err, Ok}
use Rattle.pim_isa.specs.Programs.{ProgramView}
use Rattle.pim_isa.specs.Primed.{IsPrimedFrom}
use Rattle.pim_isa.specs.Sound.{IsSound}
use Rattle.pim_share.specs.Merged.{merge_of, merged}
use Rattle.pim_share.specs.Sharing.{IsShared}
use Rattle.pim_share.specs.Windows.{needed}
use Rattle.pim_share.specs.declared.fault.ShareFault.TheVariants as faults
use Rattle.pim_share.proofs.Laying.{merged_ports}
use Rattle.pim_share.proofs.Shared.{are_parts, cells_fault, cycles, fair, found_is, other_fault, primed_front, shared, sound, turns_judged}
use Rattle.pim_share.proofs.merging.merge.Goals as goal

pub returns-in-Some-clause-exact : goal.returns-in-Some-clause-exact
returns-in-Some-clause-exact c =
    let parts = c.args.parts.now in
    let found = found_is parts c.target-target.result c.index-parts-0.result c.other_target.result c.requires.few_parts.some
    c.target-target.ensures.value c.index-parts-0.is c.other_target.ensures in
    inr (other_fault parts c.args.turns.now c.args.budget c.in-Some.part (found ∙ c.in-Some.is))

pub returns-then-needed-budget-clause-exact : goal.returns-then-needed-budget-clause-exact
returns-then-needed-budget-clause-exact c =
    let parts = c.args.parts.now in
    let turns = c.args.turns.now in
    let budget = c.args.budget in
    let none : c.other_target.result ≡ None = search rules in
    let found = found_is parts c.target-target.result c.index-parts-0.result c.other_target.result c.requires.few_parts.some
    c.target-target.ensures.value c.index-parts-0.is c.other_target.ensures in
    let few : budget < needed parts = omega (arith, c.if-needed-budget.true, c.needed-needed.ensures.value) in
    inr (subst (λ (n : ℕ). merge_of parts turns budget ≡ Err (faults.TooFewCells n)) (sym c.needed-needed.ensures.value) (cells_fault parts turns budget (found ∙ none) few))

pub returns-in_err-draft-clause-exact : goal.returns-in_err-draft-clause-exact
returns-in_err-draft-clause-exact c =
    let parts = c.args.parts.now in
    let turns = c.args.turns.now in
    let budget = c.args.budget in
    let none : c.other_target.result ≡ None = search rules in
    let found = found_is parts c.target-target.result c.index-parts-0.result c.other_target.result c.requires.few_parts.some
    c.target-target.ensures.value c.index-parts-0.is c.other_target.ensures in
    let enough : needed parts ≤ budget = omega (arith, c.if-needed-budget.false, c.needed-needed.ensures.value) in
    let is : c.from_residual.result ≡ Err c.in_err-draft.field-0.0 = search rules in
    rw is (elim c.in_err-draft.ensures.err [
      | inl memory ↦ inl memory
      | inr fault ↦ inr (turns_judged parts turns budget (Some c.in_err-draft.field-0.0) (found ∙ none) enough fault)
    ])

pub checked-program-requires-clause-few_ports : goal.checked-program-requires-clause-few_ports
checked-program-requires-clause-few_ports c =
    subst (λ (d : ProgramView). length d.inputs + length d.outputs ≤ 268435456) (sym c.in_ok-draft.ensures.draft)
    (omega (arith, merged_ports c.args.parts.now 0, c.requires.few_parts.ports))

pub checked-program-requires-clause-few_instrs : goal.checked-program-requires-clause-few_instrs
checked-program-requires-clause-few_instrs c =
    let parts = c.args.parts.now in
    let none : c.other_target.result ≡ None = search rules in
    let found = found_is parts c.target-target.result c.index-parts-0.result c.other_target.result c.requires.few_parts.some
    c.target-target.ensures.value c.index-parts-0.is c.other_target.ensures in
    let are = are_parts parts c.needed-needed.ensures.valid (found ∙ none) in
    subst (λ (d : ProgramView). length d.instrs ≤ 268435456) (sym c.in_ok-draft.ensures.draft)
    (omega (arith, cycles c.args.parts.now c.args.turns.now are c.in_ok-draft.ensures.ok, c.requires.few_turns))

pub checked-program-requires-clause-sound : goal.checked-program-requires-clause-sound
checked-program-requires-clause-sound c =
    let parts = c.args.parts.now in
    let none : c.other_target.result ≡ None = search rules in
    let found = found_is parts c.target-target.result c.index-parts-0.result c.other_target.result c.requires.few_parts.some
    c.target-target.ensures.value c.index-parts-0.is c.other_target.ensures in
    let are = are_parts parts c.needed-needed.ensures.valid (found ∙ none) in
    subst IsSound (sym c.in_ok-draft.ensures.draft) (sound c.args.parts.now c.args.turns.now are c.in_ok-draft.ensures.ok)

pub returns-clause-exact : goal.returns-clause-exact
returns-clause-exact c =
    let parts = c.args.parts.now in
    let turns = c.args.turns.now in
    let budget = c.args.budget in
    let none : c.other_target.result ≡ None = search rules in
    let found = found_is parts c.target-target.result c.index-parts-0.result c.other_target.result c.requires.few_parts.some
    c.target-target.ensures.value c.index-parts-0.is c.other_target.ensures in
    let enough : needed parts ≤ budget = omega (arith, c.if-needed-budget.false, c.needed-needed.ensures.value) in
    let is : c.checked-program.result ≡ merged parts turns = c.checked-program.ensures ∙ c.in_ok-draft.ensures.draft in
    subst (λ (d : ProgramView). merge_of parts turns budget ≡ Ok d) (sym is) (turns_judged parts turns budget None (found ∙ none) enough c.in_ok-draft.ensures.ok)

pub returns-clause-shared : goal.returns-clause-shared
returns-clause-shared c =
    let parts = c.args.parts.now in
    let turns = c.args.turns.now in
    let is : c.checked-program.result ≡ merged parts turns = c.checked-program.ensures ∙ c.in_ok-draft.ensures.draft in
    let none : c.other_target.result ≡ None = search rules in
    let found = found_is parts c.target-target.result c.index-parts-0.result c.other_target.result c.requires.few_parts.some
    c.target-target.ensures.value c.index-parts-0.is c.other_target.ensures in
    subst (IsShared parts) (sym is) (shared parts turns (are_parts parts c.needed-needed.ensures.valid (found ∙ none)) c.in_ok-draft.ensures.ok)

pub returns-clause-primed : goal.returns-clause-primed
returns-clause-primed c = λ all.
    let parts = c.args.parts.now in
    let turns = c.args.turns.now in
    let is : c.checked-program.result ≡ merged parts turns = c.checked-program.ensures ∙ c.in_ok-draft.ensures.draft in
    let none : c.other_target.result ≡ None = search rules in
    let found = found_is parts c.target-target.result c.index-parts-0.result c.other_target.result c.requires.few_parts.some
    c.target-target.ensures.value c.index-parts-0.is c.other_target.ensures in
    c.primed_from_front.ensures (subst (λ (d : ProgramView). IsPrimedFrom (λ _. false) d.instrs) (sym is)
    (primed_front parts turns (are_parts parts c.needed-needed.ensures.valid (found ∙ none)) c.in_ok-draft.ensures.ok all))

pub returns-clause-fair : goal.returns-clause-fair
returns-clause-fair c =
    let parts = c.args.parts.now in
    let none : c.other_target.result ≡ None = search rules in
    let found = found_is parts c.target-target.result c.index-parts-0.result c.other_target.result c.requires.few_parts.some
    c.target-target.ensures.value c.index-parts-0.is c.other_target.ensures in
    fair parts c.args.turns.now (are_parts parts c.needed-needed.ensures.valid (found ∙ none)) c.in_ok-draft.ensures.ok

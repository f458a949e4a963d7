use Rattle.std.proofs.Common.{ℕ, List, length, get_or, ◌∙◌, ap, arith}
use Rattle.pim_aig.specs.declared.literal.Lit.{Lit}
use Rattle.pim_rm3.proofs.GateOrders.{kids_count}
use Rattle.pim_rm3.proofs.schedule.drafted.Goals as goal

pub add_inputs-requires : goal.add_inputs-requires
add_inputs-requires c = let e = ap (λ (xs : List (List ℕ)). length xs) c.inputs.ensures in omega (arith, c.requires.few)

pub add_outputs-requires-clause-there : goal.add_outputs-requires-clause-there
add_outputs-requires-clause-there c = λ k d h.
    let same = c.outputs.ensures.literals in
    let count = ap (λ (os : List Lit). length os) same in
    let at = ap (λ (os : List Lit). (get_or os k d).0) same in
    let there = c.outputs.ensures.sound.outputs_there k d (omega arith) in
    let len = ap (λ (xs : List ℕ). length xs) c.cells-cells.ensures ∙ c.requires.len ∙ kids_count c.args.aig.now in
    omega arith

pub add_gates-requires-clause-cells : goal.add_gates-requires-clause-cells
add_gates-requires-clause-cells c = ap (λ (xs : List ℕ). length xs) c.cells-cells.ensures ∙ c.requires.len ∙ kids_count c.args.aig.now

use Rattle.std.proofs.Common.{◌≡◌, ℕ, ◌+◌, ◌*◌, ◌<◌, All, List, Option, drop, get_or, length, true, sym, subst, ◌∙◌, ap, arith}
use Rattle.pim_graph.specs.Allotments.{IsOver, cells_along}
use Rattle.pim_graph.specs.Graphs.{GraphView}
use Rattle.pim_graph.specs.Orders.{order}
use Rattle.pim_graph.specs.Peaks.{IsPlaced, needed, peak}
use Rattle.pim_mig.specs.Graph.{size}
use Rattle.pim_rm3.specs.Steps.{mig_gates}
use Rattle.pim_rm3.specs.Temporaries.{full_graph, full_order, full_over}
use Rattle.pim_rm3.proofs.FullPeaks.{full_peak}
use Rattle.pim_rm3.proofs.FullSound.{flat_length, full_needed, full_placed, full_sound, ordered}
use Rattle.pim_rm3.proofs.GateOrders.{moved}
use Rattle.pim_rm3.proofs.StepLaws.{kids_count}
use Rattle.pim_rm3.proofs.smart_schedule.allotted.Goals as goal

pub full_order-requires-clause-there : goal.full_order-requires-clause-there
full_order-requires-clause-there c =
    let P : List ℕ → Type 0 = λ xs. All (λ l. l < 2 * size c.args.mig.now) xs in
    subst P (sym c.requires.order) (ordered c.args.mig.now c.requires.placed c.requires.needed).there

pub full_over-requires-clause-there : goal.full_over-requires-clause-there
full_over-requires-clause-there c =
    let P : List ℕ → Type 0 = λ xs. All (λ l. l < 2 * size c.args.mig.now) xs in
    subst P (sym c.requires.order) (ordered c.args.mig.now c.requires.placed c.requires.needed).there

pub allot-requires-clause-placed : goal.allot-requires-clause-placed
allot-requires-clause-placed c =
    let g = c.args.mig.now in
    let P : GraphView → Type 0 = λ v. IsPlaced v c.deref.result.now in
    let Q : List ℕ → Type 0 = λ xs. IsPlaced (full_graph g) xs in
    subst P (sym c.in_ok-full.ensures) (subst Q (sym (c.deref.ensures.value ∙ c.in_ok-gates.ensures)) (full_placed g (ordered g c.requires.placed c.requires.needed)))

pub allot-requires-clause-needed : goal.allot-requires-clause-needed
allot-requires-clause-needed c =
    let g = c.args.mig.now in
    let N : GraphView → List ℕ → Type 0 = λ v xs. (p : ℕ) → p < length xs → needed v (drop (p + 1) xs) (get_or xs p 0) ≡ true in
    let P : GraphView → Type 0 = λ v. N v c.deref.result.now in
    let Q : List ℕ → Type 0 = λ xs. N (full_graph g) xs in
    subst P (sym c.in_ok-full.ensures) (subst Q (sym (c.deref.ensures.value ∙ c.in_ok-gates.ensures)) (full_needed g (ordered g c.requires.placed c.requires.needed)))

pub allot-requires-clause-over : goal.allot-requires-clause-over
allot-requires-clause-over c =
    let g = c.args.mig.now in
    let P : GraphView → Type 0 = λ v. IsOver v c.deref.result.now c.deref-2.result.now in
    let Q : List ℕ → Type 0 = λ xs. IsOver (full_graph g) xs c.deref-2.result.now in
    let R : List (Option ℕ) → Type 0 = λ o. IsOver (full_graph g) (full_order g) o in
    subst P (sym c.in_ok-full.ensures) (subst Q (sym (c.deref.ensures.value ∙ c.in_ok-gates.ensures))
    (subst R (sym (c.deref-2.ensures.value ∙ c.in_ok-over.ensures)) (full_sound g (ordered g c.requires.placed c.requires.needed))))

pub allot-requires-clause-room : goal.allot-requires-clause-room
allot-requires-clause-room c =
    let g = c.args.mig.now in
    let all = ap (λ (xs : List ℕ). length xs) (c.deref.ensures.value ∙ c.in_ok-gates.ensures) in
    let twice = flat_length g (mig_gates g) in
    let few = ap (λ (v : GraphView). length (order v)) c.requires.graph in
    let kids = ap (λ (v : GraphView). length v.kids) c.requires.graph ∙ kids_count g in
    omega (arith, c.has_order.ensures.few, c.inputs.ensures.count, c.inputs.ensures.sound.inputs_fit, c.inputs.ensures.sound.nodes_fit)

pub returns-clause-full : goal.returns-clause-full
returns-clause-full c = full_placed c.args.mig.now (ordered c.args.mig.now c.requires.placed c.requires.needed)

pub returns-clause-sound : goal.returns-clause-sound
returns-clause-sound c = full_sound c.args.mig.now (ordered c.args.mig.now c.requires.placed c.requires.needed)

pub returns-clause-allotment : goal.returns-clause-allotment
returns-clause-allotment c =
    let g = c.args.mig.now in
    moved c.in_ok-full.full (full_graph g) c.deref.result.now (full_order g) c.deref-2.result.now (full_over g) c.inputs.result g.inputs c.in_ok-allotment.allotment
    c.in_ok-full.ensures (c.deref.ensures.value ∙ c.in_ok-gates.ensures) (c.deref-2.ensures.value ∙ c.in_ok-over.ensures) c.inputs.ensures.count c.in_ok-allotment.ensures.allotment

pub returns-clause-width : goal.returns-clause-width
returns-clause-width c =
    let g = c.args.mig.now in
    let same : peak c.in_ok-full.full c.deref.result.now ≡ peak (full_graph g) (full_order g) =
    ap (λ (v : GraphView). peak v c.deref.result.now) c.in_ok-full.ensures ∙ ap (peak (full_graph g)) (c.deref.ensures.value ∙ c.in_ok-gates.ensures) in
    let more = full_peak g (ordered g c.requires.placed c.requires.needed) in
    omega (arith, c.in_ok-allotment.ensures.width, c.inputs.ensures.count)

pub returns-clause-cells : goal.returns-clause-cells
returns-clause-cells c =
    let g = c.args.mig.now in
    let same : cells_along c.in_ok-full.full c.deref.result.now c.deref-2.result.now ≡ cells_along (full_graph g) (full_order g) (full_over g) =
    ap (λ (v : GraphView). cells_along v c.deref.result.now c.deref-2.result.now) c.in_ok-full.ensures
    ∙ ap (λ (xs : List ℕ). cells_along (full_graph g) xs c.deref-2.result.now) (c.deref.ensures.value ∙ c.in_ok-gates.ensures)
    ∙ ap (cells_along (full_graph g) (full_order g)) (c.deref-2.ensures.value ∙ c.in_ok-over.ensures) in
    omega (arith, c.in_ok-allotment.ensures.cells, c.inputs.ensures.count)

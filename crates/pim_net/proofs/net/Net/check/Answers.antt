use Rattle.std.proofs.Common.{◌≡◌, ℕ, List, Some, None, subst, ap, sym, ◌∙◌, ⊎_elim}
use Rattle.std.proofs.lemmas.Result.{err_from_is_err_and}
use Rattle.pim_net.specs.Cycles.{IsCycle}
use Rattle.pim_net.specs.Faults.{fault_of}
use Rattle.pim_net.specs.declared.fault.NetFault.{NetFault}
use Rattle.pim_net.specs.declared.fault.NetFault.TheVariants.{NoMemory}
use Rattle.pim_net.proofs.Exact.{formed_sound}
use Rattle.pim_net.specs.inner.Judged.{IsJudged, IsRefusal}
use Rattle.pim_net.specs.Netlist.{DraftView, IsDraft}
use Rattle.pim_net.specs.WellFormed.{IsNet, IsWellFormed}
use Rattle.pim_net.specs.declared.parts.Equation.{Equation}
use Rattle.pim_net.specs.declared.parts.OutRef.{OutRef}
use Rattle.pim_net.proofs.net.Net.check.Goals as goal

-- the parts of a draft that were judged make a netlist
net_is : (inputs inputs' : List ℕ) (es es' : List Equation) (outputs outputs' : List OutRef) (input_labels output_labels : List (List ℕ)) (topo : List ℕ) → inputs' ≡ inputs → es' ≡ es → outputs' ≡ outputs
    → IsDraft (record { inputs = inputs; input_labels = input_labels; equations = es; outputs = outputs; output_labels = output_labels }) → IsJudged inputs' es' outputs' topo
    → IsNet (record { inputs = inputs; input_labels = input_labels; equations = es; outputs = outputs; output_labels = output_labels; topo = topo })
net_is inputs inputs' es es' outputs outputs' input_labels output_labels topo same_inputs same_es same_outputs bounded judged =
    let j : IsJudged inputs es outputs topo =
    subst (λ i. IsJudged i es outputs topo) same_inputs (subst (λ e. IsJudged inputs' e outputs topo) same_es (subst (λ o. IsJudged inputs' es' o topo) same_outputs judged)) in
    record { bounded = bounded; well_formed = j.well_formed; by_depth = j.by_depth; ready = j.ready }

pub invariant_of-result : goal.invariant_of-result
invariant_of-result c =
    let d = c.draft.inside in
    net_is d.inputs.items c.as_slice.result.now d.equations.items c.as_slice-2.result.now d.outputs.items c.as_slice-3.result.now d.input_labels d.output_labels c.in_ok-topo.topo.items
    c.as_slice.ensures.value c.as_slice-2.ensures.value c.as_slice-3.ensures.value c.draft.invariant c.in_ok-topo.ensures.judged

pub returns-clause-checked : goal.returns-clause-checked
returns-clause-checked c =
    let d = c.draft.inside in
    net_is d.inputs.items c.as_slice.result.now d.equations.items c.as_slice-2.result.now d.outputs.items c.as_slice-3.result.now d.input_labels d.output_labels c.in_ok-topo.topo.items
    c.as_slice.ensures.value c.as_slice-2.ensures.value c.as_slice-3.ensures.value c.draft.invariant c.in_ok-topo.ensures.judged

-- a well-formed draft is refused only when out of memory
only_memory : (inputs inputs' : List ℕ) (es es' : List Equation) (outputs outputs' : List OutRef) (fault : NetFault) → inputs' ≡ inputs → es' ≡ es → outputs' ≡ outputs → IsWellFormed inputs es outputs → IsRefusal inputs' es' outputs' fault → fault ≡ NoMemory
only_memory inputs inputs' es es' outputs outputs' fault same_inputs same_es same_outputs formed refusal =
    ⊎_elim
    (λ (memory : fault ≡ NoMemory). memory)
    (λ (found : fault_of inputs' es' outputs' ≡ Some fault).
    let here : fault_of inputs es outputs ≡ Some fault =
    ap (λ i. fault_of i es outputs) (sym same_inputs) ∙ ap (λ e. fault_of inputs' e outputs) (sym same_es) ∙ ap (λ o. fault_of inputs' es' o) (sym same_outputs) ∙ found in
    let both : None ≡ Some fault = sym (formed_sound inputs es outputs formed) ∙ here in
    absurd (let no : ⊥ = cc in no))
    refusal

pub returns-in_err-topo-clause-exact : goal.returns-in_err-topo-clause-exact
returns-in_err-topo-clause-exact c = λ formed.
    let p = err_from_is_err_and c.from_residual.result c.from_residual.ensures.1 in
    rw (p.1, p.2) (only_memory c.args.draft.inputs c.as_slice.result.now c.args.draft.equations c.as_slice-2.result.now c.args.draft.outputs c.as_slice-3.result.now c.in_err-topo.field-0.0
    (c.as_slice.ensures.value ∙ ap (λ (v : DraftView). v.inputs) c.draft.view_is)
    (c.as_slice-2.ensures.value ∙ ap (λ (v : DraftView). v.equations) c.draft.view_is)
    (c.as_slice-3.ensures.value ∙ ap (λ (v : DraftView). v.outputs) c.draft.view_is)
    formed c.in_err-topo.ensures.judged)

pub returns-in_err-topo-clause-cycle : goal.returns-in_err-topo-clause-cycle
returns-in_err-topo-clause-cycle c =
    let p = err_from_is_err_and c.from_residual.result c.from_residual.ensures.1 in
    let same = c.as_slice-2.ensures.value ∙ ap (λ (v : DraftView). v.equations) c.draft.view_is in
    rw (p.1, p.2) (λ signals is. subst (λ (es : List Equation). IsCycle es signals) same (c.in_err-topo.ensures.cycle signals is))

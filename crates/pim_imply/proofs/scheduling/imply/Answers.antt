use Rattle.std.proofs.Common.{◌≡◌, length, map, Some, None, sym, ◌∙◌, ap, subst, arith}
use Rattle.pim_aig.specs.Values.{aval}
use Rattle.pim_isa.specs.PortLists.{labels_of}
use Rattle.pim_imply.specs.Programs.{ImplyView}
use Rattle.pim_imply.specs.Realizes.{IRealizes}
use Rattle.pim_imply.specs.inner.Schedules.{program_of}
use Rattle.pim_imply.specs.Validity.{fault_of}
use Rattle.pim_imply.proofs.Finished.{cost_within, faultless, inputs_count, labels_kept, outputs_count, realizes, schedule_length}
use Rattle.pim_imply.proofs.Walks.{IsSettled}
use Rattle.pim_imply.proofs.scheduling.imply.Goals as goal

pub new-requires-clause-few_ports : goal.new-requires-clause-few_ports
new-requires-clause-few_ports c =
    let g = c.args.aig.now in
    let a = c.in-Ok.plan.allotment in
    let is = c.in-Ok-drafted.ensures in
    let ins = ap (λ (p : ImplyView). length p.inputs) is ∙ inputs_count 0 c.args.ports.now.inputs in
    let outs = ap (λ (p : ImplyView). length p.outputs) is in
    let few = outputs_count g a.cells g.outputs c.args.ports.now.outputs in
    omega (arith, c.requires.inputs, c.in-Ok.ensures.small.inputs_fit, c.in-Ok.ensures.small.outputs_fit)

pub new-requires-clause-few_instrs : goal.new-requires-clause-few_instrs
new-requires-clause-few_instrs c =
    let g = c.args.aig.now in
    let a = c.in-Ok.plan.allotment in
    let is = ap (λ (p : ImplyView). length p.instrs) c.in-Ok-drafted.ensures ∙ schedule_length g a.cells in
    let few = cost_within g in
    omega (arith, c.in-Ok.ensures.few, c.in-Ok.ensures.small.inputs_fit, c.in-Ok.ensures.small.ands_fit)

pub returns-in-Ok-new-clause-realizes : goal.returns-in-Ok-new-clause-realizes
returns-in-Ok-new-clause-realizes c =
    let g = c.args.aig.now in
    let ports = c.args.ports.now in
    let a = c.in-Ok.plan.allotment in
    let is : c.in-Ok-new.program ≡ program_of g ports a = c.in-Ok-new.ensures.program ∙ c.in-Ok-drafted.ensures in
    let s : IsSettled g a = record { small = c.in-Ok.ensures.small; values = c.has_values.ensures; placed = c.in-Ok.ensures.placed; there = c.in-Ok.ensures.there; reached = c.in-Ok.ensures.reached; allotted = c.in-Ok.ensures.allotment } in
    let P : ImplyView → Type 0 = λ p. IRealizes p ports.inputs (λ bits. map (λ o. aval g bits o) g.outputs) in
    subst P (sym is) (realizes g ports a s c.in-Ok.ensures.complete c.requires.inputs c.requires.outputs)

pub returns-in-Ok-new-clause-labels : goal.returns-in-Ok-new-clause-labels
returns-in-Ok-new-clause-labels c =
    let g = c.args.aig.now in
    let a = c.in-Ok.plan.allotment in
    let is : c.in-Ok-new.program ≡ program_of g c.args.ports.now a = c.in-Ok-new.ensures.program ∙ c.in-Ok-drafted.ensures in
    ap (λ (p : ImplyView). labels_of p.outputs) is ∙ labels_kept g a.cells g.outputs c.args.ports.now.outputs c.requires.outputs

pub returns-in-Ok-new-clause-cycles : goal.returns-in-Ok-new-clause-cycles
returns-in-Ok-new-clause-cycles c =
    let g = c.args.aig.now in
    let a = c.in-Ok.plan.allotment in
    let is : c.in-Ok-new.program ≡ program_of g c.args.ports.now a = c.in-Ok-new.ensures.program ∙ c.in-Ok-drafted.ensures in
    ap (λ (p : ImplyView). length p.instrs) is ∙ schedule_length g a.cells

none_some : {A : Type 0} (x : A) → None ≡ Some x → ⊥
none_some x e = cc

pub unreachable-requires : goal.unreachable-requires
unreachable-requires c =
    let g = c.args.aig.now in
    let ports = c.args.ports.now in
    let a = c.in-Ok.plan.allotment in
    let s : IsSettled g a = record { small = c.in-Ok.ensures.small; values = c.has_values.ensures; placed = c.in-Ok.ensures.placed; there = c.in-Ok.ensures.there; reached = c.in-Ok.ensures.reached; allotted = c.in-Ok.ensures.allotment } in
    none_some _ (sym (ap fault_of c.in-Ok-drafted.ensures ∙ faultless g ports a s c.in-Ok.ensures.complete c.requires.inputs) ∙ c.in-Err-new.ensures.fault)

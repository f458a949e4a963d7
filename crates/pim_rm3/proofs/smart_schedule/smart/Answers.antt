use Rattle.std.proofs.Common.{◌≡◌, ◌*◌, length, map, sym, ◌∙◌, ap, subst, arith}
use Rattle.std.proofs.lemmas.Bool.{false≢true}
use Rattle.pim_isa.specs.PortLists.{labels_of}
use Rattle.pim_isa.specs.Programs.{ProgramView}
use Rattle.pim_isa.specs.Realizes.{Realizes}
use Rattle.pim_isa.specs.Sound.{IsSound}
use Rattle.pim_mig.specs.Graph.{size}
use Rattle.pim_mig.specs.Values.{mval}
use Rattle.pim_rm3.specs.SmartSchedules.{gate_cells, smart_program}
use Rattle.pim_rm3.proofs.Counts.{labels_kept, ports_count}
use Rattle.pim_rm3.proofs.Finished.{inputs_count}
use Rattle.pim_rm3.proofs.FullComputes.{IsReady}
use Rattle.pim_rm3.proofs.FullPrograms.{cost_within, realizes, schedule_length, sound}
use Rattle.pim_rm3.proofs.FullSound.{ordered}
use Rattle.pim_rm3.proofs.RoleLaws.{least_all}
use Rattle.pim_rm3.proofs.smart_schedule.smart.Goals as goal
use Rattle.pim_rm3.proofs.smart_schedule.smart.Goals.{In_ok-draft}

-- what the plan says of the graph and the cells
ready : (c : In_ok-draft) → IsReady c.args.mig.now c.in_ok-plan.plan.allotment
ready c = record {
  small = c.in_ok-plan.ensures.small;
  laws = c.has_values.ensures;
  ordered = ordered c.args.mig.now c.in_ok-plan.ensures.placed c.in_ok-plan.ensures.needed;
  reached = c.in_ok-plan.ensures.reached;
  complete = c.in_ok-plan.ensures.complete;
  sound = record { placed = c.in_ok-plan.ensures.full; over = c.in_ok-plan.ensures.sound; allotted = c.in_ok-plan.ensures.allotment };
}

pub new-requires-clause-few_ports : goal.new-requires-clause-few_ports
new-requires-clause-few_ports c =
    let g = c.args.mig.now in
    let a = c.in_ok-plan.plan.allotment in
    let is = c.in_ok-draft.ensures in
    let ins = ap (λ (p : ProgramView). length p.inputs) is ∙ inputs_count c.args.ports.now.inputs 0 in
    let outs = ap (λ (p : ProgramView). length p.outputs) is ∙ ports_count g.inputs (gate_cells (2 * size g) a.cells) g.outputs c.args.ports.now.outputs c.requires.outputs in
    omega (arith, c.requires.inputs, c.in_ok-plan.ensures.small.inputs_fit, c.in_ok-plan.ensures.small.outputs_fit)

pub new-requires-clause-few_instrs : goal.new-requires-clause-few_instrs
new-requires-clause-few_instrs c =
    let g = c.args.mig.now in
    let a = c.in_ok-plan.plan.allotment in
    let is = ap (λ (p : ProgramView). length p.instrs) c.in_ok-draft.ensures ∙ schedule_length g a.cells in
    let few = cost_within g in
    omega (arith, c.in_ok-plan.ensures.few, c.in_ok-plan.ensures.small.inputs_fit, c.in_ok-plan.ensures.small.nodes_fit)

pub returns-clause-realizes : goal.returns-clause-realizes
returns-clause-realizes c =
    let g = c.args.mig.now in
    let ports = c.args.ports.now in
    let a = c.in_ok-plan.plan.allotment in
    let is : c.in-Ok.program ≡ smart_program g ports a = c.in-Ok.ensures.program ∙ c.in_ok-draft.ensures in
    let P : ProgramView → Type 0 = λ p. Realizes p ports.inputs (λ bits. map (mval g bits) g.outputs) in
    subst P (sym is) (realizes g ports a (ready (goal.at.returns-clause-realizes c).In_ok-draft) c.laws.ensures.exec c.requires.inputs c.requires.outputs)

pub returns-clause-labels : goal.returns-clause-labels
returns-clause-labels c =
    let g = c.args.mig.now in
    let a = c.in_ok-plan.plan.allotment in
    let is : c.in-Ok.program ≡ smart_program g c.args.ports.now a = c.in-Ok.ensures.program ∙ c.in_ok-draft.ensures in
    ap (λ (p : ProgramView). labels_of p.outputs) is ∙ labels_kept g.inputs (gate_cells (2 * size g) a.cells) g.outputs c.args.ports.now.outputs c.requires.outputs

pub returns-clause-cycles : goal.returns-clause-cycles
returns-clause-cycles c =
    let g = c.args.mig.now in
    let a = c.in_ok-plan.plan.allotment in
    let is : c.in-Ok.program ≡ smart_program g c.args.ports.now a = c.in-Ok.ensures.program ∙ c.in_ok-draft.ensures in
    ap (λ (p : ProgramView). length p.instrs) is ∙ schedule_length g a.cells

pub unreachable-requires : goal.unreachable-requires
unreachable-requires c =
    let g = c.args.mig.now in
    let ports = c.args.ports.now in
    let a = c.in_ok-plan.plan.allotment in
    false≢true (c.in-Err.ensures.accepts (subst IsSound (sym c.in_ok-draft.ensures) (sound g ports a (ready (goal.at.unreachable-requires c).In_ok-draft) c.requires.inputs)))

pub returns-clause-least : goal.returns-clause-least
returns-clause-least c = least_all

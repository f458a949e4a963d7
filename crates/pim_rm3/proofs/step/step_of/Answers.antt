use Rattle.std.proofs.Common.{◌≡◌, ℕ, ◌/◌, ◌%◌, ◌<◌, Bool, sym, ◌∙◌, ap, arith}
use Rattle.pim_graph.specs.Graphs.{GraphView}
use Rattle.pim_mig.specs.declared.node.Maj.{Maj}
use Rattle.pim_rm3.specs.Roles.{least_role}
use Rattle.pim_rm3.specs.Steps.{mig_graph}
use Rattle.pim_rm3.specs.Taking.{can_be_taken}
use Rattle.pim_rm3.specs.declared.role.Role.{Role}
use Rattle.pim_rm3.specs.declared.step.Step.TheVariants as step
use Rattle.pim_rm3.proofs.StepLaws.{step_vote}
use Rattle.pim_rm3.proofs.step.step_of.Goals as goal

pub returns : goal.returns
returns c =
    let g = c.args.mig.now in
    let l = c.args.literal in
    let m = c.maj_at-maj.result in
    let y = c.can_be_taken-y.result in
    let z = c.can_be_taken-z.result in
    let role : ℕ → GraphView → Maj → Role = λ inputs v k. let free = can_be_taken inputs v in least_role k (free k.x.0) (free k.y.0) (free k.z.0) in
    let free = can_be_taken c.inputs-inputs.result c.args.graph.now in
    let even : l % 2 ≡ 0 = omega arith in
    let above : g.inputs < l / 2 = omega (arith, c.inputs-inputs.ensures.count) in
    ap step.Vote (c.least_role.ensures
    ∙ ap (λ (b : Bool). least_role m b y z) c.can_be_taken-x.ensures
    ∙ ap (λ (b : Bool). least_role m (free m.x.0) b z) c.can_be_taken-y.ensures
    ∙ ap (λ (b : Bool). least_role m (free m.x.0) (free m.y.0) b) c.can_be_taken-z.ensures
    ∙ ap (λ (i : ℕ). role i c.args.graph.now m) c.inputs-inputs.ensures.count
    ∙ ap (λ (v : GraphView). role g.inputs v m) c.requires.graph
    ∙ ap (role g.inputs (mig_graph g)) c.maj_at-maj.ensures)
    ∙ sym (step_vote g l even above)

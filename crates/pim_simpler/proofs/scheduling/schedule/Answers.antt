use Rattle.std.proofs.Common.{◌≡◌, ◌∙◌, ℕ, sym, subst, arith}
use Rattle.std.proofs.lemmas.Bool.{false≢true}
use Rattle.pim_isa.specs.Programs.{PortsView, ProgramView}
use Rattle.pim_nor.specs.Network.{NorView, nor_count}
use Rattle.pim_simpler.specs.Needs.{order_of}
use Rattle.pim_simpler.specs.inner.Runs.{Drafted, cells_within}
use Rattle.pim_simpler.proofs.Scheduled.{sound_draft, few_ports, few_instrs, realizes_draft, primed_draft, follows_draft, batched_draft, one_init_draft, quick_draft}
use Rattle.pim_simpler.proofs.scheduling.schedule.Goals as goal

-- the program has what its draft has
finished : (n : NorView) (ports : PortsView) (budget : ℕ) (p d : ProgramView) → p ≡ d → Drafted n ports (order_of n) (cells_within n budget) d → Drafted n ports (order_of n) (cells_within n budget) p
finished n ports budget p d same drafted = let D : ProgramView → Type 0 = λ q. Drafted n ports (order_of n) (cells_within n budget) q in subst D (sym same) drafted

pub new-requires-clause-few_ports : goal.new-requires-clause-few_ports
new-requires-clause-few_ports c =
    let n = c.args.net.now in
    few_ports n c.args.ports.now (order_of n) (cells_within n c.args.budget) c.in_ok-drafted.field-0 c.in_ok-drafted.ensures.plan c.requires.inputs c.requires.outputs c.in_ok-drafted.ensures.draft

pub new-requires-clause-few_instrs : goal.new-requires-clause-few_instrs
new-requires-clause-few_instrs c =
    let n = c.args.net.now in
    few_instrs n c.args.ports.now (order_of n) (cells_within n c.args.budget) c.in_ok-drafted.field-0 c.in_ok-drafted.ensures.plan c.requires.inputs c.requires.outputs c.in_ok-drafted.ensures.draft (omega (arith, c.in_ok-drafted.ensures.full))

pub unreachable-requires : goal.unreachable-requires
unreachable-requires c =
    let n = c.args.net.now in
    absurd (false≢true (c.in-Err.ensures.accepts (sound_draft n c.args.ports.now (order_of n) (cells_within n c.args.budget) c.in_ok-drafted.field-0 c.in_ok-drafted.ensures.plan c.requires.inputs c.requires.outputs c.in_ok-drafted.ensures.draft)))

pub returns-clause-realizes : goal.returns-clause-realizes
returns-clause-realizes c =
    let n = c.args.net.now in
    let ports = c.args.ports.now in
    let end = cells_within n c.args.budget in
    let whole = finished n ports c.args.budget c.in-Ok.program c.in_ok-drafted.field-0 c.in-Ok.ensures.program c.in_ok-drafted.ensures.draft in
    realizes_draft n ports (order_of n) end c.in-Ok.program c.in_ok-drafted.ensures.plan c.requires.inputs c.requires.outputs whole c.laws.ensures.exec c.laws.ensures.writes c.has_values.ensures

pub returns-clause-primed : goal.returns-clause-primed
returns-clause-primed c =
    let n = c.args.net.now in
    let ports = c.args.ports.now in
    let end = cells_within n c.args.budget in
    let whole = finished n ports c.args.budget c.in-Ok.program c.in_ok-drafted.field-0 c.in-Ok.ensures.program c.in_ok-drafted.ensures.draft in
    primed_draft n ports (order_of n) end c.in-Ok.program c.in_ok-drafted.ensures.plan c.requires.inputs c.requires.outputs whole c.laws.ensures.writes

pub returns-clause-follows : goal.returns-clause-follows
returns-clause-follows c =
    let n = c.args.net.now in
    let ports = c.args.ports.now in
    let end = cells_within n c.args.budget in
    let whole = finished n ports c.args.budget c.in-Ok.program c.in_ok-drafted.field-0 c.in-Ok.ensures.program c.in_ok-drafted.ensures.draft in
    follows_draft n ports (order_of n) end c.in-Ok.program c.in_ok-drafted.ensures.plan c.requires.inputs c.requires.outputs whole c.laws.ensures.writes

pub returns-clause-batched : goal.returns-clause-batched
returns-clause-batched c =
    let n = c.args.net.now in
    let ports = c.args.ports.now in
    let end = cells_within n c.args.budget in
    let whole = finished n ports c.args.budget c.in-Ok.program c.in_ok-drafted.field-0 c.in-Ok.ensures.program c.in_ok-drafted.ensures.draft in
    batched_draft n ports (order_of n) end c.in-Ok.program c.in_ok-drafted.ensures.plan c.requires.inputs c.requires.outputs whole c.laws.ensures.writes

pub returns-clause-nors : goal.returns-clause-nors
returns-clause-nors c =
    let n = c.args.net.now in
    let ports = c.args.ports.now in
    let end = cells_within n c.args.budget in
    let whole = finished n ports c.args.budget c.in-Ok.program c.in_ok-drafted.field-0 c.in-Ok.ensures.program c.in_ok-drafted.ensures.draft in
    (follows_draft n ports (order_of n) end c.in-Ok.program c.in_ok-drafted.ensures.plan c.requires.inputs c.requires.outputs whole c.laws.ensures.writes).count ∙ c.in_ok-drafted.ensures.nors

pub returns-clause-one_init : goal.returns-clause-one_init
returns-clause-one_init c =
    let n = c.args.net.now in
    let ports = c.args.ports.now in
    let end = cells_within n c.args.budget in
    let whole = finished n ports c.args.budget c.in-Ok.program c.in_ok-drafted.field-0 c.in-Ok.ensures.program c.in_ok-drafted.ensures.draft in
    λ enough. one_init_draft n ports (order_of n) end c.in-Ok.program c.in_ok-drafted.ensures.plan c.requires.inputs c.requires.outputs whole (omega (arith, c.in_ok-drafted.ensures.full))

pub returns-clause-quick : goal.returns-clause-quick
returns-clause-quick c =
    let n = c.args.net.now in
    let ports = c.args.ports.now in
    let end = cells_within n c.args.budget in
    let whole = finished n ports c.args.budget c.in-Ok.program c.in_ok-drafted.field-0 c.in-Ok.ensures.program c.in_ok-drafted.ensures.draft in
    let nors = (follows_draft n ports (order_of n) end c.in-Ok.program c.in_ok-drafted.ensures.plan c.requires.inputs c.requires.outputs whole c.laws.ensures.writes).count ∙ c.in_ok-drafted.ensures.nors in
    λ enough. quick_draft n ports (order_of n) end c.in-Ok.program c.in_ok-drafted.ensures.plan c.requires.inputs c.requires.outputs whole (nor_count n.gates) nors (omega (arith, c.in_ok-drafted.ensures.full))

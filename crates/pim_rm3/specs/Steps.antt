-- The gates of a majority graph, and how each is computed. A gate is the literal whose value it computes, by its number.
use Rattle.std.specs.Prelude.{ℕ, ◌+◌, ◌-◌, ◌*◌, ◌/◌, ◌%◌, ◌==◌, nat_le, nat_lt, if◌then◌else◌, List, [], ◌∷◌, ◌++◌, fold, map, slice_index_or, sum_by}
use Rattle.std.specs.List.{range_with_len}
use Rattle.pim_aig.specs.declared.literal.Lit.{Lit}
use Rattle.pim_graph.specs.Graphs.{GraphView}
use Rattle.pim_graph.specs.Orders.{order}
use Rattle.pim_graph.specs.Peaks.{peak}
use Rattle.pim_mig.specs.Graph.{MigView, size}
use Rattle.pim_mig.specs.declared.node.Maj.{Maj}
use Rattle.pim_rm3.specs.Gates.{with_root}
use Rattle.pim_rm3.specs.Roles.{least_role, role_cost}
use Rattle.pim_rm3.specs.Taking.{can_be_taken}
use Rattle.pim_rm3.specs.declared.step.Step.{Step}
use Rattle.pim_rm3.specs.declared.step.Step.TheVariants as step

-- the majority node of a literal, with node 0 as all three operands where it is of no such node
abbrev pub maj_at : MigView → ℕ → Maj
maj_at g l =
    slice_index_or g.nodes (l / 2 - 1 - g.inputs) (record { x = record { 0 = 0 }; y = record { 0 = 0 }; z = record { 0 = 0 } })

-- the majority node that an operand reads; an input and a constant are read nowhere
abbrev pub node_read : ℕ → Lit → List ℕ
node_read inputs e = if nat_lt inputs (e.0 / 2) then 2 * (e.0 / 2) ∷ [] else []

-- the majority nodes that a majority node reads, in the order of its operands, which are of three different nodes
abbrev pub nodes_read : ℕ → Maj → List ℕ
nodes_read inputs m = node_read inputs m.x ++ (node_read inputs m.y ++ node_read inputs m.z)

-- the majority nodes that the gate of a literal reads
abbrev pub gate_reads : MigView → ℕ → List ℕ
gate_reads g l =
    if l % 2 == 1 then node_read g.inputs (record { 0 = l })
    else (if nat_le (l / 2) g.inputs then [] else nodes_read g.inputs (maj_at g l))

-- the graph of all literals as gates, with those of the outputs as its roots
abbrev pub mig_graph : MigView → GraphView
mig_graph g = record {
  kids = map (gate_reads g) (range_with_len 0 (2 * size g));
  roots = fold (with_root g.inputs) [] g.outputs;
}

-- the gates that the outputs reach, in the order in which they are computed
abbrev pub mig_gates : MigView → List ℕ
mig_gates g = order (mig_graph g)

-- how a majority node is computed: by the roles that cost least
abbrev pub voted : MigView → Maj → Step
voted g m =
    let taken = can_be_taken g.inputs (mig_graph g) in
    step.Vote (least_role m (taken m.x.0) (taken m.y.0) (taken m.z.0))

-- how the gate of a literal is computed
abbrev pub step_of : MigView → ℕ → Step
step_of g l =
    if l / 2 == 0 then step.Constant (l == 1)
    else (if l % 2 == 1 then step.Complement (record { 0 = l })
    else (if nat_le (l / 2) g.inputs then step.Input else voted g (maj_at g l)))

-- the cycles of a step
abbrev pub step_cost : Step → ℕ
step_cost (step.Constant b) = 1
step_cost step.Input = 0
step_cost (step.Complement e) = 2
step_cost (step.Vote r) = 1 + role_cost r

-- the cycles of all gates that the outputs reach
abbrev pub smart_cost : MigView → ℕ
smart_cost g = sum_by (λ l. step_cost (step_of g l)) (mig_gates g)

-- so many cells are surely enough: those of the inputs, as many as the order of the gates holds values at once, and one for a temporary
abbrev pub enough_of : MigView → ℕ
enough_of g = g.inputs + peak (mig_graph g) (mig_gates g) + 1

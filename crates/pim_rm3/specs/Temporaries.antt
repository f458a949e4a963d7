-- The gates of a majority graph with temporaries as gates of their own. The gate of a literal has twice the literal's number and one
-- more, and the temporary that is made for it, if there is one, has twice that number.
use Rattle.std.specs.Prelude.{ℕ, ◌+◌, ◌*◌, ◌/◌, ◌%◌, ◌==◌, nat_lt, if◌then◌else◌, List, [], ◌∷◌, ◌++◌, flat_map, fold, map, Option, Some, None}
use Rattle.std.specs.List.{range_with_len}
use Rattle.pim_aig.specs.declared.literal.Lit.{Lit}
use Rattle.pim_graph.specs.Allotments.{cells_along}
use Rattle.pim_graph.specs.Graphs.{GraphView, has}
use Rattle.pim_mig.specs.Graph.{MigView, size}
use Rattle.pim_rm3.specs.Roles.{temporary}
use Rattle.pim_rm3.specs.Steps.{mig_gates, mig_graph, step_of}
use Rattle.pim_rm3.specs.declared.step.Step.{Step}
use Rattle.pim_rm3.specs.declared.step.Step.TheVariants as step

-- the literal for which a step wants a temporary, if it wants one
abbrev pub temporary_of : Step → Option Lit
temporary_of (step.Constant b) = None
temporary_of step.Input = None
temporary_of (step.Complement e) = None
temporary_of (step.Vote r) = temporary r

-- the gate of the majority node that an operand reads
abbrev pub gate_read : ℕ → Lit → List ℕ
gate_read inputs e = if nat_lt inputs (e.0 / 2) then (4 * (e.0 / 2) + 1) ∷ [] else []

-- what a temporary for this literal reads
abbrev pub temporary_reads : ℕ → Option Lit → List ℕ
temporary_reads inputs None = []
temporary_reads inputs (Some e) = gate_read inputs e

-- the number of the temporary of a gate, if there is one
abbrev pub own_temporary : ℕ → Option Lit → List ℕ
own_temporary l None = []
own_temporary l (Some e) = 2 * l ∷ []

-- what the gate of a literal reads: the majority nodes of its operands, and its temporary
abbrev pub step_reads : ℕ → ℕ → Step → List ℕ
step_reads inputs l (step.Constant b) = []
step_reads inputs l step.Input = []
step_reads inputs l (step.Complement e) = gate_read inputs e
step_reads inputs l (step.Vote r) =
    gate_read inputs r.p ++ (gate_read inputs r.q ++ (gate_read inputs r.z ++ own_temporary l (temporary r)))

-- what the gate of a number reads
abbrev pub all_reads : MigView → ℕ → List ℕ
all_reads g n =
    if n % 2 == 1 then step_reads g.inputs (n / 2) (step_of g (n / 2))
    else temporary_reads g.inputs (temporary_of (step_of g (n / 2)))

-- the gate of a literal by its number
abbrev pub gate_number : ℕ → ℕ
gate_number l = 2 * l + 1

-- the roots with the gate of one literal more, each once
abbrev pub with_gate : List ℕ → ℕ → List ℕ
with_gate roots l = if has roots (gate_number l) then roots else roots ++ gate_number l ∷ []

-- the graph of all gates and their temporaries
abbrev pub full_graph : MigView → GraphView
full_graph g = record {
  kids = map (all_reads g) (range_with_len 0 (2 * (2 * size g)));
  roots = fold with_gate [] (mig_graph g).roots;
}

-- a gate with its temporary before it
abbrev pub with_temporary : MigView → ℕ → List ℕ
with_temporary g l = own_temporary l (temporary_of (step_of g l)) ++ gate_number l ∷ []

-- the order of the gates with each temporary before the gate that reads it
abbrev pub full_order : MigView → List ℕ
full_order g = flat_map (with_temporary g) (mig_gates g)

-- the gate whose cell a step takes over, if it takes one over
abbrev pub step_takes : Step → Option ℕ
step_takes (step.Constant b) = None
step_takes step.Input = None
step_takes (step.Complement e) = None
step_takes (step.Vote r) = if r.over then Some (gate_number r.z.0) else None

-- a temporary takes no cell over
abbrev pub temporary_takes : Option Lit → List (Option ℕ)
temporary_takes None = []
temporary_takes (Some e) = None ∷ []

-- what a gate's temporary and the gate take over
abbrev pub takes_of : MigView → ℕ → List (Option ℕ)
takes_of g l = temporary_takes (temporary_of (step_of g l)) ++ step_takes (step_of g l) ∷ []

-- for each gate of the full order the gate whose cell it takes over, if it takes one over
abbrev pub full_over : MigView → List (Option ℕ)
full_over g = flat_map (takes_of g) (mig_gates g)

-- the cells of the schedule: those of the inputs, and as many as the gates and temporaries use at once
abbrev pub smart_cells : MigView → ℕ
smart_cells g = g.inputs + cells_along (full_graph g) (full_order g) (full_over g)

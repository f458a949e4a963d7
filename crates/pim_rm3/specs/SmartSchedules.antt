-- The instructions of the gates of a majority graph, and the whole program.
use Rattle.std.specs.Prelude.{ℕ, ◌+◌, ◌*◌, ◌/◌, ◌==◌, if◌then◌else◌, List, [], ◌∷◌, ◌++◌, flat_map, map, slice_index, Option, Some, None}
use Rattle.std.specs.List.{range_with_len}
use Rattle.pim_aig.specs.declared.literal.Lit.{Lit}
use Rattle.pim_graph.specs.Allotments.{AllotmentView}
use Rattle.pim_isa.specs.declared.instr.Operand.{Operand}
use Rattle.pim_isa.specs.declared.instr.Operand.TheVariants as operand
use Rattle.pim_isa.specs.declared.instr.Instr.{Instr}
use Rattle.pim_isa.specs.declared.instr.Instr.TheVariants.{Rm3}
use Rattle.pim_isa.specs.declared.target.Target.TheVariants.{Plim}
use Rattle.pim_isa.specs.PortLists.{input_ports}
use Rattle.pim_isa.specs.Programs.{PortsView, ProgramView}
use Rattle.pim_mig.specs.Graph.{MigView, size}
use Rattle.pim_rm3.specs.Schedules.{cell_of, is_inverted, load, operand_of, output_ports, set_to}
use Rattle.pim_rm3.specs.Steps.{mig_gates, step_of}
use Rattle.pim_rm3.specs.Temporaries.{gate_number, temporary_of}
use Rattle.pim_rm3.specs.Roles.{is_plain}
use Rattle.pim_rm3.specs.declared.role.Role.{Role}
use Rattle.pim_rm3.specs.declared.step.Step.{Step}
use Rattle.pim_rm3.specs.declared.step.Step.TheVariants as step

-- the cells of the literals' gates, where the gates and their temporaries have these
abbrev pub gate_cells : ℕ → List ℕ → List ℕ
gate_cells count held = map (λ l. slice_index held (gate_number l)) (range_with_len 0 count)

-- the complement of a literal's node
abbrev pub inverse : Lit → Lit
inverse e = record { 0 = 2 * (e.0 / 2) + 1 }

-- makes the temporary's cell the complement of the literal's node
abbrev pub temporary_instrs : ℕ → List ℕ → ℕ → Option Lit → List Instr
temporary_instrs inputs cells t None = []
temporary_instrs inputs cells t (Some e) = load inputs cells t (inverse e)

-- the first operand: the temporary where the literal is complemented
abbrev pub first_operand : ℕ → List ℕ → ℕ → Lit → Operand
first_operand inputs cells t e = if is_inverted e then operand.Cell t else operand_of inputs cells e

-- the second operand, which the instruction complements: the other constant, the temporary where the literal is plain, and the cell
-- of its node where it is complemented
abbrev pub second_operand : ℕ → List ℕ → ℕ → Lit → Operand
second_operand inputs cells t e =
    if e.0 / 2 == 0 then (if e.0 == 0 then operand.One else operand.Zero)
    else (if is_plain e then operand.Cell t else operand.Cell (cell_of inputs cells e))

-- makes the target the third operand, unless it takes that one's cell over
abbrev pub third_instrs : ℕ → List ℕ → ℕ → Role → List Instr
third_instrs inputs cells z r =
    if r.z.0 / 2 == 0 then set_to (r.z.0 == 1) z ∷ [] else (if r.over then [] else load inputs cells z r.z)

-- the instructions of a step on its cell, with its temporary in this one
abbrev pub step_instrs : ℕ → List ℕ → ℕ → ℕ → Step → List Instr
step_instrs inputs cells t z (step.Constant b) = set_to b z ∷ []
step_instrs inputs cells t z step.Input = []
step_instrs inputs cells t z (step.Complement e) = load inputs cells z e
step_instrs inputs cells t z (step.Vote r) =
    third_instrs inputs cells z r ++ Rm3 (first_operand inputs cells t r.p) (second_operand inputs cells t r.q) z ∷ []

-- the instructions of the gate of a literal and of its temporary, where the gates and temporaries have these cells
abbrev pub smart_instrs : MigView → List ℕ → ℕ → List Instr
smart_instrs g held l =
    temporary_instrs g.inputs (gate_cells (2 * size g) held) (slice_index held (2 * l)) (temporary_of (step_of g l))
    ++ step_instrs g.inputs (gate_cells (2 * size g) held) (slice_index held (2 * l)) (slice_index held (gate_number l)) (step_of g l)

-- the instructions of all gates in their order
abbrev pub smart_schedule : MigView → List ℕ → List Instr
smart_schedule g held = flat_map (smart_instrs g held) (mig_gates g)

-- the whole program, where the gates and temporaries have the cells of an allotment
abbrev pub smart_program : MigView → PortsView → AllotmentView → ProgramView
smart_program g ports a = record {
  target = Plim;
  cells = a.width;
  inputs = input_ports 0 ports.inputs;
  outputs = output_ports g.inputs (gate_cells (2 * size g) a.cells) g.outputs ports.outputs;
  instrs = smart_schedule g a.cells;
}

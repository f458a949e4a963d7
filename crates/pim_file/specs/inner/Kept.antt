-- Inner: the draft that is kept while a binary file is read.
use Rattle.std.specs.Prelude.{nat_lt, if◌then◌else◌, ℕ, [], ◌∷◌, ◌++◌, Option, Some, None, option_map}
use Rattle.pim_isa.specs.Programs.{ProgramView}
use Rattle.pim_isa.specs.declared.draft.TheConstants.{MAX_CELLS}
use Rattle.pim_isa.specs.declared.instr.Instr.{Instr}
use Rattle.pim_isa.specs.declared.port.Port.{Port}
use Rattle.pim_isa.specs.declared.target.Target.{Target}

-- a draft without ports and instructions
abbrev pub begun : Target → ℕ → ProgramView
begun target cells = record { target = target; cells = cells; inputs = []; outputs = []; instrs = [] }

-- a draft with one more input
abbrev pub with_input : Option ProgramView → Port → Option ProgramView
with_input draft port = option_map {T = ProgramView} (λ d. record d { inputs = d.inputs ++ port ∷ [] }) draft

-- a draft with one more output
abbrev pub with_output : Option ProgramView → Port → Option ProgramView
with_output draft port = option_map {T = ProgramView} (λ d. record d { outputs = d.outputs ++ port ∷ [] }) draft

-- a draft with one more instruction
abbrev pub with_instr : Option ProgramView → Instr → Option ProgramView
with_instr draft instr = option_map {T = ProgramView} (λ d. record d { instrs = d.instrs ++ instr ∷ [] }) draft

-- a draft of at most as many cells as a program may have
abbrev pub within_limit : ProgramView → Option ProgramView
within_limit draft = if nat_lt MAX_CELLS draft.cells then None else Some draft

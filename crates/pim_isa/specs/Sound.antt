-- What holds of every program.
use Rattle.std.specs.Prelude.{◌≡◌, ◌≢◌, ℕ, ◌+◌, ◌<◌, ◌≤◌, true, false, List, length, map, None, All, AllPairs}
use Rattle.pim_io.specs.Names.{IsLabel}
use Rattle.pim_isa.specs.declared.target.Target.{Target}
use Rattle.pim_isa.specs.declared.instr.Instr.{Instr}
use Rattle.pim_isa.specs.declared.port.Port.{Port}
use Rattle.pim_isa.specs.declared.draft.TheConstants.{MAX_CELLS, MAX_PORTS, MAX_INSTRS}
use Rattle.pim_isa.specs.Programs.{ProgramView}
use Rattle.pim_isa.specs.Touches.{names}
use Rattle.pim_isa.specs.Validity.{suits, has_good_list, reads_target, fault_of}

-- the cells of the ports, in order
abbrev pub cells_of : List Port → List ℕ
cells_of ports = map (λ p. p.cell) ports

-- the instruction is one of the target, the list of an Init is not empty and strictly rising, the cells that it names
-- are below the number of cells, and it doesn't read its target
pub record IsValid (target : Target) (cells : ℕ) (i : Instr) : Type 0 where
  pub suited : suits target i ≡ true
  pub listed : has_good_list i ≡ true
  pub within : All (λ c. c < cells) (names i)
  pub apart : reads_target i ≡ false

-- the ports lie in the cells, no two inputs share a cell, and each instruction is valid
pub record IsSound (p : ProgramView) : Type 0 where
  pub inputs : All (λ c. c < p.cells) (cells_of p.inputs)
  pub distinct : AllPairs ◌≢◌ (cells_of p.inputs)
  pub outputs : All (λ c. c < p.cells) (cells_of p.outputs)
  pub instrs : All (IsValid p.target p.cells) p.instrs

-- the label of a port is one: 1 to 4,096 bytes, none of them below 32 or 127
abbrev pub HasLabel : Port → Type 0
HasLabel p = IsLabel p.label

-- a draft within the bounds that has no fault
pub record IsProgram (p : ProgramView) : Type 0 where
  pub small : p.cells ≤ MAX_CELLS
  pub few_ports : length p.inputs + length p.outputs ≤ MAX_PORTS
  pub few_instrs : length p.instrs ≤ MAX_INSTRS
  pub input_labels : All HasLabel p.inputs
  pub output_labels : All HasLabel p.outputs
  pub faultless : fault_of p ≡ None
  pub sound : IsSound p

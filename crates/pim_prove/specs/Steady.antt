-- Programs that don't depend on what their cells held before.
use Rattle.std.specs.Prelude.{◌≡◌, ◌≤◌, Bool, List, length, map}
use Rattle.pim_isa.specs.Programs.{ProgramView}
use Rattle.pim_isa.specs.Sound.{cells_of}
use Rattle.pim_isa.specs.Steps.{bit, exec}

-- the bits of the output cells in order, when the program was executed on the row m
abbrev pub outputs_of : ProgramView → List Bool → List Bool
outputs_of p m = map (bit (exec p.instrs m)) (cells_of p.outputs)

-- a row that has the program's cells, with the bits in its input cells in order; the others hold anything
pub record HoldsInputs (p : ProgramView) (bits m : List Bool) : Type 0 where
  pub long : p.cells ≤ length m
  pub inputs : map (bit m) (cells_of p.inputs) ≡ bits

-- rows with the same bits in the input cells give the same outputs
abbrev pub IsSteady : ProgramView → Type 0
IsSteady p = (bits a b : List Bool) → HoldsInputs p bits a → HoldsInputs p bits b → outputs_of p a ≡ outputs_of p b

-- Inner: an instruction of the IMPLY machine as a majority.
use Rattle.pim_isa.specs.declared.instr.Instr.{Instr}
use Rattle.pim_isa.specs.declared.instr.Instr.TheVariants.{Rm3}
use Rattle.pim_isa.specs.declared.instr.Operand.TheVariants.{Zero, One, Cell}
use Rattle.pim_imply.specs.declared.instr.ImplyInstr.{ImplyInstr}
use Rattle.pim_imply.specs.declared.instr.ImplyInstr.TheVariants.{False, Imp}

-- a majority that does the same
abbrev pub as_majority : ImplyInstr → Instr
as_majority (False q) = Rm3 Zero One q
as_majority (Imp p q) = Rm3 One (Cell p) q

-- Instructions and ports with a number added to each of their cells.
use Rattle.std.specs.Prelude.{ℕ, ◌+◌, List, map}
use Rattle.pim_isa.specs.declared.instr.Ins.{Ins}
use Rattle.pim_isa.specs.declared.instr.Ins.TheVariants as ins
use Rattle.pim_isa.specs.declared.instr.Operand.{Operand}
use Rattle.pim_isa.specs.declared.instr.Operand.TheVariants as operand
use Rattle.pim_isa.specs.declared.instr.Instr.{Instr}
use Rattle.pim_isa.specs.declared.instr.Instr.TheVariants.{Init, Nor, Rm3}
use Rattle.pim_isa.specs.declared.port.Port.{Port}

-- the cells that a NOR reads, each moved
abbrev pub moved_ins : ℕ → Ins → Ins
moved_ins base (ins.One a) = ins.One (base + a)
moved_ins base (ins.Two a b) = ins.Two (base + a) (base + b)
moved_ins base (ins.Three a b c) = ins.Three (base + a) (base + b) (base + c)
moved_ins base (ins.Four a b c d) = ins.Four (base + a) (base + b) (base + c) (base + d)

-- an operand with its cell moved; a constant stays
abbrev pub moved_operand : ℕ → Operand → Operand
moved_operand base operand.Zero = operand.Zero
moved_operand base operand.One = operand.One
moved_operand base (operand.Cell c) = operand.Cell (base + c)

-- an instruction with each of its cells moved
abbrev pub moved : ℕ → Instr → Instr
moved base (Init cells) = Init (map (λ c. base + c) cells)
moved base (Nor t ins) = Nor (base + t) (moved_ins base ins)
moved base (Rm3 p q z) = Rm3 (moved_operand base p) (moved_operand base q) (base + z)

-- a port with its cell moved and its label kept
abbrev pub moved_port : ℕ → Port → Port
moved_port base port = record { cell = base + port.cell; label = port.label }

-- ports, each moved
abbrev pub moved_ports : ℕ → List Port → List Port
moved_ports base ports = map (moved_port base) ports

-- Which draft a binary program file is the form of, item by item.
use Rattle.std.specs.Prelude.{ℕ, ◌-◌, ◌==◌, nat_eq, if◌then◌else◌, List, [], ◌∷◌, drop, codes, Bool, Option, Some, None, Result, Ok, Err}
use Rattle.std.specs.List.{starts_with}
use Rattle.pim_io.specs.Readings.{◌>>=◌}
use Rattle.pim_isa.specs.declared.target.Target.{Target}
use Rattle.pim_isa.specs.declared.target.Target.TheVariants.{Magic, Plim}
use Rattle.pim_isa.specs.declared.port.Port.{Port}
use Rattle.pim_isa.specs.declared.instr.Ins.TheVariants as ins
use Rattle.pim_isa.specs.declared.instr.Operand.{Operand}
use Rattle.pim_isa.specs.declared.instr.Operand.TheVariants.{Zero, One, Cell}
use Rattle.pim_isa.specs.declared.instr.Instr.{Instr}
use Rattle.pim_isa.specs.declared.instr.Instr.TheVariants.{Init, Nor, Rm3}
use Rattle.pim_isa.specs.Programs.{ProgramView}
use Rattle.pim_file.specs.declared.fault.FileFault.{FileFault}
use Rattle.pim_file.specs.declared.fault.FileFault.TheVariants as faults
use Rattle.pim_file.specs.Items.{Cursor, wrong_before, allowed, byte_at, shown_at, number_at, length_at, many, counted}
use Rattle.pim_file.specs.ProgramFile.{sized, validated, parse1_of}

-- the target that a byte stands for
abbrev pub target_of_byte : ℕ → Option Target
target_of_byte b = if b == 0 then Some Magic else (if b == 1 then Some Plim else None)

-- the target
unfoldable pub target_at : Cursor → Result (Target × Cursor) FileFault
target_at c = byte_at c >>= λ b. allowed (target_of_byte b.0) b.1

-- a port: its cell, the length of its label, and the label
unfoldable pub port_at : Cursor → Result (Port × Cursor) FileFault
port_at c = do
  cell ← number_at c
  count ← length_at cell.1
  label ← many shown_at count.0 count.1
  Ok (record { cell = cell.0; label = label.0 }, label.1)

-- an Init of as many cells as are told
unfoldable pub init_at : Cursor → Result (Instr × Cursor) FileFault
init_at c = counted number_at c >>= λ cells. Ok (Init cells.0, cells.1)

-- a NOR of one operand: its target and the operand
unfoldable pub nor1_at : Cursor → Result (Instr × Cursor) FileFault
nor1_at c = do
  t ← number_at c
  a ← number_at t.1
  Ok (Nor t.0 (ins.One a.0), a.1)

-- a NOR of two operands
unfoldable pub nor2_at : Cursor → Result (Instr × Cursor) FileFault
nor2_at c = do
  t ← number_at c
  a ← number_at t.1
  b ← number_at a.1
  Ok (Nor t.0 (ins.Two a.0 b.0), b.1)

-- a NOR of three operands
unfoldable pub nor3_at : Cursor → Result (Instr × Cursor) FileFault
nor3_at c = do
  t ← number_at c
  a ← number_at t.1
  b ← number_at a.1
  d ← number_at b.1
  Ok (Nor t.0 (ins.Three a.0 b.0 d.0), d.1)

-- a NOR of four operands
unfoldable pub nor4_at : Cursor → Result (Instr × Cursor) FileFault
nor4_at c = do
  t ← number_at c
  a ← number_at t.1
  b ← number_at a.1
  d ← number_at b.1
  e ← number_at d.1
  Ok (Nor t.0 (ins.Four a.0 b.0 d.0 e.0), e.1)

-- the operand of an RM3 that a number stands for: a constant, or two more than a cell
abbrev pub operand_of_number : ℕ → Operand
operand_of_number n = if n == 0 then Zero else (if n == 1 then One else Cell (n - 2))

-- an operand of an RM3
unfoldable pub operand_number_at : Cursor → Result (Operand × Cursor) FileFault
operand_number_at c = number_at c >>= λ n. Ok (operand_of_number n.0, n.1)

-- an RM3: two operands, and the cell that it writes
unfoldable pub rm3_at : Cursor → Result (Instr × Cursor) FileFault
rm3_at c = do
  p ← operand_number_at c
  q ← operand_number_at p.1
  z ← number_at q.1
  Ok (Rm3 p.0 q.0 z.0, z.1)

-- what follows the first byte of an instruction
abbrev pub instr_behind : ℕ → Cursor → Result (Instr × Cursor) FileFault
instr_behind first c =
    if first == 0 then init_at c
    else (if first == 1 then nor1_at c
    else (if first == 2 then nor2_at c
    else (if first == 3 then rm3_at c
    else (if first == 4 then nor3_at c
    else (if first == 5 then nor4_at c
    else Err (wrong_before c))))))

-- an instruction
unfoldable pub instr_at : Cursor → Result (Instr × Cursor) FileFault
instr_at c = byte_at c >>= λ first. instr_behind first.0 first.1

-- a draft: the target, the number of cells, the inputs, the outputs, and the instructions
unfoldable pub draft_at : Cursor → Result (ProgramView × Cursor) FileFault
draft_at c = do
  target ← target_at c
  cells ← number_at target.1
  inputs ← counted port_at cells.1
  outputs ← counted port_at inputs.1
  instrs ← counted instr_at outputs.1
  Ok (record { target = target.0; cells = cells.0; inputs = inputs.0; outputs = outputs.0; instrs = instrs.0 }, instrs.1)

-- what was read, where no byte follows; the first byte that follows is wrong
abbrev pub closed_at : {X : Type 0} → X → ℕ → List ℕ → Result X FileFault
closed_at x place [] = Ok x
closed_at x place (b ∷ rest) = Err (faults.Byte place)

-- the five bytes that a binary program file begins with
abbrev pub tag : List ℕ
tag = codes "pim2\n"

-- the bytes begin so
abbrev pub is_binary : List ℕ → Bool
is_binary bytes = starts_with nat_eq bytes tag

-- the draft that a binary program file is the form of
unfoldable pub draft2_of : List ℕ → Result ProgramView FileFault
draft2_of bytes = draft_at (record { place = 5; rest = drop 5 bytes }) >>= λ draft. closed_at draft.0 draft.1.place draft.1.rest

-- the program that a binary program file is the form of
unfoldable pub parse2_of : List ℕ → Result ProgramView FileFault
parse2_of bytes = draft2_of bytes >>= sized >>= validated

-- the program of a file in either form: five bytes choose the binary one
unfoldable pub parse_of : List ℕ → Result ProgramView FileFault
parse_of bytes = if is_binary bytes then parse2_of bytes else parse1_of bytes

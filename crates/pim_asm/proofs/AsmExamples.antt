-- Worked examples of assembly, by computation.
use Rattle.std.proofs.Common.{◌≡◌, ℕ, List, [], ◌∷◌, ◌++◌, Ok, Err, codes, refl}
use Rattle.std.specs.Fmt.{digits}
use Rattle.pim_io.specs.Words.{number_of}
use Rattle.pim_isa.specs.Programs.{ProgramView}
use Rattle.pim_isa.specs.declared.target.Target.TheVariants.{Magic, Plim}
use Rattle.pim_isa.specs.declared.instr.Ins.TheVariants as ins
use Rattle.pim_isa.specs.declared.instr.Operand.TheVariants as operand
use Rattle.pim_isa.specs.declared.instr.Instr.TheVariants.{Init, Nor, Rm3}
use Rattle.pim_isa.specs.declared.invalid.Invalid.TheVariants as invalid
use Rattle.pim_text.specs.InstrForms.{not_of, rm3_of}
use Rattle.pim_asm.specs.declared.fault.AsmFault.TheVariants as faults
use Rattle.pim_asm.specs.Assembly.{asm_of}
use Rattle.pim_asm.specs.Listing.{listing_of}

-- a line of a text
abbrev line : List ℕ → List ℕ
line text = text ++ 10 ∷ []

-- the program of a two-input AND
and_program : ProgramView
and_program = record {
  target = Magic;
  cells = 5;
  inputs = record { cell = 0; label = codes "i0" } ∷ record { cell = 1; label = codes "i1" } ∷ [];
  outputs = record { cell = 4; label = codes "o0" } ∷ [];
  instrs = Init (2 ∷ 3 ∷ 4 ∷ []) ∷ Nor 2 (ins.One 1) ∷ Nor 3 (ins.One 0) ∷ Nor 4 (ins.Two 2 3) ∷ [];
}

and_listed : listing_of and_program ≡ codes "target magic\ncells 5\ninput 0 \"i0\"\ninput 1 \"i1\"\noutput 4 \"o0\"\ninit 2 3 4 ; 0\nnot 2 1 ; 1\nnot 3 0 ; 2\nnor 4 2 3 ; 3\n"
unfolding and_program digits
and_listed = refl

-- the lines before the ports
abbrev head : List ℕ
head = line (codes "target plim") ++ line (codes "cells 3")

-- a name stands for its cell from its line on
named_assembled : asm_of (line (codes "target magic") ++ line (codes "cells 2") ++ line (codes "let x 1 ; the target") ++ line (codes "init x") ++ line (codes "not x 0")) ≡ Ok (record {
  target = Magic;
  cells = 2;
  inputs = [];
  outputs = [];
  instrs = Init (1 ∷ []) ∷ Nor 1 (ins.One 0) ∷ [];
})
unfolding asm_of not_of number_of
named_assembled = refl

-- a number may have leading zeros, and the last line may lack its newline
plim_assembled : asm_of (head ++ line (codes "let z 02") ++ codes "rm3 #1 @z @1") ≡ Ok (record {
  target = Plim;
  cells = 3;
  inputs = [];
  outputs = [];
  instrs = Rm3 operand.One (operand.Cell 2) 1 ∷ [];
})
unfolding asm_of rm3_of number_of
plim_assembled = refl

-- faults

unknown_name : asm_of (head ++ line (codes "rm3 #1 @y @1") ++ line (codes "let y 2")) ≡ Err (faults.Name 3)
unfolding asm_of rm3_of number_of
unknown_name = refl

name_again : asm_of (head ++ line (codes "let y 2") ++ line (codes "let y 2")) ≡ Err (faults.Name 4)
unfolding asm_of number_of
name_again = refl

-- a fault of shape comes before an unknown name
shape_first : asm_of (head ++ line (codes "rm3 @y #1")) ≡ Err (faults.Line 3)
unfolding asm_of rm3_of number_of
shape_first = refl

-- the cell of a port may be a name; ports may follow instructions
port_name : asm_of (head ++ line (codes "rm3 #1 #0 @2") ++ line (codes "let output 2") ++ line (codes "output output \"f\"")) ≡ Ok (record {
  target = Plim;
  cells = 3;
  inputs = [];
  outputs = record { cell = 2; label = codes "f" } ∷ [];
  instrs = Rm3 operand.One operand.Zero 2 ∷ [];
})
unfolding asm_of rm3_of number_of
port_name = refl

cells_again : asm_of (head ++ line (codes "cells 3")) ≡ Err (faults.Line 3)
unfolding asm_of number_of
cells_again = refl

cells_first : asm_of (line (codes "cells 3")) ≡ Err (faults.Line 1)
unfolding asm_of
cells_first = refl

too_many_cells : asm_of (line (codes "target plim") ++ line (codes "cells 1048577")) ≡ Err (faults.Line 2)
unfolding asm_of number_of
too_many_cells = refl

nothing : asm_of [] ≡ Err (faults.Line 1)
unfolding asm_of
nothing = refl

-- the line behind the last one is wrong where the number of cells is missing
no_cells : asm_of (line (codes "target plim") ++ codes "; only a target") ≡ Err (faults.Line 3)
unfolding asm_of
no_cells = refl

target_read : asm_of (head ++ line (codes "rm3 #1 @1 @1")) ≡ Err (faults.Invalid (invalid.TargetRead 0))
unfolding asm_of rm3_of number_of
target_read = refl

-- Worked examples of the text of programs, by computation.
use Rattle.std.proofs.Common.{◌≡◌, [], ◌∷◌, codes, refl}
use Rattle.pim_isa.specs.Programs.{ProgramView}
use Rattle.pim_isa.specs.declared.target.Target.TheVariants.{Magic, Plim}
use Rattle.pim_isa.specs.declared.instr.Ins.TheVariants as ins
use Rattle.pim_isa.specs.declared.instr.Operand.TheVariants as operand
use Rattle.pim_isa.specs.declared.instr.Instr.TheVariants.{Init, Nor, Rm3}
use Rattle.std.specs.Fmt.{digits}
use Rattle.pim_file.specs.Text.{text}

-- the program of a two-input AND
abbrev and_program : ProgramView
and_program = record {
  target = Magic;
  cells = 5;
  inputs = record { cell = 0; label = codes "i0" } ∷ record { cell = 1; label = codes "i1" } ∷ [];
  outputs = record { cell = 4; label = codes "o0" } ∷ [];
  instrs = Init (2 ∷ 3 ∷ 4 ∷ []) ∷ Nor 2 (ins.One 1) ∷ Nor 3 (ins.One 0) ∷ Nor 4 (ins.Two 2 3) ∷ [];
}

and_text : text and_program ≡ codes "pim 1\ntarget magic\ncells 5\ninput 0 i0\ninput 1 i1\noutput 4 o0\ncycles 4\ninit 2 3 4\nnot 2 1\nnot 3 0\nnor 4 2 3\nend\n"
unfolding digits
and_text = refl

-- a PLiM program without ports
plim_program : ProgramView
plim_program = record {
  target = Plim;
  cells = 12;
  inputs = [];
  outputs = [];
  instrs = Rm3 operand.Zero operand.One 11 ∷ Rm3 (operand.Cell 10) (operand.Cell 0) 11 ∷ [];
}

plim_text : text plim_program ≡ codes "pim 1\ntarget plim\ncells 12\ncycles 2\nrm3 #0 #1 @11\nrm3 @10 @0 @11\nend\n"
unfolding plim_program digits
plim_text = refl

-- an Init without cells, and NORs of three and four operands
wide_program : ProgramView
wide_program = record {
  target = Magic;
  cells = 5;
  inputs = [];
  outputs = [];
  instrs = Init [] ∷ Nor 4 (ins.Three 0 1 2) ∷ Nor 4 (ins.Four 0 1 2 3) ∷ [];
}

wide_text : text wide_program ≡ codes "pim 1\ntarget magic\ncells 5\ncycles 3\ninit\nnor 4 0 1 2\nnor 4 0 1 2 3\nend\n"
unfolding wide_program digits
wide_text = refl

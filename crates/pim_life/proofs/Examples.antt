-- Worked examples of lives and explanations, by computation.
use Rattle.std.proofs.Common.{◌≡◌, [], ◌∷◌, codes, refl}
use Rattle.std.specs.Fmt.{digits}
use Rattle.pim_isa.specs.Programs.{ProgramView}
use Rattle.pim_isa.specs.declared.target.Target.TheVariants.{Magic, Plim}
use Rattle.pim_isa.specs.declared.instr.Ins.TheVariants as ins
use Rattle.pim_isa.specs.declared.instr.Operand.TheVariants as operand
use Rattle.pim_isa.specs.declared.instr.Instr.TheVariants.{Init, Nor, Rm3}
use Rattle.pim_life.specs.declared.life.Start.TheVariants.{Load, At}
use Rattle.pim_life.specs.declared.life.End.TheVariants.{Unread, Read, Output}
use Rattle.pim_life.specs.Lives.{lives_of}
use Rattle.pim_life.specs.Explanations.{explanation}
use Rattle.pim_life.specs.NorGraphs.{nor_graph_of}
use Rattle.pim_life.specs.TreeLines.{tree_line}

-- the program of a two-input AND
abbrev and_program : ProgramView
and_program = record {
  target = Magic;
  cells = 5;
  inputs = record { cell = 0; label = codes "i0" } ∷ record { cell = 1; label = codes "i1" } ∷ [];
  outputs = record { cell = 4; label = codes "o0" } ∷ [];
  instrs = Init (2 ∷ 3 ∷ 4 ∷ []) ∷ Nor 2 (ins.One 1) ∷ Nor 3 (ins.One 0) ∷ Nor 4 (ins.Two 2 3) ∷ [];
}

and_explained : explanation and_program ≡ codes "cell 0: in..2\ncell 1: in..1\ncell 2: 0..- 1..3\ncell 3: 0..- 2..3\ncell 4: 0..- 3..out\ncells 5 cycles 4\n"
unfolding digits
and_explained = refl

-- an RM3 reads the old value of the cell that it writes, also where its constants don't need it; cell 0 is an input and an output that
-- nothing writes; cell 1 is an input that is not read; cell 2 is never used; cell 3 is read before anything is put there
plim_program : ProgramView
plim_program = record {
  target = Plim;
  cells = 5;
  inputs = record { cell = 1; label = codes "a" } ∷ record { cell = 0; label = codes "b" } ∷ [];
  outputs = record { cell = 0; label = codes "b" } ∷ record { cell = 4; label = codes "f" } ∷ record { cell = 4; label = codes "g" } ∷ [];
  instrs = Rm3 operand.Zero operand.One 4 ∷ Rm3 (operand.Cell 3) (operand.Cell 0) 4 ∷ Rm3 operand.One operand.Zero 4 ∷ [];
}

plim_lives : lives_of plim_program ≡
    record { cell = 0; start = Load; end = Output }
    ∷ record { cell = 1; start = Load; end = Unread }
    ∷ record { cell = 4; start = At 0; end = Read 1 }
    ∷ record { cell = 4; start = At 1; end = Read 2 }
    ∷ record { cell = 4; start = At 2; end = Output } ∷ []
unfolding plim_program
plim_lives = refl

plim_explained : explanation plim_program ≡ codes "cell 0: in..out\ncell 1: in..-\ncell 4: 0..1 1..2 2..out\ncells 5 cycles 3\n"
unfolding plim_program digits
plim_explained = refl

-- an output that is written again: only its last life is the output's; an input that is written ends with its last reader before
again_program : ProgramView
again_program = record {
  target = Magic;
  cells = 3;
  inputs = record { cell = 0; label = codes "a" } ∷ [];
  outputs = record { cell = 0; label = codes "f" } ∷ [];
  instrs = Nor 1 (ins.One 0) ∷ Nor 2 (ins.Two 1 0) ∷ Init (0 ∷ 2 ∷ []) ∷ Nor 0 (ins.One 1) ∷ [];
}

again_explained : explanation again_program ≡ codes "cell 0: in..1 2..- 3..out\ncell 1: 0..3\ncell 2: 1..- 2..-\ncells 3 cycles 4\n"
unfolding again_program digits
again_explained = refl

-- the NORs of the AND are a tree: the last one reads the others
and_graph : nor_graph_of and_program ≡ record { kids = [] ∷ [] ∷ (0 ∷ 1 ∷ []) ∷ []; roots = 2 ∷ [] }
and_graph = refl

and_tree : tree_line (nor_graph_of and_program) ≡ codes "tree yes gates 3 cu 3 peak 3 own 3\n"
unfolding digits
and_tree = refl

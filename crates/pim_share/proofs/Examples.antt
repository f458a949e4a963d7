-- Worked examples of pieces, windows, moves and turns, by computation.
use Rattle.std.proofs.Common.{◌≡◌, ◌<◌, ℕ, zero, suc, Bool, true, false, List, [], ◌∷◌, ◌++◌, Some, Ok, Err, ap, arith, codes, length, map, refl}
use Rattle.std.specs.Prelude.{◌==◌, count_by, slice_get}
use Rattle.std.proofs.lemmas.List.Elements.{All-nil, All-cons}
use Rattle.pim_io.specs.Words.{number_of}
use Rattle.pim_isa.specs.Programs.{ProgramView}
use Rattle.pim_isa.specs.Steps.{exec}
use Rattle.pim_isa.specs.declared.target.Target.TheVariants.{Magic, Plim}
use Rattle.pim_isa.specs.declared.instr.Ins.TheVariants as ins
use Rattle.pim_isa.specs.declared.instr.Operand.TheVariants as operand
use Rattle.pim_isa.specs.declared.instr.Instr.TheVariants.{Init, Nor, Rm3}
use Rattle.pim_text.specs.Fields.{plain_number}
use Rattle.pim_text.specs.InstrForms.{not_of, nor_of, instr_of}
use Rattle.pim_text.specs.Reading.{parts_of as text_parts_of}
use Rattle.pim_file.specs.ProgramFile.{draft_of, parse1_of}
use Rattle.pim_file.specs.declared.fault.FileFault.TheVariants as file
use Rattle.pim_share.specs.Merged.{merge_of, merged, turns_fault}
use Rattle.pim_share.specs.Moved.{moved}
use Rattle.pim_share.specs.Pieces.{parts_of, pieces}
use Rattle.pim_share.specs.Turns.{IsFair}
use Rattle.pim_share.specs.Windows.{base}
use Rattle.pim_share.specs.declared.fault.ManyFault.TheVariants as many
use Rattle.pim_share.specs.declared.fault.ShareFault.TheVariants as share

-- a line of a file
abbrev line : List ℕ → List ℕ
line text = text ++ 10 ∷ []

-- a NOT, of two cells and two instructions
abbrev not_part : ProgramView
not_part = record {
  target = Magic;
  cells = 2;
  inputs = record { cell = 0; label = codes "a" } ∷ [];
  outputs = record { cell = 1; label = codes "f" } ∷ [];
  instrs = Init (1 ∷ []) ∷ Nor 1 (ins.One 0) ∷ [];
}

abbrev not_text : List ℕ
not_text = line (codes "pim 1") ++ line (codes "target magic") ++ line (codes "cells 2") ++ line (codes "input 0 a") ++ line (codes "output 1 f") ++ line (codes "cycles 2") ++ line (codes "init 1") ++ line (codes "not 1 0") ++ line (codes "end")

-- an OR, of four cells and three instructions; an input has the label that the NOT's has
abbrev or_part : ProgramView
or_part = record {
  target = Magic;
  cells = 4;
  inputs = record { cell = 0; label = codes "a" } ∷ record { cell = 1; label = codes "b" } ∷ [];
  outputs = record { cell = 3; label = codes "g" } ∷ [];
  instrs = Init (2 ∷ 3 ∷ []) ∷ Nor 2 (ins.Two 0 1) ∷ Nor 3 (ins.One 2) ∷ [];
}

abbrev or_text : List ℕ
or_text = line (codes "pim 1") ++ line (codes "target magic") ++ line (codes "cells 4") ++ line (codes "input 0 a") ++ line (codes "input 1 b") ++ line (codes "output 3 g") ++ line (codes "cycles 3") ++ line (codes "init 2 3") ++ line (codes "nor 2 0 1") ++ line (codes "not 3 2") ++ line (codes "end")

abbrev two : List ProgramView
two = not_part ∷ or_part ∷ []

-- ---- pieces: nothing is left behind the last cut
two_pieces : pieces (codes "a\nend\nb\nend\n") ≡ codes "a\nend\n" ∷ codes "b\nend\n" ∷ []
two_pieces = refl

-- what is left there is a piece of its own, also without `end`
piece_without_end : pieces (codes "end\nb\nc") ≡ codes "end\n" ∷ codes "b\nc" ∷ []
piece_without_end = refl

-- a line that is not exactly `end` cuts nothing
no_cut : pieces (codes "end \nend\r\n end\n") ≡ codes "end \nend\r\n end\n" ∷ []
no_cut = refl

empty_file : pieces [] ≡ [] ∷ []
empty_file = refl

-- ---- the programs of a file, and the first piece that is none; its lines are counted from its own first one
two_programs : parts_of (not_text ++ or_text) ≡ Ok two
unfolding parts_of parse1_of draft_of text_parts_of instr_of not_of nor_of plain_number number_of
two_programs = refl

-- the empty line belongs to the second piece
second_wrong : parts_of (not_text ++ line [] ++ or_text) ≡ Err (many.Part 1 (file.Line 1))
unfolding parts_of parse1_of draft_of text_parts_of instr_of not_of nor_of plain_number number_of
second_wrong = refl

third_cut_off : parts_of (not_text ++ not_text ++ line (codes "pim 1")) ≡ Err (many.Part 2 file.Truncated)
unfolding parts_of parse1_of draft_of text_parts_of instr_of not_of nor_of plain_number number_of
third_cut_off = refl

-- both pieces are wrong
first_wrong : parts_of (line (codes "pim 1") ++ line (codes "end") ++ codes "x") ≡ Err (many.Part 0 (file.Line 2))
unfolding parts_of parse1_of draft_of text_parts_of
first_wrong = refl

-- ---- windows: that of the OR begins behind the cells of the NOT
first_cells : map (base two) (0 ∷ 1 ∷ []) ≡ 0 ∷ 2 ∷ []
first_cells = refl

-- ---- moves: of the target, of the operands, and of no constant
moved_nor : moved 5 (Nor 4 (ins.Two 2 3)) ≡ Nor 9 (ins.Two 7 8)
moved_nor = refl

moved_rm3 : moved 3 (Rm3 operand.One (operand.Cell 0) 2) ≡ Rm3 operand.One (operand.Cell 3) 5
moved_rm3 = refl

-- ---- turns
abbrev fair : List ℕ
fair = 1 ∷ 0 ∷ 1 ∷ 1 ∷ 0 ∷ []

merged_two : merge_of two fair 6 ≡ Ok (record {
  target = Magic;
  cells = 6;
  inputs = record { cell = 0; label = codes "a" } ∷ record { cell = 2; label = codes "a" } ∷ record { cell = 3; label = codes "b" } ∷ [];
  outputs = record { cell = 1; label = codes "f" } ∷ record { cell = 5; label = codes "g" } ∷ [];
  instrs = Init (4 ∷ 5 ∷ []) ∷ Init (1 ∷ []) ∷ Nor 4 (ins.Two 2 3) ∷ Nor 5 (ins.One 4) ∷ Nor 1 (ins.One 0) ∷ [];
})
unfolding merge_of
merged_two = refl

-- the NOT of one and the OR of zero and one, beside a seventh cell; whatever the other cells hold at first
both_done : (x y z other : Bool) → exec (merged two fair).instrs (true ∷ x ∷ false ∷ true ∷ y ∷ z ∷ other ∷ []) ≡ true ∷ false ∷ false ∷ true ∷ false ∷ true ∷ other ∷ []
both_done x y z other = refl

-- two turns of the NOT and three of the OR
two_is_fair : IsFair two fair
two_is_fair = record {
  named = All-cons (λ j. j < 2) 1 (0 ∷ 1 ∷ 1 ∷ 0 ∷ []) (omega arith) (All-cons (λ j. j < 2) 0 (1 ∷ 1 ∷ 0 ∷ []) (omega arith)
      (All-cons (λ j. j < 2) 1 (1 ∷ 0 ∷ []) (omega arith) (All-cons (λ j. j < 2) 1 (0 ∷ []) (omega arith)
      (All-cons (λ j. j < 2) 0 [] (omega arith) (All-nil (λ j. j < 2))))));
  often = count;
}
  where
    count : (j : ℕ) (part : ProgramView) → slice_get two j ≡ Some part → count_by (λ turn. turn == j) fair ≡ length part.instrs
    count zero part is = ap (λ (p : ProgramView). length p.instrs) (let same : not_part ≡ part = cc in same)
    count (suc zero) part is = ap (λ (p : ProgramView). length p.instrs) (let same : or_part ≡ part = cc in same)
    count (suc (suc j)) part is = cc

-- an instruction of the OR is left out
one_left : turns_fault two (0 ∷ 0 ∷ 1 ∷ 1 ∷ []) ≡ Some (share.Missing 1)
one_left = refl

one_left_unfair : IsFair two (0 ∷ 0 ∷ 1 ∷ 1 ∷ []) → ⊥
one_left_unfair is =
    let counts : 2 ≡ 3 = is.often 1 or_part refl in
    absurd (omega (arith, counts))

-- the NOT is named once too often, by the turn of number 3
once_more : turns_fault two (0 ∷ 1 ∷ 0 ∷ 0 ∷ 1 ∷ 1 ∷ []) ≡ Some (share.Turn 3)
once_more = refl

-- there is no part of number 2
no_part : turns_fault two (0 ∷ 2 ∷ []) ≡ Some (share.Turn 1)
no_part = refl

-- ---- what comes before the turns
one_cell_short : merge_of two [] 5 ≡ Err (share.TooFewCells 6)
unfolding merge_of
one_cell_short = refl

other_target : merge_of (not_part ∷ or_part ∷ record not_part { target = Plim } ∷ []) [] 0 ≡ Err (share.OtherTarget 2)
unfolding merge_of
other_target = refl

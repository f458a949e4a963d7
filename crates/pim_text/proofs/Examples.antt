-- Worked examples of lines, by computation.
use Rattle.std.proofs.Common.{◌≡◌, [], ◌∷◌, Some, None, codes, refl}
use Rattle.pim_io.specs.Words.{number_of}
use Rattle.pim_isa.specs.declared.instr.Ins.TheVariants as ins
use Rattle.pim_isa.specs.declared.instr.Operand.TheVariants as operand
use Rattle.pim_isa.specs.declared.instr.Instr.TheVariants.{Init, Nor, Rm3}
use Rattle.pim_text.specs.Fields.{fields, plain_number}
use Rattle.pim_text.specs.LineForms.{counted_of, port_of}
use Rattle.pim_text.specs.InstrForms.{not_of, nor_of, rm3_of, instr_of_words, instr_of}

zero_alone : plain_number (codes "0") ≡ Some 0
unfolding plain_number number_of
zero_alone = refl

leading_zero : plain_number (codes "05") ≡ None
unfolding plain_number number_of
leading_zero = refl

past_32_bits : plain_number (codes "4294967296") ≡ None
unfolding plain_number number_of
past_32_bits = refl

-- two spaces side by side have an empty field between them
empty_field : fields (codes "not 2  1") ≡ codes "not" ∷ codes "2" ∷ [] ∷ codes "1" ∷ []
empty_field = refl

blank_behind : counted_of (codes "cells ") (codes "cells 5 ") ≡ None
unfolding plain_number number_of
blank_behind = refl

-- the label is the rest of its line, with its blanks
label_with_blanks : port_of (codes "input ") (codes "input 0  a ") ≡ Some (record { cell = 0; label = codes " a " })
unfolding plain_number number_of
label_with_blanks = refl

no_label : port_of (codes "input ") (codes "input 0 ") ≡ None
unfolding plain_number number_of
no_label = refl

init_alone : instr_of (codes "init") ≡ Some (Init [])
unfolding instr_of
init_alone = refl

init_and_blank : instr_of (codes "init ") ≡ None
unfolding instr_of plain_number number_of
init_and_blank = refl

nor_of_four : instr_of (codes "nor 9 0 1 2 3") ≡ Some (Nor 9 (ins.Four 0 1 2 3))
unfolding instr_of nor_of plain_number number_of
nor_of_four = refl

nor_of_five : instr_of (codes "nor 9 0 1 2 3 4") ≡ None
unfolding instr_of nor_of plain_number number_of
nor_of_five = refl

rm3_line : instr_of (codes "rm3 @1 #0 @2") ≡ Some (Rm3 (operand.Cell 1) operand.Zero 2)
unfolding instr_of rm3_of plain_number number_of
rm3_line = refl

-- a reading of cells of another kind: here each word is cell 7
any_words : instr_of_words (λ _. Some 7) (codes "not" ∷ codes "x" ∷ codes "y" ∷ []) ≡ Some (Nor 7 (ins.One 7))
unfolding not_of
any_words = refl

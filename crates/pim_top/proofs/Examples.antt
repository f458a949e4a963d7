-- Worked examples of a call's definitions, by computation: the note of each refusal with a place, and a run with a wrong line.
use Rattle.std.proofs.Common.{◌≡◌, ℕ, List, [], ◌∷◌, ◌++◌, Some, Ok, Err, codes, refl}
use Rattle.std.specs.Fmt.{digits}
use Rattle.pim_aiger.specs.declared.fault.AigerFault.TheVariants as aiger
use Rattle.pim_asm.specs.declared.fault.AsmFault.TheVariants as asm
use Rattle.pim_batch.specs.Runners.{Runner}
use Rattle.pim_blif.specs.declared.fault.BlifFault.TheVariants as blif
use Rattle.pim_compile.specs.declared.refusal.Refusal.TheVariants as compiler
use Rattle.pim_file.specs.declared.fault.FileFault.TheVariants as file
use Rattle.pim_io.specs.Bits.{line_of}
use Rattle.pim_io.specs.Words.{number_of}
use Rattle.pim_isa.specs.declared.draft.TheConstants as row
use Rattle.pim_isa.specs.declared.invalid.Invalid.TheVariants as invalid
use Rattle.pim_imply.specs.declared.fault.ImplyFault.TheVariants as imply_file
use Rattle.pim_imply.specs.declared.invalid.ImplyInvalid.TheVariants as imply_invalid
use Rattle.pim_imply.specs.declared.refusal.ImplyRefusal.TheVariants as imply
use Rattle.pim_life.specs.declared.tree_fault.TreeFault.TheVariants as tree
use Rattle.pim_net.specs.declared.fault.NetFault.TheVariants as net
use Rattle.pim_net.specs.declared.kind.Kind.TheVariants as kind
use Rattle.pim_prove.specs.declared.fault.ProveFault.TheVariants as prove
use Rattle.pim_prove.specs.declared.unset.Unset.TheVariants as unset
use Rattle.pim_share.specs.declared.fault.ManyFault.TheVariants as many
use Rattle.pim_share.specs.declared.fault.ShareFault.TheVariants as share
use Rattle.pim_top.specs.Judged.{fitting_lines, input_refusal, judged_within}
use Rattle.pim_top.specs.Notes.{refusal_note}
use Rattle.pim_top.specs.Statuses.{refusal_status}
use Rattle.pim_top.specs.Walks.{tiles_of}
use Rattle.pim_top.specs.commands.Share.{turns_of}
use Rattle.pim_top.specs.declared.judgement.Judgement.{Judgement}
use Rattle.pim_top.specs.declared.judgement.Judgement.TheVariants as judgement
use Rattle.pim_top.specs.declared.netlist.NetlistFault.TheVariants.{Aiger, Blif}
use Rattle.pim_top.specs.declared.refusal.Origin.TheVariants as origin
use Rattle.pim_top.specs.declared.refusal.Refusal.TheVariants as refusal
use Rattle.pim_top.specs.declared.status.Status.TheVariants as status
use Rattle.pim_words.specs.declared.limits.TheConstants as words

abbrev judged : Judgement → List ℕ
judged j = refusal_note (refusal.Judged j)

-- ---- notes
program_unread : refusal_note (refusal.ReadFault origin.Program) ≡ codes "pim: read fault: program\n"
program_unread = refl

input_unread : refusal_note (refusal.ReadFault origin.Input) ≡ codes "pim: read fault: input\n"
input_unread = refl

syntax_note : judged (judgement.Netlist (Blif (blif.Syntax 3))) ≡ codes "pim: bad input: blif line 3: syntax\n"
unfolding digits
syntax_note = refl

unsupported_note : judged (judgement.Netlist (Blif (blif.Unsupported 12 (codes ".latch")))) ≡ codes "pim: bad input: blif line 12: unsupported .latch\n"
unfolding digits
unsupported_note = refl

width_note : judged (judgement.Netlist (Blif (blif.RowWidth 4))) ≡ codes "pim: bad input: blif line 4: row width\n"
unfolding digits
width_note = refl

phase_note : judged (judgement.Netlist (Blif (blif.MixedPhase 5))) ≡ codes "pim: bad input: blif line 5: mixed phase\n"
unfolding digits
phase_note = refl

twice_note : judged (judgement.Netlist (Blif (blif.TwiceInput 2))) ≡ codes "pim: bad input: blif line 2: input twice\n"
unfolding digits
twice_note = refl

number_note : judged (judgement.Netlist (Aiger (aiger.Number 8))) ≡ codes "pim: bad input: aiger number at byte 8\n"
unfolding digits
number_note = refl

literal_note : judged (judgement.Netlist (Aiger (aiger.Literal 16))) ≡ codes "pim: bad input: aiger literal at byte 16\n"
unfolding digits
literal_note = refl

truncated_note : judged (judgement.Netlist (Aiger (aiger.Truncated 20))) ≡ codes "pim: bad input: aiger truncated at byte 20\n"
unfolding digits
truncated_note = refl

delta_note : judged (judgement.Netlist (Aiger (aiger.Delta 16))) ≡ codes "pim: bad input: aiger delta at byte 16\n"
unfolding digits
delta_note = refl

symbol_note : judged (judgement.Netlist (Aiger (aiger.Symbol 30))) ≡ codes "pim: bad input: aiger symbol at byte 30\n"
unfolding digits
symbol_note = refl

driven_note : judged (judgement.Netlist (Blif (blif.Net (net.Twice 1) (codes "b" ∷ [])))) ≡ codes "pim: bad input: driven twice b\n"
driven_note = refl

undriven_note : judged (judgement.Netlist (Aiger (aiger.Net (net.Undriven 0) (codes "v0" ∷ [])))) ≡ codes "pim: bad input: undriven v0\n"
undriven_note = refl

cycle_note : judged (judgement.Netlist (Blif (blif.Net (net.Cycle (1 ∷ 0 ∷ [])) (codes "b" ∷ codes "a" ∷ [])))) ≡ codes "pim: bad input: cycle b a\n"
cycle_note = refl

memory_note : judged (judgement.Netlist (Blif (blif.Net net.NoMemory []))) ≡ codes "pim: no memory\n"
memory_note = refl

signals_note : judged (judgement.Netlist (Blif (blif.TooLarge kind.Signals))) ≡ codes "pim: too large: signals\n"
signals_note = refl

cells_note : judged (judgement.Compile (compiler.TooFewCells 5)) ≡ codes "pim: too few cells: needed 5\n"
unfolding digits
cells_note = refl

nodes_note : judged (judgement.Compile compiler.TooLarge) ≡ codes "pim: too large: nodes\n"
nodes_note = refl

line_note : judged (judgement.File (file.Line 7)) ≡ codes "pim: bad input: program line 7\n"
unfolding digits
line_note = refl

port_note : judged (judgement.File (file.Invalid (invalid.Port 1))) ≡ codes "pim: bad input: program port 1\n"
unfolding digits
port_note = refl

range_note : judged (judgement.File (file.Invalid (invalid.CellRange 0))) ≡ codes "pim: bad input: program instruction 0 cell range\n"
unfolding digits
range_note = refl

target_note : judged (judgement.File (file.Invalid (invalid.TargetRead 2))) ≡ codes "pim: bad input: program instruction 2 reads its target\n"
unfolding digits
target_note = refl

kind_note : judged (judgement.File (file.Invalid (invalid.WrongTarget 3))) ≡ codes "pim: bad input: program instruction 3 wrong target\n"
unfolding digits
kind_note = refl

init_note : judged (judgement.File (file.Invalid (invalid.InitList 4))) ≡ codes "pim: bad input: program instruction 4 init list\n"
unfolding digits
init_note = refl

byte_note : judged (judgement.File (file.Byte 12)) ≡ codes "pim: bad input: program byte 12\n"
unfolding digits
byte_note = refl

assembly_note : judged (judgement.Assembly (asm.Line 4)) ≡ codes "pim: bad input: assembly line 4\n"
unfolding digits
assembly_note = refl

name_note : judged (judgement.Assembly (asm.Name 9)) ≡ codes "pim: bad input: assembly name in line 9\n"
unfolding digits
name_note = refl

assembled_note : judged (judgement.Assembly (asm.Invalid (invalid.Port 1))) ≡ codes "pim: bad input: program port 1\n"
unfolding digits
assembled_note = refl

vector_note : judged (judgement.Vector 2) ≡ codes "pim: bad input: vector line 2\n"
unfolding digits
vector_note = refl

rows_note : judged judgement.TooManyLines ≡ codes "pim: too large: rows\n"
rows_note = refl

ports_note : judged (judgement.Prove prove.Ports) ≡ codes "pim: bad input: ports differ\n"
ports_note = refl

unset_note : judged (judgement.Prove (prove.NotClean (unset.Used 0 2))) ≡ codes "pim: bad input: program instruction 0 uses unset cell 2\n"
unfolding digits
unset_note = refl

output_note : judged (judgement.Prove (prove.NotClean (unset.Output 1))) ≡ codes "pim: bad input: program output 1 is unset\n"
unfolding digits
output_note = refl

unequal_note : judged (judgement.Unequal (codes "01") 0) ≡ codes "pim: unequal 01 output 0\n"
unfolding digits
unequal_note = refl

no_vector_note : judged (judgement.Unequal [] 2) ≡ codes "pim: unequal  output 2\n"
unfolding digits
no_vector_note = refl

tree_note : judged (judgement.Tree tree.NotMagic) ≡ codes "pim: bad input: program is not magic\n"
tree_note = refl

part_line_note : judged (judgement.Parts (many.Part 1 (file.Line 3))) ≡ codes "pim: bad input: part 1 program line 3\n"
unfolding digits
part_line_note = refl

part_cut_note : judged (judgement.Parts (many.Part 0 file.Truncated)) ≡ codes "pim: bad input: part 0 program truncated\n"
unfolding digits
part_cut_note = refl

part_target_note : judged (judgement.Parts (many.Part 12 (file.Invalid (invalid.TargetRead 3)))) ≡ codes "pim: bad input: part 12 program instruction 3 reads its target\n"
unfolding digits
part_target_note = refl

part_cells_note : judged (judgement.Parts (many.Part 1 file.TooLarge)) ≡ codes "pim: too large: cells\n"
part_cells_note = refl

other_target_note : judged (judgement.Share (share.OtherTarget 1)) ≡ codes "pim: bad input: part 1 other target\n"
unfolding digits
other_target_note = refl

turn_note : judged (judgement.Turn 3) ≡ codes "pim: bad input: turn line 3\n"
unfolding digits
turn_note = refl

third_turn_note : judged (judgement.Share (share.Turn 2)) ≡ codes "pim: bad input: turn line 3\n"
unfolding digits
third_turn_note = refl

missing_note : judged (judgement.Share (share.Missing 1)) ≡ codes "pim: bad input: turns missing part 1\n"
unfolding digits
missing_note = refl

shared_cells_note : judged (judgement.Share (share.TooFewCells 10)) ≡ codes "pim: too few cells: needed 10\n"
unfolding digits
shared_cells_note = refl

imply_line_note : judged (judgement.ImplyFile (imply_file.Line 4)) ≡ codes "pim: bad input: imply line 4\n"
unfolding digits
imply_line_note = refl

imply_cut_note : judged (judgement.ImplyFile imply_file.Truncated) ≡ codes "pim: bad input: imply truncated\n"
imply_cut_note = refl

imply_port_note : judged (judgement.ImplyFile (imply_file.Invalid (imply_invalid.Port 1))) ≡ codes "pim: bad input: imply port 1\n"
unfolding digits
imply_port_note = refl

imply_range_note : judged (judgement.ImplyFile (imply_file.Invalid (imply_invalid.CellRange 0))) ≡ codes "pim: bad input: imply instruction 0 cell range\n"
unfolding digits
imply_range_note = refl

imply_same_note : judged (judgement.ImplyFile (imply_file.Invalid (imply_invalid.SameCell 5))) ≡ codes "pim: bad input: imply instruction 5 same cell\n"
unfolding digits
imply_same_note = refl

imply_cells_note : judged (judgement.Imply (imply.TooFewCells 4)) ≡ codes "pim: too few cells: needed 4\n"
unfolding digits
imply_cells_note = refl

-- ---- statuses
too_large : refusal_status (refusal.Judged (judgement.File file.TooLarge)) ≡ status.TooLarge
too_large = refl

too_few : refusal_status (refusal.Judged (judgement.Compile (compiler.TooFewCells 5))) ≡ status.TooFewCells
too_few = refl

-- ---- a run of three lines, of which the third is no vector
abbrev three_lines : List ℕ
three_lines = codes "01\n11\n1x\n10\n"

-- two characters a line, a tile of one row, and each row gives its own bits
abbrev echoing : Runner
echoing = record { width = 2; tile = 1; result = λ bits. line_of bits ++ 10 ∷ [] }

third_refused : input_refusal 2 three_lines ≡ Some (refusal.Judged (judgement.Vector 3))
third_refused = refl

two_fit : fitting_lines 2 three_lines ≡ codes "01" ∷ codes "11" ∷ []
two_fit = refl

two_written : tiles_of echoing (fitting_lines 2 three_lines) ≡ codes "01\n11\n"
two_written = refl

-- ---- bytes past a limit of six: a piece of them that may still become a line is not judged, and one that can't is
short_piece : judged_within 6 3 (codes "01\n110\n") ≡ codes "01" ∷ []
short_piece = refl

long_piece : judged_within 6 1 (codes "01\n110\n") ≡ codes "01" ∷ codes "110" ∷ []
long_piece = refl

-- ---- turns: a carriage return before a newline is no part of the line, and the last line stands as it is
three_turns : turns_of (codes "0\r\n01\n2") ≡ Ok (0 ∷ 1 ∷ 2 ∷ [])
unfolding number_of
three_turns = refl

no_second_turn : turns_of (codes "0\n1 2\n3") ≡ Err (judgement.Turn 2)
unfolding number_of
no_second_turn = refl

-- ---- the most that `--cells` may say is what a row has
same_cells : words.MAX_CELLS ≡ row.MAX_CELLS
same_cells = refl

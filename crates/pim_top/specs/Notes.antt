-- The line that each answer writes to the notes.
use Rattle.std.specs.Prelude.{ℕ, ◌+◌, List, [], ◌∷◌, ◌++◌, Option, None, Some, Result, Ok, Err, codes, decimal}
use Rattle.pim_aiger.specs.declared.fault.AigerFault.{AigerFault}
use Rattle.pim_aiger.specs.declared.fault.AigerFault.TheVariants as aiger
use Rattle.pim_asm.specs.declared.fault.AsmFault.{AsmFault}
use Rattle.pim_asm.specs.declared.fault.AsmFault.TheVariants as asm
use Rattle.pim_blif.specs.declared.fault.BlifFault.{BlifFault}
use Rattle.pim_blif.specs.declared.fault.BlifFault.TheVariants as blif
use Rattle.pim_compile.specs.declared.refusal.Refusal.{Refusal as Compiler}
use Rattle.pim_compile.specs.declared.refusal.Refusal.TheVariants as compiler
use Rattle.pim_debug.specs.declared.fault.DebugFault.{DebugFault}
use Rattle.pim_debug.specs.declared.fault.DebugFault.TheVariants as debug
use Rattle.pim_file.specs.declared.fault.FileFault.{FileFault}
use Rattle.pim_file.specs.declared.fault.FileFault.TheVariants as file
use Rattle.pim_isa.specs.declared.invalid.Invalid.{Invalid}
use Rattle.pim_isa.specs.declared.invalid.Invalid.TheVariants as invalid
use Rattle.pim_imply.specs.declared.fault.ImplyFault.{ImplyFault}
use Rattle.pim_imply.specs.declared.fault.ImplyFault.TheVariants as imply_file
use Rattle.pim_imply.specs.declared.invalid.ImplyInvalid.{ImplyInvalid}
use Rattle.pim_imply.specs.declared.invalid.ImplyInvalid.TheVariants as imply_invalid
use Rattle.pim_imply.specs.declared.refusal.ImplyRefusal.{ImplyRefusal}
use Rattle.pim_imply.specs.declared.refusal.ImplyRefusal.TheVariants as imply
use Rattle.pim_life.specs.declared.tree_fault.TreeFault.{TreeFault}
use Rattle.pim_life.specs.declared.tree_fault.TreeFault.TheVariants as tree
use Rattle.pim_net.specs.declared.fault.NetFault.{NetFault}
use Rattle.pim_net.specs.declared.fault.NetFault.TheVariants as net
use Rattle.pim_net.specs.declared.kind.Kind.{Kind}
use Rattle.pim_net.specs.declared.kind.Kind.TheVariants as kind
use Rattle.pim_prove.specs.declared.fault.ProveFault.{ProveFault}
use Rattle.pim_prove.specs.declared.fault.ProveFault.TheVariants as prove
use Rattle.pim_prove.specs.declared.unset.Unset.{Unset}
use Rattle.pim_prove.specs.declared.unset.Unset.TheVariants as unset
use Rattle.pim_share.specs.declared.fault.ManyFault.{ManyFault}
use Rattle.pim_share.specs.declared.fault.ManyFault.TheVariants as many
use Rattle.pim_share.specs.declared.fault.ShareFault.{ShareFault}
use Rattle.pim_share.specs.declared.fault.ShareFault.TheVariants as share
use Rattle.pim_top.specs.declared.judgement.Judgement.{Judgement}
use Rattle.pim_top.specs.declared.judgement.Judgement.TheVariants as judgement
use Rattle.pim_top.specs.declared.netlist.NetlistFault.{NetlistFault}
use Rattle.pim_top.specs.declared.netlist.NetlistFault.TheVariants.{Aiger, Blif}
use Rattle.pim_top.specs.declared.refusal.Origin.{Origin}
use Rattle.pim_top.specs.declared.refusal.Origin.TheVariants as origin
use Rattle.pim_top.specs.declared.refusal.Refusal.{Refusal}
use Rattle.pim_top.specs.declared.refusal.Refusal.TheVariants as refusal

-- that an input is bad, and what is wrong with it
abbrev pub bad : List ℕ → List ℕ
bad detail = codes "bad input: " ++ detail

-- that a limit is passed, and the word for it
abbrev pub large : List ℕ → List ℕ
large word = codes "too large: " ++ word

-- that memory ran out
abbrev pub no_memory_text : List ℕ
no_memory_text = codes "no memory"

-- that there are too few cells, and how many are needed
abbrev pub needed_text : ℕ → List ℕ
needed_text needed = codes "too few cells: needed " ++ decimal needed

-- labels, each after a space
abbrev pub spaced : List (List ℕ) → List ℕ
spaced [] = []
spaced (label ∷ labels) = (codes " " ++ label) ++ spaced labels

-- the limit of a netlist that is passed
abbrev pub kind_word : Kind → List ℕ
kind_word kind.Signals = codes "signals"
kind_word kind.Outputs = codes "outputs"
kind_word kind.Name = codes "name"

-- why a netlist is not well-formed, with the labels of the signals that the fault names
abbrev pub net_text : NetFault → List (List ℕ) → List ℕ
net_text (net.Twice s) labels = bad (codes "driven twice" ++ spaced labels)
net_text (net.Undriven s) labels = bad (codes "undriven" ++ spaced labels)
net_text (net.Cycle signals) labels = bad (codes "cycle" ++ spaced labels)
net_text net.NoMemory labels = no_memory_text

-- why bytes are no AIGER file
abbrev pub aiger_text : AigerFault → List ℕ
aiger_text aiger.Header = bad (codes "aiger header")
aiger_text aiger.Latches = bad (codes "aiger latches")
aiger_text (aiger.Number place) = bad (codes "aiger number at byte " ++ decimal place)
aiger_text (aiger.Literal place) = bad (codes "aiger literal at byte " ++ decimal place)
aiger_text (aiger.Truncated place) = bad (codes "aiger truncated at byte " ++ decimal place)
aiger_text (aiger.Delta place) = bad (codes "aiger delta at byte " ++ decimal place)
aiger_text (aiger.Symbol place) = bad (codes "aiger symbol at byte " ++ decimal place)
aiger_text (aiger.Net fault labels) = net_text fault labels
aiger_text (aiger.TooLarge kind) = large (kind_word kind)
aiger_text aiger.NoMemory = no_memory_text

-- what is wrong in a line of a BLIF file, and the name that it has to do with
abbrev pub blif_line : ℕ → List ℕ → List ℕ → List ℕ
blif_line line text name = bad (codes "blif line " ++ (decimal line ++ (text ++ name)))

-- why bytes are no BLIF file
abbrev pub blif_text : BlifFault → List ℕ
blif_text (blif.Syntax line) = blif_line line (codes ": syntax") []
blif_text (blif.Unsupported line name) = blif_line line (codes ": unsupported ") name
blif_text (blif.RowWidth line) = blif_line line (codes ": row width") []
blif_text (blif.MixedPhase line) = blif_line line (codes ": mixed phase") []
blif_text (blif.TwiceInput line) = blif_line line (codes ": input twice") []
blif_text (blif.Net fault labels) = net_text fault labels
blif_text (blif.TooLarge kind) = large (kind_word kind)
blif_text blif.NoMemory = no_memory_text

-- why bytes are no netlist
abbrev pub netlist_text : NetlistFault → List ℕ
netlist_text (Aiger fault) = aiger_text fault
netlist_text (Blif fault) = blif_text fault

-- why a netlist is not compiled
abbrev pub compiler_text : Compiler → List ℕ
compiler_text (compiler.TooFewCells needed) = needed_text needed
compiler_text compiler.TooLarge = large (codes "nodes")
compiler_text compiler.NoMemory = no_memory_text

-- the words before a fault of one part of a file, and none where the file is one program
abbrev pub part_words : Option ℕ → List ℕ
part_words None = []
part_words (Some part) = codes "part " ++ (decimal part ++ codes " ")

-- a fault of a program file, or of a part of one, with a number
abbrev pub placed : Option ℕ → List ℕ → ℕ → List ℕ → List ℕ
placed part text number rest = bad (part_words part ++ (text ++ (decimal number ++ rest)))

-- what is wrong with an instruction
abbrev pub instruction_text : Option ℕ → ℕ → List ℕ → List ℕ
instruction_text part k text = placed part (codes "program instruction ") k text

-- why a program is not valid
abbrev pub invalid_text : Option ℕ → Invalid → List ℕ
invalid_text part (invalid.CellRange k) = instruction_text part k (codes " cell range")
invalid_text part (invalid.TargetRead k) = instruction_text part k (codes " reads its target")
invalid_text part (invalid.WrongTarget k) = instruction_text part k (codes " wrong target")
invalid_text part (invalid.InitList k) = instruction_text part k (codes " init list")
invalid_text part (invalid.Port k) = placed part (codes "program port ") k []

-- why bytes are no program file, or no part of one
abbrev pub file_text : Option ℕ → FileFault → List ℕ
file_text part (file.Line n) = placed part (codes "program line ") n []
file_text part (file.Invalid fault) = invalid_text part fault
file_text part (file.Byte place) = placed part (codes "program byte ") place []
file_text part file.Truncated = bad (part_words part ++ codes "program truncated")
file_text part file.TooLarge = large (codes "cells")
file_text part file.NoMemory = no_memory_text

-- why bytes are no assembly
abbrev pub asm_text : AsmFault → List ℕ
asm_text (asm.Line n) = bad (codes "assembly line " ++ decimal n)
asm_text (asm.Name n) = bad (codes "assembly name in line " ++ decimal n)
asm_text (asm.Invalid fault) = invalid_text None fault
asm_text asm.NoMemory = no_memory_text

-- which cell a program uses unset
abbrev pub unset_text : Unset → List ℕ
unset_text (unset.Used k cell) = instruction_text None k (codes " uses unset cell " ++ decimal cell)
unset_text (unset.Output k) = bad (codes "program output " ++ (decimal k ++ codes " is unset"))

-- why a program is not compared with a netlist
abbrev pub prove_text : ProveFault → List ℕ
prove_text prove.Ports = bad (codes "ports differ")
prove_text prove.Inputs = large (codes "inputs")
prove_text prove.Nodes = large (codes "nodes")
prove_text (prove.NotClean unset) = unset_text unset
prove_text prove.NoMemory = no_memory_text

-- at which vector and output a program differs from a netlist
abbrev pub unequal_text : List ℕ → ℕ → List ℕ
unequal_text vector output = codes "unequal " ++ (vector ++ (codes " output " ++ decimal output))

-- why a program's NORs are not explained as a graph
abbrev pub tree_text : TreeFault → List ℕ
tree_text tree.NotMagic = bad (codes "program is not magic")
tree_text tree.NoMemory = no_memory_text

-- why a netlist is not compiled to `false` and `imp`
abbrev pub imply_text : ImplyRefusal → List ℕ
imply_text (imply.TooFewCells needed) = needed_text needed
imply_text imply.TooLarge = large (codes "nodes")
imply_text imply.NoMemory = no_memory_text

-- why a program of `false` and `imp` is not valid
abbrev pub imply_invalid_text : ImplyInvalid → List ℕ
imply_invalid_text (imply_invalid.Port k) = bad (codes "imply port " ++ decimal k)
imply_invalid_text (imply_invalid.CellRange k) = placed None (codes "imply instruction ") k (codes " cell range")
imply_invalid_text (imply_invalid.SameCell k) = placed None (codes "imply instruction ") k (codes " same cell")

-- why bytes are no program of `false` and `imp`
abbrev pub imply_file_text : ImplyFault → List ℕ
imply_file_text (imply_file.Line n) = bad (codes "imply line " ++ decimal n)
imply_file_text (imply_file.Invalid fault) = imply_invalid_text fault
imply_file_text imply_file.TooLarge = large (codes "cells")
imply_file_text imply_file.Truncated = bad (codes "imply truncated")
imply_file_text imply_file.NoMemory = no_memory_text

-- why bytes are no program files one after another
abbrev pub many_text : ManyFault → List ℕ
many_text (many.Part part fault) = file_text (Some part) fault
many_text many.NoMemory = no_memory_text

-- that the turn in a line is wrong
abbrev pub turn_text : ℕ → List ℕ
turn_text line = bad (codes "turn line " ++ decimal line)

-- why programs don't share a row; a turn has a line for itself, and the first line has the number 1
abbrev pub share_text : ShareFault → List ℕ
share_text (share.OtherTarget part) = bad (part_words (Some part) ++ codes "other target")
share_text (share.TooFewCells needed) = needed_text needed
share_text (share.Turn turn) = turn_text (turn + 1)
share_text (share.Missing part) = bad (codes "turns missing part " ++ decimal part)
share_text share.NoMemory = no_memory_text

-- that the command in a line is wrong, and how
abbrev pub debug_line : ℕ → List ℕ → List ℕ → List ℕ
debug_line line text number = bad (codes "debug line " ++ (decimal line ++ (text ++ number)))

-- why a command is refused
abbrev pub debug_text : ℕ → DebugFault → List ℕ
debug_text line debug.BadCommand = debug_line line (codes ": bad command") []
debug_text line (debug.NoSuchBreak n) = debug_line line (codes ": no such break ") (decimal n)
debug_text line (debug.OutOfProgram k) = debug_line line (codes ": out of program ") (decimal k)
debug_text line (debug.NoSuchCell c) = debug_line line (codes ": no such cell ") (decimal c)
debug_text line debug.NoMemory = no_memory_text

-- why bytes are refused
abbrev pub judgement_text : Judgement → List ℕ
judgement_text (judgement.Netlist fault) = netlist_text fault
judgement_text (judgement.Compile refusal) = compiler_text refusal
judgement_text (judgement.File fault) = file_text None fault
judgement_text (judgement.Assembly fault) = asm_text fault
judgement_text (judgement.Prove fault) = prove_text fault
judgement_text (judgement.Unequal vector output) = unequal_text vector output
judgement_text (judgement.Tree fault) = tree_text fault
judgement_text (judgement.Imply refusal) = imply_text refusal
judgement_text (judgement.ImplyFile fault) = imply_file_text fault
judgement_text (judgement.Parts fault) = many_text fault
judgement_text (judgement.Turn n) = turn_text n
judgement_text (judgement.Share fault) = share_text fault
judgement_text (judgement.Vector n) = bad (codes "vector line " ++ decimal n)
judgement_text (judgement.Command n fault) = debug_text n fault
judgement_text judgement.TooManyLines = large (codes "rows")
judgement_text judgement.NoMemory = no_memory_text

-- the name of a source
abbrev pub origin_word : Origin → List ℕ
origin_word origin.Program = codes "program"
origin_word origin.Input = codes "input"

-- why a call is refused
abbrev pub refusal_text : Refusal → List ℕ
refusal_text refusal.Usage = codes "usage"
refusal_text refusal.NoMemory = no_memory_text
refusal_text (refusal.ReadFault origin) = codes "read fault: " ++ origin_word origin
refusal_text (refusal.TooLong origin) = large (codes "bytes")
refusal_text refusal.WriteFault = codes "write fault"
refusal_text (refusal.Judged j) = judgement_text j

-- the line with this text
abbrev pub note_line : List ℕ → List ℕ
note_line text = codes "pim: " ++ (text ++ codes "\n")

-- the line of a refusal
abbrev pub refusal_note : Refusal → List ℕ
refusal_note r = note_line (refusal_text r)

-- the line of an answer: none where all was done
abbrev pub note : {Y : Type 0} → Result Y Refusal → List ℕ
note (Ok y) = []
note (Err r) = refusal_note r

-- Statuses, and what ends with each of them.
use Rattle.std.specs.Prelude.{◌≡◌, ℕ, Result, Ok, Err}
use Rattle.pim_aiger.specs.declared.fault.AigerFault.{AigerFault}
use Rattle.pim_aiger.specs.declared.fault.AigerFault.TheVariants as aiger
use Rattle.pim_asm.specs.declared.fault.AsmFault.{AsmFault}
use Rattle.pim_asm.specs.declared.fault.AsmFault.TheVariants as asm
use Rattle.pim_blif.specs.declared.fault.BlifFault.{BlifFault}
use Rattle.pim_blif.specs.declared.fault.BlifFault.TheVariants as blif
use Rattle.pim_compile.specs.declared.refusal.Refusal.{Refusal as Compiler}
use Rattle.pim_compile.specs.declared.refusal.Refusal.TheVariants as compiler
use Rattle.pim_debug.specs.declared.fault.DebugFault.{DebugFault}
use Rattle.pim_debug.specs.declared.fault.DebugFault.TheVariants as debug
use Rattle.pim_file.specs.declared.fault.FileFault.{FileFault}
use Rattle.pim_file.specs.declared.fault.FileFault.TheVariants as file
use Rattle.pim_imply.specs.declared.fault.ImplyFault.{ImplyFault}
use Rattle.pim_imply.specs.declared.fault.ImplyFault.TheVariants as imply_file
use Rattle.pim_imply.specs.declared.refusal.ImplyRefusal.{ImplyRefusal}
use Rattle.pim_imply.specs.declared.refusal.ImplyRefusal.TheVariants as imply
use Rattle.pim_life.specs.declared.tree_fault.TreeFault.{TreeFault}
use Rattle.pim_life.specs.declared.tree_fault.TreeFault.TheVariants as tree
use Rattle.pim_net.specs.declared.fault.NetFault.{NetFault}
use Rattle.pim_net.specs.declared.fault.NetFault.TheVariants as net
use Rattle.pim_prove.specs.declared.fault.ProveFault.{ProveFault}
use Rattle.pim_prove.specs.declared.fault.ProveFault.TheVariants as prove
use Rattle.pim_share.specs.declared.fault.ManyFault.{ManyFault}
use Rattle.pim_share.specs.declared.fault.ManyFault.TheVariants as many
use Rattle.pim_share.specs.declared.fault.ShareFault.{ShareFault}
use Rattle.pim_share.specs.declared.fault.ShareFault.TheVariants as share
use Rattle.pim_top.specs.declared.judgement.Judgement.{Judgement}
use Rattle.pim_top.specs.declared.judgement.Judgement.TheVariants as judgement
use Rattle.pim_top.specs.declared.netlist.NetlistFault.{NetlistFault}
use Rattle.pim_top.specs.declared.netlist.NetlistFault.TheVariants.{Aiger, Blif}
use Rattle.pim_top.specs.declared.refusal.Refusal.{Refusal}
use Rattle.pim_top.specs.declared.refusal.Refusal.TheVariants as refusal
use Rattle.pim_top.specs.declared.status.Status.{Status}
use Rattle.pim_top.specs.declared.status.Status.TheVariants as status

-- the exit status: 0 where all was done, and else 1 to 8
abbrev pub code_of : Status → ℕ
code_of status.Done = 0
code_of status.BadInput = 1
code_of status.Usage = 2
code_of status.ReadFault = 3
code_of status.WriteFault = 4
code_of status.NoMemory = 5
code_of status.TooFewCells = 6
code_of status.TooLarge = 7
code_of status.Unequal = 8

-- a netlist that is not well-formed is a bad input
abbrev pub net_status : NetFault → Status
net_status net.NoMemory = status.NoMemory
net_status fault = status.BadInput

-- a fault of an AIGER file is a bad input, but a limit is too large
abbrev pub aiger_status : AigerFault → Status
aiger_status (aiger.Net fault names) = net_status fault
aiger_status (aiger.TooLarge kind) = status.TooLarge
aiger_status aiger.NoMemory = status.NoMemory
aiger_status fault = status.BadInput

-- the same of a BLIF file
abbrev pub blif_status : BlifFault → Status
blif_status (blif.Net fault names) = net_status fault
blif_status (blif.TooLarge kind) = status.TooLarge
blif_status blif.NoMemory = status.NoMemory
blif_status fault = status.BadInput

-- the same of a netlist in any format
abbrev pub netlist_status : NetlistFault → Status
netlist_status (Aiger fault) = aiger_status fault
netlist_status (Blif fault) = blif_status fault

-- too few cells have a status of their own, too many nodes are too large
abbrev pub compiler_status : Compiler → Status
compiler_status (compiler.TooFewCells needed) = status.TooFewCells
compiler_status compiler.TooLarge = status.TooLarge
compiler_status compiler.NoMemory = status.NoMemory

-- a fault of a program file is a bad input, but too many cells are too large
abbrev pub file_status : FileFault → Status
file_status file.TooLarge = status.TooLarge
file_status file.NoMemory = status.NoMemory
file_status fault = status.BadInput

-- a fault of assembly is a bad input
abbrev pub asm_status : AsmFault → Status
asm_status asm.NoMemory = status.NoMemory
asm_status fault = status.BadInput

-- what isn't compared with a netlist is a bad input, or too large
abbrev pub prove_status : ProveFault → Status
prove_status prove.Ports = status.BadInput
prove_status prove.Inputs = status.TooLarge
prove_status prove.Nodes = status.TooLarge
prove_status (prove.NotClean unset) = status.BadInput
prove_status prove.NoMemory = status.NoMemory

-- a program that is not for MAGIC is a bad input
abbrev pub tree_status : TreeFault → Status
tree_status tree.NotMagic = status.BadInput
tree_status tree.NoMemory = status.NoMemory

-- too few cells have a status of their own, too many nodes are too large
abbrev pub imply_status : ImplyRefusal → Status
imply_status (imply.TooFewCells needed) = status.TooFewCells
imply_status imply.TooLarge = status.TooLarge
imply_status imply.NoMemory = status.NoMemory

-- a fault of a program of `false` and `imp` is a bad input, but too many cells are too large
abbrev pub imply_file_status : ImplyFault → Status
imply_file_status imply_file.TooLarge = status.TooLarge
imply_file_status imply_file.NoMemory = status.NoMemory
imply_file_status fault = status.BadInput

-- a piece of a file that is no program has the status of its fault
abbrev pub many_status : ManyFault → Status
many_status (many.Part part fault) = file_status fault
many_status many.NoMemory = status.NoMemory

-- programs that don't share a row are a bad input, but too few cells have a status of their own
abbrev pub share_status : ShareFault → Status
share_status (share.OtherTarget part) = status.BadInput
share_status (share.TooFewCells needed) = status.TooFewCells
share_status (share.Turn turn) = status.BadInput
share_status (share.Missing part) = status.BadInput
share_status share.NoMemory = status.NoMemory

-- a command that is refused is a bad input
abbrev pub debug_status : DebugFault → Status
debug_status debug.NoMemory = status.NoMemory
debug_status fault = status.BadInput

-- the status of a judgement
abbrev pub judgement_status : Judgement → Status
judgement_status (judgement.Netlist fault) = netlist_status fault
judgement_status (judgement.Compile refusal) = compiler_status refusal
judgement_status (judgement.File fault) = file_status fault
judgement_status (judgement.Assembly fault) = asm_status fault
judgement_status (judgement.Prove fault) = prove_status fault
judgement_status (judgement.Unequal vector output) = status.Unequal
judgement_status (judgement.Tree fault) = tree_status fault
judgement_status (judgement.Imply refusal) = imply_status refusal
judgement_status (judgement.ImplyFile fault) = imply_file_status fault
judgement_status (judgement.Parts fault) = many_status fault
judgement_status (judgement.Turn n) = status.BadInput
judgement_status (judgement.Share fault) = share_status fault
judgement_status (judgement.Vector n) = status.BadInput
judgement_status (judgement.Command n fault) = debug_status fault
judgement_status judgement.TooManyLines = status.TooLarge
judgement_status judgement.NoMemory = status.NoMemory

-- a judgement that memory ran out, which says nothing of the bytes
abbrev pub IsNoMemory : Judgement → Type 0
IsNoMemory j = judgement_status j ≡ status.NoMemory

-- the status of a refusal
abbrev pub refusal_status : Refusal → Status
refusal_status refusal.Usage = status.Usage
refusal_status refusal.NoMemory = status.NoMemory
refusal_status (refusal.ReadFault origin) = status.ReadFault
refusal_status (refusal.TooLong origin) = status.TooLarge
refusal_status refusal.WriteFault = status.WriteFault
refusal_status (refusal.Judged j) = judgement_status j

-- the status of a call's answer
abbrev pub answer_status : {Y : Type 0} → Result Y Refusal → Status
answer_status (Ok y) = status.Done
answer_status (Err r) = refusal_status r

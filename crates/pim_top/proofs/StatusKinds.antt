-- Which statuses refusals have.
use Rattle.std.proofs.Common.{◌≡◌, subst}
use Rattle.pim_aiger.specs.declared.fault.AigerFault.{AigerFault}
use Rattle.pim_aiger.specs.declared.fault.AigerFault.TheVariants as aiger
use Rattle.pim_asm.specs.declared.fault.AsmFault.{AsmFault}
use Rattle.pim_asm.specs.declared.fault.AsmFault.TheVariants as asm
use Rattle.pim_blif.specs.declared.fault.BlifFault.{BlifFault}
use Rattle.pim_blif.specs.declared.fault.BlifFault.TheVariants as blif
use Rattle.pim_compile.specs.declared.refusal.Refusal.{Refusal as Compiler}
use Rattle.pim_compile.specs.declared.refusal.Refusal.TheVariants as compiler
use Rattle.pim_debug.specs.declared.fault.DebugFault.{DebugFault}
use Rattle.pim_debug.specs.declared.fault.DebugFault.TheVariants as debug
use Rattle.pim_file.specs.declared.fault.FileFault.{FileFault}
use Rattle.pim_file.specs.declared.fault.FileFault.TheVariants as file
use Rattle.pim_imply.specs.declared.fault.ImplyFault.{ImplyFault}
use Rattle.pim_imply.specs.declared.fault.ImplyFault.TheVariants as imply_file
use Rattle.pim_imply.specs.declared.refusal.ImplyRefusal.{ImplyRefusal}
use Rattle.pim_imply.specs.declared.refusal.ImplyRefusal.TheVariants as imply
use Rattle.pim_life.specs.declared.tree_fault.TreeFault.{TreeFault}
use Rattle.pim_life.specs.declared.tree_fault.TreeFault.TheVariants as tree
use Rattle.pim_net.specs.declared.fault.NetFault.{NetFault}
use Rattle.pim_net.specs.declared.fault.NetFault.TheVariants as net
use Rattle.pim_prove.specs.declared.fault.ProveFault.{ProveFault}
use Rattle.pim_prove.specs.declared.fault.ProveFault.TheVariants as prove
use Rattle.pim_share.specs.declared.fault.ManyFault.{ManyFault}
use Rattle.pim_share.specs.declared.fault.ManyFault.TheVariants as many
use Rattle.pim_share.specs.declared.fault.ShareFault.{ShareFault}
use Rattle.pim_share.specs.declared.fault.ShareFault.TheVariants as share
use Rattle.pim_top.specs.Statuses.{aiger_status, asm_status, blif_status, compiler_status, debug_status, file_status, imply_file_status, imply_status, judgement_status, many_status, net_status, netlist_status, prove_status, refusal_status, share_status, tree_status}
use Rattle.pim_top.specs.declared.judgement.Judgement.{Judgement}
use Rattle.pim_top.specs.declared.judgement.Judgement.TheVariants as judgement
use Rattle.pim_top.specs.declared.netlist.NetlistFault.{NetlistFault}
use Rattle.pim_top.specs.declared.netlist.NetlistFault.TheVariants.{Aiger, Blif}
use Rattle.pim_top.specs.declared.refusal.Refusal.{Refusal}
use Rattle.pim_top.specs.declared.refusal.Refusal.TheVariants as refusal
use Rattle.pim_top.specs.declared.status.Status.{Status}
use Rattle.pim_top.specs.declared.status.Status.TheVariants as status

-- a status of what bytes say
abbrev pub IsOfBytes : Status → Type 0
IsOfBytes status.Done = ⊥
IsOfBytes status.BadInput = Unit {0}
IsOfBytes status.Usage = ⊥
IsOfBytes status.ReadFault = ⊥
IsOfBytes status.WriteFault = ⊥
IsOfBytes status.NoMemory = Unit {0}
IsOfBytes status.TooFewCells = Unit {0}
IsOfBytes status.TooLarge = Unit {0}
IsOfBytes status.Unequal = Unit {0}

net-kind : (f : NetFault) → IsOfBytes (net_status f)
net-kind net.NoMemory = tt
net-kind f = tt

aiger-kind : (f : AigerFault) → IsOfBytes (aiger_status f)
aiger-kind (aiger.Net f names) = net-kind f
aiger-kind f = tt

blif-kind : (f : BlifFault) → IsOfBytes (blif_status f)
blif-kind (blif.Net f names) = net-kind f
blif-kind f = tt

netlist-kind : (f : NetlistFault) → IsOfBytes (netlist_status f)
netlist-kind (Aiger f) = aiger-kind f
netlist-kind (Blif f) = blif-kind f

compiler-kind : (r : Compiler) → IsOfBytes (compiler_status r)
compiler-kind (compiler.TooFewCells n) = tt
compiler-kind compiler.TooLarge = tt
compiler-kind compiler.NoMemory = tt

file-kind : (f : FileFault) → IsOfBytes (file_status f)
file-kind file.TooLarge = tt
file-kind file.NoMemory = tt
file-kind f = tt

asm-kind : (f : AsmFault) → IsOfBytes (asm_status f)
asm-kind asm.NoMemory = tt
asm-kind f = tt

prove-kind : (f : ProveFault) → IsOfBytes (prove_status f)
prove-kind prove.Ports = tt
prove-kind prove.Inputs = tt
prove-kind prove.Nodes = tt
prove-kind (prove.NotClean unset) = tt
prove-kind prove.NoMemory = tt

tree-kind : (f : TreeFault) → IsOfBytes (tree_status f)
tree-kind tree.NotMagic = tt
tree-kind tree.NoMemory = tt

imply-kind : (r : ImplyRefusal) → IsOfBytes (imply_status r)
imply-kind (imply.TooFewCells needed) = tt
imply-kind imply.TooLarge = tt
imply-kind imply.NoMemory = tt

imply-file-kind : (f : ImplyFault) → IsOfBytes (imply_file_status f)
imply-file-kind imply_file.TooLarge = tt
imply-file-kind imply_file.NoMemory = tt
imply-file-kind f = tt

many-kind : (f : ManyFault) → IsOfBytes (many_status f)
many-kind (many.Part part f) = file-kind f
many-kind many.NoMemory = tt

share-kind : (f : ShareFault) → IsOfBytes (share_status f)
share-kind (share.OtherTarget part) = tt
share-kind (share.TooFewCells needed) = tt
share-kind (share.Turn turn) = tt
share-kind (share.Missing part) = tt
share-kind share.NoMemory = tt

debug-kind : (f : DebugFault) → IsOfBytes (debug_status f)
debug-kind debug.NoMemory = tt
debug-kind f = tt

pub judgement-kind : (j : Judgement) → IsOfBytes (judgement_status j)
judgement-kind (judgement.Netlist f) = netlist-kind f
judgement-kind (judgement.Compile r) = compiler-kind r
judgement-kind (judgement.File f) = file-kind f
judgement-kind (judgement.Assembly f) = asm-kind f
judgement-kind (judgement.Prove f) = prove-kind f
judgement-kind (judgement.Unequal vector output) = tt
judgement-kind (judgement.Tree f) = tree-kind f
judgement-kind (judgement.Imply r) = imply-kind r
judgement-kind (judgement.ImplyFile f) = imply-file-kind f
judgement-kind (judgement.Parts f) = many-kind f
judgement-kind (judgement.Turn n) = tt
judgement-kind (judgement.Share f) = share-kind f
judgement-kind (judgement.Vector n) = tt
judgement-kind (judgement.Command n f) = debug-kind f
judgement-kind judgement.TooManyLines = tt
judgement-kind judgement.NoMemory = tt

-- so they have none of the others
pub judgement-other : (j : Judgement) (s : Status) → judgement_status j ≡ s → IsOfBytes s
judgement-other j s e = subst IsOfBytes e (judgement-kind j)

-- no refusal is done
pub refusal-done : (r : Refusal) → refusal_status r ≡ status.Done → ⊥
refusal-done refusal.Usage e = cc
refusal-done refusal.NoMemory e = cc
refusal-done (refusal.ReadFault o) e = cc
refusal-done (refusal.TooLong o) e = cc
refusal-done refusal.WriteFault e = cc
refusal-done (refusal.Judged j) e = judgement-other j status.Done e

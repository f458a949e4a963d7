use Rattle.std.proofs.Common.{◌≡◌, ◌⊎◌, Option, Some, Ok, Err, sym, ap, ◌∙◌, inl, inr}
use Rattle.pim_net.specs.Netlist.{DraftView}
use Rattle.pim_net.specs.Faults.{signals_of}
use Rattle.pim_net.specs.declared.fault.NetFault.{NetFault}
use Rattle.pim_net.specs.declared.fault.NetFault.TheVariants as net_faults
use Rattle.pim_aiger.specs.declared.fault.AigerFault.{AigerFault}
use Rattle.pim_aiger.specs.declared.fault.AigerFault.TheVariants as faults
use Rattle.pim_io.specs.Readings.{Fails}
use Rattle.pim_aiger.specs.Files.{with_fault, labels_of, judged_net}
use Rattle.pim_aiger.proofs.file.judged.Goals as goal

refused : (draft : DraftView) (fault : NetFault) (answer : AigerFault) (found : Option NetFault) → (fault ≡ net_faults.NoMemory) ⊎ (found ≡ Some fault) → (answer ≡ faults.NoMemory) ⊎ (answer ≡ faults.Net fault (labels_of (signals_of fault))) → (fault ≡ net_faults.NoMemory → answer ≡ faults.NoMemory) → Fails faults.NoMemory answer (with_fault draft found)
refused draft fault answer found (inl memory) named free = inl (free memory)
refused draft fault answer found (inr is) (inl memory) free = inl memory
refused draft fault answer found (inr is) (inr named) free = inr (ap (with_fault draft) is ∙ ap (λ a. Err a) (sym named))

pub returns-in-Ok : goal.returns-in-Ok
unfolding judged_net
returns-in-Ok c = ap (with_fault c.args.draft) c.in-Ok.ensures.accepted ∙ ap (λ d. Ok d) (sym c.in-Ok.ensures.kept)

pub returns-in-Err : goal.returns-in-Err
unfolding judged_net
returns-in-Err c = refused c.args.draft c.in-Err.fault c.labelled.result _ c.in-Err.ensures.refused c.labelled.ensures.named c.labelled.ensures.memory

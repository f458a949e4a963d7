-- The netlist of bytes in any format.
use Rattle.std.specs.Prelude.{List, ℕ, Result, Ok, Err, if◌then◌else◌}
use Rattle.pim_net.specs.Netlist.{DraftView}
use Rattle.pim_aiger.specs.Files.{net_of as aiger_net_of}
use Rattle.pim_aiger.specs.HeaderLine.{is_aiger}
use Rattle.pim_blif.specs.Files.{net_of as blif_net_of}
use Rattle.pim_top.specs.declared.netlist.NetlistFault.{NetlistFault}
use Rattle.pim_top.specs.declared.netlist.NetlistFault.TheVariants.{Aiger, Blif}

-- the netlist of a format, or its fault in the terms of that format
abbrev pub in_terms : {E : Type 0} → (E → NetlistFault) → Result DraftView E → Result DraftView NetlistFault
in_terms terms (Ok draft) = Ok draft
in_terms terms (Err fault) = Err (terms fault)

-- the netlist of bytes: they are AIGER where they begin with one of its tags, and otherwise BLIF
unfoldable pub net_of : List ℕ → Result DraftView NetlistFault
net_of bytes =
    if is_aiger bytes then in_terms (λ f. Aiger f) (aiger_net_of bytes) else in_terms (λ f. Blif f) (blif_net_of bytes)

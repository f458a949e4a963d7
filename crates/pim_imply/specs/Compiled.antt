-- What it is for a program to compute a netlist, and which netlists are refused.
use Rattle.std.specs.Prelude.{◌≡◌, ℕ, ◌<◌, ◌≤◌}
use Rattle.pim_aig.specs.Flat.{ands, flat}
use Rattle.pim_aig.specs.declared.fault.FlatFault.{FlatFault}
use Rattle.pim_aig.specs.declared.fault.FlatFault.TheVariants as flat_fault
use Rattle.pim_aig.specs.declared.graph.TheConstants.{MAX_ANDS}
use Rattle.pim_isa.specs.PortLists.{labels_of}
use Rattle.pim_net.specs.Netlist.{NetView}
use Rattle.pim_net.specs.Values.{outs}
use Rattle.pim_imply.specs.declared.refusal.ImplyRefusal.{ImplyRefusal}
use Rattle.pim_imply.specs.declared.refusal.ImplyRefusal.TheVariants.{TooFewCells, TooLarge, NoMemory}
use Rattle.pim_imply.specs.Costs.{needed_of}
use Rattle.pim_imply.specs.Programs.{ImplyView}
use Rattle.pim_imply.specs.Realizes.{IRealizes}

-- the program computes in one row, whatever the other cells hold at the start, the netlist's outputs from its inputs; its
-- inputs and outputs have the netlist's labels
pub record IComputes (p : ImplyView) (n : NetView) : Type 0 where
  pub realizes : IRealizes p n.input_labels (outs n)
  pub labels : labels_of p.outputs ≡ n.output_labels

-- the flat graph keeps the limit of AND nodes, so many cells are needed, and the budget is below them
pub record IsShort (n : NetView) (budget needed : ℕ) : Type 0 where
  pub few : ands n ≤ MAX_ANDS
  pub is : needed ≡ needed_of (flat n)
  pub below : budget < needed

-- too large comes only where the flat graph has more AND nodes than the limit, and too few cells only where the budget is
-- below what is needed, which it names; out of memory says nothing
abbrev pub IsUnfit : NetView → ℕ → ImplyRefusal → Type 0
IsUnfit n budget (TooFewCells needed) = IsShort n budget needed
IsUnfit n budget TooLarge = MAX_ANDS < ands n
IsUnfit n budget NoMemory = Unit {0}

-- the refusal for a netlist that has no flat graph
abbrev pub refusal_of : FlatFault → ImplyRefusal
refusal_of flat_fault.TooLarge = TooLarge
refusal_of flat_fault.NoMemory = NoMemory

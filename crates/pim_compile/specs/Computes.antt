-- What it is for a program to compute a netlist.
use Rattle.std.specs.Prelude.{◌≡◌}
use Rattle.pim_isa.specs.PortLists.{labels_of}
use Rattle.pim_isa.specs.Programs.{ProgramView}
use Rattle.pim_isa.specs.Realizes.{Realizes}
use Rattle.pim_net.specs.Netlist.{NetView}
use Rattle.pim_net.specs.Values.{outs}

-- the program computes in one row, whatever the other cells hold at the start, the netlist's outputs from its inputs; its
-- inputs and outputs have the netlist's labels
pub record Computes (p : ProgramView) (n : NetView) : Type 0 where
  pub realizes : Realizes p n.input_labels (outs n)
  pub labels : labels_of p.outputs ≡ n.output_labels

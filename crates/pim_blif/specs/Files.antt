-- The netlist of a BLIF file (BLIF 1992, "Models" and "Logic Gates", in this project's profile): each statement is judged
-- from the statements before it alone, and the first faulty one gives the fault; without one, the statements make a netlist.
use Rattle.std.specs.Prelude.{ℕ, List, [], ◌∷◌, map, Option, Some, None, Result, Ok, Err}
use Rattle.std.specs.Option.{option_or}
use Rattle.pim_io.specs.Names.{label}
use Rattle.pim_net.specs.Netlist.{DraftView}
use Rattle.pim_net.specs.Faults.{net_fault, signals_of}
use Rattle.pim_net.specs.declared.fault.NetFault.{NetFault}
use Rattle.pim_blif.specs.declared.fault.BlifFault.{BlifFault}
use Rattle.pim_blif.specs.declared.fault.BlifFault.TheVariants as faults
use Rattle.pim_blif.specs.Statements.{Statement, statements}
use Rattle.pim_blif.specs.StatementFaults.{fault_of}
use Rattle.pim_blif.specs.Signals.{name_of}
use Rattle.pim_blif.specs.Netlists.{names_of, netlist_of}

-- the fault of the first faulty statement, where these stand before, the latest first
abbrev pub first_fault : List Statement → List Statement → Option BlifFault
first_fault before [] = None
first_fault before (s ∷ rest) = option_or (fault_of before s) (first_fault (s ∷ before) rest)

-- a file without a statement has a fault in its first line
abbrev pub file_fault : List Statement → Option BlifFault
file_fault [] = Some (faults.Syntax 1)
file_fault (s ∷ rest) = first_fault [] (s ∷ rest)

-- the labels of signals that have these names
abbrev pub labels_of : List (List ℕ) → List ℕ → List (List ℕ)
labels_of names signals = map (λ s. label (name_of names s)) signals

-- a netlist that has this fault, or none; the fault comes with the labels of the signals that it names
abbrev pub with_fault : List (List ℕ) → DraftView → Option NetFault → Result DraftView BlifFault
with_fault names draft None = Ok draft
with_fault names draft (Some fault) = Err (faults.Net fault (labels_of names (signals_of fault)))

-- a netlist that was read whole, where it is well-formed
unfoldable pub judged_net : List (List ℕ) → DraftView → Result DraftView BlifFault
judged_net names draft = with_fault names draft (net_fault draft)

-- the netlist of statements that have this fault, or none
abbrev pub unless_faulty : List Statement → Option BlifFault → Result DraftView BlifFault
unless_faulty statements None = judged_net (names_of statements) (netlist_of statements)
unless_faulty statements (Some fault) = Err fault

-- the netlist of these statements
unfoldable pub netlist_by : List Statement → Result DraftView BlifFault
netlist_by statements = unless_faulty statements (file_fault statements)

-- the netlist of a file
unfoldable pub net_of : List ℕ → Result DraftView BlifFault
net_of bytes = netlist_by (statements bytes)

-- Inner: what a draft's parts meet that were found to be a netlist, and how those that were not are refused.
use Rattle.std.specs.Prelude.{◌≡◌, ◌⊎◌, ℕ, List, Option, Some, None}
use Rattle.pim_net.specs.Faults.{fault_of}
use Rattle.pim_net.specs.Order.{IsByDepth}
use Rattle.pim_net.specs.WellFormed.{IsWellFormed, IsReadyOrder}
use Rattle.pim_net.specs.declared.parts.Equation.{Equation}
use Rattle.pim_net.specs.declared.parts.OutRef.{OutRef}
use Rattle.pim_net.specs.declared.fault.NetFault.{NetFault}
use Rattle.pim_net.specs.declared.fault.NetFault.TheVariants.{Twice, Undriven, Cycle, NoMemory}

-- they have no fault, and this is the order of their equations
pub record IsJudged (inputs : List ℕ) (equations : List Equation) (outputs : List OutRef) (topo : List ℕ) : Type 0 where
  pub sound : fault_of inputs equations outputs ≡ None
  pub well_formed : IsWellFormed inputs equations outputs
  pub by_depth : IsByDepth inputs equations topo
  pub ready : IsReadyOrder inputs equations topo

-- a refusal is the fault of these parts, or out of memory
abbrev pub IsRefusal : List ℕ → List Equation → List OutRef → NetFault → Type 0
IsRefusal inputs equations outputs fault = (fault ≡ NoMemory) ⊎ (fault_of inputs equations outputs ≡ Some fault)

-- a refusal for a second driver, where this is the first one; or out of memory
abbrev pub IsTwice : Option ℕ → NetFault → Type 0
IsTwice first (Twice s) = first ≡ Some s
IsTwice first (Undriven s) = ⊥
IsTwice first (Cycle walked) = ⊥
IsTwice first NoMemory = Unit {0}

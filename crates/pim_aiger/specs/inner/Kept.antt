-- Inner: what the parts of a file keep while they are read.
use Rattle.std.specs.Prelude.{◌≡◌, ◌+◌, ◌<◌, ◌≤◌, [], length, Result, Ok, Err}
use Rattle.pim_net.specs.Netlist.{DraftView}
use Rattle.pim_net.specs.declared.limits.TheConstants.{MAX_OUTPUTS, MAX_SIGNALS}
use Rattle.pim_aiger.specs.Numbers.{HeaderView}
use Rattle.pim_aiger.specs.SymbolTable.{SymbolView, NamesView, named}
use Rattle.pim_aiger.specs.declared.fault.AigerFault.{AigerFault}

-- what a header that has no fault keeps to
pub record IsWithin (h : HeaderView) : Type 0 where
  pub used : h.inputs + h.gates ≤ h.greatest
  pub signals : h.greatest < MAX_SIGNALS
  pub outputs : h.outputs ≤ MAX_OUTPUTS

-- a draft that has equations alone
pub record IsGates (draft : DraftView) : Type 0 where
  pub inputs : draft.inputs ≡ []
  pub input_labels : draft.input_labels ≡ []
  pub outputs : draft.outputs ≡ []
  pub output_labels : draft.output_labels ≡ []

-- a place for a name for each input and each output
pub record IsSized (header : HeaderView) (names : NamesView) : Type 0 where
  pub inputs : length names.inputs ≡ header.inputs
  pub outputs : length names.outputs ≡ header.outputs

-- the names with that of a symbol, where it is allowed
abbrev pub with_symbol : NamesView → Result SymbolView AigerFault → Result NamesView AigerFault
with_symbol names (Ok symbol) = Ok (named names symbol.port symbol.position symbol.name)
with_symbol names (Err fault) = Err fault

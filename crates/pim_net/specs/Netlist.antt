-- Drafts and netlists, as contracts see them.
use Rattle.std.specs.Prelude.{◌≡◌, ◌<◌, ◌≤◌, ℕ, List, All, length}
pub use Rattle.pim_net.specs.Covers.{CoverView}
use Rattle.pim_net.specs.declared.parts.Equation.{Equation}
use Rattle.pim_net.specs.declared.parts.OutRef.{OutRef}
use Rattle.pim_net.specs.declared.limits.TheConstants.{MAX_COLUMNS, MAX_EQUATIONS, MAX_OUTPUTS, MAX_SIGNALS}

-- what was gathered: inputs, equations and outputs, and a label for each input and each output
pub record DraftView : Type 0 where
  pub inputs : List ℕ
  pub input_labels : List (List ℕ)
  pub equations : List Equation
  pub outputs : List OutRef
  pub output_labels : List (List ℕ)

-- the lists of the draft that was checked, and the numbers of its equations by depth and then in order
pub record NetView : Type 0 where
  pub inputs : List ℕ
  pub input_labels : List (List ℕ)
  pub equations : List Equation
  pub outputs : List OutRef
  pub output_labels : List (List ℕ)
  pub topo : List ℕ

-- what every draft meets: signals in range, a cell per column in each row, a label per input and output, and as
-- many parts as the limits allow
pub record IsDraft (d : DraftView) : Type 0 where
  pub inputs_below : All (λ s. s < MAX_SIGNALS) d.inputs
  pub inputs_few : length d.inputs ≤ MAX_SIGNALS
  pub inputs_labelled : length d.input_labels ≡ length d.inputs
  pub equations_below : All (λ e. e.sig < MAX_SIGNALS) d.equations
  pub columns_below : All (λ e. All (λ s. s < MAX_SIGNALS) e.cover.ins) d.equations
  pub columns_few : All (λ e. length e.cover.ins < MAX_COLUMNS) d.equations
  pub rows_whole : All (λ e. All (λ row. length row ≡ length e.cover.ins) e.cover.rows) d.equations
  pub equations_few : length d.equations < MAX_EQUATIONS
  pub outputs_below : All (λ o. o.sig < MAX_SIGNALS) d.outputs
  pub outputs_few : length d.outputs ≤ MAX_OUTPUTS
  pub outputs_labelled : length d.output_labels ≡ length d.outputs

-- the draft whose lists a netlist has
abbrev pub draft_of : NetView → DraftView
draft_of n = record {
  inputs = n.inputs;
  input_labels = n.input_labels;
  equations = n.equations;
  outputs = n.outputs;
  output_labels = n.output_labels;
}

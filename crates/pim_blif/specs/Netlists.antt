-- The netlist that the statements of a file without a fault make.
use Rattle.std.specs.Prelude.{ℕ, List, [], false, map, Option, Some}
use Rattle.std.specs.List.{flat_map}
use Rattle.pim_io.specs.Names.{label}
use Rattle.pim_net.specs.Netlist.{DraftView}
use Rattle.pim_net.specs.declared.parts.OutRef.{OutRef}
use Rattle.pim_blif.specs.Statements.{Statement}
use Rattle.pim_blif.specs.Directives.{Directive, Inputs, Outputs, Names, directive, arguments}
use Rattle.pim_blif.specs.Signals.{signal_number, distinct}
use Rattle.pim_blif.specs.Covers.{CoverText, covers_of, equation_of}

-- the words of `.inputs`
abbrev pub as_inputs : Option Directive → List (List ℕ) → List (List ℕ)
as_inputs (Some Inputs) words = words
as_inputs d words = []

-- the words of `.outputs`
abbrev pub as_outputs : Option Directive → List (List ℕ) → List (List ℕ)
as_outputs (Some Outputs) words = words
as_outputs d words = []

-- the words of `.inputs`, `.outputs` and `.names`
abbrev pub as_signals : Option Directive → List (List ℕ) → List (List ℕ)
as_signals (Some Inputs) words = words
as_signals (Some Outputs) words = words
as_signals (Some Names) words = words
as_signals d words = []

-- the names of the inputs, in order
abbrev pub inputs_of : List Statement → List (List ℕ)
inputs_of statements = flat_map (λ s. as_inputs (directive s) (arguments s)) statements

-- the names of the outputs, in order
abbrev pub outputs_of : List Statement → List (List ℕ)
outputs_of statements = flat_map (λ s. as_outputs (directive s) (arguments s)) statements

-- the names of the signals, in the order of their first coming
abbrev pub names_of : List Statement → List (List ℕ)
names_of statements = distinct (flat_map (λ s. as_signals (directive s) (arguments s)) statements)

-- the output of a name
abbrev pub output_ref : List (List ℕ) → List ℕ → OutRef
output_ref names name = record { sig = signal_number names name; neg = false }

-- the netlist of inputs, outputs and covers, where names have these numbers
abbrev pub draft_with : List (List ℕ) → List (List ℕ) → List (List ℕ) → List CoverText → DraftView
draft_with names inputs outputs covers = record {
  inputs = map (signal_number names) inputs;
  input_labels = map label inputs;
  equations = map (equation_of names) covers;
  outputs = map (output_ref names) outputs;
  output_labels = map label outputs;
}

-- the netlist of statements
abbrev pub netlist_of : List Statement → DraftView
netlist_of statements = draft_with (names_of statements) (inputs_of statements) (outputs_of statements) (covers_of statements)

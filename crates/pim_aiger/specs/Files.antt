-- The netlist of an AIGER file: the bytes are a header line, then as many parts as the header says, then symbols. The
-- first part that breaks a rule gives the fault (AIGER 20071012, "ASCII format" and "Binary format").
use Rattle.std.specs.Prelude.{ℕ, List, [], ◌∷◌, drop, map, Option, Some, None, Result, Ok, Err, if◌then◌else◌}
use Rattle.std.specs.List.{range_with_len}
use Rattle.std.specs.Fmt.{decimal}
use Rattle.pim_io.specs.Names.{label}
use Rattle.pim_net.specs.Netlist.{DraftView}
use Rattle.pim_net.specs.Faults.{net_fault, signals_of}
use Rattle.pim_net.specs.declared.fault.NetFault.{NetFault}
use Rattle.pim_net.specs.declared.parts.Equation.{Equation}
use Rattle.pim_net.specs.declared.parts.OutRef.{OutRef}
use Rattle.pim_aiger.specs.declared.fault.AigerFault.{AigerFault}
use Rattle.pim_aiger.specs.declared.fault.AigerFault.TheVariants as faults
use Rattle.pim_aiger.specs.Numbers.{HeaderView}
use Rattle.pim_aiger.specs.Cursor.{Cursor}
use Rattle.pim_io.specs.Readings.{◌>>=◌}
use Rattle.pim_aiger.specs.Steps.{many, with_front}
use Rattle.pim_aiger.specs.HeaderLine.{Text, Binary, has_tag, header_at}
use Rattle.pim_aiger.specs.Literals.{input_at, output_at, gate_at, constant}
use Rattle.pim_aiger.specs.Deltas.{binary_gate_at}
use Rattle.pim_aiger.specs.SymbolTable.{NamesView, names_at, all_labels}

-- where the header's line goes on behind the tag
abbrev pub after_tag : List ℕ → Cursor
after_tag bytes = record { place = 4; rest = drop 4 bytes }

-- the parts as a netlist: signal v for variable v
abbrev pub netlist : List ℕ → List OutRef → List Equation → NamesView → DraftView
netlist inputs outputs equations names = record {
  inputs = inputs;
  input_labels = all_labels 105 0 names.inputs;
  equations = equations;
  outputs = outputs;
  output_labels = all_labels 111 0 names.outputs;
}

-- the labels of variables: variable 7 is called v7
abbrev pub labels_of : List ℕ → List (List ℕ)
labels_of variables = map (λ v. label (118 ∷ decimal v)) variables

-- a netlist that has this fault, or none; the fault comes with the labels of the signals that it names
abbrev pub with_fault : DraftView → Option NetFault → Result DraftView AigerFault
with_fault draft None = Ok draft
with_fault draft (Some fault) = Err (faults.Net fault (labels_of (signals_of fault)))

-- a netlist that was read whole, where it is well-formed
unfoldable pub judged_net : DraftView → Result DraftView AigerFault
judged_net draft = with_fault draft (net_fault draft)

-- the end of a file: its symbols
unfoldable pub closing : HeaderView → List ℕ → List OutRef → List Equation → Cursor → Result DraftView AigerFault
closing header inputs outputs equations c = do
  names ← names_at header c
  Ok (netlist inputs outputs equations names)

-- a file in the ASCII form: a line for each input, each output and each gate
unfoldable pub text_parts : HeaderView → Cursor → Result DraftView AigerFault
text_parts header c = do
  inputs ← many (λ k. input_at header.greatest) 0 header.inputs c
  outputs ← many (λ k. output_at header.greatest) 0 header.outputs inputs.1
  equations ← with_front (constant ∷ []) (many (λ k. gate_at header.greatest) 0 header.gates outputs.1)
  closing header inputs.0 outputs.0 equations.0 equations.1

-- a file in the binary form: the inputs are the variables from 1 on, and the gates are codes
unfoldable pub binary_parts : HeaderView → Cursor → Result DraftView AigerFault
binary_parts header c = do
  outputs ← many (λ k. output_at header.greatest) 0 header.outputs c
  equations ← with_front (constant ∷ []) (many (binary_gate_at header.inputs) 0 header.gates outputs.1)
  closing header (range_with_len 1 header.inputs) outputs.0 equations.0 equations.1

-- the whole of a file in the ASCII form
unfoldable pub text_whole : List ℕ → Result DraftView AigerFault
text_whole bytes =
    if has_tag Text bytes
    then (header_at Text (after_tag bytes) >>= λ header. text_parts header.0 header.1)
    else Err faults.Header

-- the whole of a file in the binary form
unfoldable pub binary_whole : List ℕ → Result DraftView AigerFault
binary_whole bytes =
    if has_tag Binary bytes
    then (header_at Binary (after_tag bytes) >>= λ header. binary_parts header.0 header.1)
    else Err faults.Header

-- the netlist of a file in the ASCII form
unfoldable pub text_net_of : List ℕ → Result DraftView AigerFault
text_net_of bytes = text_whole bytes >>= judged_net

-- the netlist of a file in the binary form
unfoldable pub binary_net_of : List ℕ → Result DraftView AigerFault
binary_net_of bytes = binary_whole bytes >>= judged_net

-- the netlist of a file in either form, which its tag tells
abbrev pub net_of : List ℕ → Result DraftView AigerFault
net_of bytes = if has_tag Binary bytes then binary_net_of bytes else text_net_of bytes

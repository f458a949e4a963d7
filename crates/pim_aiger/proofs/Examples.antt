-- Small files, with their netlists and faults by computation.
use Rattle.std.specs.Prelude.{◌≡◌, ℕ, List, [], ◌∷◌, ◌++◌, Ok, Err, refl, codes}
use Rattle.pim_net.specs.Netlist.{DraftView}
use Rattle.pim_net.specs.declared.fault.NetFault.TheVariants.{Undriven}
use Rattle.pim_net.specs.declared.kind.Kind.TheVariants.{Signals, Outputs}
use Rattle.pim_aiger.specs.declared.fault.AigerFault.TheVariants as faults
use Rattle.pim_aiger.specs.Steps.{many}
use Rattle.pim_aiger.specs.Numbers.{HeaderView}
use Rattle.pim_aiger.specs.HeaderLine.{Text, judged, header_at}
use Rattle.pim_aiger.specs.TextLines.{line_at}
use Rattle.pim_aiger.specs.Literals.{input_at, output_at, gate_at, constant, and_gate, reference}
use Rattle.pim_aiger.specs.Deltas.{delta_at, binary_gate_at}
use Rattle.pim_aiger.specs.SymbolTable.{names_at}
use Rattle.pim_aiger.specs.Files.{net_of, text_net_of, binary_net_of, text_whole, binary_whole, text_parts, binary_parts, closing, judged_net}
use Rattle.std.specs.Fmt.{digits}
use Rattle.pim_io.specs.Words.{number_of}
use Rattle.pim_io.specs.Codes.{code_at}

-- a line of text
abbrev line : List ℕ → List ℕ
line text = text ++ 10 ∷ []

-- the conjunction of two inputs, with labels
abbrev and_net : List ℕ → List ℕ → List ℕ → DraftView
and_net a b f = record {
  inputs = 1 ∷ 2 ∷ [];
  input_labels = a ∷ b ∷ [];
  equations = constant ∷ and_gate 3 4 2 ∷ [];
  outputs = reference 6 ∷ [];
  output_labels = f ∷ [];
}

abbrev and_text : List ℕ
and_text = line (codes "aag 3 2 0 1 1") ++ line (codes "2") ++ line (codes "4") ++ line (codes "6") ++ line (codes "6 4 2")

abbrev and_binary : List ℕ
and_binary = line (codes "aig 3 2 0 1 1") ++ line (codes "6") ++ 2 ∷ 2 ∷ []

text_and : net_of and_text ≡ Ok (and_net (codes "i0") (codes "i1") (codes "o0"))
unfolding text_net_of text_whole text_parts closing judged_net header_at line_at input_at output_at gate_at many names_at digits number_of
text_and = refl

binary_and : net_of and_binary ≡ Ok (and_net (codes "i0") (codes "i1") (codes "o0"))
unfolding binary_net_of binary_whole binary_parts closing judged_net header_at line_at output_at delta_at binary_gate_at many names_at digits code_at number_of
binary_and = refl

-- the last symbol of a position counts, and comments follow a line that begins with c
last_symbol : net_of (and_text ++ line (codes "i0 x") ++ line (codes "i0 a") ++ line (codes "c") ++ codes "i9") ≡ Ok (and_net (codes "a") (codes "i1") (codes "o0"))
unfolding text_net_of text_whole text_parts closing judged_net header_at line_at input_at output_at gate_at many names_at digits number_of
last_symbol = refl

-- the tag has four bytes
no_tag : net_of (codes "aag") ≡ Err faults.Header
unfolding text_net_of text_whole text_parts closing judged_net header_at line_at input_at output_at gate_at many names_at digits number_of
no_tag = refl

-- a wanted line without its newline is truncated, whatever stands in it
no_newline : net_of (codes "aag x") ≡ Err (faults.Truncated 5)
unfolding text_net_of text_whole text_parts closing judged_net header_at line_at input_at output_at gate_at many names_at digits number_of
no_newline = refl

latches : net_of (line (codes "aag 0 0 1 0 0")) ≡ Err faults.Latches
unfolding text_net_of text_whole text_parts closing judged_net header_at line_at input_at output_at gate_at many names_at digits number_of
latches = refl

far_variable : net_of (line (codes "aag 1048576 0 0 0 0")) ≡ Err (faults.TooLarge Signals)
unfolding text_net_of text_whole text_parts closing judged_net header_at line_at input_at output_at gate_at many names_at digits number_of
far_variable = refl

-- the limits, where the other numbers agree: the last variable and the last output, and one more of each
abbrev header : ℕ → ℕ → HeaderView
header greatest outputs = record { greatest = greatest; inputs = 0; latches = 0; outputs = outputs; gates = 0 }

within_limits : judged Text (header 1048575 1048576) ≡ Ok (header 1048575 1048576)
within_limits = refl

many_signals : judged Text (header 1048576 0) ≡ Err (faults.TooLarge Signals)
many_signals = refl

many_outputs : judged Text (header 0 1048577) ≡ Err (faults.TooLarge Outputs)
many_outputs = refl

-- 2M + 2 is no literal
far_literal : net_of (line (codes "aag 1 1 0 1 0") ++ line (codes "2") ++ line (codes "4")) ≡ Err (faults.Literal 16)
unfolding text_net_of text_whole text_parts closing judged_net header_at line_at input_at output_at gate_at many names_at digits number_of
far_literal = refl

other_shape : net_of (line (codes "aag 1 1 0 1 0") ++ line (codes "2 2")) ≡ Err (faults.Number 14)
unfolding text_net_of text_whole text_parts closing judged_net header_at line_at input_at output_at gate_at many names_at digits number_of
other_shape = refl

cut_code : net_of (line (codes "aig 3 2 0 1 1") ++ line (codes "6") ++ 2 ∷ []) ≡ Err (faults.Truncated 17)
unfolding binary_net_of binary_whole binary_parts closing judged_net header_at line_at output_at delta_at binary_gate_at many names_at digits code_at number_of
cut_code = refl

-- an operand of a gate is below the gate
zero_delta : net_of (line (codes "aig 3 2 0 1 1") ++ line (codes "6") ++ 0 ∷ 2 ∷ []) ≡ Err (faults.Delta 16)
unfolding binary_net_of binary_whole binary_parts closing judged_net header_at line_at output_at delta_at binary_gate_at many names_at digits code_at number_of
zero_delta = refl

no_symbol : net_of (and_text ++ line (codes "i2 x")) ≡ Err (faults.Symbol 26)
unfolding text_net_of text_whole text_parts closing judged_net header_at line_at input_at output_at gate_at many names_at digits number_of
no_symbol = refl

undriven : net_of (line (codes "aag 2 1 0 1 0") ++ line (codes "2") ++ line (codes "4")) ≡ Err (faults.Net (Undriven 2) (codes "v2" ∷ []))
unfolding text_net_of text_whole text_parts closing judged_net header_at line_at input_at output_at gate_at many names_at digits number_of
undriven = refl

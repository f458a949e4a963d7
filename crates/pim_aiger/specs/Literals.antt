-- Literals, and the parts of a file that are made of them: inputs, outputs and and gates (AIGER 20071012, "ASCII
-- format"). A literal is 2 times a variable, and 1 more for its complement; 0 is false and 1 is true.
use Rattle.std.specs.Prelude.{ℕ, ◌+◌, ◌*◌, ◌/◌, ◌%◌, ◌==◌, ◌&&◌, nat_le, [], ◌∷◌, Result, Ok, Err, Bool, true, if◌then◌else◌}
use Rattle.std.specs.Option.{ok_or}
use Rattle.pim_io.specs.Words.{words}
use Rattle.pim_net.specs.declared.cover.Bit3.{Bit3}
use Rattle.pim_net.specs.declared.cover.Bit3.TheVariants.{Zero, One}
use Rattle.pim_net.specs.declared.parts.Equation.{Equation}
use Rattle.pim_net.specs.declared.parts.OutRef.{OutRef}
use Rattle.pim_aiger.specs.declared.fault.AigerFault.{AigerFault}
use Rattle.pim_aiger.specs.declared.fault.AigerFault.TheVariants as faults
use Rattle.pim_aiger.specs.Cursor.{Cursor}
use Rattle.pim_io.specs.Readings.{◌>>=◌}
use Rattle.pim_aiger.specs.Numbers.{one_number, three_numbers}
use Rattle.pim_aiger.specs.TextLines.{line_at}

-- a literal of a variable up to the greatest one
abbrev pub is_literal : ℕ → ℕ → Bool
is_literal greatest literal = nat_le literal (2 * greatest + 1)

-- a literal that an input or a gate may stand for: of a variable from 1 on, and not complemented
abbrev pub is_plain : ℕ → ℕ → Bool
is_plain greatest literal = nat_le 2 literal && (literal % 2 == 0) && is_literal greatest literal

-- the signal that a literal reads, and whether it is complemented
abbrev pub reference : ℕ → OutRef
reference literal = record { sig = literal / 2; neg = literal % 2 == 1 }

-- the value that a literal asks of its variable
abbrev pub asked : ℕ → Bit3
asked literal = if literal % 2 == 1 then Zero else One

-- a variable is the conjunction of two literals: a cover of their variables, with one row
abbrev pub and_gate : ℕ → ℕ → ℕ → Equation
and_gate variable left right = record {
  sig = variable;
  cover = record { ins = left / 2 ∷ right / 2 ∷ []; rows = (asked left ∷ asked right ∷ []) ∷ []; phase = true };
}

-- false is signal 0: a cover without columns and rows
abbrev pub constant : Equation
constant = record { sig = 0; cover = record { ins = []; rows = []; phase = true } }

-- an input line has one literal
unfoldable pub input_at : ℕ → Cursor → Result (ℕ × Cursor) AigerFault
input_at greatest c = do
  line ← line_at c
  literal ← ok_or (one_number (words line.0)) (faults.Number c.place)
  if is_plain greatest literal then Ok (literal / 2, line.1) else Err (faults.Literal c.place)

-- an output line has one literal
unfoldable pub output_at : ℕ → Cursor → Result (OutRef × Cursor) AigerFault
output_at greatest c = do
  line ← line_at c
  literal ← ok_or (one_number (words line.0)) (faults.Number c.place)
  if is_literal greatest literal then Ok (reference literal, line.1) else Err (faults.Literal c.place)

-- a gate line has the literal of the gate and the two literals that it reads
unfoldable pub gate_at : ℕ → Cursor → Result (Equation × Cursor) AigerFault
gate_at greatest c = do
  line ← line_at c
  literals ← ok_or (three_numbers (words line.0)) (faults.Number c.place)
  if is_plain greatest literals.0 && is_literal greatest literals.1 && is_literal greatest literals.2
      then Ok (and_gate (literals.0 / 2) literals.1 literals.2, line.1)
      else Err (faults.Literal c.place)

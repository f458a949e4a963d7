-- The and gates of a binary AIGER file (AIGER 20071012, "Binary format"): gate k stands for the variable after the inputs
-- and the gates before it, and its two literals are told by how far each is below the literal before it.
use Rattle.std.specs.Prelude.{ℕ, ◌+◌, ◌-◌, ◌*◌, ◌&&◌, nat_le, Result, Ok, Err, if◌then◌else◌}
use Rattle.pim_io.specs.Codes.{code_at}
use Rattle.pim_io.specs.declared.codes.Code.{Code}
use Rattle.pim_io.specs.declared.codes.Code.TheVariants.{Got, Long, Short}
use Rattle.pim_net.specs.declared.parts.Equation.{Equation}
use Rattle.pim_aiger.specs.declared.fault.AigerFault.{AigerFault}
use Rattle.pim_aiger.specs.declared.fault.AigerFault.TheVariants as faults
use Rattle.pim_aiger.specs.Cursor.{Cursor, end_of, further}
use Rattle.pim_io.specs.Readings.{◌>>=◌}
use Rattle.pim_aiger.specs.Literals.{and_gate}

-- what a seven-bit code at a place gives
abbrev pub delta_of : Cursor → Code → Result (ℕ × Cursor) AigerFault
delta_of c (Got value next) = Ok (value, further next c)
delta_of c Long = Err (faults.Delta c.place)
delta_of c Short = Err (faults.Truncated (end_of c))

-- how far a literal is below the one before it, a number written seven bits at a time
unfoldable pub delta_at : Cursor → Result (ℕ × Cursor) AigerFault
delta_at c = delta_of c (code_at c.rest 0)

-- the literal that is `delta` below another one, where there is one; `least` is how far below it has to be
abbrev pub below : ℕ → ℕ → ℕ → ℕ → Result ℕ AigerFault
below least literal delta place =
    if nat_le least delta && nat_le delta literal then Ok (literal - delta) else Err (faults.Delta place)

-- gate k of a file with that many inputs
unfoldable pub binary_gate_at : ℕ → ℕ → Cursor → Result (Equation × Cursor) AigerFault
binary_gate_at inputs k c = do
  delta0 ← delta_at c
  left ← below 1 (2 * (inputs + k + 1)) delta0.0 c.place
  delta1 ← delta_at delta0.1
  right ← below 0 left delta1.0 delta0.1.place
  Ok (and_gate (inputs + k + 1) left right, delta1.1)

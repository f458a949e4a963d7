-- Readings of bytes from left to right, with the first fault that is met.
use Rattle.std.specs.Prelude.{ℕ, zero, suc, ◌+◌, List, [], ◌∷◌, ◌++◌, Result, Ok}
use Rattle.pim_io.specs.Readings.{◌>>=◌}
use Rattle.pim_aiger.specs.declared.fault.AigerFault.{AigerFault}
use Rattle.pim_aiger.specs.Cursor.{Cursor}

-- `count` readings, one after the other, each of which is told its number; the first has the number k
unfoldable pub many : {X : Type 0} → (ℕ → Cursor → Result (X × Cursor) AigerFault) → ℕ → ℕ → Cursor → Result (List X × Cursor) AigerFault
many read k zero c = Ok ([], c)
many read k (suc count) c = do
  first ← read k c
  others ← many read (k + 1) count first.1
  Ok (first.0 ∷ others.0, others.1)

-- what was read before, and what is still read
abbrev pub with_front : {X : Type 0} → List X → Result (List X × Cursor) AigerFault → Result (List X × Cursor) AigerFault
with_front front reading = reading >>= λ x. Ok (front ++ x.0, x.1)

-- How a walk over lines ends, once the line that it lent is let go.
use Rattle.std.specs.Prelude.{List, ℕ, Option, Result}
use Rattle.std.specs.Borrow.{Fml, Bor, MutBor}
use Rattle.std.specs.Io.BufRead.{Rests}
use Rattle.pim_vectors.specs.declared.fault.LinesFault.{LinesFault}
use Rattle.pim_vectors.specs.contracts.lines.Lines.{the_row}
use Rattle.pim_vectors.specs.Next.{LinesView, IsAfter}

-- the state then, where the source had the bytes `before` left, and has `now`, if it tells them
abbrev pub EndsAfter : MutBor LinesView → Option (List ℕ) → Option (List ℕ) → Result (Option (Bor (List ℕ))) LinesFault → Fml
EndsAfter s before now result = Rests the_row s (IsAfter s.now before now result)

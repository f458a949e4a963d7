-- Inner: what a walk over statements holds and has left.
use Rattle.std.specs.Prelude.{ℕ, ◌+◌, List, [], ◌∷◌, length, map, nat_lt, if◌then◌else◌, Option, Some, None}
use Rattle.std.specs.Borrow.{Bor}
use Rattle.pim_io.specs.Lines.{LineView}
use Rattle.pim_blif.specs.Signals.{signal_number}
use Rattle.pim_blif.specs.Statements.{Statement, statements_after}

-- the words of the present statement, and the lines that are left
pub record StatementsView : Type 0 where
  pub words : List (List ℕ)
  pub lines : List LineView

-- the bytes that slices lend
abbrev pub texts : List (Bor (List ℕ)) → List (List ℕ)
texts slices = map (λ (slice : Bor (List ℕ)). slice.now) slices

-- the statements that a walk has left
abbrev pub statements_left : StatementsView → List Statement
statements_left walk = statements_after None walk.lines

-- the bytes of lines, each with the newline that may end it
abbrev pub room : List LineView → ℕ
room [] = 0
room (line ∷ lines) = length line.text + 1 + room lines

-- the number of a name among names, a new one among them, if it is below a limit
abbrev pub number_below : ℕ → List (List ℕ) → List ℕ → Option ℕ
number_below limit names name = if nat_lt (signal_number names name) limit then Some (signal_number names name) else None

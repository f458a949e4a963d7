-- Inner: what stands next among the bytes that were taken.
use Rattle.std.specs.Prelude.{◌≡◌, ℕ, ◌+◌, ◌-◌, ◌<◌, ◌≤◌, true, false, ◌⊎◌, List, [], length, take, slice_index, Option}
use Rattle.pim_io.specs.Lines.{is_newline, without_return}
use Rattle.pim_io.specs.Outside.{Told}
use Rattle.pim_io.specs.declared.limits.TheConstants.{MAX_INPUT}
use Rattle.pim_vectors.specs.declared.found.Found.{Found}
use Rattle.pim_vectors.specs.declared.found.Found.TheVariants as found
use Rattle.pim_vectors.specs.Next.{LinesView, within_limit}

-- the bytes of a line without its end, and the bytes of a last piece
abbrev pub found_text : LinesView → Found → List ℕ
found_text v (found.Line n) = without_return (take n v.held)
found_text v (found.Rest n) = take n v.held

-- the same with its end
abbrev pub whole_len : Found → ℕ
whole_len (found.Line n) = n + 1
whole_len (found.Rest n) = n

-- none of the first n bytes is a newline
abbrev pub NoNewline : List ℕ → ℕ → Type 0
NoNewline bytes n = (k : ℕ) → k < n → is_newline (slice_index bytes k) ≡ false

-- the piece that stands next is done: it is too long as a line, or the source gave its end and all bytes are within the limit
abbrev pub IsDone : LinesView → Option (List ℕ) → Option (List ℕ) → ℕ → Type 0
IsDone v before now n = (v.longest + 2 ≤ n) ⊎ (Told before now (λ b rest. rest ≡ []) × (length v.held ≤ MAX_INPUT - v.place))

-- what stands next in this state, where the source had the bytes `before` left, and has `now`, if it tells them
abbrev pub IsFound : LinesView → Option (List ℕ) → Option (List ℕ) → Found → Type 0
IsFound v before now (found.Line n) = (n < length (within_limit v v.held)) × (is_newline (slice_index v.held n) ≡ true) × NoNewline v.held n
IsFound v before now (found.Rest n) = (n ≡ length (within_limit v v.held)) × NoNewline v.held n × IsDone v before now n

-- a further byte was taken that is over the limit, and no line stands before it
pub record IsOver (v : LinesView) : Type 0 where
  pub over : MAX_INPUT - v.place < length v.held
  pub short : MAX_INPUT - v.place < v.longest + 2
  pub none : NoNewline v.held (MAX_INPUT - v.place)

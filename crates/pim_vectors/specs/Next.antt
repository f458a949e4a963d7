-- What comes next of the lines that a source gives, within the limits.
use Rattle.std.specs.Prelude.{◌≡◌, ℕ, ◌+◌, ◌-◌, ◌<◌, ◌≤◌, ◌==◌, nat_lt, ◌&&◌, List, [], ◌∷◌, ◌++◌, length, take, drop, Option, Some, None, Result, Ok, Err, if◌then◌else◌}
use Rattle.std.specs.Option.{option_copied, option_to_list}
use Rattle.std.specs.Borrow.{Bor}
use Rattle.pim_io.specs.Outside.{Told}
use Rattle.pim_io.specs.declared.limits.TheConstants.{MAX_INPUT}
use Rattle.pim_vectors.specs.declared.limits.TheConstants.{MAX_LINES}
use Rattle.pim_vectors.specs.declared.fault.LinesFault.{LinesFault}
use Rattle.pim_vectors.specs.declared.fault.LinesFault.TheVariants as faults
use Rattle.pim_io.specs.Lines.{without_return}
use Rattle.pim_vectors.specs.Lines.{lines, line_len}

-- the most bytes of a line, how many lines were handed out, how many bytes these had with their ends, and the bytes that were
-- taken after them
pub record LinesView : Type 0 where
  pub longest : ℕ
  pub given : ℕ
  pub place : ℕ
  pub held : List ℕ

-- the answer for the next line: the number of lines is judged before its length
abbrev pub handed : LinesView → List ℕ → Result (Option (List ℕ)) LinesFault
handed v text =
    if v.given == MAX_LINES then Err faults.TooMany
    else (if nat_lt v.longest (length text) then Err (faults.Long (v.given + 1)) else Ok (Some text))

-- the answer for a last piece
abbrev pub ended : LinesView → List ℕ → Result (Option (List ℕ)) LinesFault
ended v [] = Ok None
ended v (b ∷ text) = handed v (b ∷ text)

-- the answer where `piece` are the bytes from the next line on that may belong to lines, of `count` bytes: the first line where
-- it has a newline; where further bytes follow and the piece isn't too long as a line, that there are too many bytes; else a
-- last piece
abbrev pub judged : LinesView → List ℕ → ℕ → Result (Option (List ℕ)) LinesFault
judged v piece count =
    if nat_lt (line_len piece) (length piece) then handed v (without_return (take (line_len piece) piece))
    else (if nat_lt (length piece) count && nat_lt (length piece) (v.longest + 2) then Err faults.TooLong
    else ended v piece)

-- of the bytes from the next line on, those within the limit
abbrev pub within_limit : LinesView → List ℕ → List ℕ
within_limit v bytes = take (MAX_INPUT - v.place) bytes

-- the answer where these are all bytes from the next line on: those that were taken and those that are left
unfoldable pub next_of : LinesView → List ℕ → Result (Option (List ℕ)) LinesFault
next_of v bytes = judged v (within_limit v bytes) (length bytes)

-- how many lines an answer hands out
abbrev pub lines_in : Result (Option (Bor (List ℕ))) LinesFault → ℕ
lines_in (Ok (Some line)) = 1
lines_in (Ok None) = 0
lines_in (Err e) = 0

-- the bytes from the next line on, after an answer
abbrev pub rest_after : Result (Option (Bor (List ℕ))) LinesFault → List ℕ → List ℕ
rest_after (Ok (Some line)) bytes = drop (line_len bytes + 1) bytes
rest_after (Ok None) bytes = bytes
rest_after (Err e) bytes = bytes

-- the lines of the bytes are those that an answer hands out and those of the rest
abbrev pub CutsLines : Result (Option (Bor (List ℕ))) LinesFault → List ℕ → List ℕ → Type 0
CutsLines (Ok line) bytes rest = lines bytes ≡ option_to_list (option_copied line) ++ lines rest
CutsLines (Err e) bytes rest = Unit {0}

-- a source that failed leaves no whole line, and of the next line too few bytes to refuse it
pub record IsWaiting (v : LinesView) : Type 0 where
  pub none : line_len v.held ≡ length v.held
  pub short : length v.held < v.longest + 2
  pub within : v.place + length v.held ≤ MAX_INPUT

-- the state after an answer, where the source had the bytes `before` left, and has `now`, if it tells them
pub record IsAfter (old : LinesView) (before now : Option (List ℕ)) (result : Result (Option (Bor (List ℕ))) LinesFault) (new : LinesView) : Type 0 where
  pub longest : new.longest ≡ old.longest
  pub given : new.given ≡ old.given + lines_in result
  pub rest : Told before now (λ b n. new.held ++ n ≡ rest_after result (old.held ++ b))
  pub place : Told before now (λ b n. new.place + length (new.held ++ n) ≡ old.place + length (old.held ++ b))
  pub cut : Told before now (λ b n. CutsLines result (old.held ++ b) (new.held ++ n))
  pub waits : result ≡ Err faults.Fault → IsWaiting new

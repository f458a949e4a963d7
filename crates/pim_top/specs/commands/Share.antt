-- What `share` says of a file of programs and of the turns of its input.
use Rattle.std.specs.Prelude.{◌≡◌, ◌≤◌, ℕ, List, [], ◌∷◌, Option, None, Some, Result, Ok, Err, length}
use Rattle.pim_file.specs.ProgramFile.{parse1_of}
use Rattle.pim_file.specs.Text.{text}
use Rattle.pim_io.specs.Lines.{LineView, lines, text_of}
use Rattle.pim_io.specs.Readings.{◌>>=◌}
use Rattle.pim_io.specs.Words.{number_of}
use Rattle.pim_io.specs.declared.limits.TheConstants.{MAX_INPUT, MAX_PROGRAM}
use Rattle.pim_isa.specs.Programs.{ProgramView}
use Rattle.pim_share.specs.Merged.{merge_of, share_fault}
use Rattle.pim_share.specs.Pieces.{parts_of as programs_of}
use Rattle.pim_share.specs.Sharing.{IsShared, KeepsPrimed}
use Rattle.pim_share.specs.Turns.{IsFair}
use Rattle.pim_top.specs.Programs.{judged_as}
use Rattle.pim_top.specs.declared.judgement.Judgement.{Judgement}
use Rattle.pim_top.specs.declared.judgement.Judgement.TheVariants.{Parts, Share, Turn}

-- the programs that stand one after another in a file, or why its bytes are refused
abbrev pub parts_of : List ℕ → Result (List ProgramView) Judgement
parts_of file = judged_as (λ fault. Parts fault) (programs_of file)

-- ---- turns
-- the turn of a line with this number, or that the line is wrong
abbrev pub numbered : ℕ → Option ℕ → Result ℕ Judgement
numbered line (Some turn) = Ok turn
numbered line None = Err (Turn line)

-- the turn that a line spells: a decimal number and nothing else
abbrev pub turn_of : LineView → Result ℕ Judgement
turn_of line = numbered line.number (number_of (text_of line))

-- the turns of lines, or the first that spells none
abbrev pub turns_in : List LineView → Result (List ℕ) Judgement
turns_in [] = Ok []
turns_in (line ∷ others) = turn_of line >>= λ turn. turns_in others >>= λ turns. Ok (turn ∷ turns)

-- the turns of an input, or why its bytes are refused
abbrev pub turns_of : List ℕ → Result (List ℕ) Judgement
turns_of input = turns_in (lines input)

-- the program that the parts become by the turns of an input, in a row of at most so many cells, or why there is none
abbrev pub share_of : ℕ → List ProgramView → List ℕ → Result ProgramView Judgement
share_of budget parts input = turns_of input >>= λ turns. judged_as (λ fault. Share fault) (merge_of parts turns budget)

-- ---- what is written
-- the bytes are programs and turns; the written bytes are the text of the program that the parts become by these turns, and are read
-- as it; each turn names a part, and each part has as many turns as instructions; from every row the program leaves in the window of
-- each part what that part alone leaves there, and all other cells as before; where the parts are primed, so is the program
pub record Shared (budget : ℕ) (file input written : List ℕ) : Type 0 where
  pub parts : List ProgramView
  pub turns : List ℕ
  pub program : ProgramView
  pub are_parts : parts_of file ≡ Ok parts
  pub are_turns : turns_of input ≡ Ok turns
  pub merged : merge_of parts turns budget ≡ Ok program
  pub is_text : written ≡ text program
  pub read : parse1_of written ≡ Ok program
  pub fair : IsFair parts turns
  pub shared : IsShared parts program
  pub primed : KeepsPrimed parts program

-- the bytes are programs, and the input is refused so
pub record IsUnshared (budget : ℕ) (file input : List ℕ) (j : Judgement) : Type 0 where
  pub parts : List ProgramView
  pub are_parts : parts_of file ≡ Ok parts
  pub refused : share_of budget parts input ≡ Err j

-- the text that `share` writes, or why it refuses the input of a file of programs
abbrev pub ShareAnswers : ℕ → List ℕ → List ℕ → Result (List ℕ) Judgement → Type 0
ShareAnswers budget file input (Ok written) = Shared budget file input written
ShareAnswers budget file input (Err j) = IsUnshared budget file input j

-- the bytes are programs and turns within the limits: the programs are for one target and have no more cells in all than the
-- budget, each turn names a part of which an instruction is left, and at the end none is left
pub record SharesFine (budget : ℕ) (file input : List ℕ) : Type 0 where
  pub file_fits : length file ≤ MAX_PROGRAM
  pub parts : List ProgramView
  pub are_parts : parts_of file ≡ Ok parts
  pub fits : length input ≤ MAX_INPUT
  pub turns : List ℕ
  pub are_turns : turns_of input ≡ Ok turns
  pub merges : share_fault parts turns budget ≡ None

-- The lines of bytes: each is a piece that ends in a newline, or a last piece that is not empty.
use Rattle.std.specs.Prelude.{ℕ, ◌+◌, ◌-◌, ◌==◌, List, [], ◌∷◌, ◌++◌, Bool, true, false, if◌then◌else◌, length, take, drop, slice_index}
use Rattle.pim_io.specs.declared.scan.Line.{Line}

-- a line: its number, the place of its first byte, its bytes without the newline, and whether there was a newline
pub record LineView : Type 0 where
  pub number : ℕ
  pub start : ℕ
  pub text : List ℕ
  pub ended : Bool

-- what a scan has left: the bytes, the number of the line that comes next, and the place where that line begins
pub record ScanView : Type 0 where
  pub rest : List ℕ
  pub number : ℕ
  pub start : ℕ

-- a last line without a newline, if it is not empty
abbrev pub last_line : ℕ → ℕ → List ℕ → List LineView
last_line number start [] = []
last_line number start (b ∷ text) = record { number = number; start = start; text = b ∷ text; ended = false } ∷ []

-- the byte that ends a line
abbrev pub is_newline : ℕ → Bool
is_newline b = b == 10

-- a text without the carriage return that it ends in
abbrev pub without_return : List ℕ → List ℕ
without_return text = if slice_index text (length text - 1) == 13 then take (length text - 1) text else text

-- the text of a line: a carriage return right before its newline is no part of it
abbrev pub text_of : LineView → List ℕ
text_of line = if line.ended then without_return line.text else line.text

-- the lines from the line `number` on, which begins at the place `start` with `text`; the bytes follow that
abbrev pub lines_after : ℕ → ℕ → List ℕ → List ℕ → List LineView
lines_after number start text [] = last_line number start text
lines_after number start text (b ∷ bytes) =
    if is_newline b
    then record { number = number; start = start; text = text; ended = true } ∷ lines_after (number + 1) (start + length text + 1) [] bytes
    else lines_after number start (text ++ b ∷ []) bytes

-- the lines of the bytes
abbrev pub lines : List ℕ → List LineView
lines bytes = lines_after 1 0 [] bytes

-- the lines that a scan has left
abbrev pub lines_left : ScanView → List LineView
lines_left scan = lines_after scan.number scan.start [] scan.rest

-- a line as it is handed out
abbrev pub line_view : Line → LineView
line_view line = record { number = line.number; start = line.start; text = line.text.now; ended = line.ended }

-- what a scan has left once it has handed out its next line
abbrev pub after_line : ScanView → LineView → ScanView
after_line scan line = record {
  rest = if line.ended then drop (length line.text + 1) scan.rest else [];
  number = scan.number + 1;
  start = scan.start + length line.text + (if line.ended then 1 else 0);
}

-- The lines of text in an AIGER file: all of the ASCII form; the header, the outputs and the symbols of the binary form
-- (AIGER 20071012, "ASCII format" and "Binary format"). Each line that a file has to have ends in a newline.
use Rattle.std.specs.Prelude.{ℕ, ◌+◌, List, [], ◌∷◌, length, Result, Ok, Err, if◌then◌else◌}
use Rattle.pim_io.specs.Lines.{LineView, lines, without_return}
use Rattle.pim_aiger.specs.declared.fault.AigerFault.{AigerFault}
use Rattle.pim_aiger.specs.declared.fault.AigerFault.TheVariants as faults
use Rattle.pim_aiger.specs.Cursor.{Cursor, end_of, further}

-- the first of the lines, where it ends in a newline
abbrev pub whole_line : Cursor → List LineView → Result (List ℕ × Cursor) AigerFault
whole_line c [] = Err (faults.Truncated (end_of c))
whole_line c (line ∷ lines) =
    if line.ended
    then Ok (without_return line.text, further (length line.text + 1) c)
    else Err (faults.Truncated (end_of c))

-- the text of the next line, which is there only with its newline
unfoldable pub line_at : Cursor → Result (List ℕ × Cursor) AigerFault
line_at c = whole_line c (lines c.rest)

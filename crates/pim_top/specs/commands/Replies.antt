-- The line that each reply of `debug` is written as.
use Rattle.std.specs.Prelude.{ℕ, Bool, List, [], ◌∷◌, ◌++◌, codes, decimal}
use Rattle.pim_debug.specs.declared.reply.Reply.{Reply}
use Rattle.pim_debug.specs.declared.reply.Reply.TheVariants as reply
use Rattle.pim_io.specs.Bits.{line_of}
use Rattle.pim_text.specs.Text.{counted_text}

-- a breakpoint and its position
abbrev pub break_line : ℕ → ℕ → List ℕ
break_line n k = codes "break " ++ decimal n ++ counted_text (codes " at ") k

-- a cell and its bit
abbrev pub cell_line : ℕ → Bool → List ℕ
cell_line c b = codes "cell " ++ decimal c ++ codes " " ++ line_of (b ∷ []) ++ codes "\n"

-- the bits of the outputs
abbrev pub show_line : List Bool → List ℕ
show_line bits = line_of bits ++ codes "\n"

-- the line of a reply; nothing for a line without a word, and for the end
abbrev pub reply_line : Reply → List ℕ
reply_line reply.Nothing = []
reply_line (reply.At k) = counted_text (codes "at ") k
reply_line (reply.Break n k) = break_line n k
reply_line (reply.Deleted n) = counted_text (codes "deleted ") n
reply_line (reply.Cell c b) = cell_line c b
reply_line (reply.Show bits) = show_line bits
reply_line reply.Quit = []

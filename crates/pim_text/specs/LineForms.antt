-- What the line of a target, of a number or of a port says, each by itself.
use Rattle.std.specs.Prelude.{ℕ, ◌+◌, if◌then◌else◌, List, drop, take, codes, Option, Some, None}
use Rattle.std.specs.List.{position}
use Rattle.std.specs.Str.{bytes_eq}
use Rattle.pim_io.specs.Names.{is_label}
use Rattle.pim_io.specs.Options.{◌>>=◌}
use Rattle.pim_isa.specs.declared.target.Target.{Target}
use Rattle.pim_isa.specs.declared.target.Target.TheVariants.{Magic, Plim}
use Rattle.pim_isa.specs.declared.port.Port.{Port}
use Rattle.pim_text.specs.Fields.{is_space, behind, plain_number}

-- the target that a line names
abbrev pub target_of : List ℕ → Option Target
target_of line =
    if bytes_eq line (codes "target magic") then Some Magic
    else (if bytes_eq line (codes "target plim") then Some Plim else None)

-- the number of a line that is this word and a number
abbrev pub counted_of : List ℕ → List ℕ → Option ℕ
counted_of word line = behind word line >>= plain_number

-- the port with this cell and this label, if it is a label
abbrev pub labelled : ℕ → List ℕ → Option Port
labelled cell text = if is_label text then Some (record { cell = cell; label = text }) else None

-- the port of a line that is this word, a cell, and a label to the end of the line
abbrev pub port_of : List ℕ → List ℕ → Option Port
port_of word line = do
  text ← behind word line
  space ← position is_space text
  cell ← plain_number (take space text)
  labelled cell (drop (space + 1) text)

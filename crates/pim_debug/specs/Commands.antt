-- What a line asks for.
use Rattle.std.specs.Prelude.{ℕ, List, [], ◌∷◌, if◌then◌else◌, codes, Option, Some, None}
use Rattle.std.specs.Str.{bytes_eq}
use Rattle.pim_io.specs.Words.{words, number_of}
use Rattle.pim_debug.specs.declared.command.Command.{Command}
use Rattle.pim_debug.specs.declared.command.Command.TheVariants.{Nothing, Step, Back, Goto, Run, Break, Delete, Cell, Show, Quit}

-- the command of a word that stands alone; `step` and `back` go by one
unfoldable pub command_alone : List ℕ → Option Command
command_alone name =
    if bytes_eq name (codes "step") then Some (Step 1)
    else (if bytes_eq name (codes "back") then Some (Back 1)
    else (if bytes_eq name (codes "run") then Some Run
    else (if bytes_eq name (codes "show") then Some Show
    else (if bytes_eq name (codes "quit") then Some Quit
    else None))))

-- the command of a word with a number behind it
unfoldable pub command_with : List ℕ → ℕ → Option Command
command_with name n =
    if bytes_eq name (codes "step") then Some (Step n)
    else (if bytes_eq name (codes "back") then Some (Back n)
    else (if bytes_eq name (codes "goto") then Some (Goto n)
    else (if bytes_eq name (codes "break") then Some (Break n)
    else (if bytes_eq name (codes "delete") then Some (Delete n)
    else (if bytes_eq name (codes "cell") then Some (Cell n)
    else None)))))

-- the same of a word that may spell no number
abbrev pub command_if : List ℕ → Option ℕ → Option Command
command_if name None = None
command_if name (Some n) = command_with name n

-- the command of the words of a line: nothing for no word; a word alone; or a word and a number
abbrev pub command_said : List (List ℕ) → Option Command
command_said [] = Some Nothing
command_said (name ∷ []) = command_alone name
command_said (name ∷ value ∷ []) = command_if name (number_of value)
command_said (name ∷ value ∷ further ∷ more) = None

-- the command of a line, if it is one
abbrev pub command_of : List ℕ → Option Command
command_of line = command_said (words line)

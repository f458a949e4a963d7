-- What the words of a line of assembly say.
use Rattle.std.specs.Prelude.{ℕ, nat_le, if◌then◌else◌, List, [], ◌∷◌, codes, Option, Some, None, option_map}
use Rattle.std.specs.Str.{bytes_eq}
use Rattle.pim_io.specs.Options.{◌>>=◌}
use Rattle.pim_io.specs.Words.{number_of}
use Rattle.pim_isa.specs.declared.target.Target.{Target}
use Rattle.pim_isa.specs.declared.target.Target.TheVariants.{Magic, Plim}
use Rattle.pim_isa.specs.declared.port.Port.{Port}
use Rattle.pim_isa.specs.declared.instr.Instr.{Instr}
use Rattle.pim_isa.specs.declared.draft.TheConstants.{MAX_CELLS}
use Rattle.pim_text.specs.InstrForms.{instr_from}
use Rattle.pim_asm.specs.Labels.{label_of}
use Rattle.pim_asm.specs.Names.{is_name}

-- a statement behind the number of cells: a name stands for a cell from here on; the next input; the next output; the next
-- instruction
pub data Statement : Type 0 where
  Let : List ℕ → ℕ → Statement
  Input : Port → Statement
  Output : Port → Statement
  Does : Instr → Statement

-- two words, if there are just two
abbrev pub pair_of : List (List ℕ) → Option (List ℕ × List ℕ)
pair_of [] = None
pair_of (first ∷ []) = None
pair_of (first ∷ second ∷ []) = Some (first, second)
pair_of (first ∷ second ∷ third ∷ others) = None

-- the target that a word names
abbrev pub target_named : List ℕ → Option Target
target_named word =
    if bytes_eq word (codes "magic") then Some Magic
    else (if bytes_eq word (codes "plim") then Some Plim else None)

-- the first statement: `target` and its name
abbrev pub target_of : List (List ℕ) → Option Target
target_of ws = pair_of ws >>= λ p. if bytes_eq p.0 (codes "target") then target_named p.1 else None

-- a number of cells that a program may have
abbrev pub within_limit : ℕ → Option ℕ
within_limit cells = if nat_le cells MAX_CELLS then Some cells else None

-- the second statement: `cells` and their number
abbrev pub count_of : List (List ℕ) → Option ℕ
count_of ws = pair_of ws >>= λ p. if bytes_eq p.0 (codes "cells") then number_of p.1 >>= within_limit else None

-- a name and the cell that it stands for
abbrev pub let_of : List (List ℕ) → Option Statement
let_of ws = pair_of ws >>= λ p. if is_name p.0 then option_map (λ cell. Let p.0 cell) (number_of p.1) else None

-- the port with this cell and this label
abbrev pub port_at : ℕ → List ℕ → Port
port_at cell label = record { cell = cell; label = label }

-- a port: its cell and its label
abbrev pub port_of : (List ℕ → Option ℕ) → List (List ℕ) → Option Port
port_of cell ws = pair_of ws >>= λ p. cell p.0 >>= λ c. option_map (λ label. port_at c label) (label_of p.1)

-- the statement of a first word and the words after it, where a word stands for a cell as `cell` says
abbrev pub statement_of : (List ℕ → Option ℕ) → List ℕ → List (List ℕ) → Option Statement
statement_of cell word ws =
    if bytes_eq word (codes "let") then let_of ws
    else (if bytes_eq word (codes "input") then option_map (λ port. Input port) (port_of cell ws)
    else (if bytes_eq word (codes "output") then option_map (λ port. Output port) (port_of cell ws)
    else option_map (λ instr. Does instr) (instr_from cell word ws)))

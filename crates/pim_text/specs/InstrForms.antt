-- What the words of an instruction say: the first names its kind, the others its cells and operands. How a word stands for a
-- cell differs from text to text, so it is a parameter, `cell`: in a program file such a word is a plain number.
use Rattle.std.specs.Prelude.{ℕ, List, [], ◌∷◌, codes, Option, Some, None, option_map, option_and_then, if◌then◌else◌}
use Rattle.std.specs.Str.{bytes_eq}
use Rattle.pim_io.specs.Options.{◌>>=◌}
use Rattle.pim_isa.specs.declared.instr.Ins.TheVariants as ins
use Rattle.pim_isa.specs.declared.instr.Operand.{Operand}
use Rattle.pim_isa.specs.declared.instr.Operand.TheVariants.{Zero, One, Cell}
use Rattle.pim_isa.specs.declared.instr.Instr.{Instr}
use Rattle.pim_isa.specs.declared.instr.Instr.TheVariants.{Init, Nor, Rm3}
use Rattle.pim_text.specs.Fields.{fields, behind, plain_number}

-- the cell of the first word, and the words after it
abbrev pub cell_at : (List ℕ → Option ℕ) → List (List ℕ) → Option (ℕ × List (List ℕ))
cell_at cell [] = None
cell_at cell (word ∷ others) = option_map (λ c. (c, others)) (cell word)

-- the cells of all words
abbrev pub cells_of : (List ℕ → Option ℕ) → List (List ℕ) → Option (List ℕ)
cells_of cell [] = Some []
cells_of cell (word ∷ others) = option_and_then (λ c. option_map (λ cs. c ∷ cs) (cells_of cell others)) (cell word)

-- the cell behind an at sign
abbrev pub marked_of : (List ℕ → Option ℕ) → List ℕ → Option ℕ
marked_of cell word = behind (codes "@") word >>= cell

-- the marked cell of the first word, and the words after it
abbrev pub marked_at : (List ℕ → Option ℕ) → List (List ℕ) → Option (ℕ × List (List ℕ))
marked_at cell [] = None
marked_at cell (word ∷ others) = option_map (λ c. (c, others)) (marked_of cell word)

-- an operand of an RM3: a constant after a hash, or a marked cell
abbrev pub operand_of : (List ℕ → Option ℕ) → List ℕ → Option Operand
operand_of cell word =
    if bytes_eq word (codes "#0") then Some Zero
    else (if bytes_eq word (codes "#1") then Some One
    else option_map (λ c. Cell c) (marked_of cell word))

-- the operand of the first word, and the words after it
abbrev pub operand_at : (List ℕ → Option ℕ) → List (List ℕ) → Option (Operand × List (List ℕ))
operand_at cell [] = None
operand_at cell (word ∷ others) = option_map (λ operand. (operand, others)) (operand_of cell word)

-- an instruction that no further words follow
abbrev pub closed : Instr → List (List ℕ) → Option Instr
closed instr [] = Some instr
closed instr (word ∷ others) = None

-- an Init of the cells of all words
abbrev pub init_of : (List ℕ → Option ℕ) → List (List ℕ) → Option Instr
init_of cell ws = option_map (λ cells. Init cells) (cells_of cell ws)

-- a NOR of one operand: its target and the operand
unfoldable pub not_of : (List ℕ → Option ℕ) → List (List ℕ) → Option Instr
not_of cell ws = do
  t ← cell_at cell ws
  a ← cell_at cell t.1
  closed (Nor t.0 (ins.One a.0)) a.1

-- a NOR of three operands, or of four if one more word follows
abbrev pub nor_from_three : (List ℕ → Option ℕ) → ℕ → ℕ → ℕ → ℕ → List (List ℕ) → Option Instr
nor_from_three cell t a b c [] = Some (Nor t (ins.Three a b c))
nor_from_three cell t a b c (word ∷ others) = cell word >>= λ d. closed (Nor t (ins.Four a b c d)) others

-- a NOR of two operands, or of more if further words follow
abbrev pub nor_from_two : (List ℕ → Option ℕ) → ℕ → ℕ → ℕ → List (List ℕ) → Option Instr
nor_from_two cell t a b [] = Some (Nor t (ins.Two a b))
nor_from_two cell t a b (word ∷ others) = cell word >>= λ c. nor_from_three cell t a b c others

-- a NOR of two to four operands: its target and the operands
unfoldable pub nor_of : (List ℕ → Option ℕ) → List (List ℕ) → Option Instr
nor_of cell ws = do
  t ← cell_at cell ws
  a ← cell_at cell t.1
  b ← cell_at cell a.1
  nor_from_two cell t.0 a.0 b.0 b.1

-- an RM3: two operands, and the marked cell that it writes
unfoldable pub rm3_of : (List ℕ → Option ℕ) → List (List ℕ) → Option Instr
rm3_of cell ws = do
  p ← operand_at cell ws
  q ← operand_at cell p.1
  z ← marked_at cell q.1
  closed (Rm3 p.0 q.0 z.0) z.1

-- the instruction of a first word and the words after it
abbrev pub instr_from : (List ℕ → Option ℕ) → List ℕ → List (List ℕ) → Option Instr
instr_from cell word ws =
    if bytes_eq word (codes "init") then init_of cell ws
    else (if bytes_eq word (codes "not") then not_of cell ws
    else (if bytes_eq word (codes "nor") then nor_of cell ws
    else (if bytes_eq word (codes "rm3") then rm3_of cell ws
    else None)))

-- the instruction of words
abbrev pub instr_of_words : (List ℕ → Option ℕ) → List (List ℕ) → Option Instr
instr_of_words cell [] = None
instr_of_words cell (word ∷ ws) = instr_from cell word ws

-- the instruction of a line of a program file
unfoldable pub instr_of : List ℕ → Option Instr
instr_of line = instr_of_words plain_number (fields line)

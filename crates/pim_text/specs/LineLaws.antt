-- Laws of the lines of a program's text: a line is read as what it spells, and no other line is.
use Rattle.std.specs.Prelude.{◌≡◌, ℕ, ◌+◌, ◌^◌, ◌<◌, Bool, true, ◌==◌, ◌&&◌, not, nat_lt, List, [], ◌∷◌, ◌++◌, length, decimal, Option, Some}
use Rattle.std.specs.List.{list_all, join_with_byte, AllByRecursion}
use Rattle.pim_io.specs.Lines.{lines_after}
use Rattle.pim_io.specs.Names.{IsLabel, is_label}
use Rattle.pim_io.specs.Words.{number_of}
use Rattle.pim_isa.specs.declared.target.Target.{Target}
use Rattle.pim_isa.specs.declared.port.Port.{Port}
use Rattle.pim_isa.specs.declared.instr.Instr.{Instr}
use Rattle.pim_isa.specs.Programs.{ProgramView}
use Rattle.pim_isa.specs.Sound.{IsProgram}
use Rattle.pim_text.specs.Fields.{lacks}
use Rattle.pim_text.specs.LineForms.{target_of, counted_of, port_of}
use Rattle.pim_text.specs.InstrForms.{instr_of_words, instr_of}
use Rattle.pim_text.specs.Spelled.{HasLine, HasPortLine, HasLines}
use Rattle.pim_text.specs.Text.{instr_text, instr_words, target_line, port_line}

-- Each line is read as what it spells, and a label is found to be one.
pub record ReadLines : Type 0 where
  pub target : (target : Target) → target_of (target_line target) ≡ Some target
  pub counted : (word : List ℕ) (n : ℕ) → n < 2 ^ 32 → counted_of word (word ++ decimal n) ≡ Some n
  pub port : (word : List ℕ) (port : Port) → HasPortLine port → port_of word (port_line word port) ≡ Some port
  pub instr : (i : Instr) → HasLine i → instr_of (instr_text i) ≡ Some i
  pub label : (text : List ℕ) → IsLabel text → is_label text ≡ true

-- No other line is.
pub record OneLine : Type 0 where
  pub target : (line : List ℕ) (target : Target) → target_of line ≡ Some target → line ≡ target_line target
  pub counted : (word line : List ℕ) (n : ℕ) → counted_of word line ≡ Some n → (line ≡ word ++ decimal n) × (n < 2 ^ 32)
  pub port : (word line : List ℕ) (port : Port) → port_of word line ≡ Some port
      → (line ≡ port_line word port) × HasPortLine port
  pub instr : (line : List ℕ) (i : Instr) → instr_of line ≡ Some i → (line ≡ instr_text i) × HasLine i

-- A program has lines.
pub record ProgramLines : Type 0 where
  pub has : (p : ProgramView) → IsProgram p → HasLines p

-- No newline stands in a line, and a line without one is cut at the newline behind it.
pub record LackNewlines : Type 0 where
  pub target : (target : Target) → lacks 10 (target_line target) ≡ true
  pub counted : (word : List ℕ) (n : ℕ) → lacks 10 word ≡ true → n < 2 ^ 32 → lacks 10 (word ++ decimal n) ≡ true
  pub port : (word : List ℕ) (port : Port) → lacks 10 word ≡ true → HasPortLine port → lacks 10 (port_line word port) ≡ true
  pub instr : (i : Instr) → HasLine i → lacks 10 (instr_text i) ≡ true
  pub cut : (number start : ℕ) (line rest : List ℕ) → lacks 10 line ≡ true → lines_after number start [] (line ++ 10 ∷ rest)
      ≡ record { number = number; start = start; text = line; ended = true } ∷ lines_after (number + 1) (start + length line + 1) [] rest

-- a byte above the double quote, and no semicolon
abbrev pub is_plain : ℕ → Bool
is_plain b = nat_lt 34 b && not (b == 59)

-- a word of such bytes
pub record IsPlainWord (word : List ℕ) : Type 0 where
  pub some : 0 < length word
  pub plain : list_all is_plain word ≡ true

-- The line of an instruction is its words with single spaces between them. They are read as the instruction by each reading
-- of cells that reads decimal numbers.
pub record InstrWords : Type 0 where
  pub joined : (i : Instr) → instr_text i ≡ join_with_byte 32 (instr_words i)
  pub plain : (i : Instr) → HasLine i → AllByRecursion IsPlainWord (instr_words i)
  pub read : (cell : List ℕ → Option ℕ) (i : Instr) → ((n : ℕ) → n < 2 ^ 32 → cell (decimal n) ≡ Some n) → HasLine i
      → instr_of_words cell (instr_words i) ≡ Some i
  pub plain_number : (n : ℕ) → n < 2 ^ 32 → IsPlainWord (decimal n)
  pub number : (n : ℕ) → n < 2 ^ 32 → number_of (decimal n) ≡ Some n

-- What `asm` writes.
use Rattle.std.specs.Prelude.{◌≡◌, ◌≤◌, ℕ, List, Result, Ok, length}
use Rattle.pim_asm.specs.Assembly.{asm_of as assembly_of}
use Rattle.pim_file.specs.Text.{text}
use Rattle.pim_io.specs.declared.limits.TheConstants.{MAX_INPUT}
use Rattle.pim_isa.specs.Programs.{ProgramView}
use Rattle.pim_top.specs.Programs.{assembled, text_by}
use Rattle.pim_top.specs.declared.judgement.Judgement.{Judgement}

-- the text of the program that a text of assembly is, or why its bytes are refused
abbrev pub asm_of : List ℕ → Result (List ℕ) Judgement
asm_of input = text_by text (assembled input)

-- the bytes are a text of assembly within the limit
pub record AssemblesFine (bytes : List ℕ) : Type 0 where
  pub fits : length bytes ≤ MAX_INPUT
  pub program : ProgramView
  pub is_program : assembly_of bytes ≡ Ok program

-- Which program bytes are, and what is made of it.
use Rattle.std.specs.Prelude.{◌≡◌, ◌≤◌, ℕ, List, Result, Ok, Err, length}
use Rattle.pim_asm.specs.Assembly.{asm_of}
use Rattle.pim_file.specs.BinaryReading.{parse_of}
use Rattle.pim_io.specs.declared.limits.TheConstants.{MAX_PROGRAM}
use Rattle.pim_isa.specs.Programs.{ProgramView}
use Rattle.pim_top.specs.declared.judgement.Judgement.{Judgement}
use Rattle.pim_top.specs.declared.judgement.Judgement.TheVariants.{Assembly, File}

-- what a reader gives, or its fault as a judgement
abbrev pub judged_as : {X E : Type 0} → (E → Judgement) → Result X E → Result X Judgement
judged_as judge (Ok x) = Ok x
judged_as judge (Err fault) = Err (judge fault)

-- the program of a program file in either form, or why its bytes are refused
abbrev pub program_of : List ℕ → Result ProgramView Judgement
program_of file = judged_as (λ fault. File fault) (parse_of file)

-- the program of a text of assembly, or why its bytes are refused
abbrev pub assembled : List ℕ → Result ProgramView Judgement
assembled bytes = judged_as (λ fault. Assembly fault) (asm_of bytes)

-- the text that is made of the program, or why there is none
abbrev pub text_by : (ProgramView → List ℕ) → Result ProgramView Judgement → Result (List ℕ) Judgement
text_by print (Ok program) = Ok (print program)
text_by print (Err j) = Err j

-- the bytes are a program file in either form, within the limit
pub record IsProgramFile (bytes : List ℕ) : Type 0 where
  pub fits : length bytes ≤ MAX_PROGRAM
  pub program : ProgramView
  pub is_program : parse_of bytes ≡ Ok program

-- Which program a text of assembly is, or its first fault: the first line that is wrong or has a wrong name, else what makes the
-- program invalid.
use Rattle.std.specs.Prelude.{ℕ, ◌+◌, if◌then◌else◌, List, [], ◌∷◌, ◌++◌, Option, Some, None, option_map, is_some, Result, Ok, Err}
use Rattle.std.specs.Option.{ok_or}
use Rattle.pim_io.specs.Lines.{LineView, lines}
use Rattle.pim_io.specs.Readings.{◌>>=◌}
use Rattle.pim_isa.specs.declared.target.Target.{Target}
use Rattle.pim_isa.specs.declared.invalid.Invalid.{Invalid}
use Rattle.pim_isa.specs.Programs.{ProgramView}
use Rattle.pim_isa.specs.Validity.{fault_of}
use Rattle.pim_asm.specs.declared.fault.AsmFault.{AsmFault}
use Rattle.pim_asm.specs.declared.fault.AsmFault.TheVariants as faults
use Rattle.pim_asm.specs.Names.{with_name, known_cell, any_cell}
use Rattle.pim_asm.specs.Statements.{Statement, target_of, count_of, statement_of}
use Rattle.pim_asm.specs.Statements as statement
use Rattle.pim_asm.specs.Words.{words}

-- what was read behind the number of cells: the draft, and the names that are defined, the first one first
pub record Body : Type 0 where
  pub draft : ProgramView
  pub names : List (List ℕ × ℕ)

-- how far a text is read: nothing; the target; the number of cells too
pub data Stage : Type 0 where
  Start : Stage
  Aimed : Target → Stage
  Inside : Body → Stage

-- a draft without ports and instructions, and no names
abbrev pub begun : Target → ℕ → Body
begun target cells = record {
  draft = record { target = target; cells = cells; inputs = []; outputs = []; instrs = [] };
  names = [];
}

-- what is read once a statement is done; nothing where it defines a name a second time
abbrev pub done : Body → Statement → Option Body
done b (statement.Let name cell) =
    option_map {T = List (List ℕ × ℕ)} (λ names. record b { names = names }) (with_name b.names name cell)
done b (statement.Input port) = Some (record b { draft = record b.draft { inputs = b.draft.inputs ++ port ∷ [] } })
done b (statement.Output port) = Some (record b { draft = record b.draft { outputs = b.draft.outputs ++ port ∷ [] } })
done b (statement.Does instr) = Some (record b { draft = record b.draft { instrs = b.draft.instrs ++ instr ∷ [] } })

-- why words are no statement with the names so far: a name is wrong if they are one where every name is defined; else the line is
abbrev pub missed : ℕ → List ℕ → List (List ℕ) → AsmFault
missed n word ws = if is_some (statement_of any_cell word ws) then faults.Name n else faults.Line n

-- what is read behind a statement in the line n, where names stand for their cells
abbrev pub after : Body → ℕ → List ℕ → List (List ℕ) → Result Body AsmFault
after b n word ws =
    ok_or (statement_of (known_cell b.names) word ws) (missed n word ws) >>= λ s. ok_or (done b s) (faults.Name n)

-- what is read behind the line n with these words; a line without words says nothing
abbrev pub words_read : Stage → ℕ → List (List ℕ) → Result Stage AsmFault
words_read stage n [] = Ok stage
words_read Start n (word ∷ ws) = ok_or (option_map (λ target. Aimed target) (target_of (word ∷ ws))) (faults.Line n)
words_read (Aimed target) n (word ∷ ws) =
    ok_or (option_map (λ cells. Inside (begun target cells)) (count_of (word ∷ ws))) (faults.Line n)
words_read (Inside b) n (word ∷ ws) = after b n word ws >>= λ body. Ok (Inside body)

-- what is read behind a line
abbrev pub line_read : Stage → LineView → Result Stage AsmFault
line_read stage line = words_read stage line.number (words line.text)

-- the draft at the end of the text; where the number of cells is missing, the line that would come next is wrong
abbrev pub finished : ℕ → Stage → Result ProgramView AsmFault
finished next Start = Err (faults.Line next)
finished next (Aimed target) = Err (faults.Line next)
finished next (Inside b) = Ok b.draft

-- the draft that these further lines lead to, of which the next one has this number
abbrev pub read_from : ℕ → Stage → List LineView → Result ProgramView AsmFault
read_from next stage [] = finished next stage
read_from next stage (line ∷ others) = line_read stage line >>= λ s. read_from (next + 1) s others

-- a draft that has this fault, or none
abbrev pub with_fault : ProgramView → Option Invalid → Result ProgramView AsmFault
with_fault draft None = Ok draft
with_fault draft (Some invalid) = Err (faults.Invalid invalid)

-- the program of a draft that has no fault
abbrev pub validated : ProgramView → Result ProgramView AsmFault
validated draft = with_fault draft (fault_of draft)

-- the program that a text of assembly is
unfoldable pub asm_of : List ℕ → Result ProgramView AsmFault
asm_of bytes = read_from 1 Start (lines bytes) >>= validated

-- What `explain` writes.
use Rattle.std.specs.Prelude.{◌≡◌, ◌≤◌, ℕ, Bool, true, false, List, Result, Ok, Err, length}
use Rattle.pim_file.specs.BinaryReading.{parse_of}
use Rattle.pim_io.specs.declared.limits.TheConstants.{MAX_PROGRAM}
use Rattle.pim_isa.specs.Programs.{ProgramView}
use Rattle.pim_isa.specs.declared.target.Target.{Target}
use Rattle.pim_isa.specs.declared.target.Target.TheVariants.{Magic, Plim}
use Rattle.pim_life.specs.Explanations.{explanation}
use Rattle.pim_life.specs.TreeLines.{tree_explanation}
use Rattle.pim_life.specs.declared.tree_fault.TreeFault.TheVariants.{NotMagic}
use Rattle.pim_top.specs.Programs.{program_of}
use Rattle.pim_top.specs.declared.judgement.Judgement.{Judgement}
use Rattle.pim_top.specs.declared.judgement.Judgement.TheVariants.{Tree}

-- the lives of a program's cells and the line on the graph of its NORs, which only a program for MAGIC has
abbrev pub tree_of : Target → ProgramView → Result (List ℕ) Judgement
tree_of Magic program = Ok (tree_explanation program)
tree_of Plim program = Err (Tree NotMagic)

-- the lives of a program's cells, and with `--tree` that line behind them
abbrev pub explained : Bool → ProgramView → Result (List ℕ) Judgement
explained true program = tree_of program.target program
explained false program = Ok (explanation program)

-- the same of what a program file gives, or why it is refused
abbrev pub explained_by : Bool → Result ProgramView Judgement → Result (List ℕ) Judgement
explained_by asked (Ok program) = explained asked program
explained_by asked (Err j) = Err j

-- the same of the bytes of a program file
abbrev pub explain_of : Bool → List ℕ → Result (List ℕ) Judgement
explain_of tree file = explained_by tree (program_of file)

-- the bytes are a program file within the limit, which is for MAGIC where the tree is asked for
pub record ExplainsFine (tree : Bool) (file : List ℕ) : Type 0 where
  pub fits : length file ≤ MAX_PROGRAM
  pub program : ProgramView
  pub is_program : parse_of file ≡ Ok program
  pub magic : tree ≡ true → program.target ≡ Magic

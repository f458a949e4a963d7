-- What `convert` writes.
use Rattle.std.specs.Prelude.{ℕ, List, Result}
use Rattle.pim_file.specs.Binary.{bin}
use Rattle.pim_file.specs.Text.{text}
use Rattle.pim_isa.specs.Programs.{ProgramView}
use Rattle.pim_words.specs.declared.command.FormWord.{FormWord}
use Rattle.pim_words.specs.declared.command.FormWord.TheVariants as forms
use Rattle.pim_top.specs.Programs.{program_of, text_by}
use Rattle.pim_top.specs.declared.judgement.Judgement.{Judgement}

-- a program in the form that a word of `--form` names
abbrev pub in_form : FormWord → ProgramView → List ℕ
in_form forms.Text program = text program
in_form forms.Binary program = bin program

-- the program of the input in that form, or why its bytes are refused
abbrev pub convert_of : FormWord → List ℕ → Result (List ℕ) Judgement
convert_of form input = text_by (in_form form) (program_of input)

-- What the words of a command come to.
use Rattle.std.specs.Prelude.{◌≡◌, ◌≤◌, ◌||◌, ℕ, Bool, true, false, not, List, [], ◌∷◌, Option}
use Rattle.std.specs.Prelude.{Some, None, codes, is_some, option_map, option_and_then}
use Rattle.std.specs.Prelude.{if◌then◌else◌}
use Rattle.std.specs.Option.{option_map_or}
use Rattle.std.specs.Str.{bytes_eq}
use Rattle.std.specs.Str.Parse.{digits_value, without_leading_plus}
use Rattle.clap.specs.Walk.{is_empty}
use Rattle.clap.specs.Words.{App, Row, Text, fault_of, first_of, is_simple_and_free, matches_of}
use Rattle.clap.specs.Words.{new_app, one_of}
use Rattle.pim_words.specs.Lines.{bench_line, cells_line, compile_line, convert_line}
use Rattle.pim_words.specs.Lines.{explain_line, fill_line}
use Rattle.pim_words.specs.Program.{lacks_program, others}
use Rattle.pim_words.specs.declared.command.Command.{Command}
use Rattle.pim_words.specs.declared.command.Command.TheVariants as commands
use Rattle.pim_words.specs.declared.command.FillWord.{FillWord}
use Rattle.pim_words.specs.declared.command.FillWord.TheVariants.{Ones, Zeros}
use Rattle.pim_words.specs.declared.command.FormWord.{FormWord}
use Rattle.pim_words.specs.declared.command.FormWord.TheVariants as forms
use Rattle.pim_words.specs.declared.command.TargetWord.{TargetWord}
use Rattle.pim_words.specs.declared.command.TargetWord.TheVariants.{Magic, Plim}
use Rattle.pim_words.specs.declared.command.LevelWord.{LevelWord}
use Rattle.pim_words.specs.declared.command.LevelWord.TheVariants.{One, Two, Zero}
use Rattle.pim_words.specs.declared.limits.TheConstants.{MAX_CELLS}

-- the command line refuses the words, of which the first is the command's name
abbrev pub refuses : List Text → App → Bool
refuses words line = not (is_empty (fault_of line words))

-- the number that a text of digits writes, where a plus may stand first
abbrev pub number_of : Text → ℕ
number_of text = digits_value 10 (without_leading_plus text)

-- PLiM where this text after `--target` is `plim`, and else MAGIC
abbrev pub target_of : Option Text → TargetWord
target_of (Some text) = if bytes_eq text (codes "plim") then Plim else Magic
target_of None = Magic

-- the level that this text after `--level` says, and 0 where it says no other
abbrev pub level_of : Option Text → LevelWord
level_of (Some text) =
    if bytes_eq text (codes "1") then One else if bytes_eq text (codes "2") then Two else Zero
level_of None = Zero

-- the number after `--cells`
abbrev pub cells_of : List Row → Option ℕ
cells_of rows = option_map number_of (one_of (codes "cells") rows)

-- `compile`, by the matches of its command line
abbrev pub compile_said : List Row → Option Command
compile_said rows =
    option_map (commands.Compile (target_of (first_of (codes "target") rows))
    (level_of (first_of (codes "level") rows))) (cells_of rows)

-- ones where this text stands after `--fill`, and else zeros
abbrev pub fill_of : Option Text → FillWord
fill_of (Some text) = if bytes_eq text (codes "ones") then Ones else Zeros
fill_of None = Zeros

-- binary where this text stands after `--form`, and else text
abbrev pub form_of : Option Text → FormWord
form_of (Some text) = if bytes_eq text (codes "2") then forms.Binary else forms.Text
form_of None = forms.Text

-- `--tree` stands there, and has set its flag
abbrev pub tree_of : Option Text → Bool
tree_of (Some text) = bytes_eq text (codes "true")
tree_of None = false

-- a command of `pim`: its command line, and what the matches of that say
pub record KnownCommand : Type 0 where
  pub line : App
  pub said : List Row → Option Command

-- the command of this name, which has no option
abbrev pub without_options : Text → Command → KnownCommand
without_options name command = record { line = new_app name; said = λ _. Some command }

-- the command of this name, whose one option is `--fill`
abbrev pub with_fill : Text → (FillWord → Command) → KnownCommand
with_fill name command = record {
  line = fill_line name;
  said = λ rows. Some (command (fill_of (first_of (codes "fill") rows)));
}

-- the command of this name, whose one option is `--cells`
abbrev pub with_cells : Text → (ℕ → Command) → KnownCommand
with_cells name command = record {
  line = cells_line name;
  said = λ rows. option_map command (cells_of rows);
}

-- `compile`
abbrev pub compile_command : KnownCommand
compile_command = record { line = compile_line; said = compile_said }

-- `convert`
abbrev pub convert_command : KnownCommand
convert_command = record {
  line = convert_line;
  said = λ rows. Some (commands.Convert (form_of (first_of (codes "form") rows)));
}

-- `explain`
abbrev pub explain_command : KnownCommand
explain_command = record {
  line = explain_line;
  said = λ rows. Some (commands.Explain (tree_of (first_of (codes "tree") rows)));
}

-- `bench`
abbrev pub bench_command : KnownCommand
bench_command = record {
  line = bench_line;
  said = λ rows. option_map commands.Bench (option_map number_of (one_of (codes "bits") rows));
}

-- the command of `pim` that has this name
abbrev pub cli : Text → Option KnownCommand
cli name =
    if bytes_eq name (codes "compile") then Some compile_command
    else if bytes_eq name (codes "run") then Some (with_fill (codes "run") commands.Run)
    else if bytes_eq name (codes "list") then Some (without_options (codes "list") commands.List)
    else if bytes_eq name (codes "explain") then Some explain_command
    else if bytes_eq name (codes "prove") then Some (without_options (codes "prove") commands.Prove)
    else if bytes_eq name (codes "asm") then Some (without_options (codes "asm") commands.Asm)
    else if bytes_eq name (codes "debug") then Some (with_fill (codes "debug") commands.Debug)
    else if bytes_eq name (codes "convert") then Some convert_command
    else if bytes_eq name (codes "imply") then Some (with_cells (codes "imply") commands.Imply)
    else if bytes_eq name (codes "implyrun") then Some
    (with_fill (codes "implyrun") commands.Implyrun)
    else if bytes_eq name (codes "share") then Some (with_cells (codes "share") commands.Share)
    else if bytes_eq name (codes "bench") then Some bench_command
    else None

-- there is no word, no command has that name, the file that it takes is missing, or its command
-- line refuses the others
abbrev pub is_usage : List Text → Bool
is_usage [] = true
is_usage (name ∷ rest) = lacks_program (name ∷ rest)
    || option_map_or (λ command. refuses (others (name ∷ rest)) command.line) (cli name) true

-- the command that the words say, where they are not refused
abbrev pub command_said : List Text → Option Command
command_said [] = None
command_said (name ∷ rest) = option_and_then
    (λ command. command.said (matches_of command.line (others (name ∷ rest)))) (cli name)

-- the two command lines refuse the same words, and read the others alike
pub record ReadsAlike (a b : App) : Type 0 where
  pub simple : is_simple_and_free a ≡ true
  pub faults : (words : List Text) → fault_of a words ≡ fault_of b words
  pub matches : (words : List Text) → matches_of a words ≡ matches_of b words

-- the first word names a command of `pim`
abbrev pub names_command : List Text → Bool
names_command [] = false
names_command (name ∷ rest) = is_some (cli name)

-- the number of cells is at most that of a whole row, and the numbers of `bench` have 1 to 64 bits
abbrev pub IsWithin : Command → Type 0
IsWithin (commands.Compile target level cells) = cells ≤ MAX_CELLS
IsWithin (commands.Imply cells) = cells ≤ MAX_CELLS
IsWithin (commands.Share cells) = cells ≤ MAX_CELLS
IsWithin (commands.Bench bits) = (1 ≤ bits) × (bits ≤ 64)
IsWithin _ = Unit {0}

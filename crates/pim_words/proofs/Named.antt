-- From what one command line says of its words to what the words of any command come to.
use Rattle.std.proofs.Common.{◌≡◌, ◌∙◌, ◌||◌, Bool, List, [], ◌∷◌, ap, false, refl, subst, sym, true}
use Rattle.std.specs.Prelude.{IfOk, OnOk, Result, Some, if◌then◌else◌, not, option_and_then}
use Rattle.std.specs.Option.{option_map_or}
use Rattle.clap.specs.Walk.{is_empty}
use Rattle.clap.specs.Words.{App, Text, fault_of, matches_of, new_app}
use Rattle.pim_words.specs.Lines.{cells_line, explain_line, fill_line}
use Rattle.pim_words.specs.Program.{lacks_program, others, takes_program}
use Rattle.pim_words.specs.Reading.{KnownCommand, cli, command_said, is_usage, refuses, with_fill, without_options}
use Rattle.pim_words.specs.inner.Answer.{IsAnswer, IsReading}
use Rattle.pim_words.specs.declared.command.Command.{Command}
use Rattle.pim_words.specs.declared.command.FillWord.{FillWord}
use Rattle.pim_words.specs.declared.fault.WordsFault.{WordsFault}

-- the first word, which names the command, plays no part
pub record IgnoresFirst (line : App) : Type 0 where
  pub faults : (a b : Text) (words : List Text) → fault_of line (a ∷ words) ≡ fault_of line (b ∷ words)
  pub matches : (a b : Text) (words : List Text) → matches_of line (a ∷ words) ≡ matches_of line (b ∷ words)

no_options_ignores : (name : Text) → IgnoresFirst (new_app name)
no_options_ignores name = record { faults = λ a b words. refl; matches = λ a b words. refl }

pub cells_ignores : (name : Text) → IgnoresFirst (cells_line name)
cells_ignores name = record { faults = λ a b words. refl; matches = λ a b words. refl }

pub explain_ignores : IgnoresFirst explain_line
explain_ignores = record { faults = λ a b words. refl; matches = λ a b words. refl }

fill_ignores : (name : Text) → IgnoresFirst (fill_line name)
fill_ignores name = record { faults = λ a b words. refl; matches = λ a b words. refl }

module _ (b : KnownCommand) (name : Text) (r : Result Command WordsFault) where
  answer : (words read : List Text) → is_usage words ≡ refuses read b.line → command_said words ≡ b.said (matches_of b.line read) → IsReading b read r → IsAnswer words r
  answer words read refused said reading = record {
    usage = λ e. refused ∙ reading.usage e;
    accepted = subst (λ x. OnOk r (x ≡ false)) (sym refused) reading.accepted;
    value = subst (λ o. IfOk r (λ c. o ≡ Some c)) (sym said) reading.value;
    within = reading.within;
  }

  with_file : (rest : List Text) → cli name ≡ Some b → takes_program name ≡ true → IgnoresFirst b.line → lacks_program (name ∷ rest) ≡ false
      → IsReading b rest r → IsAnswer (name ∷ rest) r
  with_file [] is takes ignores lacks reading = let bad : true ≡ false = sym takes ∙ lacks in cc
  with_file (file ∷ rest) is takes ignores lacks reading =
      let words = name ∷ file ∷ rest in
      let without : others words ≡ name ∷ rest = ap (λ (t : Bool). if t then name ∷ rest else words) takes in
      answer words (file ∷ rest)
      (ap (λ o. option_map_or (λ (c : KnownCommand). refuses (others words) c.line) o true) is ∙ ap (λ ws. refuses ws b.line) without
      ∙ ap (λ k. not (is_empty k)) (ignores.faults name file rest))
      (ap (option_and_then (λ (c : KnownCommand). c.said (matches_of c.line (others words)))) is ∙ ap (λ ws. b.said (matches_of b.line ws)) without
      ∙ ap b.said (ignores.matches name file rest)) reading

  without_file : (rest : List Text) → cli name ≡ Some b → takes_program name ≡ false → IsReading b (name ∷ rest) r → IsAnswer (name ∷ rest) r
  without_file [] is takes reading = answer (name ∷ []) (name ∷ [])
      (ap (λ t. t || option_map_or (λ (c : KnownCommand). refuses (name ∷ []) c.line) (cli name) true) takes
      ∙ ap (λ o. option_map_or (λ (c : KnownCommand). refuses (name ∷ []) c.line) o true) is)
      (ap (option_and_then (λ (c : KnownCommand). c.said (matches_of c.line (name ∷ [])))) is) reading
  without_file (word ∷ rest) is takes reading =
      let words = name ∷ word ∷ rest in
      let whole : others words ≡ words = ap (λ (t : Bool). if t then name ∷ rest else words) takes in
      answer words words
      (ap (λ o. option_map_or (λ (c : KnownCommand). refuses (others words) c.line) o true) is ∙ ap (λ ws. refuses ws b.line) whole)
      (ap (option_and_then (λ (c : KnownCommand). c.said (matches_of c.line (others words)))) is ∙ ap (λ ws. b.said (matches_of b.line ws)) whole) reading

-- the words are those of this command
abbrev pub IsOf : Text → List Text → Text → List Text → Type 0
IsOf name words first rest = (words ≡ first ∷ rest) × (first ≡ name)

module _ (name : Text) (words rest : List Text) (first : Text) (r : Result Command WordsFault) (of : IsOf name words first rest) where
  begin : words ≡ name ∷ rest
  begin = of.0 ∙ ap (λ n. n ∷ rest) of.1

  -- a command that has a file
  pub filed : (b : KnownCommand) → cli name ≡ Some b → takes_program name ≡ true → IgnoresFirst b.line → lacks_program words ≡ false → IsReading b rest r → IsAnswer words r
  filed b is takes ignores lacks reading =
      subst (λ ws. IsAnswer ws r) (sym begin) (with_file b name r rest is takes ignores (subst (λ ws. lacks_program ws ≡ false) begin lacks) reading)

  -- a command that has a file and no option
  pub file_answer : (command : Command) → cli name ≡ Some (without_options name command) → takes_program name ≡ true → lacks_program words ≡ false
      → IsReading (without_options name command) rest r → IsAnswer words r
  file_answer command is takes lacks reading = filed (without_options name command) is takes (no_options_ignores name) lacks reading

  -- a command that has a file, and `--fill` as its one option
  pub fill_answer : (made : FillWord → Command) → cli name ≡ Some (with_fill name made) → takes_program name ≡ true → lacks_program words ≡ false
      → IsReading (with_fill name made) rest r → IsAnswer words r
  fill_answer made is takes lacks reading = filed (with_fill name made) is takes (fill_ignores name) lacks reading

  -- a command without a file
  pub input_answer : (b : KnownCommand) → cli name ≡ Some b → takes_program name ≡ false → IsReading b words r → IsAnswer words r
  input_answer b is takes reading =
      subst (λ ws. IsAnswer ws r) (sym begin) (without_file b name r rest is takes (subst (λ ws. IsReading b ws r) begin reading))

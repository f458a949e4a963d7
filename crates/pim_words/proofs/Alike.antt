-- A command line with its names moved refuses and reads as it did.
use Rattle.std.proofs.Common.{◌≡◌, ◌∙◌, List, [], sym, ap, ap₂, true}
use Rattle.std.specs.Prelude.{is_some}
use Rattle.clap.specs.Faults.{built_fault, entered_fault, fault_of, is_simple_and_free, level_fault}
use Rattle.clap.specs.Simple.{App, Shape, argument_words, built, entered, matches_of, names_of}
use Rattle.clap.specs.Walk.{Held, Row, Text, Walk, nothing_held, rows_after, walk}
use Rattle.pim_words.specs.Reading.{ReadsAlike}
use Rattle.pim_words.proofs.NamesFaults.{bare_shape, level_fault-bare}
use Rattle.pim_words.proofs.NamesWalk.{rows_after-bare, walk-bare}

abbrev leaf : Shape → App
leaf s = record { top = s; subs = [] }

-- b is a with its names moved to one place, and neither has a subcommand
pub record IsBareOf (a b : App) : Type 0 where
  pub shape : Shape
  pub from : built a ≡ record { top = shape; subs = [] }
  pub to : built b ≡ record { top = bare_shape shape; subs = [] }
  pub words : (ws : List Text) → argument_words b ws ≡ argument_words a ws

leaf_fault-bare : (s : Shape) (h : Held) (words : List Text) → built_fault (leaf (bare_shape s)) h words ≡ built_fault (leaf s) h words
leaf_fault-bare s h words =
    let fails = λ (w : Walk). level_fault (bare_shape s) [] h words (is_some (entered (leaf s) w.stopped)) (entered_fault (leaf s) w.stopped) in
    let w = walk s.rules [] h words in
    ap fails (walk-bare s.rules [] h words) ∙ level_fault-bare s [] h words (is_some (entered (leaf s) w.stopped)) (entered_fault (leaf s) w.stopped)

abbrev rows_after_of : App → List Text → List Row
rows_after_of x words = rows_after x.top.rules (names_of x) words

fault_of-bare : (a b : App) → IsBareOf a b → (words : List Text) → fault_of a words ≡ fault_of b words
fault_of-bare a b bare words =
    ap (λ x. built_fault x nothing_held (argument_words a words)) bare.from
    ∙ sym (ap₂ (λ x ws. built_fault x nothing_held ws) bare.to (bare.words words) ∙ leaf_fault-bare bare.shape nothing_held (argument_words a words))

matches_of-bare : (a b : App) → IsBareOf a b → (words : List Text) → matches_of a words ≡ matches_of b words
matches_of-bare a b bare words =
    ap (λ x. rows_after_of x (argument_words a words)) bare.from
    ∙ sym (ap₂ rows_after_of bare.to (bare.words words) ∙ rows_after-bare bare.shape.rules [] (argument_words a words))

pub reads_alike : (a b c : App) → is_simple_and_free a ≡ true → IsBareOf a b → b ≡ c → ReadsAlike a c
reads_alike a b c simple bare is = record {
  simple = simple;
  faults = λ words. fault_of-bare a b bare words ∙ ap (λ x. fault_of x words) is;
  matches = λ words. matches_of-bare a b bare words ∙ ap (λ x. matches_of x words) is;
}

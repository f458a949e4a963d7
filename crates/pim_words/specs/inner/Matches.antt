-- Inner: what a command reads of its matches.
use Rattle.std.specs.Prelude.{◌≡◌, ◌≤◌, ℕ, Some, codes}
use Rattle.std.specs.Str.Parse.{IsNumeral, digits_value, without_leading_plus}
use Rattle.clap.specs.Words.{found_of, one_text, Text}
use Rattle.clap.specs.declared.parser.matches.ArgMatches.{ArgMatches}
use Rattle.pim_words.specs.declared.limits.TheConstants.{MAX_CELLS}

-- the argument of this name has a number, from `low` to `high`
pub record HasNumber (name : Text) (low high : ℕ) (m : ArgMatches) : Type 0 where
  pub text : Text
  pub is_value : one_text (found_of m) name ≡ Some text
  pub is_number : IsNumeral 10 (without_leading_plus text)
  pub least : low ≤ digits_value 10 (without_leading_plus text)
  pub most : digits_value 10 (without_leading_plus text) ≤ high

-- there is a number after `--cells`, at most the cells of a whole row
abbrev pub HasCells : ArgMatches → Type 0
HasCells = HasNumber (codes "cells") 0 MAX_CELLS

-- there is a number of bits, from 1 to 64
abbrev pub HasBits : ArgMatches → Type 0
HasBits = HasNumber (codes "bits") 1 64

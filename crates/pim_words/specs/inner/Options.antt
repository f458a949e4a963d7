-- Inner: an option of a command line, as `clap` holds it.
use Rattle.std.specs.Prelude.{◌≡◌, ◌≤◌, false, None}
use Rattle.clap.specs.Facts.{least_values}
use Rattle.clap.specs.Words.{IsPlainArg, Rule, rule_of}
use Rattle.clap.specs.declared.builder.arg.Arg.{Arg}

-- the argument has the rule, stands for itself alone, and each use of it has a value
pub record HasRule (rule : Rule) (a : Arg) : Type 0 where
  pub reads : rule_of a ≡ rule
  pub plain : IsPlainArg a
  pub local : a.global ≡ false
  pub undivided : a.val_delim ≡ None
  pub filled : 1 ≤ least_values a

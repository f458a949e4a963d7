-- The command line of each command, as `clap` reads it.
use Rattle.std.specs.Prelude.{List, [], ◌∷◌, Some, map, pos, codes, true}
use Rattle.std.specs.Borrow.{Bor}
use Rattle.clap.specs.Words.{App, Rule, Text, new_app, new_rule, with_rule}
use Rattle.clap.specs.declared.builder.action.ArgAction.TheVariants.{Set, SetTrue}
use Rattle.clap.specs.declared.builder.value_parser.ValueParser.{ValueParser}
use Rattle.clap.specs.declared.builder.value_parser.ValueParser.TheVariants as vp
use Rattle.pim_words.specs.declared.limits.TheConstants.{MAX_CELLS}

-- a reference to x; where it points plays no part in what is read
abbrev pub lent : {X : Type 0} → X → Bor X
lent x = record { ref_ptr = (0, 0); now = x }

-- the value is one of these names
abbrev pub one_of_names : List Text → ValueParser
one_of_names names = vp.Names (lent (map lent names))

-- a word without a name, which is a value
abbrev pub argument_of : Text → ValueParser → Rule
argument_of name parser =
    record (new_rule name) { action = Some Set; parser = Some parser }

-- the option `--name`, which has one value
abbrev pub option_of : Text → ValueParser → Rule
option_of name parser = record (argument_of name parser) { long = Some name }

-- the same argument or option, which may not be missing
abbrev pub required : Rule → Rule
required a = record a { required = true }

-- the same argument or option, which has this value where it is missing
abbrev pub with_default_text : Text → Rule → Rule
with_default_text text a = record a { defaults = text ∷ [] }

-- `--cells N`, with N from 0 to the cells of a whole row
abbrev pub cells_rule : Rule
cells_rule = required (option_of (codes "cells") (vp.Signed (pos 0) (pos MAX_CELLS)))

-- `compile`, by what its `--target` and its `--level` take
abbrev pub compile_by : ValueParser → ValueParser → App
compile_by targets levels =
    with_rule
    (with_rule
    (with_rule (new_app (codes "compile")) (required (option_of (codes "target") targets)))
    cells_rule)
    (with_default_text (codes "0") (option_of (codes "level") levels))

-- `compile --target magic|plim --cells N [--level 0|1|2]`
abbrev pub compile_line : App
compile_line =
    compile_by (one_of_names (codes "magic" ∷ codes "plim" ∷ []))
    (one_of_names (codes "0" ∷ codes "1" ∷ codes "2" ∷ []))

-- a command with `--cells N` and nothing else
abbrev pub cells_line : Text → App
cells_line name = with_rule (new_app name) cells_rule

-- a command whose one option is `--fill`, by what that takes
abbrev pub fill_by : Text → ValueParser → App
fill_by name fills =
    with_rule (new_app name) (with_default_text (codes "zeros") (option_of (codes "fill") fills))

-- a command with `[--fill zeros|ones]` and nothing else, where no `--fill` is `--fill zeros`
abbrev pub fill_line : Text → App
fill_line name = fill_by name (one_of_names (codes "zeros" ∷ codes "ones" ∷ []))

-- `convert`, by what its `--form` takes
abbrev pub convert_by : ValueParser → App
convert_by forms = with_rule (new_app (codes "convert")) (required (option_of (codes "form") forms))

-- `convert --form 1|2`
abbrev pub convert_line : App
convert_line = convert_by (one_of_names (codes "1" ∷ codes "2" ∷ []))

-- the flag `--tree`, which has no value
abbrev pub tree_rule : Rule
tree_rule =
    record (new_rule (codes "tree")) { long = Some (codes "tree"); action = Some SetTrue }

-- `explain [--tree]`
abbrev pub explain_line : App
explain_line = with_rule (new_app (codes "explain")) tree_rule

-- a number from 1 to 64
abbrev pub bits_rule : Rule
bits_rule = required (argument_of (codes "bits") (vp.Signed (pos 1) (pos 64)))

-- `bench N`, with N from 1 to 64
abbrev pub bench_line : App
bench_line = with_rule (new_app (codes "bench")) bits_rule

use Rattle.std.proofs.Common.{◌∙◌, ap, ap₂, codes, map, option_map}
use Rattle.std.specs.String.{string_bytes}
use Rattle.clap.specs.Words.{app_of, first_of, first_value, found_of, matches_of}
use Rattle.pim_words.specs.Lines.{compile_line}
use Rattle.pim_words.specs.Reading.{cells_of, compile_command, level_of, number_of, target_of}
use Rattle.pim_words.specs.declared.command.Command.TheVariants as commands
use Rattle.pim_words.proofs.Answered.{error_read, first_alike, matches_read, one_alike}
use Rattle.pim_words.proofs.compiling.read_compile.Goals as goal

pub returns-in_err-matches : goal.returns-in_err-matches
returns-in_err-matches c = error_read compile_command (app_of c.in_ok-line.line) (map string_bytes c.args.words.now) c.in_err-matches.field-0.0 _
    c.in_ok-line.ensures.alike c.in_err-matches.ensures.kinds c.from_residual-in_err-matches.ensures.1

pub returns : goal.returns
returns c =
    let app = app_of c.in_ok-line.line in
    let words = map string_bytes c.args.words.now in
    let alike = c.in_ok-line.ensures.alike in
    let has = c.in_ok-matches.ensures.matches in
    matches_read compile_command app words _ alike c.in_ok-matches.ensures.kinds
    (ap (λ t. option_map (commands.Compile (target_of t) (level_of (first_of (codes "level") (matches_of compile_line words)))) (cells_of (matches_of compile_line words)))
    (first_alike app compile_line words c.in_ok-matches.matches (codes "target") alike has)
    ∙ ap₂ (λ l o. option_map (commands.Compile (target_of (first_value (found_of c.in_ok-matches.matches) (codes "target"))) (level_of l)) (option_map number_of o))
    (first_alike app compile_line words c.in_ok-matches.matches (codes "level") alike has)
    (one_alike app compile_line words c.in_ok-matches.matches (codes "cells") alike has) ∙ c.compile_of.ensures.said)
    c.compile_of.ensures.within

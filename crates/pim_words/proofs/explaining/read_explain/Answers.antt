use Rattle.std.proofs.Common.{◌∙◌, ap, codes, map, sym, Some}
use Rattle.std.specs.String.{string_bytes}
use Rattle.clap.specs.Words.{app_of}
use Rattle.pim_words.specs.Lines.{explain_line}
use Rattle.pim_words.specs.Reading.{explain_command, tree_of}
use Rattle.pim_words.specs.declared.command.Command.TheVariants as commands
use Rattle.pim_words.proofs.Answered.{error_read, first_alike, matches_read}
use Rattle.pim_words.proofs.explaining.read_explain.Goals as goal

pub returns-in_err-matches : goal.returns-in_err-matches
returns-in_err-matches c = error_read explain_command (app_of c.in_ok-line.line) (map string_bytes c.args.words.now) c.in_err-matches.field-0.0 _
    c.in_ok-line.ensures c.in_err-matches.ensures.kinds c.from_residual-in_err-matches.ensures.1

pub returns : goal.returns
returns c =
    let app = app_of c.in_ok-line.line in
    let words = map string_bytes c.args.words.now in
    let alike = c.in_ok-line.ensures in
    matches_read explain_command app words _ alike c.in_ok-matches.ensures.kinds
    (ap (λ t. Some (commands.Explain t)) (ap tree_of (first_alike app explain_line words c.in_ok-matches.matches (codes "tree") alike c.in_ok-matches.ensures.matches)
    ∙ sym c.tree_of-tree.ensures)) tt

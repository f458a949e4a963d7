use Rattle.std.proofs.Common.{◌∙◌, ap, codes, map, sym, Some}
use Rattle.std.specs.String.{string_bytes}
use Rattle.clap.specs.Words.{app_of}
use Rattle.pim_words.specs.Lines.{convert_line}
use Rattle.pim_words.specs.Reading.{convert_command, form_of}
use Rattle.pim_words.specs.declared.command.Command.TheVariants as commands
use Rattle.pim_words.proofs.Answered.{error_read, first_alike, matches_read}
use Rattle.pim_words.proofs.converting.read_convert.Goals as goal

pub returns-in_err-matches : goal.returns-in_err-matches
returns-in_err-matches c = error_read convert_command (app_of c.in_ok-line.line) (map string_bytes c.args.words.now) c.in_err-matches.field-0.0 _
    c.in_ok-line.ensures c.in_err-matches.ensures.kinds c.from_residual-in_err-matches.ensures.1

pub returns : goal.returns
returns c =
    let app = app_of c.in_ok-line.line in
    let words = map string_bytes c.args.words.now in
    let alike = c.in_ok-line.ensures in
    matches_read convert_command app words _ alike c.in_ok-matches.ensures.kinds
    (ap (λ f. Some (commands.Convert f)) (ap form_of (first_alike app convert_line words c.in_ok-matches.matches (codes "form") alike c.in_ok-matches.ensures.matches)
    ∙ sym c.form_of-form.ensures)) tt

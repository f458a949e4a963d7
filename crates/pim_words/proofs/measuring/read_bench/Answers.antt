use Rattle.std.proofs.Common.{◌∙◌, ap, codes, map, option_map}
use Rattle.std.specs.String.{string_bytes}
use Rattle.clap.specs.Words.{app_of}
use Rattle.pim_words.specs.Lines.{bench_line}
use Rattle.pim_words.specs.Reading.{bench_command, number_of}
use Rattle.pim_words.specs.declared.command.Command.TheVariants as commands
use Rattle.pim_words.proofs.Answered.{error_read, matches_read, one_alike}
use Rattle.pim_words.proofs.measuring.read_bench.Goals as goal

pub returns-in_err-matches : goal.returns-in_err-matches
returns-in_err-matches c = error_read bench_command (app_of c.in_ok-line.line) (map string_bytes c.args.words.now) c.in_err-matches.field-0.0 _
    c.in_ok-line.ensures.alike c.in_err-matches.ensures.kinds c.from_residual-in_err-matches.ensures.1

pub returns : goal.returns
returns c =
    let app = app_of c.in_ok-line.line in
    let words = map string_bytes c.args.words.now in
    let alike = c.in_ok-line.ensures.alike in
    matches_read bench_command app words _ alike c.in_ok-matches.ensures.kinds
    (ap (λ o. option_map commands.Bench (option_map number_of o)) (one_alike app bench_line words c.in_ok-matches.matches (codes "bits") alike c.in_ok-matches.ensures.matches)
    ∙ ap (option_map commands.Bench) c.bits_of-bits.ensures.said) (c.bits_of-bits.ensures.least, c.bits_of-bits.ensures.most)

use Rattle.std.proofs.Common.{◌∙◌, ap, codes, map, subst, sym}
use Rattle.std.specs.Prelude.{IsErrAnd, Result}
use Rattle.std.specs.String.{string_bytes}
use Rattle.clap.specs.Words.{app_of}
use Rattle.pim_words.specs.Lines.{fill_line}
use Rattle.pim_words.specs.Reading.{fill_of}
use Rattle.pim_words.specs.Refusal.{IsFaultOf}
use Rattle.pim_words.specs.declared.command.FillWord.{FillWord}
use Rattle.pim_words.specs.declared.fault.WordsFault.{WordsFault}
use Rattle.pim_words.proofs.Answered.{first_alike, refused}
use Rattle.pim_words.proofs.filling.read_fill.Goals as goal

pub returns-in_err-matches-clause-usage : goal.returns-in_err-matches-clause-usage
returns-in_err-matches-clause-usage c = λ usage.
    let error = c.in_err-matches.field-0.0 in
    refused (app_of c.in_ok-line.line) (fill_line c.args.name.now) (map string_bytes c.args.words.now) error c.in_ok-line.ensures c.in_err-matches.ensures.kinds
    (subst (λ (r : Result FillWord WordsFault). IsErrAnd r (IsFaultOf error)) usage c.from_residual-in_err-matches.ensures.1)

pub returns-clause-value : goal.returns-clause-value
returns-clause-value c = c.fill_of.ensures
    ∙ sym (ap fill_of (first_alike (app_of c.in_ok-line.line) (fill_line c.args.name.now) (map string_bytes c.args.words.now) c.in_ok-matches.matches (codes "fill")
    c.in_ok-line.ensures c.in_ok-matches.ensures.matches))

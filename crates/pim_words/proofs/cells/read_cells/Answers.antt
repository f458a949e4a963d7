use Rattle.std.proofs.Common.{◌∙◌, ap, codes, map, option_map, subst}
use Rattle.std.specs.Prelude.{ℕ, IsErrAnd, Result}
use Rattle.std.specs.String.{string_bytes}
use Rattle.clap.specs.Words.{app_of}
use Rattle.pim_words.specs.Lines.{cells_line}
use Rattle.pim_words.specs.Reading.{number_of}
use Rattle.pim_words.specs.Refusal.{IsFaultOf}
use Rattle.pim_words.specs.declared.fault.WordsFault.{WordsFault}
use Rattle.pim_words.proofs.Answered.{one_alike, refused}
use Rattle.pim_words.proofs.cells.read_cells.Goals as goal

pub returns-in_err-matches-clause-usage : goal.returns-in_err-matches-clause-usage
returns-in_err-matches-clause-usage c = λ usage.
    let error = c.in_err-matches.field-0.0 in
    refused (app_of c.in_ok-line.line) (cells_line c.args.name.now) (map string_bytes c.args.words.now) error c.in_ok-line.ensures.alike c.in_err-matches.ensures.kinds
    (subst (λ (r : Result ℕ WordsFault). IsErrAnd r (IsFaultOf error)) usage c.from_residual-in_err-matches.ensures.1)

pub returns-clause-value : goal.returns-clause-value
returns-clause-value c = ap (option_map number_of)
    (one_alike (app_of c.in_ok-line.line) (cells_line c.args.name.now) (map string_bytes c.args.words.now) c.in_ok-matches.matches (codes "cells")
    c.in_ok-line.ensures.alike c.in_ok-matches.ensures.matches) ∙ c.cells_of.ensures.said

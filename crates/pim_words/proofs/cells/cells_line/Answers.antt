use Rattle.std.proofs.Common.{◌∙◌, ap₂, refl}
use Rattle.std.proofs.lemmas.Result.{IfOk-weaker}
use Rattle.clap.specs.Words.{app_of, with_rule}
use Rattle.pim_words.specs.Lines.{cells_line}
use Rattle.pim_words.proofs.ChoiceLines.{same_alike}
use Rattle.pim_words.proofs.NumberLines.{cells_given}
use Rattle.pim_words.proofs.cells.cells_line.Goals as goal

pub returns-clause-alike : goal.returns-clause-alike
returns-clause-alike c = IfOk-weaker c.arg.result _ _ (λ line added.
    same_alike (app_of line) (cells_line c.args.name.now) refl (added.shape c.cells_option.ensures.local ∙ ap₂ with_rule c.new.ensures.app c.cells_option.ensures.reads)) c.arg.ensures

pub returns-clause-cells : goal.returns-clause-cells
returns-clause-cells c = IfOk-weaker c.arg.result _ _ (λ line added.
    cells_given c.new.result line c.cells_option.result added c.new.ensures.empty.0 c.new.ensures.empty.1 c.new.ensures.local c.new.ensures.negates
    c.cells_option.ensures) c.arg.ensures

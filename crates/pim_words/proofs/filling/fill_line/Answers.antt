use Rattle.std.proofs.Common.{rules, ◌≡◌, ◌∙◌, ap₂, codes, subst, sym}
use Rattle.std.proofs.lemmas.Result.{IfOk-weaker}
use Rattle.clap.specs.Words.{App, app_of, with_rule}
use Rattle.clap.specs.declared.builder.value_parser.ValueParser.TheVariants as vp
use Rattle.pim_words.specs.Lines.{fill_by, fill_line, option_of}
use Rattle.pim_words.specs.Reading.{ReadsAlike}
use Rattle.pim_words.proofs.ChoiceLines.{fill_alike}
use Rattle.pim_words.proofs.OptionRules.{with_default}
use Rattle.pim_words.proofs.filling.fill_line.Goals as goal

pub returns : goal.returns
returns c =
    let name = c.args.name.now in
    let fills = c.as_slice.result in
    let has = with_default (option_of (codes "fill") (vp.Names fills)) c.choice_of.result c.default_value-fill.result _ c.choice_of.ensures c.default_value-fill.ensures in
    IfOk-weaker c.arg.result _ _ (λ line added.
    let is : app_of line ≡ fill_by name (vp.Names fills) = added.shape has.local ∙ ap₂ with_rule c.new.ensures.app has.reads in
    subst (λ (a : App). ReadsAlike a (fill_line name)) (sym is) (fill_alike name fills (search rules))) c.arg.ensures

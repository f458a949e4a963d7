use Rattle.std.proofs.Common.{rules, ◌≡◌, ◌∙◌, ap₂, codes, subst, sym}
use Rattle.std.proofs.lemmas.Result.{IfOk-weaker}
use Rattle.clap.specs.Words.{App, app_of, with_rule}
use Rattle.clap.specs.declared.builder.value_parser.ValueParser.TheVariants as vp
use Rattle.pim_words.specs.Lines.{convert_by, convert_line, option_of}
use Rattle.pim_words.specs.Reading.{ReadsAlike}
use Rattle.pim_words.proofs.ChoiceLines.{convert_alike}
use Rattle.pim_words.proofs.OptionRules.{with_required}
use Rattle.pim_words.proofs.converting.convert_line.Goals as goal

pub returns : goal.returns
returns c =
    let forms = c.as_slice.result in
    let has = with_required (option_of (codes "form") (vp.Names forms)) c.choice_of.result c.required-form.result c.choice_of.ensures c.required-form.ensures in
    IfOk-weaker c.arg.result _ _ (λ line added.
    let is : app_of line ≡ convert_by (vp.Names forms) = added.shape has.local ∙ ap₂ with_rule c.new.ensures.app has.reads in
    subst (λ (a : App). ReadsAlike a convert_line) (sym is) (convert_alike forms (search rules))) c.arg.ensures

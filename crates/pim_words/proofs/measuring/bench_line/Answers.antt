use Rattle.std.proofs.Common.{rules, ◌≡◌, ◌∙◌, ap₂, codes, pos, refl, subst}
use Rattle.std.proofs.lemmas.Result.{IfOk-weaker}
use Rattle.clap.specs.Words.{app_of, with_rule}
use Rattle.clap.specs.declared.builder.value_parser.ValueParser.TheVariants as vp
use Rattle.pim_words.specs.Lines.{argument_of, bench_line, bits_rule}
use Rattle.pim_words.specs.inner.Options.{HasRule}
use Rattle.pim_words.proofs.ChoiceLines.{same_alike}
use Rattle.pim_words.proofs.NumberLines.{bits_given}
use Rattle.pim_words.proofs.OptionRules.{with_required}
use Rattle.pim_words.proofs.measuring.bench_line.Goals as goal

bits_has : (c : goal.After-arg) → HasRule bits_rule c.required-bits.result
bits_has c =
    let bounds : c.range-number.result ≡ vp.Signed (pos 1) (pos 64) = search rules in
    with_required _ c.argument_of.result c.required-bits.result
    (subst (λ p. HasRule (argument_of (codes "bits") p) c.argument_of.result) bounds c.argument_of.ensures) c.required-bits.ensures

pub returns-clause-alike : goal.returns-clause-alike
returns-clause-alike c = IfOk-weaker c.arg.result _ _ (λ line added.
    same_alike (app_of line) bench_line refl (added.shape (bits_has c).local ∙ ap₂ with_rule c.new-2.ensures.app (bits_has c).reads)) c.arg.ensures

pub returns-clause-bits : goal.returns-clause-bits
returns-clause-bits c = IfOk-weaker c.arg.result _ _ (λ line added.
    bits_given c.new-2.result line c.required-bits.result added c.new-2.ensures.empty.0 c.new-2.ensures.empty.1 c.new-2.ensures.local c.new-2.ensures.negates
    (bits_has c)) c.arg.ensures

use Rattle.std.proofs.Common.{rules, ◌≡◌, codes, pos, subst}
use Rattle.clap.specs.declared.builder.value_parser.ValueParser.TheVariants as vp
use Rattle.pim_words.specs.declared.limits.TheConstants.{MAX_CELLS}
use Rattle.pim_words.specs.Lines.{option_of}
use Rattle.pim_words.specs.inner.Options.{HasRule}
use Rattle.pim_words.proofs.OptionRules.{with_required}
use Rattle.pim_words.proofs.options.cells_option.Goals as goal

pub returns : goal.returns
returns c =
    let bounds : c.range-number.result ≡ vp.Signed (pos 0) (pos MAX_CELLS) = search rules in
    with_required _ c.option_of.result c.required.result
    (subst (λ p. HasRule (option_of (codes "cells") p) c.option_of.result) bounds c.option_of.ensures) c.required.ensures

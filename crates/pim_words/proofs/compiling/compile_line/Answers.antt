use Rattle.std.proofs.Common.{rules, subst, sym}
use Rattle.std.proofs.lemmas.Result.{IfOk-weaker}
use Rattle.clap.specs.Words.{App}
use Rattle.clap.specs.declared.builder.value_parser.ValueParser.TheVariants as vp
use Rattle.pim_words.specs.Lines.{compile_line}
use Rattle.pim_words.specs.inner.Options.{HasRule}
use Rattle.pim_words.specs.Reading.{ReadsAlike}
use Rattle.pim_words.proofs.CompileLine.{cells_read, compile_alike, level_rule, line_is, target_rule}
use Rattle.pim_words.proofs.OptionRules.{with_default, with_required}
use Rattle.pim_words.proofs.compiling.compile_line.Goals as goal

target_has : (c : goal.After-arg-3) → HasRule (target_rule (vp.Names c.as_slice.result)) c.required-target.result
target_has c = with_required _ c.choice_of.result c.required-target.result c.choice_of.ensures c.required-target.ensures

level_has : (c : goal.After-arg-3) → HasRule (level_rule (vp.Names c.as_slice-2.result)) c.default_value-level.result
level_has c = with_default _ c.choice_of-2.result c.default_value-level.result _ c.choice_of-2.ensures c.default_value-level.ensures

pub returns-clause-alike : goal.returns-clause-alike
returns-clause-alike c = IfOk-weaker c.arg-3.result _ _ (λ line added.
    subst (λ (a : App). ReadsAlike a compile_line)
    (sym (line_is c.new.result c.in_ok-arg.field-0 c.in_ok-arg-2.field-0 line _ _ _ _ _ c.in_ok-arg.ensures c.in_ok-arg-2.ensures added
    c.new.ensures.app (target_has c) c.cells_option-cells.ensures (level_has c)))
    (compile_alike c.as_slice.result c.as_slice-2.result (search rules) (search rules))) c.arg-3.ensures

pub returns-clause-cells : goal.returns-clause-cells
returns-clause-cells c = IfOk-weaker c.arg-3.result _ _ (λ line added.
    cells_read c.new.result c.in_ok-arg.field-0 c.in_ok-arg-2.field-0 line _ _ _ _ _ c.in_ok-arg.ensures c.in_ok-arg-2.ensures added
    c.new.ensures.empty.0 c.new.ensures.empty.1 c.new.ensures.local c.new.ensures.negates (target_has c) c.cells_option-cells.ensures (level_has c)) c.arg-3.ensures

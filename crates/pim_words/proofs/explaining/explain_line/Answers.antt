use Rattle.std.proofs.Common.{rules, ◌≡◌, ◌∙◌, ap₂, refl}
use Rattle.std.proofs.lemmas.Result.{IfOk-weaker}
use Rattle.clap.specs.Words.{app_of, rule_of, with_rule}
use Rattle.pim_words.specs.Lines.{explain_line, tree_rule}
use Rattle.pim_words.proofs.ChoiceLines.{same_alike}
use Rattle.pim_words.proofs.explaining.explain_line.Goals as goal

pub returns : goal.returns
returns c =
    let rule_is : rule_of c.action-tree.result ≡ tree_rule = search rules in
    IfOk-weaker c.arg.result _ _ (λ line added.
    same_alike (app_of line) explain_line refl (added.shape (search rules) ∙ ap₂ with_rule c.new-2.ensures.app rule_is)) c.arg.ensures

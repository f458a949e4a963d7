use Rattle.std.proofs.Common.{◌≡◌, ◌∙◌, ◌≤◌, Some, ap, subst, sym, arith}
use Rattle.clap.specs.Facts.{least_values}
use Rattle.clap.specs.Walk.{Rule, rule_of}
use Rattle.clap.specs.Words.{IsPlainArg}
use Rattle.clap.specs.declared.builder.action.ArgAction.TheVariants.{Set}
use Rattle.clap.specs.declared.builder.arg.Arg.{Arg}
use Rattle.pim_words.proofs.options.argument_of.Goals as goal

pub returns : goal.returns
returns c =
    let parser = c.args.parser in
    let given = c.value_parser.ensures.given in
    let parser_is : c.value_parser.result.value_parser ≡ Some parser = given.1 ∙ ap Some given.2 in
    let parsed : c.value_parser.result ≡ record c.action.result { value_parser = Some parser } =
    c.value_parser.ensures.others ∙ ap (λ p. record c.action.result { value_parser = p }) parser_is in
    let is : c.value_parser.result ≡ record c.new.result { action = Some Set; value_parser = Some parser } =
    parsed ∙ ap (λ (a : Arg). record a { value_parser = Some parser }) c.action.ensures in
    record {
      reads = ap rule_of is ∙ ap (λ (r : Rule). record r { action = Some Set; parser = Some parser }) c.new.ensures.rule;
      plain = subst IsPlainArg (sym is) c.new.ensures.plain;
      local = ap (λ (a : Arg). a.global) is ∙ c.new.ensures.optional.1;
      undivided = ap (λ (a : Arg). a.val_delim) is ∙ c.new.ensures.values.0;
      filled = subst (λ (a : Arg). 1 ≤ least_values a) (sym is) (rw c.new.ensures.values.1 (omega arith));
    }

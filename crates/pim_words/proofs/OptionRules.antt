-- What a setting of an option makes of its rule.
use Rattle.std.proofs.Common.{◌≡◌, ◌∙◌, ◌≤◌, sym, ap, ap₂, subst, true}
use Rattle.std.specs.Prelude.{Some}
use Rattle.std.specs.Borrow.{Bor}
use Rattle.clap.specs.Built.{IsPlainArg}
use Rattle.clap.specs.Facts.{least_values}
use Rattle.clap.specs.Walk.{Rule, Text, rule_of}
use Rattle.clap.specs.declared.builder.arg.Arg.{Arg}
use Rattle.clap.specs.declared.builder.value_parser.ValueParser.{ValueParser}
use Rattle.clap.specs.declared.builder.texts.Texts.TheVariants.{One}
use Rattle.pim_words.specs.Lines.{argument_of, option_of, required, with_default_text}
use Rattle.pim_words.specs.inner.Options.{HasRule}

pub with_required : (r : Rule) (o a : Arg) → HasRule r o → a ≡ record o { required = true } → HasRule (required r) a
with_required r o a has is = record {
  reads = ap rule_of is ∙ ap required has.reads;
  plain = subst IsPlainArg (sym is) has.plain;
  local = ap (λ (x : Arg). x.global) is ∙ has.local;
  undivided = ap (λ (x : Arg). x.val_delim) is ∙ has.undivided;
  filled = subst (λ (x : Arg). 1 ≤ least_values x) (sym is) has.filled;
}

pub with_long : (name : Text) (parser : ValueParser) (o a : Arg) (text : Bor Text) → HasRule (argument_of name parser) o → text.now ≡ name → a ≡ record o { long = Some text }
    → HasRule (option_of name parser) a
with_long name parser o a text has named is = record {
  reads = ap rule_of is ∙ ap₂ (λ (r : Rule) (t : Text). record r { long = Some t }) has.reads named;
  plain = subst IsPlainArg (sym is) has.plain;
  local = ap (λ (x : Arg). x.global) is ∙ has.local;
  undivided = ap (λ (x : Arg). x.val_delim) is ∙ has.undivided;
  filled = subst (λ (x : Arg). 1 ≤ least_values x) (sym is) has.filled;
}

pub with_default : (r : Rule) (o a : Arg) (text : Bor Text) → HasRule r o → a ≡ record o { default_vals = One text } → HasRule (with_default_text text.now r) a
with_default r o a text has is = record {
  reads = ap rule_of is ∙ ap (with_default_text text.now) has.reads;
  plain = subst IsPlainArg (sym is) has.plain;
  local = ap (λ (x : Arg). x.global) is ∙ has.local;
  undivided = ap (λ (x : Arg). x.val_delim) is ∙ has.undivided;
  filled = subst (λ (x : Arg). 1 ≤ least_values x) (sym is) has.filled;
}

use Rattle.std.proofs.Common.{sym, ◌∙◌}
use Rattle.pim_file.proofs.FormLaws.{gives_binary, gives_text_form}
use Rattle.pim_file.proofs.parsing.either.Goals as goal

pub returns-then-has_tag : goal.returns-then-has_tag
returns-then-has_tag c = gives_binary c.args.bytes.now c.parse_binary.result (sym c.has_tag.ensures.tag ∙ c.if-has_tag.true) c.parse_binary.ensures

pub returns-else-has_tag : goal.returns-else-has_tag
returns-else-has_tag c = gives_text_form c.args.bytes.now c.parse_text.result (sym c.has_tag.ensures.tag ∙ c.if-has_tag.false) c.parse_text.ensures.exact

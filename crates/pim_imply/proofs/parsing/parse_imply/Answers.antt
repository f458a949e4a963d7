use Rattle.pim_imply.proofs.TextLaws.{draft_of-iff, gives_text}
use Rattle.pim_imply.proofs.parsing.parse_imply.Goals as goal

pub returns-clause-draft : goal.returns-clause-draft
returns-clause-draft c = draft_of-iff c.line_laws.ensures.one c.line_laws.ensures.read c.text_laws.ensures c.args.bytes.now

pub returns-clause-spelled : goal.returns-clause-spelled
returns-clause-spelled c = gives_text c.line_laws.ensures.one c.text_laws.ensures c.args.bytes.now c.validated.result c.validated.ensures

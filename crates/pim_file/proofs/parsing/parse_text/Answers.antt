use Rattle.pim_file.proofs.Laws.{draft_of-iff, gives_text}
use Rattle.pim_file.proofs.RightLemmas.{wrong_line-parse1_of, is_truncated-parse1_of}
use Rattle.pim_file.proofs.parsing.parse_text.Goals as goal

pub returns-clause-spelled : goal.returns-clause-spelled
returns-clause-spelled c = gives_text c.line_laws.ensures.one c.text_laws.ensures c.args.bytes.now c.validated.result c.validated.ensures

pub returns-clause-draft : goal.returns-clause-draft
returns-clause-draft c = draft_of-iff c.line_laws.ensures.one c.line_laws.ensures.read c.text_laws.ensures c.args.bytes.now

pub returns-clause-line : goal.returns-clause-line
returns-clause-line c = wrong_line-parse1_of c.line_laws.ensures.one c.args.bytes.now

pub returns-clause-truncated : goal.returns-clause-truncated
returns-clause-truncated c = is_truncated-parse1_of c.line_laws.ensures.one c.args.bytes.now

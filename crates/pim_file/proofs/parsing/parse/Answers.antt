use Rattle.pim_file.proofs.FormLaws.{spelling_is, spelling_is_read, draft2_of-iff}
use Rattle.pim_file.proofs.parsing.parse.Goals as goal

pub returns-clause-read : goal.returns-clause-read
returns-clause-read c = spelling_is_read c.line_laws.ensures.read c.line_laws.ensures.program c.text_laws.ensures c.args.bytes.now

pub returns-clause-spelled : goal.returns-clause-spelled
returns-clause-spelled c = spelling_is c.line_laws.ensures.one c.text_laws.ensures c.args.bytes.now

pub returns-clause-draft : goal.returns-clause-draft
returns-clause-draft c = draft2_of-iff c.args.bytes.now

use Rattle.std.proofs.Common.{map}
use Rattle.std.specs.String.{string_bytes}
use Rattle.pim_words.proofs.PlainWords.{plain_answer}
use Rattle.pim_words.proofs.reading.read.Goals as goal

pub returns-clause-plain : goal.returns-clause-plain
returns-clause-plain c = plain_answer c.read_named.result (map string_bytes c.args.words.now) c.read_named.ensures.answer.usage c.read_named.ensures.answer.value

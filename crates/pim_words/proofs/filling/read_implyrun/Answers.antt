use Rattle.std.proofs.Common.{ap, codes, map, Err}
use Rattle.std.specs.String.{string_bytes}
use Rattle.pim_words.specs.Reading.{with_fill}
use Rattle.pim_words.specs.declared.command.Command.TheVariants as commands
use Rattle.pim_words.proofs.Answered.{fault_read}
use Rattle.pim_words.proofs.filling.read_implyrun.Goals as goal

pub returns-in_err-fill : goal.returns-in_err-fill
returns-in_err-fill c = fault_read (with_fill (codes "implyrun") commands.Implyrun) (map string_bytes c.args.words.now) c.in_err-fill.field-0.0 c.from_residual.result
    (λ is. c.in_err-fill.ensures.usage (ap Err is)) c.from_residual.ensures.1

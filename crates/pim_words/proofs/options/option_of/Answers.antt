use Rattle.std.proofs.Common.{refl}
use Rattle.pim_words.proofs.OptionRules.{with_long}
use Rattle.pim_words.proofs.options.option_of.Goals as goal

pub returns : goal.returns
returns c = with_long c.args.name.now c.args.parser c.argument_of.result c.long.result c.args.name c.argument_of.ensures refl c.long.ensures

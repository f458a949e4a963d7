use Rattle.std.proofs.Common.{arith}
use Rattle.pim_adder.proofs.Written.{digits_more, digits_all}
use Rattle.pim_adder.proofs.drawn.write_digits.Goals as goal

pub loop-character-preserved : goal.loop-character-preserved
loop-character-preserved c = digits_more c.loop-character.out c.loop-character.character-index c.loop-character.rest _ (omega arith) c.loop-character.invariant

pub returns : goal.returns
returns c = digits_all c.loop-character.out c.loop-character.character-index c.loop-character.rest _ (omega arith) c.loop-character.invariant

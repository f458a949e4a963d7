use Rattle.std.proofs.Common.{◌≡◌, rules}
use Rattle.pim_io.specs.Lines.{lines}
use Rattle.pim_asm.specs.Assembly.{read_from, Start}
use Rattle.pim_asm.proofs.PartLemmas.{has_few_parts}
use Rattle.pim_asm.proofs.assembling.draft.Goals as goal

-- each part stands in a line of its own, which is not empty
pub returns-clause-few : goal.returns-clause-few
returns-clause-few c =
    let read : c.finish.result ≡ read_from 1 Start (lines c.args.bytes.now) = search rules in
    has_few_parts c.args.bytes.now c.finish.result c.requires read

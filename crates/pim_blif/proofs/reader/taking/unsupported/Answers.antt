use Rattle.std.proofs.Common.{ap, ◌∙◌}
use Rattle.pim_io.specs.Names.{label}
use Rattle.pim_blif.specs.declared.fault.BlifFault.TheVariants as faults
use Rattle.pim_blif.proofs.Readings.{first_bytes}
use Rattle.pim_blif.proofs.reader.taking.unsupported.Goals as goal

pub returns : goal.returns
returns c = ap (faults.Unsupported c.args.line) (c.in_ok-name.ensures.value ∙ ap label (first_bytes c.args.word.now c.min.result c.min.ensures))

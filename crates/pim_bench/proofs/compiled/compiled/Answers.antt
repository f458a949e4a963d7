use Rattle.std.proofs.Common.{◌<◌, arith, subst}
use Rattle.pim_aig.specs.Flat.{ands}
use Rattle.pim_aig.specs.declared.graph.TheConstants.{MAX_ANDS}
use Rattle.pim_compile.specs.Refusals.{IsRefusal}
use Rattle.pim_bench.proofs.Adders.{adder_ands, program_inputs, program_outputs}
use Rattle.pim_bench.proofs.compiled.compiled.Goals as goal

pub unreachable-requires-in-Err-TooLarge : goal.unreachable-requires-in-Err-TooLarge
unreachable-requires-in-Err-TooLarge c =
    let n = c.args.net.now in
    let large : MAX_ANDS < ands n = subst (IsRefusal n c.args.target c.args.budget) c.in-Err-TooLarge.field-0-is c.in-Err-TooLarge.ensures.refused in
    absurd (omega (arith, large, adder_ands n c.args.bits c.requires.adder, c.requires.few))

pub returns-in-Ok-clause-inputs : goal.returns-in-Ok-clause-inputs
returns-in-Ok-clause-inputs c = program_inputs c.args.net.now c.args.bits c.requires.adder c.in-Ok.program c.in-Ok.ensures.computes

pub returns-in-Ok-clause-outputs : goal.returns-in-Ok-clause-outputs
returns-in-Ok-clause-outputs c = program_outputs c.args.net.now c.args.bits c.requires.adder c.in-Ok.program c.in-Ok.ensures.computes

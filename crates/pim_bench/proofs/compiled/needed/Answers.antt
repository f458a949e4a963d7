use Rattle.std.proofs.Common.{◌<◌, arith, subst}
use Rattle.pim_aig.specs.Faults.{Says}
use Rattle.pim_aig.specs.Flat.{ands}
use Rattle.pim_aig.specs.declared.graph.TheConstants.{MAX_ANDS}
use Rattle.pim_bench.proofs.Adders.{adder_ands, adder_small}
use Rattle.pim_bench.proofs.compiled.needed.Goals as goal

pub unreachable-requires : goal.unreachable-requires
unreachable-requires c =
    let n = c.args.net.now in
    let large : MAX_ANDS < ands n = subst (λ fault. Says fault (ands n)) c.in-Err-TooLarge.field-0-is c.in-Err-TooLarge.ensures.fault in
    absurd (omega (arith, large, adder_ands n c.args.bits c.requires.adder, c.requires.few))

pub returns-in-Ok-clause-most : goal.returns-in-Ok-clause-most
returns-in-Ok-clause-most c =
    omega (arith, c.in-Ok.ensures.coarse, adder_small c.args.net.now c.args.bits c.requires.adder c.args.target c.requires.few c.in-Ok.ensures.counted)

pub returns-in-Ok-clause-coarse : goal.returns-in-Ok-clause-coarse
returns-in-Ok-clause-coarse c =
    adder_small c.args.net.now c.args.bits c.requires.adder c.args.target c.requires.few c.in-Ok.ensures.counted

use Rattle.std.proofs.Common.{arith}
use Rattle.std.proofs.lemmas.Grind.{common_steps}
use Rattle.pim_aig.proofs.Linking.{link_large, link_made}
use Rattle.pim_aig.proofs.chain.link.Goals as goal

pub returns-then-ands-eq-MAX_ANDS-clause-fault : goal.returns-then-ands-eq-MAX_ANDS-clause-fault
returns-then-ands-eq-MAX_ANDS-clause-fault c =
    λ rest. link_large c.args.aig.now.inputs c.args.aig.now.ands c.args.last c.in-Some.last c.args.literal rest c.in-Some.is (grind (arith, common_steps))

pub returns-in_ok-and-in-Some-clause-made : goal.returns-in_ok-and-in-Some-clause-made
returns-in_ok-and-in-Some-clause-made c =
    link_made c.args.aig.now c.and.new.self c.args.last c.in-Some.last c.args.literal c.in_ok-and-in-Some.field-0 c.in-Some.is c.in_ok-and-in-Some.ensures.grown c.in_ok-and-in-Some.ensures.literal

use Rattle.std.proofs.Common.{arith}
use Rattle.pim_net.specs.Tables.{values as literals_of}
use Rattle.pim_aig.specs.Graph.{nodes}
use Rattle.pim_aig.proofs.TableSteps.{of_first_put}
use Rattle.pim_aig.proofs.flattening.equation.Goals as goal

pub returns-clause-there : goal.returns-clause-there
returns-clause-there c =
    of_first_put (nodes c.args.aig.now) (nodes c.cover_literal.new.aig) (literals_of c.args.table.now) (literals_of c.put.new.self) _ c.in_ok-literal.literal
    (omega (arith, c.cover_literal.ensures.grown.inputs_stay, c.cover_literal.ensures.grown.no_fewer)) c.requires.there c.in_ok-literal.ensures.there c.in_ok-put.ensures

use Rattle.pim_compile.proofs.Composed.{coarse_net, need_net}
use Rattle.pim_compile.proofs.compiling.need.Goals as goal

pub returns-clause-need : goal.returns-clause-need
returns-clause-need c =
    need_net c.args.net.now c.in_ok-aig.aig c.args.target c.in_ok-cells.cells c.in_ok-aig.ensures.flat c.in_ok-cells.ensures.need

pub returns-clause-coarse : goal.returns-clause-coarse
returns-clause-coarse c =
    coarse_net c.args.net.now c.in_ok-aig.aig c.args.target c.in_ok-cells.cells c.in_ok-aig.ensures.flat c.in_ok-aig.ensures.counted c.in_ok-cells.ensures.coarse

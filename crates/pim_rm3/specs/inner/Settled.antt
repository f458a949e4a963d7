-- Inner. What is known of a program's gates and their cells.
use Rattle.std.specs.Prelude.{◌*◌, ◌<◌, All, map}
use Rattle.pim_aig.specs.Graph.{AigView, IsAig, nodes}
use Rattle.pim_aig.specs.Laws.{ValueLaws}
use Rattle.pim_graph.specs.Allotments.{AllotmentView, IsAllotment, IsOver}
use Rattle.pim_graph.specs.Orders.{IsReached}
use Rattle.pim_graph.specs.Peaks.{IsPlaced}
use Rattle.pim_rm3.specs.Gates.{gate_graph, gates, taken}

-- the gates of a graph stand in their order, and have these cells
pub record IsSettled (g : AigView) (a : AllotmentView) : Type 0 where
  pub small : IsAig g
  pub values : ValueLaws g
  pub placed : IsPlaced (gate_graph g) (gates g)
  pub there : All (λ l. l < 2 * nodes g) (gates g)
  pub reached : All (IsReached (gate_graph g)) (gates g)
  pub over : IsOver (gate_graph g) (gates g) (map (taken g) (gates g))
  pub allotted : IsAllotment (gate_graph g) (gates g) (map (taken g) (gates g)) g.inputs a

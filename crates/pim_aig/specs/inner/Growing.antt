-- Inner. A graph that grows.
use Rattle.std.specs.Prelude.{◌≡◌, ◌≤◌, length}
use Rattle.pim_aig.specs.Graph.{AigView}

-- the graph has the same inputs and outputs, and no AND node is lost
pub record Grows (old new : AigView) : Type 0 where
  pub inputs_stay : new.inputs ≡ old.inputs
  pub outputs_stay : new.outputs ≡ old.outputs
  pub no_fewer : length old.ands ≤ length new.ands

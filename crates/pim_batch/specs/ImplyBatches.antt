-- Vectors that are executed together on the IMPLY machine.
use Rattle.std.specs.Prelude.{Bool, List}
use Rattle.pim_isa.specs.declared.target.Fill.{Fill}
use Rattle.pim_imply.specs.Programs.{ImplyView}

-- the program, the filling of its other cells, and the bits of the vectors that are packed
pub record ImplyBatchView : Type 0 where
  pub program : ImplyView
  pub fill : Fill
  pub vectors : List (List Bool)

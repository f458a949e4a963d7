-- Vectors that are executed together.
use Rattle.std.specs.Prelude.{Bool, List}
use Rattle.pim_isa.specs.Programs.{ProgramView}
use Rattle.pim_isa.specs.declared.target.Fill.{Fill}

-- the program, the filling of its other cells, and the bits of the vectors that are packed
pub record BatchView : Type 0 where
  pub program : ProgramView
  pub fill : Fill
  pub vectors : List (List Bool)

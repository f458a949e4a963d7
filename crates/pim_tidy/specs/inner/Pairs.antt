-- Inner. The key of a node: its operands in rising order.
use Rattle.std.specs.Prelude.{min, max}
use Rattle.pim_aig.specs.declared.graph.And.{And}
use Rattle.pim_tidy.specs.declared.pair.Pair.{Pair}

-- the lesser literal and the greater one
abbrev pub pair_of : And → Pair
pair_of a = record { low = min a.x.0 a.y.0; high = max a.x.0 a.y.0 }

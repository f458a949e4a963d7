-- The laws of a graph's values.
use Rattle.std.specs.Prelude.{◌≡◌, ℕ, ◌+◌, ◌<◌, ◌&&◌, Bool, false, not, List, length, slice_index_or}
use Rattle.pim_aig.specs.Graph.{AigView}
use Rattle.pim_aig.specs.Literals.{complement, plain}
use Rattle.pim_aig.specs.Values.{aval, literal_value}
use Rattle.pim_aig.specs.declared.literal.Lit.{Lit}
use Rattle.pim_aig.specs.declared.graph.And.{And}

-- a plain literal has its node's value and a complement the other; node 0 is false, and where each input has a bit, an input
-- has its bit and an AND node is true where both of its operands are
pub record ValueLaws (g : AigView) : Type 0 where
  pub plains : (values : List Bool) (n : ℕ) → literal_value values (plain n) ≡ slice_index_or values n false
  pub complements : (values : List Bool) (l : Lit) → literal_value values (complement l) ≡ not (literal_value values l)
  pub constant : (bits : List Bool) → aval g bits (plain 0) ≡ false
  pub inputs : (bits : List Bool) (k : ℕ) → length bits ≡ g.inputs → k < g.inputs → aval g bits (plain (1 + k)) ≡ slice_index_or bits k false
  pub ands : (bits : List Bool) (k : ℕ) (d : And) → length bits ≡ g.inputs → k < length g.ands → aval g bits (plain (1 + g.inputs + k)) ≡ (aval g bits (slice_index_or g.ands k d).x && aval g bits (slice_index_or g.ands k d).y)

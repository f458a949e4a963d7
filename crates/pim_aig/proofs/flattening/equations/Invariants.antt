use Rattle.std.proofs.Common.{◌≡◌, drop}
use Rattle.pim_net.specs.Tables.{values as literals_of}
use Rattle.pim_aig.specs.Flat.{equations_from}
use Rattle.pim_aig.specs.inner.Tables.{AreOfFirst}
use Rattle.pim_aig.specs.Graph.{nodes}
use Rattle.pim_aig.specs.inner.Growing.{Grows}
use Rattle.pim_aig.proofs.flattening.equations.Given as goal

abbrev pub invariant-loop-k : goal.invariant-loop-k
invariant-loop-k l = record {
  rest : equations_from l.aig.inputs l.net.equations (literals_of l.table) l.aig.ands (drop l.k-index l.k-items) ≡ equations_from l.initial.aig.inputs l.net.equations (literals_of l.initial.table) l.initial.aig.ands l.k-items;
  there : AreOfFirst (nodes l.aig) (literals_of l.table);
  grown : Grows l.initial.aig l.aig;
}

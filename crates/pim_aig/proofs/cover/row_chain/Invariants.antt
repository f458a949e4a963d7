use Rattle.std.proofs.Common.{◌≡◌, None, drop, IfSome}
use Rattle.pim_aig.specs.Chains.{chain_from, row_literals}
use Rattle.pim_net.specs.Tables.{values as literals_of}
use Rattle.pim_aig.specs.Graph.{IsOfFirst, nodes}
use Rattle.pim_aig.specs.inner.Growing.{Grows}
use Rattle.pim_aig.proofs.cover.row_chain.Given as goal

abbrev pub invariant-loop-k : goal.invariant-loop-k
invariant-loop-k l = record {
  rest : chain_from l.aig.inputs l.aig.ands l.last (row_literals (literals_of l.table) (drop l.k l.ins) (drop l.k l.row)) ≡ chain_from l.initial.aig.inputs l.initial.aig.ands None (row_literals (literals_of l.table) l.ins l.row);
  last_there : IfSome l.last (IsOfFirst (nodes l.aig));
  grown : Grows l.initial.aig l.aig;
}

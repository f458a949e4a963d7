use Rattle.std.proofs.Common.{◌≡◌, [], drop, All}
use Rattle.pim_aig.specs.Chains.{rows_from}
use Rattle.pim_net.specs.Tables.{values as literals_of}
use Rattle.pim_aig.specs.Graph.{IsOfFirst, nodes}
use Rattle.pim_aig.specs.inner.Growing.{Grows}
use Rattle.pim_aig.proofs.cover.put_rows.Given as goal

abbrev pub invariant-loop-k : goal.invariant-loop-k
invariant-loop-k l = record {
  rest : rows_from l.aig.inputs (literals_of l.table) l.cover.ins l.aig.ands l.literals.items (drop l.k l.cover.rows) ≡ rows_from l.initial.aig.inputs (literals_of l.table) l.cover.ins l.initial.aig.ands [] l.cover.rows;
  there : All (IsOfFirst (nodes l.aig)) l.literals.items;
  grown : Grows l.initial.aig l.aig;
}

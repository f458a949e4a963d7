use Rattle.std.proofs.Common.{◌≡◌, ◌+◌, drop, length}
use Rattle.pim_net.specs.Tables.{values as literals_of}
use Rattle.pim_aig.specs.Flat.{inputs_from, no_literals}
use Rattle.pim_aig.specs.inner.Tables.{AreOfFirst}
use Rattle.pim_aig.proofs.flattening.input_table.Given as goal

abbrev pub invariant-loop-k : goal.invariant-loop-k
invariant-loop-k l = record {
  rest : inputs_from (literals_of l.table) l.k (drop l.k l.inputs) ≡ inputs_from no_literals 0 l.inputs;
  there : AreOfFirst (1 + length l.inputs) (literals_of l.table);
}

use Rattle.std.proofs.Common.{◌≡◌, None, drop, IfSome}
use Rattle.pim_aig.specs.Chains.{chain_from}
use Rattle.pim_aig.specs.Graph.{IsOfFirst, nodes}
use Rattle.pim_aig.specs.inner.Growing.{Grows}
use Rattle.pim_aig.proofs.chain.chain.Given as goal

abbrev pub invariant-loop-literal : goal.invariant-loop-literal
invariant-loop-literal l = record {
  rest : chain_from l.aig.inputs l.aig.ands l.last (drop l.literal-index l.literals) ≡ chain_from l.initial.aig.inputs l.initial.aig.ands None l.literals;
  last_there : IfSome l.last (IsOfFirst (nodes l.aig));
  grown : Grows l.initial.aig l.aig;
}

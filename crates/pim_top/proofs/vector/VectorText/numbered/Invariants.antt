use Rattle.std.proofs.Common.{◌≡◌, ◌++◌, ◌≤◌}
use Rattle.pim_io.specs.Bits.{line_of}
use Rattle.pim_prove.specs.Vectors.{digits}
use Rattle.pim_top.proofs.vector.VectorText.numbered.Given as goal

-- the digits so far, and those that are left, are all of them
abbrev pub invariant-loop-left : goal.invariant-loop-left
invariant-loop-left l = record {
  few : l.left ≤ 32;
  rest : l.text.items ++ line_of (digits l.left l.number) ≡ line_of (digits l.fn.inputs l.number);
}

abbrev pub decreases-loop-left : goal.decreases-loop-left
decreases-loop-left l = l.left

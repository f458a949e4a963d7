use Rattle.std.proofs.Common.{◌≡◌, get_or, map}
use Rattle.std.specs.List.{range_with_len}
use Rattle.std.specs.Vec.{vec_len}
use Rattle.pim_rm3.specs.Temporaries.{gate_number}
use Rattle.pim_rm3.proofs.votes.gate_cells.Given as goal

abbrev pub invariant-loop-literal : goal.invariant-loop-literal
invariant-loop-literal l = record {
  list : l.cells.items ≡ map (λ k. get_or l.held (gate_number k) 0) (range_with_len 0 l.literal);
  len : vec_len l.cells ≡ l.literal;
}

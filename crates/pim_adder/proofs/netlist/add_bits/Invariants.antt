use Rattle.std.proofs.Common.{◌≡◌, ◌*◌, length}
use Rattle.std.specs.List.{flat_map, range_with_len}
use Rattle.pim_adder.specs.Adders.{bit_equations}
use Rattle.pim_adder.proofs.netlist.add_bits.Given as goal

abbrev pub invariant-loop-i : goal.invariant-loop-i
invariant-loop-i l = record {
  made : l.draft ≡ record l.initial.draft { equations = flat_map (bit_equations l.bits) (range_with_len 0 l.i) };
  count : length l.draft.equations ≡ 2 * l.i;
}

use Rattle.std.proofs.Common.{◌≡◌, ◌-◌}
use Rattle.pim_io.specs.Words.{words}
use Rattle.pim_aiger.specs.Numbers.{are_zeros}
use Rattle.pim_aiger.proofs.words.are_zeros.Given as goal

abbrev pub invariant-loop : goal.invariant-loop
invariant-loop l = are_zeros (4 - l.counter) (words l.further) ≡ are_zeros 4 (words l.initial.further)

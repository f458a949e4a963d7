use Rattle.std.proofs.Common.{◌≡◌, replicate}
use Rattle.pim_net.proofs.signal_table.SignalTable.new.Given as goal

abbrev pub invariant-loop : goal.invariant-loop
invariant-loop g l = l.first.items ≡ replicate l.counter l.rest

use Rattle.std.proofs.Common.{◌≡◌, ◌<◌, All, length, drop}
use Rattle.pim_net.specs.declared.limits.TheConstants.{MAX_SIGNALS}
use Rattle.pim_blif.specs.inner.Judging.{numbered}
use Rattle.pim_blif.proofs.Readings.{with_numbers}
use Rattle.pim_blif.proofs.signals.put_signals.Given as goal

abbrev pub invariant-loop-word : goal.invariant-loop-word
invariant-loop-word l = record {
  exact : with_numbers l.signals.items (numbered l.names (drop l.word-index l.words)) ≡ numbered l.initial.names l.words;
  below : All (λ s. s < MAX_SIGNALS) l.signals.items;
  count : length l.signals.items ≡ l.word-index;
}

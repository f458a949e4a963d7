use Rattle.std.proofs.Common.{◌≡◌, ◌-◌, ◌<◌, length, All}
use Rattle.pim_net.specs.declared.limits.TheConstants.{MAX_SIGNALS}
use Rattle.pim_aiger.specs.Literals.{output_at}
use Rattle.pim_aiger.specs.Steps.{many, with_front}
use Rattle.pim_aiger.proofs.parts.outputs.Given as goal

abbrev pub invariant-loop : goal.invariant-loop
invariant-loop l = record {
  exact : with_front l.outputs.items (many (λ k. output_at l.header.greatest) l.counter (l.header.outputs - l.counter) l.reader) ≡ many (λ k. output_at l.header.greatest) 0 l.header.outputs l.initial.reader;
  count : length l.outputs.items ≡ l.counter;
  below : All (λ o. o.sig < MAX_SIGNALS) l.outputs.items;
}

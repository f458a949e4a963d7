use Rattle.std.proofs.Common.{◌≡◌, ◌-◌, ◌<◌, length, All}
use Rattle.pim_net.specs.declared.limits.TheConstants.{MAX_SIGNALS}
use Rattle.pim_aiger.specs.Literals.{input_at}
use Rattle.pim_aiger.specs.Steps.{many, with_front}
use Rattle.pim_aiger.proofs.parts.inputs.Given as goal

abbrev pub invariant-loop : goal.invariant-loop
invariant-loop l = record {
  exact : with_front l.inputs.items (many (λ k. input_at l.header.greatest) l.counter (l.header.inputs - l.counter) l.reader) ≡ many (λ k. input_at l.header.greatest) 0 l.header.inputs l.initial.reader;
  count : length l.inputs.items ≡ l.counter;
  below : All (λ v. v < MAX_SIGNALS) l.inputs.items;
}

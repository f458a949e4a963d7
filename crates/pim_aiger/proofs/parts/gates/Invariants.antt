use Rattle.std.proofs.Common.{◌≡◌, ◌-◌, ◌+◌, ◌∷◌, [], length}
use Rattle.pim_aiger.specs.Literals.{gate_at, constant}
use Rattle.pim_aiger.specs.Steps.{many, with_front}
use Rattle.pim_aiger.specs.inner.Kept.{IsGates}
use Rattle.pim_aiger.proofs.parts.gates.Given as goal

abbrev pub invariant-loop : goal.invariant-loop
invariant-loop l = record {
  exact : with_front l.draft.equations (many (λ k. gate_at l.header.greatest) l.counter (l.header.gates - l.counter) l.reader) ≡ with_front (constant ∷ []) (many (λ k. gate_at l.header.greatest) 0 l.header.gates l.initial.reader);
  count : length l.draft.equations ≡ l.counter + 1;
  gates : IsGates l.draft;
}

use Rattle.std.proofs.Common.{◌≡◌, ◌-◌, ◌+◌, ◌∷◌, [], length}
use Rattle.pim_aiger.specs.Literals.{constant}
use Rattle.pim_aiger.specs.Deltas.{binary_gate_at}
use Rattle.pim_aiger.specs.Steps.{many, with_front}
use Rattle.pim_aiger.specs.inner.Kept.{IsGates}
use Rattle.pim_aiger.proofs.parts.binary_gates.Given as goal

abbrev pub invariant-loop-k : goal.invariant-loop-k
invariant-loop-k l = record {
  exact : with_front l.draft.equations (many (binary_gate_at l.header.inputs) l.k (l.header.gates - l.k) l.reader) ≡ with_front (constant ∷ []) (many (binary_gate_at l.header.inputs) 0 l.header.gates l.initial.reader);
  count : length l.draft.equations ≡ l.k + 1;
  gates : IsGates l.draft;
}

-- Inner. The literals of signals.
use Rattle.std.specs.Prelude.{ℕ}
use Rattle.pim_aig.specs.Graph.{IsOfFirst}
use Rattle.pim_aig.specs.declared.literal.Lit.{Lit}

-- each signal's literal is of one of the first n nodes
abbrev pub AreOfFirst : ℕ → (ℕ → Lit) → Type 0
AreOfFirst n lits = (s : ℕ) → IsOfFirst n (lits s)

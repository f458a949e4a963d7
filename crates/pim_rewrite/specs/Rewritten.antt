-- The rewritten majority graph.
use Rattle.std.specs.Prelude.{ℕ, zero, suc, true, false, length}
use Rattle.pim_mig.specs.Graph.{MigView}
use Rattle.pim_rewrite.specs.Cases.{distribute, has_case}
use Rattle.pim_rewrite.specs.Passes.{copy, flip}

-- while a needed node has a case, a distribution pass and a flip pass, at most so many times; each time fewer nodes are needed
abbrev pub rounds : ℕ → MigView → MigView
rounds zero g = g
rounds (suc k) g = elim (has_case g) as (λ _. MigView) [
  | true ↦ rounds k (flip (distribute g))
  | false ↦ g
]

-- a flip pass, the rounds, and a copy of what is needed
abbrev pub rewritten : MigView → MigView
rewritten g = copy (rounds (length g.nodes) (flip g))

-- Worked examples of the tidied graph, by computation.
use Rattle.std.proofs.Common.{◌≡◌, ℕ, [], ◌∷◌, Some, None, refl}
use Rattle.pim_aig.specs.declared.graph.And.{And}
use Rattle.pim_aig.specs.declared.literal.Lit.{Lit}
use Rattle.pim_tidy.specs.Tidied.{folded, tidied}

abbrev lit : ℕ → Lit
lit l = record { 0 = l }

abbrev meet : ℕ → ℕ → And
meet x y = record { x = lit x; y = lit y }

-- two nodes that read the same in either order are one, and what reads both is that one
shared : tidied (record { inputs = 2; ands = meet 2 4 ∷ meet 4 2 ∷ meet 6 8 ∷ meet 6 9 ∷ []; outputs = lit 10 ∷ lit 13 ∷ [] })
    ≡ record { inputs = 2; ands = meet 2 4 ∷ []; outputs = lit 6 ∷ lit 1 ∷ [] }
shared = refl

-- the exclusive or is tidy already
exclusive_or : tidied (record { inputs = 2; ands = meet 2 5 ∷ meet 3 4 ∷ meet 7 9 ∷ []; outputs = lit 11 ∷ [] })
    ≡ record { inputs = 2; ands = meet 2 5 ∷ meet 3 4 ∷ meet 7 9 ∷ []; outputs = lit 11 ∷ [] }
exclusive_or = refl

-- a tautology: not a and not not a is false, and its complement true
tautology : tidied (record { inputs = 1; ands = meet 3 2 ∷ []; outputs = lit 5 ∷ [] }) ≡ record { inputs = 1; ands = []; outputs = lit 1 ∷ [] }
tautology = refl

true_leaves : folded (lit 1) (lit 7) ≡ Some (lit 7)
true_leaves = refl

apart : folded (lit 4) (lit 6) ≡ None
apart = refl

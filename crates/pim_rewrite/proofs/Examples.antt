-- Worked examples of rewriting, by computation.
use Rattle.std.proofs.Common.{◌≡◌, ℕ, false, List, [], ◌∷◌, map, Some, refl}
use Rattle.pim_aig.specs.declared.literal.Lit.{Lit}
use Rattle.pim_mig.specs.Graph.{MigView}
use Rattle.pim_mig.specs.declared.node.Maj.{Maj}
use Rattle.pim_rewrite.specs.Cases.{case_of, distribute, has_case}
use Rattle.pim_rewrite.specs.Passes.{copy, flip, inversions}
use Rattle.pim_rewrite.specs.Rewritten.{rewritten}
use Rattle.pim_rewrite.specs.declared.cases.Case.{Case}

abbrev lit : ℕ → Lit
lit l = record { 0 = l }

abbrev vote : ℕ → ℕ → ℕ → Maj
vote x y z = record { x = lit x; y = lit y; z = lit z }

abbrev graph : ℕ → List Maj → List Lit → MigView
graph inputs nodes outputs = record { inputs = inputs; nodes = nodes; outputs = outputs }

abbrev case : ℕ → ℕ → ℕ → ℕ → ℕ → Case
case s t u v w = record { s = lit s; t = lit t; u = lit u; v = lit v; w = lit w }

-- ---- complements are counted without constants, and move to the readers
counted : map inversions (vote 3 5 7 ∷ vote 3 5 0 ∷ vote 3 4 1 ∷ vote 2 4 6 ∷ []) ≡ 3 ∷ 2 ∷ 1 ∷ 0 ∷ []
counted = refl

-- three complements: the node of the plain ones, and the outputs have the other sign
three_complements : flip (graph 3 (vote 3 5 7 ∷ []) (lit 8 ∷ lit 9 ∷ [])) ≡ graph 3 (vote 2 4 6 ∷ []) (lit 9 ∷ lit 8 ∷ [])
three_complements = refl

-- the first node turns, so its reader has a second complement and turns as well
handed_on : flip (graph 3 (vote 3 5 6 ∷ vote 8 2 7 ∷ []) (lit 10 ∷ [])) ≡ graph 3 (vote 2 4 7 ∷ vote 8 3 6 ∷ []) (lit 11 ∷ [])
handed_on = refl

-- ---- the majority of two that share two operands, and are read once
abbrev sharing : MigView
sharing = graph 5 (vote 4 6 2 ∷ vote 2 4 8 ∷ vote 12 14 10 ∷ []) (lit 16 ∷ [])

-- what is shared, in the first one's order, what remains of each, and the third operand
sharing_case : case_of sharing (vote 12 14 10) ≡ Some (case 4 2 6 8 10)
sharing_case = refl

-- the inner node and the outer one come behind the two, which nobody needs any more
sharing_once : distribute sharing ≡ graph 5 (vote 4 6 2 ∷ vote 2 4 8 ∷ vote 6 8 10 ∷ vote 4 2 16 ∷ []) (lit 18 ∷ [])
sharing_once = refl

abbrev shared : MigView
shared = graph 5 (vote 6 8 10 ∷ vote 4 2 12 ∷ []) (lit 14 ∷ [])

sharing_all : rewritten sharing ≡ shared
sharing_all = refl

-- of three pairs the first is taken
first_pair : case_of (graph 5 (vote 2 4 6 ∷ vote 2 4 8 ∷ vote 2 4 10 ∷ vote 12 14 16 ∷ []) (lit 18 ∷ [])) (vote 12 14 16) ≡ Some (case 2 4 6 8 16)
first_pair = refl

-- ---- no case: one of the two is read again
read_twice : rewritten (graph 5 (vote 2 4 6 ∷ vote 2 4 8 ∷ vote 12 14 10 ∷ vote 12 16 3 ∷ []) (lit 18 ∷ []))
    ≡ graph 5 (vote 2 4 6 ∷ vote 2 4 8 ∷ vote 12 14 10 ∷ vote 12 16 3 ∷ []) (lit 18 ∷ [])
read_twice = refl

-- the complement of one is an output; one is read as a complement; one operand alone is shared, and another with opposite signs
no_case : map has_case (graph 5 (vote 2 4 6 ∷ vote 2 4 8 ∷ vote 12 14 10 ∷ []) (lit 16 ∷ lit 13 ∷ []) ∷ graph 5 (vote 2 4 6 ∷ vote 2 4 8 ∷ vote 12 15 10 ∷ []) (lit 16 ∷ []) ∷ graph 5 (vote 2 4 6 ∷ vote 2 5 8 ∷ vote 12 14 10 ∷ []) (lit 16 ∷ []) ∷ [])
    ≡ false ∷ false ∷ false ∷ []
no_case = refl

-- the exclusive or: its last node turns, and the first two share the constant alone
xor_turns : rewritten (graph 2 (vote 2 5 0 ∷ vote 3 4 0 ∷ vote 7 9 0 ∷ []) (lit 11 ∷ [])) ≡ graph 2 (vote 2 5 0 ∷ vote 3 4 0 ∷ vote 6 8 1 ∷ []) (lit 10 ∷ [])
xor_turns = refl

-- ---- two rounds: the first node is read twice, and once after the first round; then the inner node is true
abbrev chain : MigView
chain = graph 2 (vote 2 4 1 ∷ vote 4 6 1 ∷ vote 2 6 1 ∷ vote 8 0 10 ∷ []) (lit 12 ∷ [])

chain_once : flip (distribute chain) ≡ graph 2 (vote 2 4 1 ∷ vote 4 2 0 ∷ vote 6 1 8 ∷ []) (lit 10 ∷ [])
chain_once = refl

chain_all : rewritten chain ≡ graph 2 (vote 2 4 1 ∷ []) (lit 6 ∷ [])
chain_all = refl

-- the inner node has two complements, so it turns after the distribution
inner_turns : rewritten (graph 3 (vote 6 4 1 ∷ vote 4 6 3 ∷ vote 8 5 10 ∷ []) (lit 12 ∷ [])) ≡ graph 3 (vote 0 2 4 ∷ vote 6 4 9 ∷ []) (lit 10 ∷ [])
inner_turns = refl

-- ---- what is normal already stays as it is
again : rewritten shared ≡ shared
again = refl

-- but a node that nobody needs is left out
unneeded : copy (graph 2 (vote 2 4 0 ∷ vote 2 5 1 ∷ vote 6 3 1 ∷ []) (lit 10 ∷ [])) ≡ graph 2 (vote 2 4 0 ∷ vote 6 3 1 ∷ []) (lit 8 ∷ [])
unneeded = refl

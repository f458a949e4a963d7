-- Worked examples of majority graphs, by computation.
use Rattle.std.proofs.Common.{◌≡◌, ℕ, Bool, true, false, List, [], ◌∷◌, map, Some, None, refl}
use Rattle.pim_aig.specs.Graph.{AigView}
use Rattle.pim_aig.specs.declared.graph.And.{And}
use Rattle.pim_aig.specs.declared.literal.Lit.{Lit}
use Rattle.pim_mig.specs.Graph.{MigView}
use Rattle.pim_mig.specs.Majs.{majs}
use Rattle.pim_mig.specs.Needs.{is_needed, is_single, needed_count, reads}
use Rattle.pim_mig.specs.Nodes.{made, simplified}
use Rattle.pim_mig.specs.Values.{mval}
use Rattle.pim_mig.specs.declared.node.Maj.{Maj}

abbrev lit : ℕ → Lit
lit l = record { 0 = l }

abbrev meet : ℕ → ℕ → And
meet x y = record { x = lit x; y = lit y }

abbrev vote : ℕ → ℕ → ℕ → Maj
vote x y z = record { x = lit x; y = lit y; z = lit z }

-- ---- from an and-inverter graph
-- the exclusive or: each AND gets false as its third operand, and complements stay where they are
abbrev xor : AigView
xor = record { inputs = 2; ands = meet 2 5 ∷ meet 3 4 ∷ meet 7 9 ∷ []; outputs = lit 11 ∷ [] }

xor_majs : majs xor ≡ record { inputs = 2; nodes = vote 2 5 0 ∷ vote 3 4 0 ∷ vote 7 9 0 ∷ []; outputs = lit 11 ∷ [] }
xor_majs = refl

xor_values : map (λ (bits : List Bool). mval (majs xor) bits (lit 11)) ((false ∷ false ∷ []) ∷ (false ∷ true ∷ []) ∷ (true ∷ false ∷ []) ∷ (true ∷ true ∷ []) ∷ []) ≡ false ∷ true ∷ true ∷ false ∷ []
xor_values = refl

-- six ANDs of which one stays: the second reads the same two, a node and its complement are false, a node and itself are that node,
-- true leaves the other operand, and false is left
folds : majs (record { inputs = 2; ands = meet 2 4 ∷ meet 4 2 ∷ meet 6 9 ∷ meet 8 8 ∷ meet 1 2 ∷ meet 0 4 ∷ []; outputs = lit 9 ∷ lit 10 ∷ lit 12 ∷ lit 14 ∷ lit 17 ∷ [] })
    ≡ record { inputs = 2; nodes = vote 2 4 0 ∷ []; outputs = lit 7 ∷ lit 0 ∷ lit 6 ∷ lit 2 ∷ lit 1 ∷ [] }
folds = refl

-- ---- values: a full adder in three majorities, of which the first is the carry and the last the sum
abbrev adder : MigView
adder = record { inputs = 3; nodes = vote 2 4 6 ∷ vote 2 4 7 ∷ vote 9 10 6 ∷ []; outputs = lit 12 ∷ lit 8 ∷ [] }

abbrev rows : List (List Bool)
rows =
    (false ∷ false ∷ false ∷ []) ∷ (false ∷ false ∷ true ∷ []) ∷ (false ∷ true ∷ false ∷ []) ∷ (false ∷ true ∷ true ∷ [])
    ∷ (true ∷ false ∷ false ∷ []) ∷ (true ∷ false ∷ true ∷ []) ∷ (true ∷ true ∷ false ∷ []) ∷ (true ∷ true ∷ true ∷ []) ∷ []

carries : map (λ (bits : List Bool). mval adder bits (lit 8)) rows ≡ false ∷ false ∷ false ∷ true ∷ false ∷ true ∷ true ∷ true ∷ []
carries = refl

sums : map (λ (bits : List Bool). mval adder bits (lit 12)) rows ≡ false ∷ true ∷ true ∷ false ∷ true ∷ false ∷ false ∷ true ∷ []
sums = refl

-- ---- without a node: two operands are the same; two are complements, and the third decides; both, and they agree; neither
without_node : map simplified (vote 4 7 4 ∷ vote 4 6 5 ∷ vote 3 2 3 ∷ vote 0 3 4 ∷ []) ≡ Some (lit 4) ∷ Some (lit 6) ∷ Some (lit 3) ∷ None ∷ []
without_node = refl

-- ---- a node that is there, in another order of operands
found : made 3 (vote 6 2 4 ∷ []) (vote 4 6 2) ≡ record { nodes = vote 6 2 4 ∷ []; lit = lit 8 }
found = refl

-- one whose literals differ in the middle one alone is new, and its operands stay as they come
added : made 3 (vote 6 2 4 ∷ []) (vote 6 5 2) ≡ record { nodes = vote 6 2 4 ∷ vote 6 5 2 ∷ []; lit = lit 10 }
added = refl

-- ---- needs: two nodes, of which the second, number 5, reads the first, number 4
abbrev two : List Lit → MigView
two outputs = record { inputs = 3; nodes = vote 6 2 4 ∷ vote 8 2 5 ∷ []; outputs = outputs }

-- how often the first input, the third, and the two nodes are read
two_reads : map (reads (two (lit 10 ∷ []))) (1 ∷ 3 ∷ 4 ∷ 5 ∷ []) ≡ 2 ∷ 1 ∷ 1 ∷ 0 ∷ []
two_reads = refl

-- an input is never single, nor is an output's node
two_single : map (is_single (two (lit 10 ∷ []))) (3 ∷ 4 ∷ 5 ∷ []) ≡ false ∷ true ∷ false ∷ []
two_single = refl

-- an output of the other sign counts as well
not_single : is_single (two (lit 10 ∷ lit 9 ∷ [])) 4 ≡ false
not_single = refl

-- without an output the second node is not needed, and what it reads does not count
first_needed : map (is_needed (two (lit 9 ∷ []))) (1 ∷ 4 ∷ 5 ∷ []) ≡ true ∷ true ∷ false ∷ []
first_needed = refl

first_reads : map (reads (two (lit 9 ∷ []))) (1 ∷ 4 ∷ []) ≡ 1 ∷ 0 ∷ []
first_reads = refl

counts : map (λ (outputs : List Lit). needed_count (two outputs)) ((lit 10 ∷ []) ∷ (lit 9 ∷ []) ∷ (lit 2 ∷ []) ∷ []) ≡ 2 ∷ 1 ∷ 0 ∷ []
counts = refl

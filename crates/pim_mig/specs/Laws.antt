-- The laws of a majority graph's values, and of the nodes that are made.
use Rattle.std.specs.Prelude.{◌≡◌, ◌⊎◌, ℕ, ◌+◌, ◌<◌, ◌≤◌, ◌++◌, ◌∷◌, [], Bool, false, true, not, List, length, slice_index_or, Some, None}
use Rattle.pim_aig.specs.Literals.{complement, plain}
use Rattle.pim_aig.specs.Values.{literal_value}
use Rattle.pim_aig.specs.declared.literal.Lit.{Lit}
use Rattle.pim_mig.specs.Graph.{MigView}
use Rattle.pim_mig.specs.Nodes.{made, same_operands, simplified}
use Rattle.pim_mig.specs.Values.{majority, mval}
use Rattle.pim_mig.specs.declared.node.Maj.{Maj}

-- a plain literal has its node's value and a complement the other; node 0 is false, and where each input has a bit, an input
-- has its bit and a majority node is true where two of its operands are
pub record MajorityLaws (g : MigView) : Type 0 where
  pub plains : (values : List Bool) (n : ℕ) → literal_value values (plain n) ≡ slice_index_or values n false
  pub complements : (values : List Bool) (l : Lit) → literal_value values (complement l) ≡ not (literal_value values l)
  pub constant : (bits : List Bool) → mval g bits (plain 0) ≡ false
  pub inputs : (bits : List Bool) (k : ℕ) → length bits ≡ g.inputs → k < g.inputs → mval g bits (plain (1 + k)) ≡ slice_index_or bits k false
  pub nodes : (bits : List Bool) (k : ℕ) (d : Maj) → length bits ≡ g.inputs → k < length g.nodes → mval g bits (plain (1 + g.inputs + k)) ≡ majority (mval g bits (slice_index_or g.nodes k d).x) (mval g bits (slice_index_or g.nodes k d).y) (mval g bits (slice_index_or g.nodes k d).z)

-- the first list is a front of the second
pub record IsFront (old new : List Maj) : Type 0 where
  pub few : length old ≤ length new
  pub same : (k : ℕ) (d : Maj) → k < length old → slice_index_or new k d ≡ slice_index_or old k d

-- what making a node gives: the nodes are there still, at most one is new, and the literal is what the majority is without a node, or
-- that of a node which reads the same three
pub data Answer (inputs : ℕ) (nodes : List Maj) (m : Maj) (new : List Maj) (l : Lit) : Type 0 where
  by_rule : simplified m ≡ Some l → new ≡ nodes → Answer inputs nodes m new l
  by_node : simplified m ≡ None → (p : ℕ) → p < length nodes → new ≡ nodes → ((d : Maj) → same_operands (slice_index_or nodes p d) m ≡ true) → l ≡ plain (1 + inputs + p) → Answer inputs nodes m new l
  by_new : simplified m ≡ None → ((j : ℕ) (d : Maj) → j < length nodes → same_operands (slice_index_or nodes j d) m ≡ false) → new ≡ nodes ++ m ∷ [] → l ≡ plain (1 + inputs + length nodes) → Answer inputs nodes m new l

-- the literal is one of the node's operands
abbrev pub IsOperand : Lit → Maj → Type 0
IsOperand l m = (l ≡ m.x) ⊎ ((l ≡ m.y) ⊎ (l ≡ m.z))

-- of each node that is made: the answer is one of these, the nodes before it are there still, nodes that read the same three have the
-- same operands, what a majority is without a node is one of its operands, and in a graph that begins with the nodes the literal's
-- value is the majority
pub record NodeLaws : Type 0 where
  pub answers : (inputs : ℕ) (nodes : List Maj) (m : Maj) → Answer inputs nodes m (made inputs nodes m).nodes (made inputs nodes m).lit
  pub fronts : (inputs : ℕ) (nodes : List Maj) (m : Maj) → IsFront nodes (made inputs nodes m).nodes
  pub operands : (a b : Maj) (l : Lit) → same_operands a b ≡ true → IsOperand l a → IsOperand l b
  pub rules : (m : Maj) (l : Lit) → simplified m ≡ Some l → IsOperand l m
  pub values : (g : MigView) (bits : List Bool) (nodes : List Maj) (m : Maj) → MajorityLaws g → length bits ≡ g.inputs → IsFront (made g.inputs nodes m).nodes g.nodes → mval g bits (made g.inputs nodes m).lit ≡ majority (mval g bits m.x) (mval g bits m.y) (mval g bits m.z)

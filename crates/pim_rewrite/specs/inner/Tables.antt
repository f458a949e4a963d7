-- Inner. What the tables of a reading tell of a graph, and bounds.
use Rattle.std.specs.Prelude.{◌≡◌, ℕ, ◌<◌, Bool, true, false, List, [], ◌∷◌, length, Option, Some, None, slice_index_or}
use Rattle.pim_aig.specs.Graph.{IsOfFirst}
use Rattle.pim_aig.specs.Literals.{node}
use Rattle.pim_mig.specs.Graph.{MigView, size}
use Rattle.pim_mig.specs.Needs.{named, reads}
use Rattle.pim_mig.specs.declared.node.Maj.{Maj}
use Rattle.pim_rewrite.specs.declared.cases.Case.{Case}

-- the tables have the counts of each node's reads and outputs
pub record Counts (g : MigView) (read outs : List ℕ) : Type 0 where
  pub reads_count : length read ≡ size g
  pub outs_count : length outs ≡ size g
  pub reads_are : (n : ℕ) → n < size g → slice_index_or read n 0 ≡ reads g n
  pub outs_are : (n : ℕ) → n < size g → slice_index_or outs n 0 ≡ named g n

-- the operands of a node are of the first n nodes
pub record IsBefore (n : ℕ) (m : Maj) : Type 0 where
  pub x : IsOfFirst n m.x
  pub y : IsOfFirst n m.y
  pub z : IsOfFirst n m.z

-- the literals of a case are of the first n nodes
pub record IsCaseBefore (n : ℕ) (c : Case) : Type 0 where
  pub s : IsOfFirst n c.s
  pub t : IsOfFirst n c.t
  pub u : IsOfFirst n c.u
  pub v : IsOfFirst n c.v
  pub w : IsOfFirst n c.w

-- the nodes of the operands
abbrev pub operand_nodes : Maj → List ℕ
operand_nodes m = node m.x ∷ node m.y ∷ node m.z ∷ []

-- how many nodes a pass makes at most of a node: none if it is not needed, two of one that has a case, and one of another
abbrev pub most_made : Bool → Option Case → ℕ
most_made false c = 0
most_made true None = 1
most_made true (Some c) = 2

-- The line that says whether a program's NORs are a tree, and how many values orders of them hold at once.
use Rattle.std.specs.Prelude.{◌≡◌, ℕ, List, ◌++◌, length, codes, decimal, Option, Some, None}
use Rattle.std.specs.List.{range_with_len}
use Rattle.pim_graph.specs.Graphs.{GraphView}
use Rattle.pim_graph.specs.Orders.{order}
use Rattle.pim_graph.specs.Peaks.{peak}
use Rattle.pim_graph.specs.Trees.{tree_of}
use Rattle.pim_isa.specs.declared.target.Target.TheVariants.{Plim}
use Rattle.pim_isa.specs.Programs.{ProgramView}
use Rattle.pim_life.specs.declared.tree_fault.TreeFault.{TreeFault}
use Rattle.pim_life.specs.declared.tree_fault.TreeFault.TheVariants.{NotMagic, NoMemory}
use Rattle.pim_life.specs.Explanations.{explanation}
use Rattle.pim_life.specs.NorGraphs.{nor_graph_of}

-- whether it is a tree, with its root's usage, and the number of gates
abbrev pub shape_text : Option ℕ → ℕ → List ℕ
shape_text None gates = codes "tree no gates " ++ decimal gates
shape_text (Some usage) gates = (codes "tree yes gates " ++ decimal gates) ++ (codes " cu " ++ decimal usage)

-- the line of these numbers: the peak of the order by usage, and that of the program's own order
abbrev pub tree_text : Option ℕ → ℕ → ℕ → ℕ → List ℕ
tree_text usage gates most own = shape_text usage gates ++ codes " peak " ++ decimal most ++ codes " own " ++ decimal own ++ codes "\n"

-- the line of a graph whose gates are numbered in the program's own order
abbrev pub tree_line : GraphView → List ℕ
tree_line g = tree_text (tree_of g) (length g.kids) (peak g (order g)) (peak g (range_with_len 0 (length g.kids)))

-- the explanation of a program, and that line
abbrev pub tree_explanation : ProgramView → List ℕ
tree_explanation p = explanation p ++ tree_line (nor_graph_of p)

-- a refusal: only a program for PLiM is none for MAGIC; out of memory says nothing
abbrev pub IsRefusedTree : ProgramView → TreeFault → Type 0
IsRefusedTree p NotMagic = p.target ≡ Plim
IsRefusedTree p NoMemory = Unit {0}

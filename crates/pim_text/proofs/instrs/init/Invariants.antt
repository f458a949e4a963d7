use Rattle.std.proofs.Common.{◌≡◌, ◌++◌, length, option_map}
use Rattle.pim_text.specs.InstrForms.{cells_of}
use Rattle.pim_text.proofs.instrs.init.Given as goal

-- the cells so far, before those of the words that are left, are the cells of all words
abbrev pub invariant-loop-word : goal.invariant-loop-word
invariant-loop-word g l =
    option_map (λ ns. l.list ++ ns) (cells_of (g.C.CellWords.cell_of l.cells) (g.W.WordWalk.left l.words)) ≡ cells_of (g.C.CellWords.cell_of l.cells) (g.W.WordWalk.left l.initial.words)

abbrev pub decreases-loop-word : goal.decreases-loop-word
decreases-loop-word g l = length (g.W.WordWalk.left l.words)

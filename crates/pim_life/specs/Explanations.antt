-- The text that explains a program by the lives of its cells.
use Rattle.std.specs.Prelude.{ℕ, List, [], ◌∷◌, ◌++◌, length, codes, decimal}
use Rattle.std.specs.List.{flat_map, range_with_len}
use Rattle.pim_isa.specs.Programs.{ProgramView}
use Rattle.pim_life.specs.declared.life.Start.{Start}
use Rattle.pim_life.specs.declared.life.Start.TheVariants.{Load, At}
use Rattle.pim_life.specs.declared.life.End.{End}
use Rattle.pim_life.specs.declared.life.End.TheVariants.{Unread, Read, Output}
use Rattle.pim_life.specs.declared.life.Life.{Life}
use Rattle.pim_life.specs.Lives.{cell_lives}

-- where a life begins: `in`, or the instruction's number
abbrev pub start_text : Start → List ℕ
start_text Load = codes "in"
start_text (At k) = decimal k

-- where a life ends: `-` if nothing reads it, the last reader's number, or `out`
abbrev pub end_text : End → List ℕ
end_text Unread = codes "-"
end_text (Read k) = decimal k
end_text Output = codes "out"

-- a life: a space, and its start and end
abbrev pub life_text : Life → List ℕ
life_text l = codes " " ++ start_text l.start ++ codes ".." ++ end_text l.end

-- the line of a cell, if it has a life
abbrev pub cell_text : ℕ → List Life → List ℕ
cell_text c [] = []
cell_text c (l ∷ ls) = codes "cell " ++ decimal c ++ codes ":" ++ flat_map life_text (l ∷ ls) ++ codes "\n"

-- the last line
abbrev pub summary_text : ℕ → ℕ → List ℕ
summary_text cells cycles = codes "cells " ++ decimal cells ++ codes " cycles " ++ decimal cycles ++ codes "\n"

-- the whole text
abbrev pub explanation : ProgramView → List ℕ
explanation p =
    flat_map (λ c. cell_text c (cell_lives p c)) (range_with_len 0 p.cells) ++ summary_text p.cells (length p.instrs)

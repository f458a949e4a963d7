-- Inner: how a run is taken back by a log of the bits that it overwrote.
use Rattle.std.specs.Prelude.{◌≡◌, ℕ, zero, suc, ◌-◌, ◌≤◌, Bool, List, [], ◌∷◌, ◌++◌, length, map, take, drop, Option, Some, None, slice_get, slice_set}
use Rattle.pim_isa.specs.declared.instr.Instr.{Instr}
use Rattle.pim_isa.specs.Programs.{ProgramView}
use Rattle.pim_isa.specs.Sound.{IsProgram}
use Rattle.pim_isa.specs.Steps.{bit, step, exec_k}
use Rattle.pim_isa.specs.Touches.{writes}

-- the program, the row at the start, and how many instructions were executed
pub record HistoryView : Type 0 where
  pub program : ProgramView
  pub start : List Bool
  pub at : ℕ

-- the bits put into the cells, in order
abbrev pub put : List ℕ → List Bool → List Bool → List Bool
put [] bits m = m
put (c ∷ cs) [] m = m
put (c ∷ cs) (b ∷ bits) m = put cs bits (slice_set m c b)

-- the bits that instructions overwrite, in order
abbrev pub overwritten : List Instr → List Bool → List Bool
overwritten [] m = []
overwritten (i ∷ is) m = map (bit m) (writes i) ++ overwritten is (step m i)

-- the cells that an instruction writes, if there is one
abbrev pub written : Option Instr → List ℕ
written None = []
written (Some i) = writes i

-- how much of the log belongs to what was done before these cells were written
abbrev pub kept : List ℕ → List Bool → ℕ
kept cells log = length log - length cells

-- the row at the start, taken back from a row after so many of the instructions by the log of what they overwrote
abbrev pub taken_back : ℕ → List Instr → List Bool → List Bool → List Bool
taken_back zero is log m = m
taken_back (suc k) is log m =
    taken_back k is (take (kept (written (slice_get is k)) log) log)
    (put (written (slice_get is k)) (drop (kept (written (slice_get is k)) log) log) m)

-- the row and the log are those of the first instructions, from this row at the start
pub record IsHistory (p : ProgramView) (start row log : List Bool) (at : ℕ) : Type 0 where
  pub valid : IsProgram p
  pub within : at ≤ length p.instrs
  pub cells : length row ≡ p.cells
  pub stands : row ≡ exec_k at p.instrs start
  pub logged : log ≡ overwritten (take at p.instrs) start

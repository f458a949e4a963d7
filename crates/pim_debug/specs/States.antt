-- What a session is seen as: where a run stands, and where it is to stop.
use Rattle.std.specs.Prelude.{ℕ, ◌+◌, Bool, false, ◌==◌, List, [], ◌∷◌, Option, Some, None, slice_index_or}
use Rattle.std.specs.List.{list_any}
use Rattle.pim_isa.specs.Programs.{ProgramView}
use Rattle.pim_isa.specs.Steps.{exec_k}
use Rattle.pim_debug.specs.declared.stop.Stop.{Stop}

-- how many instructions were executed, and the position of each breakpoint at the place of its number: None where the
-- number is not set, as it is behind the list's end
pub record State : Type 0 where
  pub at : ℕ
  pub stops : List (Option ℕ)

-- the program, the row at the start, and the state
pub record SessionView : Type 0 where
  pub program : ProgramView
  pub start : List Bool
  pub state : State

-- the position of the breakpoint of this number, if it is set
abbrev pub stop_of : List (Option ℕ) → ℕ → Option ℕ
stop_of stops n = slice_index_or stops n None

-- the bits of the cells after the first instructions
abbrev pub cells_of : SessionView → List Bool
cells_of s = exec_k s.state.at s.program.instrs s.start

-- the breakpoint stands at this position
abbrev pub stands_at : ℕ → Option ℕ → Bool
stands_at k None = false
stands_at k (Some j) = j == k

-- some breakpoint stands at this position
abbrev pub has_stop : ℕ → List (Option ℕ) → Bool
has_stop k stops = list_any (stands_at k) stops

-- the breakpoints with their numbers, by rising number, where the first place has this number
abbrev pub stops_from : ℕ → List (Option ℕ) → List Stop
stops_from n [] = []
stops_from n (None ∷ rest) = stops_from (n + 1) rest
stops_from n (Some k ∷ rest) = record { number = n; at = k } ∷ stops_from (n + 1) rest

-- Turns: each number names the part whose next instruction is executed.
use Rattle.std.specs.Prelude.{◌≡◌, ℕ, ◌+◌, ◌<◌, ◌==◌, Bool, if◌then◌else◌, is_some, List, [], ◌∷◌, ◌++◌, All, count_by, drop, length, option_map, Option, Some, None, slice_get, slice_index_or, slice_set}
use Rattle.std.specs.List.{position}
use Rattle.std.specs.Option.{option_to_list}
use Rattle.pim_isa.specs.declared.instr.Instr.{Instr}
use Rattle.pim_isa.specs.Programs.{ProgramView}
use Rattle.pim_share.specs.Moved.{moved}

-- what is left of a part: its instructions that were not executed yet, and the first cell of its window
pub record Left : Type 0 where
  pub base : ℕ
  pub rest : List Instr

-- the parts at the start, each with its window behind those before it, from the cell `from` on
abbrev pub laid : ℕ → List ProgramView → List Left
laid from [] = []
laid from (part ∷ parts) = record { base = from; rest = part.instrs } ∷ laid (from + part.cells) parts

-- the next instruction of a part, moved into its window
abbrev pub next_of : Left → Option Instr
next_of part = option_map (moved part.base) (slice_get part.rest 0)

-- the part behind that instruction
abbrev pub past : Left → Left
past part = record part { rest = drop 1 part.rest }

-- a part of which nothing is left
abbrev pub spent : Left
spent = record { base = 0; rest = [] }

-- the instruction of a turn, if the turn names a part and something is left of that
abbrev pub turn_of : List Left → ℕ → Option Instr
turn_of parts j = next_of (slice_index_or parts j spent)

-- the parts behind a turn
abbrev pub after_turn : List Left → ℕ → List Left
after_turn parts j = slice_set parts j (past (slice_index_or parts j spent))

-- the instructions of the turns, in order
abbrev pub interleave : List Left → List ℕ → List Instr
interleave parts [] = []
interleave parts (j ∷ turns) = option_to_list (turn_of parts j) ++ interleave (after_turn parts j) turns

-- the place, from k on, of the first turn that names no part, or a part of which nothing is left
abbrev pub bad_turn : ℕ → List Left → List ℕ → Option ℕ
bad_turn k parts [] = None
bad_turn k parts (j ∷ turns) =
    if is_some (turn_of parts j) then bad_turn (k + 1) (after_turn parts j) turns else Some k

-- the parts behind the turns
abbrev pub after_turns : List Left → List ℕ → List Left
after_turns parts [] = parts
after_turns parts (j ∷ turns) = after_turns (after_turn parts j) turns

-- something is left of a part
abbrev pub is_left : Left → Bool
is_left part = is_some (slice_get part.rest 0)

-- the first part of which something is left
abbrev pub missing : List Left → Option ℕ
missing parts = position is_left parts

-- the turns name parts only, and each part as often as it has instructions
pub record IsFair (parts : List ProgramView) (turns : List ℕ) : Type 0 where
  pub named : All (λ j. j < length parts) turns
  pub often : (j : ℕ) (part : ProgramView) → slice_get parts j ≡ Some part →
      count_by (λ turn. turn == j) turns ≡ length part.instrs

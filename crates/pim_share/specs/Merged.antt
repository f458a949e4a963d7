-- The program that several become in one row, or why they do not.
use Rattle.std.specs.Prelude.{ℕ, ◌+◌, Bool, true, false, nat_lt, if◌then◌else◌, List, [], ◌∷◌, ◌++◌, option_map, Option, Some, None, Result, Ok, Err}
use Rattle.std.specs.List.{position}
use Rattle.std.specs.Option.{option_or}
use Rattle.pim_isa.specs.declared.port.Port.{Port}
use Rattle.pim_isa.specs.declared.target.Target.{Target}
use Rattle.pim_isa.specs.declared.target.Target.TheVariants.{Magic, Plim}
use Rattle.pim_isa.specs.Programs.{ProgramView}
use Rattle.pim_share.specs.Moved.{moved_ports}
use Rattle.pim_share.specs.Turns.{after_turns, bad_turn, interleave, laid, missing}
use Rattle.pim_share.specs.Windows.{needed}
use Rattle.pim_share.specs.declared.fault.ShareFault.{ShareFault}
use Rattle.pim_share.specs.declared.fault.ShareFault.TheVariants as faults

-- the two targets are not the same
abbrev pub differ : Target → Target → Bool
differ Magic Magic = false
differ Magic Plim = true
differ Plim Magic = true
differ Plim Plim = false

-- the target of the first part
abbrev pub target_of : List ProgramView → Target
target_of [] = Magic
target_of (part ∷ parts) = part.target

-- the first part whose target is not that of the first
abbrev pub other_target : List ProgramView → Option ℕ
other_target parts = position (λ p. differ p.target (target_of parts)) parts

-- the inputs of the parts in order, each in its window; the windows lie one behind another from the cell `from` on
abbrev pub inputs_from : ℕ → List ProgramView → List Port
inputs_from from [] = []
inputs_from from (part ∷ parts) = moved_ports from part.inputs ++ inputs_from (from + part.cells) parts

-- the same of the outputs
abbrev pub outputs_from : ℕ → List ProgramView → List Port
outputs_from from [] = []
outputs_from from (part ∷ parts) = moved_ports from part.outputs ++ outputs_from (from + part.cells) parts

-- the parts' target, their cells in all, their ports in order with their labels, and their instructions in turns
abbrev pub merged : List ProgramView → List ℕ → ProgramView
merged parts turns = record {
  target = target_of parts;
  cells = needed parts;
  inputs = inputs_from 0 parts;
  outputs = outputs_from 0 parts;
  instrs = interleave (laid 0 parts) turns;
}

-- the first of these: a turn that names no part or a part of which nothing is left, a part of which something is left
-- behind the turns
abbrev pub turns_fault : List ProgramView → List ℕ → Option ShareFault
turns_fault parts turns =
    option_or (option_map (λ k. faults.Turn k) (bad_turn 0 (laid 0 parts) turns))
    (option_map (λ j. faults.Missing j) (missing (after_turns (laid 0 parts) turns)))

-- the first of these: a part for another target, too few cells, a fault of the turns
abbrev pub share_fault : List ProgramView → List ℕ → ℕ → Option ShareFault
share_fault parts turns budget =
    option_or (option_map (λ j. faults.OtherTarget j) (other_target parts))
    (option_or (if nat_lt budget (needed parts) then Some (faults.TooFewCells (needed parts)) else None)
    (turns_fault parts turns))

-- the fault, and the program where there is none
abbrev pub ok_unless : ProgramView → Option ShareFault → Result ProgramView ShareFault
ok_unless program None = Ok program
ok_unless program (Some fault) = Err fault

-- the program that the parts become by these turns, in a row of at most `budget` cells
unfoldable pub merge_of : List ProgramView → List ℕ → ℕ → Result ProgramView ShareFault
merge_of parts turns budget = ok_unless (merged parts turns) (share_fault parts turns budget)

-- What a session answers to a command, by the state that it is in.
use Rattle.std.specs.Prelude.{◌≡◌, ◌≢◌, ℕ, ◌+◌, ◌-◌, nat_lt, Bool, if◌then◌else◌, List, length, map, Option, Some, None, slice_set, is_some, unwrap_or}
use Rattle.std.specs.List.{find, range_with_len}
use Rattle.pim_isa.specs.Steps.{bit}
use Rattle.pim_debug.specs.declared.command.Command.{Command}
use Rattle.pim_debug.specs.declared.command.Command.TheVariants as command
use Rattle.pim_debug.specs.declared.reply.Reply.{Reply}
use Rattle.pim_debug.specs.declared.reply.Reply.TheVariants as reply
use Rattle.pim_debug.specs.declared.fault.DebugFault.{DebugFault}
use Rattle.pim_debug.specs.declared.fault.DebugFault.TheVariants as fault
use Rattle.pim_debug.specs.States.{State, SessionView, stop_of, cells_of, has_stop}

-- the number of instructions
abbrev pub last_of : SessionView → ℕ
last_of s = length s.program.instrs

-- a position behind the last one is refused
abbrev pub past : ℕ → ℕ → Option DebugFault
past last k = if nat_lt last k then Some (fault.OutOfProgram k) else None

-- why a command is refused, if it is
abbrev pub refusal_of : SessionView → Option Command → Option DebugFault
refusal_of s None = Some fault.BadCommand
refusal_of s (Some command.Nothing) = None
refusal_of s (Some (command.Step n)) = past (last_of s) (s.state.at + n)
refusal_of s (Some (command.Back n)) = None
refusal_of s (Some (command.Goto k)) = past (last_of s) k
refusal_of s (Some command.Run) = None
refusal_of s (Some (command.Break k)) = past (last_of s) k
refusal_of s (Some (command.Delete n)) = if is_some (stop_of s.state.stops n) then None else Some (fault.NoSuchBreak n)
refusal_of s (Some (command.Cell c)) = if nat_lt c s.program.cells then None else Some (fault.NoSuchCell c)
refusal_of s (Some command.Show) = None
refusal_of s (Some command.Quit) = None

-- of so many positions above this one, the first that has a breakpoint, and the last of them if none has
abbrev pub next_stop : ℕ → ℕ → List (Option ℕ) → ℕ
next_stop left at stops = unwrap_or (find (λ k. has_stop k stops) (range_with_len (at + 1) left)) (at + left)

-- where `run` goes
abbrev pub run_end : SessionView → ℕ
run_end s = next_stop (last_of s - s.state.at) s.state.at s.state.stops

-- the bits of the output cells, in order
abbrev pub shown : SessionView → List Bool
shown s = map (λ o. bit (cells_of s) o.cell) s.program.outputs

-- the number that a reply gives a breakpoint
abbrev pub number_in : Reply → ℕ
number_in reply.Nothing = 0
number_in (reply.At k) = 0
number_in (reply.Break n k) = n
number_in (reply.Deleted n) = 0
number_in (reply.Cell c b) = 0
number_in (reply.Show bits) = 0
number_in reply.Quit = 0

-- a breakpoint is set at the position, under a number that was not set; nothing else changes
pub record IsSet (s : State) (n k : ℕ) (t : State) : Type 0 where
  pub free : stop_of s.stops n ≡ None
  pub stays : t.at ≡ s.at
  pub set : stop_of t.stops n ≡ Some k
  pub others : (m : ℕ) → m ≢ n → stop_of t.stops m ≡ stop_of s.stops m

-- the run is at this position now, which is the reply; the breakpoints are as before
pub record Moves (s : State) (k : ℕ) (r : Reply) (t : State) : Type 0 where
  pub reply : r ≡ reply.At k
  pub state : t ≡ record s { at = k }

-- what a session replies to a command that is not refused, and the state that it is in then
abbrev pub Answers : SessionView → Command → Reply → State → Type 0
Answers s command.Nothing r t = (r ≡ reply.Nothing) × (t ≡ s.state)
Answers s (command.Step n) r t = Moves s.state (s.state.at + n) r t
Answers s (command.Back n) r t = Moves s.state (s.state.at - n) r t
Answers s (command.Goto k) r t = Moves s.state k r t
Answers s command.Run r t = Moves s.state (run_end s) r t
Answers s (command.Break k) r t = (r ≡ reply.Break (number_in r) k) × IsSet s.state (number_in r) k t
Answers s (command.Delete n) r t = (r ≡ reply.Deleted n) × (t ≡ record s.state { stops = slice_set s.state.stops n None })
Answers s (command.Cell c) r t = (r ≡ reply.Cell c (bit (cells_of s) c)) × (t ≡ s.state)
Answers s command.Show r t = (r ≡ reply.Show (shown s)) × (t ≡ s.state)
Answers s command.Quit r t = (r ≡ reply.Quit) × (t ≡ s.state)

-- the same of a line's command, which has to be one
abbrev pub AnswersLine : SessionView → Option Command → Reply → State → Type 0
AnswersLine s None r t = ⊥
AnswersLine s (Some c) r t = Answers s c r t

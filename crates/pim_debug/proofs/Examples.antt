-- Worked examples of commands, replies and refusals, by computation.
use Rattle.std.proofs.Common.{◌≡◌, ℕ, zero, suc, true, false, List, [], ◌∷◌, Option, Some, None, codes, map, refl}
use Rattle.pim_io.specs.Words.{number_of}
use Rattle.pim_isa.specs.Programs.{ProgramView}
use Rattle.pim_isa.specs.Results.{load}
use Rattle.pim_isa.specs.declared.target.Fill.TheVariants as fill
use Rattle.pim_isa.specs.declared.target.Target.TheVariants.{Magic}
use Rattle.pim_isa.specs.declared.instr.Ins.TheVariants as ins
use Rattle.pim_isa.specs.declared.instr.Instr.TheVariants.{Init, Nor}
use Rattle.pim_debug.specs.Answers.{Answers, refusal_of}
use Rattle.pim_debug.specs.Commands.{command_alone, command_of, command_with}
use Rattle.pim_debug.specs.States.{SessionView, State, cells_of, stop_of, stops_from}
use Rattle.pim_debug.specs.declared.command.Command.{Command}
use Rattle.pim_debug.specs.declared.command.Command.TheVariants as command
use Rattle.pim_debug.specs.declared.fault.DebugFault.{DebugFault}
use Rattle.pim_debug.specs.declared.fault.DebugFault.TheVariants as fault
use Rattle.pim_debug.specs.declared.reply.Reply.TheVariants as reply

-- a NOT of cell 0 in cell 1, and then a NOR of both in cell 2; the last output cell comes first
abbrev program : ProgramView
program = record {
  target = Magic;
  cells = 3;
  inputs = record { cell = 0; label = codes "a" } ∷ [];
  outputs = record { cell = 2; label = codes "f" } ∷ record { cell = 1; label = codes "g" } ∷ [];
  instrs = Init (1 ∷ 2 ∷ []) ∷ Nor 1 (ins.One 0) ∷ Nor 2 (ins.Two 0 1) ∷ [];
}

-- a position, and the breakpoints by number
abbrev state : ℕ → List (Option ℕ) → State
state k stops = record { at = k; stops = stops }

-- a session on the vector 1 that is in this state
abbrev session : ℕ → List (Option ℕ) → SessionView
session k stops = record { program = program; start = load program fill.Zeros (true ∷ []); state = state k stops }

-- the cells at each of the four positions
all_cells : map (λ k. cells_of (session k [])) (0 ∷ 1 ∷ 2 ∷ 3 ∷ [])
    ≡ (true ∷ false ∷ false ∷ []) ∷ (true ∷ true ∷ true ∷ []) ∷ (true ∷ false ∷ true ∷ []) ∷ (true ∷ false ∷ false ∷ []) ∷ []
all_cells = refl

-- ---- the run goes forward and back, and back to the start where there are fewer
two_forward : Answers (session 1 []) (command.Step 2) (reply.At 3) (state 3 [])
two_forward = record { reply = refl; state = refl }

one_back : Answers (session 3 []) (command.Back 1) (reply.At 2) (state 2 [])
one_back = record { reply = refl; state = refl }

to_the_start : Answers (session 2 []) (command.Back 5) (reply.At 0) (state 0 [])
to_the_start = record { reply = refl; state = refl }

to_the_end : Answers (session 2 []) (command.Goto 3) (reply.At 3) (state 3 [])
to_the_end = record { reply = refl; state = refl }

-- ---- it stops at the next breakpoint above where it stands, of whatever number, and else at the end
abbrev stops : List (Option ℕ)
stops = Some 2 ∷ None ∷ Some 1 ∷ []

stops_by_number : stops_from 0 stops ≡ record { number = 0; at = 2 } ∷ record { number = 2; at = 1 } ∷ []
stops_by_number = refl

run_to_a_stop : Answers (session 0 stops) command.Run (reply.At 1) (state 1 stops)
run_to_a_stop = record { reply = refl; state = refl }

run_on : Answers (session 1 stops) command.Run (reply.At 2) (state 2 stops)
run_on = record { reply = refl; state = refl }

run_to_the_end : Answers (session 2 stops) command.Run (reply.At 3) (state 3 stops)
run_to_the_end = record { reply = refl; state = refl }

run_at_the_end : Answers (session 3 stops) command.Run (reply.At 3) (state 3 stops)
run_at_the_end = record { reply = refl; state = refl }

-- a breakpoint gets a number that is not set, such as the one that was given back
set_again : Answers (session 1 stops) (command.Break 3) (reply.Break 1 3) (state 1 (Some 2 ∷ Some 3 ∷ Some 1 ∷ []))
set_again = (refl, record { free = refl; stays = refl; set = refl; others = others })
  where
    others : (m : ℕ) → (m ≡ 1 → ⊥) → stop_of (Some 2 ∷ Some 3 ∷ Some 1 ∷ []) m ≡ stop_of stops m
    others zero other = refl
    others (suc zero) other = absurd (other refl)
    others (suc (suc m)) other = refl

taken_away : Answers (session 1 stops) (command.Delete 0) (reply.Deleted 0) (state 1 (None ∷ None ∷ Some 1 ∷ []))
taken_away = (refl, refl)

-- ---- what is told: a cell's bit, and the bits of the outputs in their order
cell_told : Answers (session 2 []) (command.Cell 1) (reply.Cell 1 false) (state 2 [])
cell_told = (refl, refl)

outputs_told : Answers (session 2 stops) command.Show (reply.Show (true ∷ false ∷ [])) (state 2 stops)
outputs_told = (refl, refl)

nothing_told : Answers (session 2 stops) command.Nothing reply.Nothing (state 2 stops)
nothing_told = (refl, refl)

quitting : Answers (session 2 stops) command.Quit reply.Quit (state 2 stops)
quitting = (refl, refl)

-- ---- refusals: the fourth position is the last one
abbrev refused : Command → Option DebugFault
refused c = refusal_of (session 2 stops) (Some c)

steps_refused : map refused (command.Step 1 ∷ command.Step 2 ∷ command.Step 4294967295 ∷ []) ≡ None ∷ Some (fault.OutOfProgram 4) ∷ Some (fault.OutOfProgram 4294967297) ∷ []
steps_refused = refl

goto_refused : map refused (command.Goto 3 ∷ command.Goto 4 ∷ []) ≡ None ∷ Some (fault.OutOfProgram 4) ∷ []
goto_refused = refl

break_refused : map refused (command.Break 3 ∷ command.Break 4 ∷ []) ≡ None ∷ Some (fault.OutOfProgram 4) ∷ []
break_refused = refl

-- number 1 was taken away, and number 3 was never set
delete_refused : map refused (command.Delete 0 ∷ command.Delete 1 ∷ command.Delete 2 ∷ command.Delete 3 ∷ []) ≡ None ∷ Some (fault.NoSuchBreak 1) ∷ None ∷ Some (fault.NoSuchBreak 3) ∷ []
delete_refused = refl

cell_refused : map refused (command.Cell 2 ∷ command.Cell 3 ∷ []) ≡ None ∷ Some (fault.NoSuchCell 3) ∷ []
cell_refused = refl

never_refused : map refused (command.Nothing ∷ command.Back 9 ∷ command.Run ∷ command.Show ∷ command.Quit ∷ []) ≡ None ∷ None ∷ None ∷ None ∷ None ∷ []
never_refused = refl

no_command : refusal_of (session 2 stops) (command_of (codes "halt")) ≡ Some fault.BadCommand
unfolding command_alone
no_command = refl

-- ---- lines: words are cut at spaces, tabs and carriage returns
goto_line : command_of (codes "\tgoto  2 \r") ≡ Some (command.Goto 2)
unfolding command_with number_of
goto_line = refl

blank_line : command_of (codes " \t\r") ≡ Some command.Nothing
blank_line = refl

-- without a number a step is one, and so is a step back
alone : map command_of (codes "step" ∷ codes "back" ∷ codes "run" ∷ codes "show" ∷ codes "quit" ∷ []) ≡ Some (command.Step 1) ∷ Some (command.Back 1) ∷ Some command.Run ∷ Some command.Show ∷ Some command.Quit ∷ []
unfolding command_alone
alone = refl

-- a number has ten digits at most, and is below 2^32
numbers : map command_of (codes "step 0000000003" ∷ codes "step 00000000003" ∷ codes "back 4294967295" ∷ codes "back 4294967296" ∷ []) ≡ Some (command.Step 3) ∷ None ∷ Some (command.Back 4294967295) ∷ None ∷ []
unfolding command_with number_of
numbers = refl

-- a number is missing, or is none, or is one too many; and another name
wrong_lines : map command_of (codes "goto" ∷ codes "cell x" ∷ codes "run 1" ∷ codes "step 1 2" ∷ codes "Show" ∷ []) ≡ None ∷ None ∷ None ∷ None ∷ None ∷ []
unfolding command_alone command_with number_of
wrong_lines = refl

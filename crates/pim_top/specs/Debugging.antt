-- What the lines of a debugger's input come to: the first one is the vector of a session, and each further one is a command of it.
use Rattle.std.specs.Prelude.{◌≡◌, ℕ, ◌+◌, ◌==◌, nat_lt, Bool, List, [], ◌∷◌, ◌++◌, length, if◌then◌else◌, Option, None, Some}
use Rattle.pim_debug.specs.Answers.{AnswersLine, refusal_of}
use Rattle.pim_debug.specs.Commands.{command_of}
use Rattle.pim_debug.specs.States.{SessionView, State}
use Rattle.pim_debug.specs.declared.command.Command.{Command as Asked}
use Rattle.pim_debug.specs.declared.command.Command.TheVariants as asked
use Rattle.pim_debug.specs.declared.fault.DebugFault.{DebugFault}
use Rattle.pim_debug.specs.declared.fault.DebugFault.TheVariants as fault
use Rattle.pim_debug.specs.declared.reply.Reply.{Reply}
use Rattle.pim_io.specs.Bits.{bits_of}
use Rattle.pim_io.specs.Outside.{TookAll, TookFirst}
use Rattle.pim_isa.specs.Programs.{ProgramView}
use Rattle.pim_isa.specs.Results.{load}
use Rattle.pim_isa.specs.declared.target.Fill.{Fill}
use Rattle.pim_vectors.specs.Lines.{lines}
use Rattle.pim_vectors.specs.declared.limits.TheConstants.{MAX_LINES}
use Rattle.pim_top.specs.Judged.{Halts, behind_lines, is_vector, judged_lines}
use Rattle.pim_top.specs.commands.Replies.{reply_line}
use Rattle.pim_top.specs.declared.judgement.Judgement.TheVariants.{Command, TooManyLines, Vector}
use Rattle.pim_top.specs.declared.refusal.Refusal.{Refusal}
use Rattle.pim_top.specs.declared.refusal.Refusal.TheVariants.{Judged}

-- ---- one line
-- the most bytes of a line: as many as there are inputs, and 64 at least
abbrev pub longest_of : ProgramView → ℕ
longest_of p = if nat_lt 64 (length p.inputs) then length p.inputs else 64

-- the session of a vector
abbrev pub session_of : ProgramView → Fill → List Bool → SessionView
session_of p fill bits = record { program = p; start = load p fill bits; state = record { at = 0; stops = [] } }

-- why the lines end at a command behind n others: it is refused, or it is to quit; else they go on
abbrev pub command_end : ℕ → Option DebugFault → Option Asked → Option (Option Refusal)
command_end n (Some fault) asked = Some (Some (Judged (Command (n + 1) fault)))
command_end n None (Some asked.Quit) = Some None
command_end n None asked = None

-- the same of a line: there is no session before the vector's line
abbrev pub words_end : ProgramView → ℕ → Option SessionView → List ℕ → Option (Option Refusal)
words_end p n None line = if is_vector (length p.inputs) line then None else Some (Some (Judged (Vector (n + 1))))
words_end p n (Some session) line =
    if nat_lt (longest_of p) (length line) then Some (Some (Judged (Command (n + 1) fault.BadCommand)))
    else command_end n (refusal_of session (command_of line)) (command_of line)

-- the same, where the number of lines is judged first
abbrev pub line_end : ProgramView → ℕ → Option SessionView → List ℕ → Option (Option Refusal)
line_end p n session line = if n == MAX_LINES then Some (Some (Judged TooManyLines)) else words_end p n session line

-- what ends them where no line is left: that there is none for the vector, or what is said behind all lines
abbrev pub last_end : Option SessionView → Option Refusal → Option Refusal
last_end None None = Some (Judged (Vector 1))
last_end session behind = behind

-- the same, by the lines that are left
abbrev pub end_at : ProgramView → ℕ → Option SessionView → Option Refusal → List (List ℕ) → Option (Option Refusal)
end_at p n session behind [] = Some (last_end session behind)
end_at p n session behind (line ∷ more) = line_end p n session line

-- what is written for a line that doesn't end them, and the session behind it
abbrev pub Takes : ProgramView → Fill → Option SessionView → List ℕ → List ℕ → Option SessionView → Type 0
Takes p fill None line text next = (text ≡ []) × (next ≡ Some (session_of p fill (bits_of line)))
Takes p fill (Some session) line text next =
    (reply : Reply) × (state : State) × AnswersLine session (command_of line) reply state × (text ≡ reply_line reply)
    × (next ≡ Some (record session { state = state }))

-- ---- all lines
-- these lines behind n others don't end them; what is written for all of them, and the session behind them
abbrev pub Runs : ProgramView → Fill → ℕ → Option SessionView → List (List ℕ) → List ℕ → Option SessionView → Type 0
Runs p fill n session [] text last = (text ≡ []) × (last ≡ session)
Runs p fill n session (line ∷ more) text last =
    (line_end p n session line ≡ None)
    × ((first : List ℕ) × (rest : List ℕ) × (next : Option SessionView) × Takes p fill session line first next
    × (text ≡ first ++ rest) × Runs p fill (n + 1) next more rest last)

-- the first lines of an input, what was written for them, and the session behind them
pub record RanFront (p : ProgramView) (fill : Fill) (bytes text : List ℕ) : Type 0 where
  pub done : List (List ℕ)
  pub more : List (List ℕ)
  pub cut : judged_lines (longest_of p) bytes ≡ done ++ more
  pub session : Option SessionView
  pub runs : Runs p fill 0 None done text session

-- all lines of an input up to that which ends them, and why it does: none where it is to quit or no line is left
pub record RanAll (p : ProgramView) (fill : Fill) (bytes text : List ℕ) (ended : Option Refusal) : Type 0 where
  pub done : List (List ℕ)
  pub more : List (List ℕ)
  pub cut : judged_lines (longest_of p) bytes ≡ done ++ more
  pub session : Option SessionView
  pub runs : Runs p fill 0 None done text session
  pub ends : end_at p (length done) session (behind_lines bytes) more ≡ Some ended

-- ---- by what the output took
-- it took all that is written up to the end
pub record DebuggedAll (p : ProgramView) (fill : Fill) (bytes : List ℕ) (before now : Option (List ℕ)) (ended : Option Refusal) : Type 0 where
  pub text : List ℕ
  pub ran : RanAll p fill bytes text ended
  pub took : TookAll before now text

-- the same, and the lines were read to their end: to the one that is to quit, or until nothing of the input was left
pub record DebuggedDone (p : ProgramView) (fill : Fill) (bytes rest : List ℕ) (before now : Option (List ℕ)) : Type 0 where
  pub all : DebuggedAll p fill bytes before now None
  pub read : all.ran.more ≡ [] → rest ≡ []

-- it took all that is written for the first lines
pub record DebuggedFront (p : ProgramView) (fill : Fill) (bytes : List ℕ) (before now : Option (List ℕ)) : Type 0 where
  pub text : List ℕ
  pub ran : RanFront p fill bytes text
  pub took : TookAll before now text

-- it took the front of what is written for the first lines
pub record DebuggedPart (p : ProgramView) (fill : Fill) (bytes : List ℕ) (before now : Option (List ℕ)) : Type 0 where
  pub text : List ℕ
  pub ran : RanFront p fill bytes text
  pub took : TookFirst before now text

-- the source failed behind lines that don't end them; the output took all that is written for those lines
pub record DebuggedShort (p : ProgramView) (fill : Fill) (bytes rest : List ℕ) (before now : Option (List ℕ)) : Type 0 where
  pub front : List ℕ
  pub halts : Halts (longest_of p) bytes rest front
  pub text : List ℕ
  pub session : Option SessionView
  pub runs : Runs p fill 0 None (lines front) text session
  pub took : TookAll before now text

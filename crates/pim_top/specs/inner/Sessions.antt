-- Inner: where the obeying of a debugger's lines stands, and how it goes on.
use Rattle.std.specs.Prelude.{◌≡◌, ℕ, Bool, true, false, List, Option, None, Some}
use Rattle.pim_debug.specs.States.{SessionView}
use Rattle.pim_debug.specs.declared.fault.DebugFault.{DebugFault}
use Rattle.pim_debug.specs.declared.fault.DebugFault.TheVariants as debug
use Rattle.pim_debug.specs.declared.reply.Reply.{Reply}
use Rattle.pim_debug.specs.declared.reply.Reply.TheVariants as reply
use Rattle.pim_io.specs.Outside.{Rose, TookAll, TookFirst}
use Rattle.pim_isa.specs.Programs.{ProgramView}
use Rattle.pim_isa.specs.declared.target.Fill.{Fill}
use Rattle.pim_vectors.specs.Lines.{lines}
use Rattle.pim_vectors.specs.Next.{LinesView}
use Rattle.pim_vectors.specs.declared.fault.LinesFault.{LinesFault}
use Rattle.pim_vectors.specs.declared.fault.LinesFault.TheVariants as fault
use Rattle.pim_top.specs.Debugging.{DebuggedAll, DebuggedDone, DebuggedFront, DebuggedPart, DebuggedShort, Runs, longest_of}
use Rattle.pim_top.specs.declared.judgement.Judgement.TheVariants as judgement
use Rattle.pim_top.specs.declared.refusal.Origin.TheVariants as origin
use Rattle.pim_top.specs.declared.refusal.Refusal.{Refusal}
use Rattle.pim_top.specs.declared.refusal.Refusal.TheVariants as refusal
use Rattle.pim_top.specs.inner.Standing.{IsAtLine, lines_refusal}

-- the lines that were handed out were obeyed, and the output took what is written for them
pub record IsDebugging (p : ProgramView) (fill : Fill) (bytes rest : List ℕ) (before now : Option (List ℕ)) (l : LinesView) (session : Option SessionView) : Type 0 where
  pub front : List ℕ
  pub place : IsAtLine (longest_of p) bytes rest l front
  pub text : List ℕ
  pub runs : Runs p fill 0 None (lines front) text session
  pub took : TookAll before now text

-- how it goes on: there may be more lines, or the lines were read to their end
abbrev pub DebugsOn : Bool → ProgramView → Fill → List ℕ → List ℕ → Option (List ℕ) → Option (List ℕ) → LinesView → Option SessionView → Type 0
DebugsOn true p fill bytes rest before now l session = IsDebugging p fill bytes rest before now l session
DebugsOn false p fill bytes rest before now l session = DebuggedDone p fill bytes rest before now

-- what the bytes say of a refusal
abbrev pub DebugStops : ProgramView → Fill → List ℕ → List ℕ → Option (List ℕ) → Option (List ℕ) → Refusal → Type 0
DebugStops p fill bytes rest before now refusal.WriteFault = DebuggedPart p fill bytes before now
DebugStops p fill bytes rest before now refusal.NoMemory = DebuggedFront p fill bytes before now
DebugStops p fill bytes rest before now (refusal.ReadFault origin.Input) = DebuggedShort p fill bytes rest before now
DebugStops p fill bytes rest before now r = DebuggedAll p fill bytes before now (Some r)

-- a refusal that comes of the lines, of their source or of memory, by the source's count of faults
abbrev pub IsOfInput : ℕ → ℕ → Refusal → Type 0
IsOfInput before now refusal.NoMemory = now ≡ before
IsOfInput before now (refusal.ReadFault origin.Input) = Rose before now
IsOfInput before now (refusal.TooLong origin.Input) = now ≡ before
IsOfInput before now (refusal.Judged (judgement.Vector n)) = now ≡ before
IsOfInput before now (refusal.Judged judgement.TooManyLines) = now ≡ before
IsOfInput before now (refusal.Judged (judgement.Command n f)) = now ≡ before
IsOfInput before now r = ⊥

-- the same, or of the output, by its count too
abbrev pub IsOfDebug : ℕ → ℕ → ℕ → ℕ → Refusal → Type 0
IsOfDebug before now out out_now refusal.WriteFault = (now ≡ before) × Rose out out_now
IsOfDebug before now out out_now r = IsOfInput before now r × (out_now ≡ out)

-- why a reply was not written: there was no memory for its text, or the output failed
abbrev pub IsUnwrittenReply : List ℕ → Option (List ℕ) → Option (List ℕ) → ℕ → ℕ → Refusal → Type 0
IsUnwrittenReply text before now out out_now refusal.NoMemory = (now ≡ before) × (out_now ≡ out)
IsUnwrittenReply text before now out out_now refusal.WriteFault = TookFirst before now text × Rose out out_now
IsUnwrittenReply text before now out out_now r = ⊥

-- a reply that ends the session
abbrev pub is_quit : Reply → Bool
is_quit reply.Nothing = false
is_quit (reply.At k) = false
is_quit (reply.Break n k) = false
is_quit (reply.Deleted n) = false
is_quit (reply.Cell c b) = false
is_quit (reply.Show bits) = false
is_quit reply.Quit = true

-- the refusal that a command's fault comes to, by its line
abbrev pub command_refusal : ℕ → DebugFault → Refusal
command_refusal n debug.NoMemory = refusal.NoMemory
command_refusal n fault = refusal.Judged (judgement.Command n fault)

-- the refusal of a line that is too long: it is no vector, and later no command
abbrev pub long_refusal : Option SessionView → ℕ → Refusal
long_refusal None n = refusal.Judged (judgement.Vector n)
long_refusal (Some session) n = refusal.Judged (judgement.Command n debug.BadCommand)

-- the refusal that lines come to
abbrev pub debug_refusal : Option SessionView → LinesFault → Refusal
debug_refusal session (fault.Long n) = long_refusal session n
debug_refusal session fault = lines_refusal fault

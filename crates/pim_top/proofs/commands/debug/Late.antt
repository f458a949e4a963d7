-- How the command ends once its program is loaded.
use Rattle.std.proofs.Common.{◌≡◌, ℕ, List, Option, Some, Result, Ok, Err, inr, refl, subst, ◌∙◌}
use Rattle.std.specs.Prelude.{IfErr, OnOk}
use Rattle.pim_debug.specs.States.{SessionView}
use Rattle.pim_io.specs.Outside.{Told}
use Rattle.pim_isa.specs.Programs.{ProgramView}
use Rattle.pim_isa.specs.declared.target.Fill.{Fill}
use Rattle.pim_vectors.specs.Next.{LinesView}
use Rattle.pim_words.specs.declared.command.FillWord.{FillWord}
use Rattle.pim_top.specs.Debugging.{DebuggedDone}
use Rattle.pim_top.specs.Programs.{program_of}
use Rattle.pim_top.specs.Rows.{IsLoaded}
use Rattle.pim_top.specs.Streams.{Seen, Stream}
use Rattle.pim_top.specs.commands.Debug.{DebugEnds, LinesEnd}
use Rattle.pim_top.specs.commands.Run.{fill_of}
use Rattle.pim_top.specs.declared.judgement.Judgement.TheVariants as judgement
use Rattle.pim_top.specs.declared.refusal.Origin.TheVariants as origin
use Rattle.pim_top.specs.declared.refusal.Refusal.{Refusal}
use Rattle.pim_top.specs.declared.refusal.Refusal.TheVariants as refusal
use Rattle.pim_top.specs.inner.Sessions.{DebugStops, IsDebugging, IsOfDebug, IsOfInput}
use Rattle.pim_top.proofs.commands.debug.Told.{From, begin-now, begin-then}

-- the lines were refused
pub lines-refused : (p : ProgramView) (fill : Fill) (i o : Stream) (r : Refusal) → IsOfDebug i.faults i.faults_now o.faults o.faults_now r →
    Told i.before i.now (λ bytes rest. DebugStops p fill bytes rest o.before o.now r) → LinesEnd {Y = Unit {0}} p fill i o (Err r)
lines-refused p fill i o refusal.Usage kind told = kind.0
lines-refused p fill i o refusal.NoMemory kind told = record { input = kind.0; output = kind.1; ran = told }
lines-refused p fill i o (refusal.ReadFault origin.Program) kind told = kind.0
lines-refused p fill i o (refusal.ReadFault origin.Input) kind told = record { input = kind.0; output = kind.1; ran = told }
lines-refused p fill i o (refusal.TooLong origin.Program) kind told = kind.0
lines-refused p fill i o (refusal.TooLong origin.Input) kind told = record { input = kind.0; output = kind.1; ran = told }
lines-refused p fill i o refusal.WriteFault kind told = record { input = kind.0; output = kind.1; ran = told }
lines-refused p fill i o (refusal.Judged (judgement.Vector n)) kind told = record { input = kind.0; output = kind.1; ran = told }
lines-refused p fill i o (refusal.Judged judgement.TooManyLines) kind told = record { input = kind.0; output = kind.1; ran = told }
lines-refused p fill i o (refusal.Judged (judgement.Command n f)) kind told = record { input = kind.0; output = kind.1; ran = told }
lines-refused p fill i o (refusal.Judged j) kind told = kind.0

-- a refusal of the input leaves the output's count
pub of-input : (m n k : ℕ) (r : Refusal) → IsOfInput m n r → IsOfDebug m n k k r
of-input m n k refusal.Usage h = (h, refl)
of-input m n k refusal.NoMemory h = (h, refl)
of-input m n k (refusal.ReadFault o) h = (h, refl)
of-input m n k (refusal.TooLong o) h = (h, refl)
of-input m n k refusal.WriteFault h = absurd h
of-input m n k (refusal.Judged j) h = (h, refl)

-- the session was begun, and then the lines ended so
pub lines-ended : (p p' : ProgramView) (fill : Fill) (a b c taken now : Option (List ℕ)) (m m' n k k' : ℕ) (l : LinesView) (s : SessionView) (result : Result (Unit {0}) Refusal) → p' ≡ p →
    Told a b (λ left rest. (now : Option (List ℕ)) → IsDebugging p fill left rest now now l (Some s)) → m' ≡ m →
    OnOk result (Told b c (From p' taken l s (λ fill bytes before rest. DebuggedDone p' fill bytes rest before now))) →
    IfErr result (λ r. Told b c (From p' taken l s (λ fill bytes before rest. DebugStops p' fill bytes rest before now r))) →
    OnOk result (n ≡ m') → OnOk result (k' ≡ k) → IfErr result (IsOfDebug m' n k k') →
    LinesEnd p fill (record { before = a; now = c; faults = m; faults_now = n }) (record { before = taken; now = now; faults = k; faults_now = k' }) result
lines-ended p p' fill a b c taken now m m' n k k' l s (Ok y) same begun steady done refused in_steady out_steady kinds = record {
  input = in_steady ∙ steady;
  output = out_steady;
  ran = begin-then a b c taken p fill l s (λ fill bytes before rest. DebuggedDone p fill bytes rest before now) begun
      (subst (λ (q : ProgramView). Told b c (From q taken l s (λ fill bytes before rest. DebuggedDone q fill bytes rest before now))) same done);
}
lines-ended p p' fill a b c taken now m m' n k k' l s (Err r) same begun steady done refused in_steady out_steady kinds =
    lines-refused p fill (record { before = a; now = c; faults = m; faults_now = n }) (record { before = taken; now = now; faults = k; faults_now = k' }) r
    (subst (λ (x : ℕ). IsOfDebug x n k k' r) steady kinds)
    (begin-then a b c taken p fill l s (λ fill bytes before rest. DebugStops p fill bytes rest before now r) begun
    (subst (λ (q : ProgramView). Told b c (From q taken l s (λ fill bytes before rest. DebugStops q fill bytes rest before now r))) same refused))

-- the session was not begun
pub lines-unbegun : (p : ProgramView) (fill : Fill) (a b taken : Option (List ℕ)) (m n k : ℕ) (r : Refusal) →
    Told a b (λ left rest. (now : Option (List ℕ)) → DebugStops p fill left rest now now r) → IsOfInput m n r →
    LinesEnd {Y = Unit {0}} p fill (record { before = a; now = b; faults = m; faults_now = n }) (record { before = taken; now = taken; faults = k; faults_now = k }) (Err r)
lines-unbegun p fill a b taken m n k r told kind =
    lines-refused p fill (record { before = a; now = b; faults = m; faults_now = n }) (record { before = taken; now = taken; faults = k; faults_now = k }) r
    (of-input m n k r kind) (begin-now a b taken p fill r told)

-- the program was loaded, and then the lines ended so
pub debug-late : (fill : FillWord) (seen : Seen) (p : ProgramView) (result : Result (Unit {0}) Refusal) → IsLoaded program_of seen.program (Ok p) →
    LinesEnd p (fill_of fill) seen.input seen.output result → DebugEnds fill seen result
debug-late fill seen p (Ok y) loaded h = record { program = p; loaded = loaded; lines = h }
debug-late fill seen p (Err r) loaded h = inr (record { program = p; loaded = loaded; lines = h })

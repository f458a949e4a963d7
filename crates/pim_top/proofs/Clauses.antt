-- What follows of how a call ended, whatever command its words say.
use Rattle.std.proofs.Common.{◌≡◌, ◌≢◌, ◌⊎◌, ◌<◌, ◌≤◌, ℕ, length, true, false, List, Some, Result, Ok, Err, inl, inr, refl, sym, ◌∙◌, subst}
use Rattle.std.specs.Prelude.{OnOk}
use Rattle.pim_io.specs.Outside.{Rose, Told}
use Rattle.pim_io.specs.declared.limits.TheConstants.{MAX_PROGRAM}
use Rattle.pim_words.specs.Reading.{command_said, is_usage}
use Rattle.pim_words.specs.declared.command.Command.{Command}
use Rattle.pim_words.specs.declared.command.Command.TheVariants.{Debug, Implyrun, Run}
use Rattle.pim_top.specs.Calls.{Ends, FileIsFine, HasWritten, IsCalm, IsDecided, IsDone, IsFileDecided, IsIdle, IsObeyed, IsRefused, Obeys}
use Rattle.pim_top.specs.Decides.{FileDecides, LateDecides}
use Rattle.pim_top.specs.Programs.{program_of}
use Rattle.pim_top.specs.Reads.{IsApart, IsWithin, OfBytes, OfInput, Tells, executes_rows, reads, streams}
use Rattle.pim_top.specs.Statuses.{answer_status, refusal_status}
use Rattle.pim_top.specs.Streams.{IsUntouched, Seen}
use Rattle.pim_top.specs.commands.Implyrun.{implyrun_of}
use Rattle.pim_top.specs.commands.Run.{run_of}
use Rattle.pim_top.specs.declared.judgement.Judgement.{Judgement}
use Rattle.pim_top.specs.declared.refusal.Origin.TheVariants as origin
use Rattle.pim_top.specs.declared.refusal.Refusal.{Refusal}
use Rattle.pim_top.specs.declared.refusal.Refusal.TheVariants as refusal
use Rattle.pim_top.specs.declared.status.Status.{Status}
use Rattle.pim_top.specs.declared.status.Status.TheVariants as status
use Rattle.pim_top.proofs.commands.debug.Ends.{debug-decided, debug-done, debug-file, debug-read, debug-steady, debug-usage, debug-write}
use Rattle.pim_top.proofs.RowsEnds.{FileRefusal, FileRows, Load, rows-decided, rows-done, rows-file, rows-memory, rows-read, rows-usage, rows-write}
use Rattle.pim_top.proofs.StatusKinds.{refusal-done}
use Rattle.pim_top.proofs.Told.{read-steady}
use Rattle.pim_top.proofs.Wholes.{whole-decided, whole-done, whole-file, whole-nothing, whole-read, whole-usage, whole-write}

-- ---- of one command
abbrev Wrote : Command → Seen → Type 0
Wrote c seen = OfBytes (reads c origin.Program) seen.program (λ file. OfInput c seen.input (λ input. Told seen.output.before seen.output.now (λ before after. HasWritten c file input before after)))

-- no count rose
abbrev Steady : Seen → Type 0
Steady seen = (seen.program.faults_now ≡ seen.program.faults) × (seen.input.faults_now ≡ seen.input.faults) × (seen.output.faults_now ≡ seen.output.faults)

ends-done : {Y : Type 0} (c : Command) (seen : Seen) (y : Y) → Ends c seen (Ok y) → Wrote c seen × Steady seen
ends-done (Run fill) seen y h = (
  rows-done (run_of fill) seen y (HasWritten (Run fill)) (λ file input before after text e fits d. record { text = text; took = e; given = inr (fits, d) }) h,
  (h.loaded.read.steady, h.walk.input, h.walk.output),
)
ends-done (Implyrun fill) seen y h = (
  rows-done (implyrun_of fill) seen y (HasWritten (Implyrun fill)) (λ file input before after text e fits d. record { text = text; took = e; given = inr (fits, d) }) h,
  (h.loaded.read.steady, h.walk.input, h.walk.output),
)
ends-done (Debug fill) seen y h = (
  debug-done fill seen y (HasWritten (Debug fill)) (λ file input before after text e fits d. record { text = text; took = e; given = inr (fits, d) }) h,
  debug-steady fill seen y h,
)
ends-done c seen y h = (
  whole-done c seen (HasWritten c) (λ file input before after text e fits d. record { text = text; took = e; given = inr (fits, d) }) h,
  (read-steady (reads c origin.Program) seen.program h.file h.program_read, read-steady (reads c origin.Input) seen.input h.input h.input_read, h.took.steady),
)

ends-usage : (c : Command) (seen : Seen) (r : Refusal) → Ends {Y = Unit {0}} c seen (Err r) → refusal_status r ≡ status.Usage → ⊥
ends-usage (Run fill) seen r h e = rows-usage (run_of fill) seen r h e
ends-usage (Implyrun fill) seen r h e = rows-usage (implyrun_of fill) seen r h e
ends-usage (Debug fill) seen r h e = debug-usage fill seen r h e
ends-usage c seen r h e = whole-usage c seen r h e

ends-read : (c : Command) (seen : Seen) (r : Refusal) → Ends {Y = Unit {0}} c seen (Err r) → refusal_status r ≡ status.ReadFault → Rose seen.program.faults seen.program.faults_now ⊎ Rose seen.input.faults seen.input.faults_now
ends-read (Run fill) seen r h e = rows-read (run_of fill) seen r h e
ends-read (Implyrun fill) seen r h e = rows-read (implyrun_of fill) seen r h e
ends-read (Debug fill) seen r h e = debug-read fill seen r h e
ends-read c seen r h e = whole-read c seen r h e

ends-write : (c : Command) (seen : Seen) (r : Refusal) → Ends {Y = Unit {0}} c seen (Err r) → refusal_status r ≡ status.WriteFault → Rose seen.output.faults seen.output.faults_now
ends-write (Run fill) seen r h e = rows-write (run_of fill) seen r h e
ends-write (Implyrun fill) seen r h e = rows-write (implyrun_of fill) seen r h e
ends-write (Debug fill) seen r h e = debug-write fill seen r h e
ends-write c seen r h e = whole-write c seen r h e

ends-nothing : (c : Command) (seen : Seen) (r : Refusal) → streams c ≡ false → Ends {Y = Unit {0}} c seen (Err r) → (refusal_status r ≡ status.WriteFault → ⊥) → IsUntouched seen.output
ends-nothing (Run fill) seen r not h n = absurd (let z : ⊥ = cc in z)
ends-nothing (Implyrun fill) seen r not h n = absurd (let z : ⊥ = cc in z)
ends-nothing (Debug fill) seen r not h n = absurd (let z : ⊥ = cc in z)
ends-nothing c seen r not h n = whole-nothing c seen r h n

ends-memory : (c : Command) (seen : Seen) (r : Refusal) → executes_rows c ≡ true → Ends {Y = Unit {0}} c seen (Err r) → refusal_status r ≡ status.NoMemory → IsUntouched seen.input × IsUntouched seen.output
ends-memory (Run fill) seen r rows h e = rows-memory (run_of fill) seen r h e
ends-memory (Implyrun fill) seen r rows h e = rows-memory (implyrun_of fill) seen r h e
ends-memory c seen r rows h e = absurd (let z : ⊥ = cc in z)

-- the program file is fine, or decides by itself, or memory ran out
abbrev FileSays : Command → List ℕ → Status → Type 0
FileSays c file s = FileIsFine c file ⊎ (IsFileDecided c file s ⊎ (s ≡ status.NoMemory))

-- what loads the program file of a command decides as much as the command says of the file
file-decided : {X : Type 0} (c : Command) (load : Load X) (file : List ℕ) (s : Status) → (MAX_PROGRAM < length file → FileDecides c file (refusal.TooLong origin.Program)) →
    ((j : Judgement) → (length file ≤ MAX_PROGRAM) × (load file ≡ Err j) → FileDecides c file (refusal.Judged j)) → FileRefusal load file s → IsFileDecided c file s
file-decided c load file s over judged h = elim h [
  | inl long ↦ record { refusal = refusal.TooLong origin.Program; decided = over long.0; ends = long.1 }
  | inr j ↦ record { refusal = refusal.Judged j.0; decided = judged j.0 (j.1, j.2); ends = j.3 }
]

file-says : {X : Type 0} (c : Command) (load : Load X) (file : List ℕ) (s : Status) → ((length file ≤ MAX_PROGRAM) × ((loaded : X) × (load file ≡ Ok loaded)) → FileIsFine c file) →
    (MAX_PROGRAM < length file → FileDecides c file (refusal.TooLong origin.Program)) → ((j : Judgement) → (length file ≤ MAX_PROGRAM) × (load file ≡ Err j) → FileDecides c file (refusal.Judged j)) →
    FileRows load file s → FileSays c file s
file-says c load file s fine over judged h = elim h [
  | inl f ↦ inl (fine f)
  | inr (inl refused) ↦ inr (inl (file-decided c load file s over judged refused))
  | inr (inr memory) ↦ inr (inr memory)
]

ends-file : (c : Command) (seen : Seen) (file : List ℕ) (result : Result (Unit {0}) Refusal) → Tells (reads c origin.Program) seen.program file → (Rose seen.program.faults seen.program.faults_now → ⊥) → Ends c seen result → FileSays c file (answer_status result)
ends-file (Run fill) seen file result t calm h = file-says (Run fill) (run_of fill) file _ (λ h. h) (λ h. h) (λ j h. h) (rows-file (run_of fill) seen file result t calm h)
ends-file (Implyrun fill) seen file result t calm h = file-says (Implyrun fill) (implyrun_of fill) file _ (λ h. h) (λ h. h) (λ j h. h) (rows-file (implyrun_of fill) seen file result t calm h)
ends-file (Debug fill) seen file result t calm h = file-says (Debug fill) program_of file _ (λ h. h) (λ h. h) (λ j h. h) (debug-file fill seen file result t calm h)
ends-file c seen file result t calm h = elim (whole-file c seen file result t calm h) [
  | inl fine ↦ inl fine
  | inr (inl decided) ↦ inr (inl (record { refusal = decided.0; decided = decided.1; ends = decided.2 }))
  | inr (inr memory) ↦ inr (inr memory)
]

-- all bytes decide, or memory ran out
abbrev Say : Command → List ℕ → List ℕ → Status → Type 0
Say c file bytes s = IsDecided c file bytes s ⊎ (s ≡ status.NoMemory)

rows-say : {X : Type 0} {Late : Result (List ℕ) Refusal → Type 0} (c : Command) (load : Load X) (file bytes : List ℕ) (s : Status) → (MAX_PROGRAM < length file → FileDecides c file (refusal.TooLong origin.Program)) →
    ((j : Judgement) → (length file ≤ MAX_PROGRAM) × (load file ≡ Err j) → FileDecides c file (refusal.Judged j)) →
    ((answer : Result (List ℕ) Refusal) → (length file ≤ MAX_PROGRAM) × Late answer → IsWithin (reads c origin.Program) file × LateDecides c file bytes answer) →
    FileRefusal load file s ⊎ (((answer : Result (List ℕ) Refusal) × (length file ≤ MAX_PROGRAM) × Late answer × (s ≡ answer_status answer)) ⊎ (s ≡ status.NoMemory)) → Say c file bytes s
rows-say c load file bytes s over judged late h = elim h [
  | inl refused ↦ let d = file-decided c load file s over judged refused in inl (record { answer = Err d.refusal; decided = inl d.decided; ends = d.ends })
  | inr (inl l) ↦ inl (record { answer = l.0; decided = inr (late l.0 (l.1, l.2)); ends = l.3 })
  | inr (inr memory) ↦ inr memory
]

ends-decided : (c : Command) (seen : Seen) (file bytes : List ℕ) (result : Result (Unit {0}) Refusal) → Tells (reads c origin.Program) seen.program file → Tells (reads c origin.Input) seen.input bytes → IsCalm seen → Ends c seen result → Say c file bytes (answer_status result)
ends-decided (Run fill) seen file bytes result t u calm h = rows-say (Run fill) (run_of fill) file bytes _ (λ h. h) (λ j h. h) (λ a h. h) (rows-decided (run_of fill) seen file bytes result t u calm h)
ends-decided (Implyrun fill) seen file bytes result t u calm h = rows-say (Implyrun fill) (implyrun_of fill) file bytes _ (λ h. h) (λ j h. h) (λ a h. h) (rows-decided (implyrun_of fill) seen file bytes result t u calm h)
ends-decided (Debug fill) seen file bytes result t u calm h = rows-say (Debug fill) program_of file bytes _ (λ h. h) (λ j h. h) (λ a h. h) (debug-decided fill seen file bytes result t u calm h)
ends-decided c seen file bytes result t u calm h = elim (whole-decided c seen file bytes result t u calm h) [
  | inl decided ↦ inl (record { answer = decided.0; decided = decided.1; ends = decided.2 })
  | inr memory ↦ inr memory
]

-- ---- of a call
-- the words say one command
some_of : (c d : Command) → Some c ≡ Some d → c ≡ d
some_of c d e = cc

-- words that are refused say no command that was begun
unsaid-status : (words : List (List ℕ)) (seen : Seen) (result : Result (Unit {0}) Refusal) → IsRefused words seen result → ((answer_status result ≡ status.Usage) × (is_usage words ≡ true)) ⊎ (answer_status result ≡ status.NoMemory)
unsaid-status words seen (Ok y) h = absurd h.why
unsaid-status words seen (Err refusal.Usage) h = inl (refl, h.why)
unsaid-status words seen (Err refusal.NoMemory) h = inr refl
unsaid-status words seen (Err (refusal.ReadFault o)) h = absurd h.why
unsaid-status words seen (Err (refusal.TooLong o)) h = absurd h.why
unsaid-status words seen (Err refusal.WriteFault) h = absurd h.why
unsaid-status words seen (Err (refusal.Judged j)) h = absurd h.why

-- a status that is neither is not that of refused words
not-unsaid : (words : List (List ℕ)) (seen : Seen) (result : Result (Unit {0}) Refusal) (s : Status) → answer_status result ≡ s → s ≢ status.Usage → s ≢ status.NoMemory → IsRefused words seen result → ⊥
not-unsaid words seen result s e u m h = elim (unsaid-status words seen result h) [ inl w ↦ u (sym e ∙ w.0) | inr w ↦ m (sym e ∙ w) ]

abbrev Result_of : Type 0
Result_of = Result (Unit {0}) Refusal

obeyed-done : (words : List (List ℕ)) (seen : Seen) (result : Result_of) → answer_status result ≡ status.Done → IsObeyed words seen result → IsDone words seen
obeyed-done words seen (Ok y) e h =
    let w = ends-done h.command seen y h.ends in
    record { command = h.command; said = h.said; wrote = w.0; program = w.1.0; input = w.1.1; output = w.1.2 }
obeyed-done words seen (Err r) e h = absurd (refusal-done r e)

pub call-done : (words : List (List ℕ)) (seen : Seen) (result : Result_of) → Obeys words seen result → answer_status result ≡ status.Done → IsDone words seen
call-done words seen result h e = elim h [
  | inl refused ↦ absurd (not-unsaid words seen result status.Done e (λ x. cc) (λ x. cc) refused)
  | inr obeyed ↦ obeyed-done words seen result e obeyed
]

obeyed-usage : (words : List (List ℕ)) (seen : Seen) (result : Result_of) → answer_status result ≡ status.Usage → IsObeyed words seen result → ⊥
obeyed-usage words seen (Ok y) e h = cc
obeyed-usage words seen (Err r) e h = ends-usage h.command seen r h.ends e

pub call-usage : (words : List (List ℕ)) (seen : Seen) (result : Result_of) → Obeys words seen result → answer_status result ≡ status.Usage → (is_usage words ≡ true) × IsIdle seen
call-usage words seen result h e = elim h [
  | inl refused ↦ elim (unsaid-status words seen result refused) [ inl w ↦ (w.1, refused.idle) | inr w ↦ absurd (let z : ⊥ = cc in z) ]
  | inr obeyed ↦ absurd (obeyed-usage words seen result e obeyed)
]

pub call-accepted : (words : List (List ℕ)) (seen : Seen) (result : Result_of) → Obeys words seen result → answer_status result ≢ status.Usage → answer_status result ≢ status.NoMemory → is_usage words ≡ false
call-accepted words seen result h u m = elim h [
  | inl refused ↦ absurd (not-unsaid words seen result (answer_status result) refl u m refused)
  | inr obeyed ↦ obeyed.accepted
]

pub call-plain : (words : List (List ℕ)) (seen : Seen) (result : Result_of) → Obeys words seen result → is_usage words ≡ false → answer_status result ≢ status.Usage
call-plain words seen result h accepted = λ e. let w = (call-usage words seen result h e).0 in cc

idle-apart : (c : Command) (seen : Seen) → IsIdle seen → IsApart c seen
idle-apart c seen h origin.Program e = h.program
idle-apart c seen h origin.Input e = h.input

pub call-apart : (words : List (List ℕ)) (seen : Seen) (result : Result_of) → Obeys words seen result → (c : Command) → command_said words ≡ Some c → IsApart c seen
call-apart words seen result h c said = elim h [
  | inl refused ↦ idle-apart c seen refused.idle
  | inr obeyed ↦ subst (λ (d : Command). IsApart d seen) (some_of obeyed.command c (sym obeyed.said ∙ said)) obeyed.apart
]

obeyed-read : (words : List (List ℕ)) (seen : Seen) (result : Result_of) → answer_status result ≡ status.ReadFault → IsObeyed words seen result → Rose seen.program.faults seen.program.faults_now ⊎ Rose seen.input.faults seen.input.faults_now
obeyed-read words seen (Ok y) e h = absurd (let z : ⊥ = cc in z)
obeyed-read words seen (Err r) e h = ends-read h.command seen r h.ends e

pub call-read : (words : List (List ℕ)) (seen : Seen) (result : Result_of) → Obeys words seen result → answer_status result ≡ status.ReadFault → Rose seen.program.faults seen.program.faults_now ⊎ Rose seen.input.faults seen.input.faults_now
call-read words seen result h e = elim h [
  | inl refused ↦ absurd (not-unsaid words seen result status.ReadFault e (λ x. cc) (λ x. cc) refused)
  | inr obeyed ↦ obeyed-read words seen result e obeyed
]

obeyed-write : (words : List (List ℕ)) (seen : Seen) (result : Result_of) → answer_status result ≡ status.WriteFault → IsObeyed words seen result → Rose seen.output.faults seen.output.faults_now
obeyed-write words seen (Ok y) e h = absurd (let z : ⊥ = cc in z)
obeyed-write words seen (Err r) e h = ends-write h.command seen r h.ends e

pub call-write : (words : List (List ℕ)) (seen : Seen) (result : Result_of) → Obeys words seen result → answer_status result ≡ status.WriteFault → Rose seen.output.faults seen.output.faults_now
call-write words seen result h e = elim h [
  | inl refused ↦ absurd (not-unsaid words seen result status.WriteFault e (λ x. cc) (λ x. cc) refused)
  | inr obeyed ↦ obeyed-write words seen result e obeyed
]

-- words that are accepted are refused for memory alone
accepted-memory : (words : List (List ℕ)) (seen : Seen) (result : Result_of) → is_usage words ≡ false → IsRefused words seen result → answer_status result ≡ status.NoMemory
accepted-memory words seen result accepted h = elim (unsaid-status words seen result h) [ inl w ↦ absurd (let u = w.1 in let z : ⊥ = cc in z) | inr w ↦ w ]

pub call-file : (words : List (List ℕ)) (seen : Seen) (result : Result_of) → Obeys words seen result → (c : Command) (file : List ℕ) → command_said words ≡ Some c → is_usage words ≡ false → Tells (reads c origin.Program) seen.program file → (Rose seen.program.faults seen.program.faults_now → ⊥) → FileSays c file (answer_status result)
call-file words seen result h c file said accepted t calm = elim h [
  | inl refused ↦ inr (inr (accepted-memory words seen result accepted refused))
  | inr obeyed ↦ ends-file c seen file result t calm (subst (λ (d : Command). Ends d seen result) (some_of obeyed.command c (sym obeyed.said ∙ said)) obeyed.ends)
]

pub call-decided : (words : List (List ℕ)) (seen : Seen) (result : Result_of) → Obeys words seen result → (c : Command) (file bytes : List ℕ) → command_said words ≡ Some c → is_usage words ≡ false → Tells (reads c origin.Program) seen.program file → Tells (reads c origin.Input) seen.input bytes → IsCalm seen → Say c file bytes (answer_status result)
call-decided words seen result h c file bytes said accepted t u calm = elim h [
  | inl refused ↦ inr (accepted-memory words seen result accepted refused)
  | inr obeyed ↦ ends-decided c seen file bytes result t u calm (subst (λ (d : Command). Ends d seen result) (some_of obeyed.command c (sym obeyed.said ∙ said)) obeyed.ends)
]

-- words that are accepted say a command that was begun, or there was no memory for them
pub unsaid-memory : (words : List (List ℕ)) (seen : Seen) (result : Result_of) → is_usage words ≡ false → IsRefused words seen result → answer_status result ≡ status.NoMemory
unsaid-memory words seen result accepted refused = accepted-memory words seen result accepted refused

obeyed-nothing : (words : List (List ℕ)) (seen : Seen) (result : Result_of) (c : Command) → streams c ≡ false → answer_status result ≢ status.Done → answer_status result ≢ status.WriteFault → Ends c seen result → IsUntouched seen.output
obeyed-nothing words seen (Ok y) c not d w h = absurd (d refl)
obeyed-nothing words seen (Err r) c not d w h = ends-nothing c seen r not h w

pub call-nothing : (words : List (List ℕ)) (seen : Seen) (result : Result_of) → Obeys words seen result → (c : Command) → command_said words ≡ Some c → streams c ≡ false → answer_status result ≢ status.Done → answer_status result ≢ status.WriteFault → IsUntouched seen.output
call-nothing words seen result h c said not d w = elim h [
  | inl refused ↦ refused.idle.output
  | inr obeyed ↦ obeyed-nothing words seen result c not d w (subst (λ (d : Command). Ends d seen result) (some_of obeyed.command c (sym obeyed.said ∙ said)) obeyed.ends)
]

obeyed-memory : (words : List (List ℕ)) (seen : Seen) (result : Result_of) (c : Command) → executes_rows c ≡ true → answer_status result ≡ status.NoMemory → Ends c seen result → IsUntouched seen.input × IsUntouched seen.output
obeyed-memory words seen (Ok y) c rows e h = absurd (let z : ⊥ = cc in z)
obeyed-memory words seen (Err r) c rows e h = ends-memory c seen r rows h e

pub call-memory : (words : List (List ℕ)) (seen : Seen) (result : Result_of) → Obeys words seen result → (c : Command) → command_said words ≡ Some c → executes_rows c ≡ true → answer_status result ≡ status.NoMemory → IsUntouched seen.input × IsUntouched seen.output
call-memory words seen result h c said rows e = elim h [
  | inl refused ↦ (refused.idle.input, refused.idle.output)
  | inr obeyed ↦ obeyed-memory words seen result c rows e (subst (λ (d : Command). Ends d seen result) (some_of obeyed.command c (sym obeyed.said ∙ said)) obeyed.ends)
]

-- what holds where all was done
pub done-only : (result : Result_of) (P : Type 0) → OnOk result P → answer_status result ≡ status.Done → P
done-only (Ok y) P h e = h
done-only (Err r) P h e = absurd (refusal-done r e)

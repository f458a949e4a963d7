-- What follows of how `debug` ends.
use Rattle.std.proofs.Common.{◌≡◌, ◌⊎◌, ℕ, ◌≤◌, List, ◌++◌, Option, None, Some, Result, Ok, Err, length, inl, inr, refl}
use Rattle.pim_io.specs.Outside.{Rose, Told}
use Rattle.pim_io.specs.declared.limits.TheConstants.{MAX_INPUT, MAX_PROGRAM}
use Rattle.pim_isa.specs.Programs.{ProgramView}
use Rattle.pim_isa.specs.declared.target.Fill.{Fill}
use Rattle.pim_words.specs.declared.command.FillWord.{FillWord}
use Rattle.pim_top.specs.Calls.{IsCalm}
use Rattle.pim_top.specs.Programs.{program_of}
use Rattle.pim_top.specs.Reads.{OfBytes, Tells}
use Rattle.pim_top.specs.Statuses.{answer_status, refusal_status}
use Rattle.pim_top.specs.Debugging.{DebuggedAll, DebuggedDone}
use Rattle.pim_top.specs.Streams.{Seen, Stream}
use Rattle.pim_top.specs.commands.Debug.{DebugDecides, DebugEnds, LinesEnd, ended_as}
use Rattle.pim_top.specs.commands.Run.{fill_of}
use Rattle.pim_top.specs.declared.judgement.Judgement.TheVariants as judgement
use Rattle.pim_top.specs.declared.refusal.Origin.TheVariants as origin
use Rattle.pim_top.specs.declared.refusal.Refusal.{Refusal}
use Rattle.pim_top.specs.declared.refusal.Refusal.TheVariants as refusal
use Rattle.pim_top.specs.declared.status.Status.{Status}
use Rattle.pim_top.specs.declared.status.Status.TheVariants as status
use Rattle.pim_top.proofs.RowsEnds.{FileRefusal, FileRows, early-file, early-read, early-usage, early-write, loaded-same}
use Rattle.pim_top.proofs.StatusKinds.{judgement-other}
use Rattle.pim_top.proofs.Told.{of-bytes, told-map, told-of}

pub debug-done : {Y : Type 0} (fill : FillWord) (seen : Seen) (y : Y) (Q : List ℕ → List ℕ → List ℕ → List ℕ → Type 0) →
    ((file input before after text : List ℕ) → after ≡ before ++ text → length file ≤ MAX_PROGRAM → DebugDecides fill file input (Ok text) → Q file input before after) →
    DebugEnds fill seen (Ok y) → OfBytes (Some MAX_PROGRAM) seen.program (λ file. Told seen.input.before seen.input.now (λ input rest. Told seen.output.before seen.output.now (λ before after. Q file input before after)))
debug-done fill seen y Q make h =
    let file = h.loaded.file in
    let p = h.program in
    of-bytes (Some MAX_PROGRAM) seen.program file (λ file. Told seen.input.before seen.input.now (λ input rest. Told seen.output.before seen.output.now (λ before after. Q file input before after))) h.loaded.read
    (told-map seen.input.before seen.input.now (λ bytes rest. DebuggedDone p (fill_of fill) bytes rest seen.output.before seen.output.now) (λ bytes rest. Told seen.output.before seen.output.now (λ before after. Q file bytes before after))
    (λ bytes rest d.
    told-map seen.output.before seen.output.now (λ before after. after ≡ before ++ d.all.text) (λ before after. Q file bytes before after)
    (λ before after e. make file bytes before after d.all.text e h.loaded.read.fits (record { program = p; loaded = h.loaded.is; text = d.all.text; ended = None; ran = d.all.ran; is = refl }))
    d.all.took)
    h.lines.ran)

pub debug-steady : {Y : Type 0} (fill : FillWord) (seen : Seen) (y : Y) → DebugEnds fill seen (Ok y) → (seen.program.faults_now ≡ seen.program.faults) × (seen.input.faults_now ≡ seen.input.faults) × (seen.output.faults_now ≡ seen.output.faults)
debug-steady fill seen y h = (h.loaded.read.steady, h.lines.input, h.lines.output)

-- ---- the words and the outside
late-usage : (p : ProgramView) (fill : Fill) (i o : Stream) (r : Refusal) → LinesEnd {Y = Unit {0}} p fill i o (Err r) → refusal_status r ≡ status.Usage → ⊥
late-usage p fill i o refusal.Usage h e = h
late-usage p fill i o refusal.NoMemory h e = cc
late-usage p fill i o (refusal.ReadFault q) h e = cc
late-usage p fill i o (refusal.TooLong q) h e = cc
late-usage p fill i o refusal.WriteFault h e = cc
late-usage p fill i o (refusal.Judged j) h e = judgement-other j status.Usage e

pub debug-usage : (fill : FillWord) (seen : Seen) (r : Refusal) → DebugEnds {Y = Unit {0}} fill seen (Err r) → refusal_status r ≡ status.Usage → ⊥
debug-usage fill seen r h e = elim h [ inl early ↦ early-usage program_of seen.program r early.why e | inr late ↦ late-usage late.program (fill_of fill) seen.input seen.output r late.lines e ]

late-read : (p : ProgramView) (fill : Fill) (i o : Stream) (r : Refusal) → LinesEnd {Y = Unit {0}} p fill i o (Err r) → refusal_status r ≡ status.ReadFault → Rose i.faults i.faults_now
late-read p fill i o refusal.Usage h e = absurd h
late-read p fill i o refusal.NoMemory h e = absurd (let z : ⊥ = cc in z)
late-read p fill i o (refusal.ReadFault origin.Program) h e = absurd h
late-read p fill i o (refusal.ReadFault origin.Input) h e = h.input
late-read p fill i o (refusal.TooLong q) h e = absurd (let z : ⊥ = cc in z)
late-read p fill i o refusal.WriteFault h e = absurd (let z : ⊥ = cc in z)
late-read p fill i o (refusal.Judged j) h e = absurd (judgement-other j status.ReadFault e)

pub debug-read : (fill : FillWord) (seen : Seen) (r : Refusal) → DebugEnds {Y = Unit {0}} fill seen (Err r) → refusal_status r ≡ status.ReadFault → Rose seen.program.faults seen.program.faults_now ⊎ Rose seen.input.faults seen.input.faults_now
debug-read fill seen r h e = elim h [ inl early ↦ inl (early-read program_of seen.program r early.why e) | inr late ↦ inr (late-read late.program (fill_of fill) seen.input seen.output r late.lines e) ]

late-write : (p : ProgramView) (fill : Fill) (i o : Stream) (r : Refusal) → LinesEnd {Y = Unit {0}} p fill i o (Err r) → refusal_status r ≡ status.WriteFault → Rose o.faults o.faults_now
late-write p fill i o refusal.Usage h e = absurd h
late-write p fill i o refusal.NoMemory h e = absurd (let z : ⊥ = cc in z)
late-write p fill i o (refusal.ReadFault q) h e = absurd (let z : ⊥ = cc in z)
late-write p fill i o (refusal.TooLong q) h e = absurd (let z : ⊥ = cc in z)
late-write p fill i o refusal.WriteFault h e = h.output
late-write p fill i o (refusal.Judged j) h e = absurd (judgement-other j status.WriteFault e)

pub debug-write : (fill : FillWord) (seen : Seen) (r : Refusal) → DebugEnds {Y = Unit {0}} fill seen (Err r) → refusal_status r ≡ status.WriteFault → Rose seen.output.faults seen.output.faults_now
debug-write fill seen r h e = elim h [ inl early ↦ absurd (early-write program_of seen.program r early.why e) | inr late ↦ late-write late.program (fill_of fill) seen.input seen.output r late.lines e ]

-- ---- what the program file decides
pub debug-file : {Y : Type 0} (fill : FillWord) (seen : Seen) (file : List ℕ) (result : Result Y Refusal) → Tells (Some MAX_PROGRAM) seen.program file → (Rose seen.program.faults seen.program.faults_now → ⊥) → DebugEnds fill seen result → FileRows program_of file (answer_status result)
debug-file fill seen file (Ok y) t calm h = let w = loaded-same program_of seen.program (Ok h.program) file t h.loaded in inl (w.0, (h.program, w.1))
debug-file fill seen file (Err r) t calm h = elim h [
  | inl early ↦ inr (early-file program_of seen.program file r t calm early.why)
  | inr late ↦ let w = loaded-same program_of seen.program (Ok late.program) file t late.loaded in inl (w.0, (late.program, w.1))
]

-- ---- what all bytes decide
-- the file is refused, or the lines decide, or memory ran out
abbrev pub AllDebug : FillWord → List ℕ → List ℕ → Status → Type 0
AllDebug fill file input s = FileRefusal program_of file s ⊎ (((answer : Result (List ℕ) Refusal) × (length file ≤ MAX_PROGRAM) × DebugDecides fill file input answer × (s ≡ answer_status answer)) ⊎ (s ≡ status.NoMemory))

-- the status of an end
abbrev pub ended_status : Option Refusal → Status
ended_status None = status.Done
ended_status (Some r) = refusal_status r

-- the lines decide, or memory ran out
abbrev LateSays : FillWord → List ℕ → List ℕ → Status → Type 0
LateSays fill file input s = ((answer : Result (List ℕ) Refusal) × (length file ≤ MAX_PROGRAM) × DebugDecides fill file input answer × (s ≡ answer_status answer)) ⊎ (s ≡ status.NoMemory)

ended-decided : (fill : FillWord) (file input : List ℕ) (p : ProgramView) (i o : Stream) (ended : Option Refusal) → length file ≤ MAX_PROGRAM → program_of file ≡ Ok p → Tells (Some MAX_INPUT) i input →
    Told i.before i.now (λ bytes rest. DebuggedAll p (fill_of fill) bytes o.before o.now ended) → (answer : Result (List ℕ) Refusal) × (length file ≤ MAX_PROGRAM) × DebugDecides fill file input answer × (ended_status ended ≡ answer_status answer)
ended-decided fill file input p i o ended fits loaded u h =
    let w = told-of i.before i.now input (λ bytes rest. DebuggedAll p (fill_of fill) bytes o.before o.now ended) u h in
    (ended_as w.1.text ended, fits, record { program = p; loaded = loaded; text = w.1.text; ended = ended; ran = w.1.ran; is = refl }, same ended w.1.text)
  where
    same : (e : Option Refusal) (text : List ℕ) → ended_status e ≡ answer_status (ended_as text e)
    same None text = refl
    same (Some r) text = refl

late-decided : {Y : Type 0} (fill : FillWord) (file input : List ℕ) (p : ProgramView) (i o : Stream) (result : Result Y Refusal) → length file ≤ MAX_PROGRAM → program_of file ≡ Ok p → Tells (Some MAX_INPUT) i input →
    (Rose i.faults i.faults_now → ⊥) → (Rose o.faults o.faults_now → ⊥) → LinesEnd p (fill_of fill) i o result → LateSays fill file input (answer_status result)
late-decided fill file input p i o (Ok y) fits loaded u calm quiet h = inl (ended-decided fill file input p i o None fits loaded u
    (told-map i.before i.now (λ bytes rest. DebuggedDone p (fill_of fill) bytes rest o.before o.now) (λ bytes rest. DebuggedAll p (fill_of fill) bytes o.before o.now None) (λ bytes rest d. d.all) h.ran))
late-decided fill file input p i o (Err refusal.Usage) fits loaded u calm quiet h = absurd h
late-decided fill file input p i o (Err refusal.NoMemory) fits loaded u calm quiet h = inr refl
late-decided fill file input p i o (Err (refusal.ReadFault origin.Program)) fits loaded u calm quiet h = absurd h
late-decided fill file input p i o (Err (refusal.ReadFault origin.Input)) fits loaded u calm quiet h = absurd (calm h.input)
late-decided fill file input p i o (Err (refusal.TooLong origin.Program)) fits loaded u calm quiet h = absurd h
late-decided fill file input p i o (Err (refusal.TooLong origin.Input)) fits loaded u calm quiet h = inl (ended-decided fill file input p i o (Some (refusal.TooLong origin.Input)) fits loaded u h.ran)
late-decided fill file input p i o (Err refusal.WriteFault) fits loaded u calm quiet h = absurd (quiet h.output)
late-decided fill file input p i o (Err (refusal.Judged (judgement.Vector n))) fits loaded u calm quiet h = inl (ended-decided fill file input p i o (Some (refusal.Judged (judgement.Vector n))) fits loaded u h.ran)
late-decided fill file input p i o (Err (refusal.Judged judgement.TooManyLines)) fits loaded u calm quiet h = inl (ended-decided fill file input p i o (Some (refusal.Judged judgement.TooManyLines)) fits loaded u h.ran)
late-decided fill file input p i o (Err (refusal.Judged (judgement.Command n f))) fits loaded u calm quiet h = inl (ended-decided fill file input p i o (Some (refusal.Judged (judgement.Command n f))) fits loaded u h.ran)
late-decided fill file input p i o (Err (refusal.Judged j)) fits loaded u calm quiet h = absurd h

pub debug-decided : {Y : Type 0} (fill : FillWord) (seen : Seen) (file input : List ℕ) (result : Result Y Refusal) → Tells (Some MAX_PROGRAM) seen.program file → Tells (Some MAX_INPUT) seen.input input → IsCalm seen → DebugEnds fill seen result → AllDebug fill file input (answer_status result)
debug-decided fill seen file input (Ok y) t u calm h =
    let w = loaded-same program_of seen.program (Ok h.program) file t h.loaded in
    inr (late-decided fill file input h.program seen.input seen.output (Ok y) w.0 w.1 u calm.input calm.output h.lines)
debug-decided fill seen file input (Err r) t u calm h = elim h [
  | inl early ↦ elim (early-file program_of seen.program file r t calm.program early.why) [ inl f ↦ inl f | inr m ↦ inr (inr m) ]
  | inr late ↦
      let w = loaded-same program_of seen.program (Ok late.program) file t late.loaded in
      inr (late-decided {Y = Unit {0}} fill file input late.program seen.input seen.output (Err r) w.0 w.1 u calm.input calm.output late.lines)
]

-- What follows of how a command ends that executes each line of its input as a row.
use Rattle.std.proofs.Common.{◌≡◌, ◌⊎◌, ℕ, ◌+◌, ◌<◌, ◌≤◌, Bool, true, false, cond, eqb, leb, List, [], ◌∷◌, ◌++◌, length, Option, None, Some, Result, Ok, Err, inl, inr, refl, sym, ap, ◌∙◌, subst}
use Rattle.std.proofs.lemmas.Bool.{leb-true}
use Rattle.pim_batch.specs.Runners.{Runner, results}
use Rattle.pim_io.specs.Outside.{Rose, Told}
use Rattle.pim_io.specs.declared.limits.TheConstants.{MAX_INPUT, MAX_PROGRAM}
use Rattle.pim_vectors.specs.declared.limits.TheConstants.{MAX_LINES}
use Rattle.pim_top.specs.Calls.{IsCalm}
use Rattle.pim_top.specs.Decides.{RowsDecide}
use Rattle.pim_top.specs.Judged.{behind_lines, first_refusal, fitting_lines, input_refusal, is_vector, judged_lines}
use Rattle.pim_top.specs.Reads.{OfBytes, Tells}
use Rattle.pim_top.specs.Rows.{IsLoaded, IsUnloaded, RowsEnd}
use Rattle.pim_top.specs.Statuses.{answer_status, judgement_status, refusal_status}
use Rattle.pim_top.specs.Streams.{IsUntouched, Seen, Stream}
use Rattle.pim_top.specs.Walks.{IsStopped, RanTo, RanWhole, WalkEnds, ran, rows_of}
use Rattle.pim_top.specs.declared.judgement.Judgement.{Judgement}
use Rattle.pim_top.specs.declared.judgement.Judgement.TheVariants as judgement
use Rattle.pim_top.specs.declared.refusal.Origin.TheVariants as origin
use Rattle.pim_top.specs.declared.refusal.Refusal.{Refusal}
use Rattle.pim_top.specs.declared.refusal.Refusal.TheVariants as refusal
use Rattle.pim_top.specs.declared.status.Status.{Status}
use Rattle.pim_top.specs.declared.status.Status.TheVariants as status
use Rattle.pim_top.proofs.StatusKinds.{judgement-other}
use Rattle.pim_top.proofs.Told.{of-bytes, over-told, same-bytes, told-map, told-of}

-- how the bytes of a program file are loaded
abbrev pub Load : Type 0 → Type 0
Load X = List ℕ → Result X Judgement

-- ---- an input that is not refused is within the limit
behind-none : (width n : ℕ) (behind : Option Refusal) (ls : List (List ℕ)) → first_refusal width n behind ls ≡ None → behind ≡ None
behind-none width n behind [] h = h
behind-none width n behind (line ∷ ls) h =
    by (eqb n MAX_LINES) (is_vector width line) (behind-none width (n + 1) behind ls) h
  where
    by : (a b : Bool) → (first_refusal width (n + 1) behind ls ≡ None → behind ≡ None) → cond a (Some (refusal.Judged judgement.TooManyLines)) (cond b (first_refusal width (n + 1) behind ls) (Some (refusal.Judged (judgement.Vector (n + 1))))) ≡ None → behind ≡ None
    by true b rest h = cc
    by false true rest h = rest h
    by false false rest h = cc

pub fine-within : (width : ℕ) (bytes : List ℕ) → input_refusal width bytes ≡ None → length bytes ≤ MAX_INPUT
fine-within width bytes h = by (leb (length bytes) MAX_INPUT) refl (behind-none width 0 (behind_lines bytes) (judged_lines width bytes) h)
  where
    by : (b : Bool) → leb (length bytes) MAX_INPUT ≡ b → behind_lines bytes ≡ None → length bytes ≤ MAX_INPUT
    by true e n = leb-true (length bytes) MAX_INPUT e
    by false e n = absurd (let f : behind_lines bytes ≡ Some (refusal.TooLong origin.Input) = ap (λ (b : Bool). cond b None (Some (refusal.TooLong origin.Input))) e in let z : ⊥ = cc in z)

-- what a walk without a refusal gives
ran-fine : (runner : Runner) (bytes : List ℕ) → input_refusal runner.width bytes ≡ None → Ok (results runner (rows_of (fitting_lines runner.width bytes))) ≡ ran runner bytes (input_refusal runner.width bytes)
ran-fine runner bytes e = sym (ap (ran runner bytes) e)

ran-refused : (runner : Runner) (bytes : List ℕ) (r : Refusal) → input_refusal runner.width bytes ≡ Some r → Err r ≡ ran runner bytes (input_refusal runner.width bytes)
ran-refused runner bytes r e = sym (ap (ran runner bytes) e)

-- ---- done
pub rows-done : {Y : Type 0} (load : Load Runner) (seen : Seen) (y : Y) (Q : List ℕ → List ℕ → List ℕ → List ℕ → Type 0) →
    ((file input before after text : List ℕ) → after ≡ before ++ text → length file ≤ MAX_PROGRAM → RowsDecide load file input (Ok text) → Q file input before after) →
    RowsEnd load seen (Ok y) → OfBytes (Some MAX_PROGRAM) seen.program (λ file. OfBytes (Some MAX_INPUT) seen.input (λ input. Told seen.output.before seen.output.now (λ before after. Q file input before after)))
rows-done load seen y Q make h =
    let file = h.loaded.file in
    let runner = h.runner in
    of-bytes (Some MAX_PROGRAM) seen.program file (λ file. OfBytes (Some MAX_INPUT) seen.input (λ input. Told seen.output.before seen.output.now (λ before after. Q file input before after))) h.loaded.read
    (told-map seen.input.before seen.input.now (λ bytes rest. RanWhole runner bytes rest seen.output.before seen.output.now) (λ bytes rest. (rest ≡ []) × (length bytes ≤ MAX_INPUT) × Told seen.output.before seen.output.now (λ before after. Q file bytes before after))
    (λ bytes rest w.
    let text = results runner (rows_of (fitting_lines runner.width bytes)) in (
      w.all,
      fine-within runner.width bytes w.fine,
      told-map seen.output.before seen.output.now (λ before after. after ≡ before ++ text) (λ before after. Q file bytes before after)
          (λ before after e. make file bytes before after text e h.loaded.read.fits (record { runner = runner; loaded = h.loaded.is; is = ran-fine runner bytes w.fine }))
          w.took,
    ))
    h.walk.ran)

-- ---- the words and the outside
pub early-usage : {X : Type 0} (load : Load X) (s : Stream) (r : Refusal) → IsUnloaded load s r → refusal_status r ≡ status.Usage → ⊥
early-usage load s refusal.Usage h e = h
early-usage load s refusal.NoMemory h e = cc
early-usage load s (refusal.ReadFault o) h e = cc
early-usage load s (refusal.TooLong o) h e = cc
early-usage load s refusal.WriteFault h e = h
early-usage load s (refusal.Judged j) h e = judgement-other j status.Usage e

late-usage : (runner : Runner) (i o : Stream) (r : Refusal) → WalkEnds {Y = Unit {0}} runner i o (Err r) → refusal_status r ≡ status.Usage → ⊥
late-usage runner i o refusal.Usage h e = h
late-usage runner i o refusal.NoMemory h e = h
late-usage runner i o (refusal.ReadFault q) h e = cc
late-usage runner i o (refusal.TooLong q) h e = cc
late-usage runner i o refusal.WriteFault h e = cc
late-usage runner i o (refusal.Judged j) h e = judgement-other j status.Usage e

pub rows-usage : (load : Load Runner) (seen : Seen) (r : Refusal) → RowsEnd {Y = Unit {0}} load seen (Err r) → refusal_status r ≡ status.Usage → ⊥
rows-usage load seen r h e = elim h [ inl early ↦ early-usage load seen.program r early.why e | inr late ↦ late-usage late.runner seen.input seen.output r late.walk e ]

pub early-read : {X : Type 0} (load : Load X) (s : Stream) (r : Refusal) → IsUnloaded load s r → refusal_status r ≡ status.ReadFault → Rose s.faults s.faults_now
early-read load s refusal.Usage h e = absurd h
early-read load s refusal.NoMemory h e = absurd (let z : ⊥ = cc in z)
early-read load s (refusal.ReadFault origin.Program) h e = h.rose
early-read load s (refusal.ReadFault origin.Input) h e = absurd h
early-read load s (refusal.TooLong o) h e = absurd (let z : ⊥ = cc in z)
early-read load s refusal.WriteFault h e = absurd h
early-read load s (refusal.Judged j) h e = absurd (judgement-other j status.ReadFault e)

late-read : (runner : Runner) (i o : Stream) (r : Refusal) → WalkEnds {Y = Unit {0}} runner i o (Err r) → refusal_status r ≡ status.ReadFault → Rose i.faults i.faults_now
late-read runner i o refusal.Usage h e = absurd h
late-read runner i o refusal.NoMemory h e = absurd h
late-read runner i o (refusal.ReadFault origin.Program) h e = absurd h
late-read runner i o (refusal.ReadFault origin.Input) h e = h.input
late-read runner i o (refusal.TooLong q) h e = absurd (let z : ⊥ = cc in z)
late-read runner i o refusal.WriteFault h e = absurd (let z : ⊥ = cc in z)
late-read runner i o (refusal.Judged j) h e = absurd (judgement-other j status.ReadFault e)

pub rows-read : (load : Load Runner) (seen : Seen) (r : Refusal) → RowsEnd {Y = Unit {0}} load seen (Err r) → refusal_status r ≡ status.ReadFault → Rose seen.program.faults seen.program.faults_now ⊎ Rose seen.input.faults seen.input.faults_now
rows-read load seen r h e = elim h [ inl early ↦ inl (early-read load seen.program r early.why e) | inr late ↦ inr (late-read late.runner seen.input seen.output r late.walk e) ]

pub early-write : {X : Type 0} (load : Load X) (s : Stream) (r : Refusal) → IsUnloaded load s r → refusal_status r ≡ status.WriteFault → ⊥
early-write load s refusal.Usage h e = h
early-write load s refusal.NoMemory h e = cc
early-write load s (refusal.ReadFault o) h e = cc
early-write load s (refusal.TooLong o) h e = cc
early-write load s refusal.WriteFault h e = h
early-write load s (refusal.Judged j) h e = judgement-other j status.WriteFault e

late-write : (runner : Runner) (i o : Stream) (r : Refusal) → WalkEnds {Y = Unit {0}} runner i o (Err r) → refusal_status r ≡ status.WriteFault → Rose o.faults o.faults_now
late-write runner i o refusal.Usage h e = absurd h
late-write runner i o refusal.NoMemory h e = absurd h
late-write runner i o (refusal.ReadFault q) h e = absurd (let z : ⊥ = cc in z)
late-write runner i o (refusal.TooLong q) h e = absurd (let z : ⊥ = cc in z)
late-write runner i o refusal.WriteFault h e = h.output
late-write runner i o (refusal.Judged j) h e = absurd (judgement-other j status.WriteFault e)

pub rows-write : (load : Load Runner) (seen : Seen) (r : Refusal) → RowsEnd {Y = Unit {0}} load seen (Err r) → refusal_status r ≡ status.WriteFault → Rose seen.output.faults seen.output.faults_now
rows-write load seen r h e = elim h [ inl early ↦ absurd (early-write load seen.program r early.why e) | inr late ↦ late-write late.runner seen.input seen.output r late.walk e ]

-- ---- out of memory comes before the input is read
late-memory : (runner : Runner) (i o : Stream) (r : Refusal) → WalkEnds {Y = Unit {0}} runner i o (Err r) → refusal_status r ≡ status.NoMemory → ⊥
late-memory runner i o refusal.Usage h e = h
late-memory runner i o refusal.NoMemory h e = h
late-memory runner i o (refusal.ReadFault q) h e = cc
late-memory runner i o (refusal.TooLong q) h e = cc
late-memory runner i o refusal.WriteFault h e = cc
late-memory runner i o (refusal.Judged (judgement.Vector n)) h e = cc
late-memory runner i o (refusal.Judged judgement.TooManyLines) h e = cc
late-memory runner i o r h e = h

pub rows-memory : (load : Load Runner) (seen : Seen) (r : Refusal) → RowsEnd {Y = Unit {0}} load seen (Err r) → refusal_status r ≡ status.NoMemory → IsUntouched seen.input × IsUntouched seen.output
rows-memory load seen r h e = elim h [ inl early ↦ (early.input, early.output) | inr late ↦ absurd (late-memory late.runner seen.input seen.output r late.walk e) ]

-- ---- what the program file decides
-- it has too many bytes, or is refused so
abbrev pub FileRefusal : {X : Type 0} → Load X → List ℕ → Status → Type 0
FileRefusal load file s = ((MAX_PROGRAM < length file) × (s ≡ status.TooLarge)) ⊎ ((j : Judgement) × (length file ≤ MAX_PROGRAM) × (load file ≡ Err j) × (s ≡ judgement_status j))

-- it is loaded, or it is refused so, or memory ran out
abbrev pub FileRows : {X : Type 0} → Load X → List ℕ → Status → Type 0
FileRows {X = X} load file s = ((length file ≤ MAX_PROGRAM) × ((loaded : X) × (load file ≡ Ok loaded))) ⊎ (FileRefusal load file s ⊎ (s ≡ status.NoMemory))

pub loaded-same : {X : Type 0} (load : Load X) (s : Stream) (loaded : Result X Judgement) (file : List ℕ) → Tells (Some MAX_PROGRAM) s file → IsLoaded load s loaded → (length file ≤ MAX_PROGRAM) × (load file ≡ loaded)
loaded-same load s loaded file t h =
    let same = same-bytes (Some MAX_PROGRAM) s h.file file h.read t in
    (subst (λ (x : List ℕ). length x ≤ MAX_PROGRAM) same h.read.fits, ap load (sym same) ∙ h.is)

pub early-file : {X : Type 0} (load : Load X) (s : Stream) (file : List ℕ) (r : Refusal) → Tells (Some MAX_PROGRAM) s file → (Rose s.faults s.faults_now → ⊥) → IsUnloaded load s r → FileRefusal load file (refusal_status r) ⊎ (refusal_status r ≡ status.NoMemory)
early-file load s file refusal.Usage t calm h = absurd h
early-file load s file refusal.NoMemory t calm h = inr refl
early-file load s file (refusal.ReadFault origin.Program) t calm h = absurd (calm h.rose)
early-file load s file (refusal.ReadFault origin.Input) t calm h = absurd h
early-file load s file (refusal.TooLong origin.Program) t calm h = inl (inl (over-told (Some MAX_PROGRAM) s file h t, refl))
early-file load s file (refusal.TooLong origin.Input) t calm h = absurd h
early-file load s file refusal.WriteFault t calm h = absurd h
early-file load s file (refusal.Judged j) t calm h = elim h [
  | inl memory ↦ inr memory
  | inr loaded ↦ let w = loaded-same load s (Err j) file t loaded in inl (inr (j, w.0, w.1, refl))
]

pub rows-file : {Y : Type 0} (load : Load Runner) (seen : Seen) (file : List ℕ) (result : Result Y Refusal) → Tells (Some MAX_PROGRAM) seen.program file → (Rose seen.program.faults seen.program.faults_now → ⊥) → RowsEnd load seen result → FileRows load file (answer_status result)
rows-file load seen file (Ok y) t calm h = let w = loaded-same load seen.program (Ok h.runner) file t h.loaded in inl (w.0, (h.runner, w.1))
rows-file load seen file (Err r) t calm h = elim h [
  | inl early ↦ inr (early-file load seen.program file r t calm early.why)
  | inr late ↦ let w = loaded-same load seen.program (Ok late.runner) file t late.loaded in inl (w.0, (late.runner, w.1))
]

-- ---- what all bytes decide
-- the file is refused, or the lines decide, or memory ran out
abbrev pub AllRows : Load Runner → List ℕ → List ℕ → Status → Type 0
AllRows load file input s = FileRefusal load file s ⊎ (((answer : Result (List ℕ) Refusal) × (length file ≤ MAX_PROGRAM) × RowsDecide load file input answer × (s ≡ answer_status answer)) ⊎ (s ≡ status.NoMemory))

stopped-decided : (load : Load Runner) (seen : Seen) (file input : List ℕ) (runner : Runner) (r : Refusal) → length file ≤ MAX_PROGRAM → load file ≡ Ok runner → Tells (Some MAX_INPUT) seen.input input → IsStopped runner seen.input seen.output r →
    (answer : Result (List ℕ) Refusal) × (length file ≤ MAX_PROGRAM) × RowsDecide load file input answer × (refusal_status r ≡ answer_status answer)
stopped-decided load seen file input runner r fits loaded u h =
    let w = told-of seen.input.before seen.input.now input (λ bytes rest. RanTo runner bytes seen.output.before seen.output.now r) u h.ran in
    (Err r, fits, record { runner = runner; loaded = loaded; is = ran-refused runner input r w.1.refused }, refl)

late-decided : {Y : Type 0} (load : Load Runner) (seen : Seen) (file input : List ℕ) (runner : Runner) (result : Result Y Refusal) → length file ≤ MAX_PROGRAM → load file ≡ Ok runner → Tells (Some MAX_INPUT) seen.input input → IsCalm seen → WalkEnds runner seen.input seen.output result →
    (answer : Result (List ℕ) Refusal) × (length file ≤ MAX_PROGRAM) × RowsDecide load file input answer × (answer_status result ≡ answer_status answer)
late-decided load seen file input runner (Ok y) fits loaded u calm h =
    let w = told-of seen.input.before seen.input.now input (λ bytes rest. RanWhole runner bytes rest seen.output.before seen.output.now) u h.ran in
    (Ok (results runner (rows_of (fitting_lines runner.width input))), fits, record { runner = runner; loaded = loaded; is = ran-fine runner input w.1.fine }, refl)
late-decided load seen file input runner (Err refusal.Usage) fits loaded u calm h = absurd h
late-decided load seen file input runner (Err refusal.NoMemory) fits loaded u calm h = absurd h
late-decided load seen file input runner (Err (refusal.ReadFault origin.Program)) fits loaded u calm h = absurd h
late-decided load seen file input runner (Err (refusal.ReadFault origin.Input)) fits loaded u calm h = absurd (calm.input h.input)
late-decided load seen file input runner (Err (refusal.TooLong origin.Program)) fits loaded u calm h = absurd h
late-decided load seen file input runner (Err (refusal.TooLong origin.Input)) fits loaded u calm h = stopped-decided load seen file input runner (refusal.TooLong origin.Input) fits loaded u h
late-decided load seen file input runner (Err refusal.WriteFault) fits loaded u calm h = absurd (calm.output h.output)
late-decided load seen file input runner (Err (refusal.Judged (judgement.Vector n))) fits loaded u calm h = stopped-decided load seen file input runner (refusal.Judged (judgement.Vector n)) fits loaded u h
late-decided load seen file input runner (Err (refusal.Judged judgement.TooManyLines)) fits loaded u calm h = stopped-decided load seen file input runner (refusal.Judged judgement.TooManyLines) fits loaded u h
late-decided load seen file input runner (Err (refusal.Judged j)) fits loaded u calm h = absurd h

pub rows-decided : {Y : Type 0} (load : Load Runner) (seen : Seen) (file input : List ℕ) (result : Result Y Refusal) → Tells (Some MAX_PROGRAM) seen.program file → Tells (Some MAX_INPUT) seen.input input → IsCalm seen → RowsEnd load seen result → AllRows load file input (answer_status result)
rows-decided load seen file input (Ok y) t u calm h =
    let w = loaded-same load seen.program (Ok h.runner) file t h.loaded in
    inr (inl (late-decided load seen file input h.runner (Ok y) w.0 w.1 u calm h.walk))
rows-decided load seen file input (Err r) t u calm h = elim h [
  | inl early ↦ elim (early-file load seen.program file r t calm.program early.why) [ inl f ↦ inl f | inr m ↦ inr (inr m) ]
  | inr late ↦
      let w = loaded-same load seen.program (Ok late.runner) file t late.loaded in
      inr (inl (late-decided {Y = Unit {0}} load seen file input late.runner (Err r) w.0 w.1 u calm late.walk))
]

-- What follows of how a command ends that writes its text whole.
use Rattle.std.proofs.Common.{sym, ◌≡◌, ◌⊎◌, ℕ, List, ◌++◌, Option, None, Some, Result, Ok, Err, inl, inr, refl, ◌∙◌, subst, arith}
use Rattle.pim_io.specs.Outside.{Rose, Told}
use Rattle.pim_words.specs.declared.command.Command.{Command}
use Rattle.pim_words.specs.declared.command.Command.TheVariants.{Prove}
use Rattle.pim_top.specs.Answers.{EndsFine, FilePasses, FileRefused, IsFine}
use Rattle.pim_top.specs.Calls.{IsCalm}
use Rattle.pim_top.specs.Decides.{EarlyDecides, FileDecides, InputDecides}
use Rattle.pim_top.specs.Reads.{IsOver, IsReadBy, IsWithin, OfBytes, Tells, reads}
use Rattle.pim_top.specs.Statuses.{answer_status, judgement_status, refusal_status}
use Rattle.pim_top.specs.Streams.{IsUntouched, IsWritten, Seen}
use Rattle.pim_top.specs.Wholes.{HasAnswered, WholeEnds}
use Rattle.pim_top.specs.declared.refusal.Origin.TheVariants as origin
use Rattle.pim_top.specs.declared.refusal.Refusal.{Refusal}
use Rattle.pim_top.specs.declared.refusal.Refusal.TheVariants as refusal
use Rattle.pim_top.specs.declared.status.Status.{Status}
use Rattle.pim_top.specs.declared.status.Status.TheVariants as status
use Rattle.pim_top.specs.inner.Faultless.{IsComplete, IsFaultless}
use Rattle.pim_top.proofs.StatusKinds.{judgement-other}
use Rattle.pim_top.proofs.Told.{failed-rose, of-bytes, over-told, read-within, same-bytes, told-map}

-- what a command of this kind decides, where its program file does not decide by itself
abbrev pub WholeDecides : Command → List ℕ → List ℕ → Result (List ℕ) Refusal → Type 0
WholeDecides c file input answer = FilePasses c file × InputDecides c file input answer

-- ---- done
pub whole-done : (c : Command) (seen : Seen) (Q : List ℕ → List ℕ → List ℕ → List ℕ → Type 0) →
    ((file input before after text : List ℕ) → after ≡ before ++ text → IsWithin (reads c origin.Program) file → WholeDecides c file input (Ok text) → Q file input before after) →
    HasAnswered c seen IsWritten → OfBytes (reads c origin.Program) seen.program (λ file. OfBytes (reads c origin.Input) seen.input (λ input. Told seen.output.before seen.output.now (λ before after. Q file input before after)))
whole-done c seen Q make h =
    of-bytes (reads c origin.Program) seen.program h.file (λ file. OfBytes (reads c origin.Input) seen.input (λ input. Told seen.output.before seen.output.now (λ before after. Q file input before after))) h.program_read
    (of-bytes (reads c origin.Input) seen.input h.input (λ input. Told seen.output.before seen.output.now (λ before after. Q h.file input before after)) h.input_read
    (told-map seen.output.before seen.output.now (λ before after. after ≡ before ++ h.text) (λ before after. Q h.file h.input before after)
    (λ before after e. make h.file h.input before after h.text e (read-within (reads c origin.Program) seen.program h.file h.program_read) (h.passes, (read-within (reads c origin.Input) seen.input h.input h.input_read, h.permitted)))
    h.took.took))

-- ---- the words and the outside
pub whole-usage : (c : Command) (seen : Seen) (r : Refusal) → WholeEnds {Y = Unit {0}} c seen (Err r) → refusal_status r ≡ status.Usage → ⊥
whole-usage c seen refusal.Usage h e = h.0
whole-usage c seen refusal.NoMemory h e = cc
whole-usage c seen (refusal.ReadFault o) h e = cc
whole-usage c seen (refusal.TooLong o) h e = cc
whole-usage c seen refusal.WriteFault h e = cc
whole-usage c seen (refusal.Judged j) h e = judgement-other j status.Usage e

pub whole-read : (c : Command) (seen : Seen) (r : Refusal) → WholeEnds {Y = Unit {0}} c seen (Err r) → refusal_status r ≡ status.ReadFault → Rose seen.program.faults seen.program.faults_now ⊎ Rose seen.input.faults seen.input.faults_now
whole-read c seen refusal.Usage h e = absurd h.0
whole-read c seen refusal.NoMemory h e = absurd (let z : ⊥ = cc in z)
whole-read c seen (refusal.ReadFault origin.Program) h e = inl (failed-rose (reads c origin.Program) seen.program h.0.how)
whole-read c seen (refusal.ReadFault origin.Input) h e = inr (failed-rose (reads c origin.Input) seen.input h.0.how)
whole-read c seen (refusal.TooLong o) h e = absurd (let z : ⊥ = cc in z)
whole-read c seen refusal.WriteFault h e = absurd (let z : ⊥ = cc in z)
whole-read c seen (refusal.Judged j) h e = absurd (judgement-other j status.ReadFault e)

pub whole-write : (c : Command) (seen : Seen) (r : Refusal) → WholeEnds {Y = Unit {0}} c seen (Err r) → refusal_status r ≡ status.WriteFault → Rose seen.output.faults seen.output.faults_now
whole-write c seen refusal.Usage h e = absurd h.0
whole-write c seen refusal.NoMemory h e = absurd (let z : ⊥ = cc in z)
whole-write c seen (refusal.ReadFault o) h e = absurd (let z : ⊥ = cc in z)
whole-write c seen (refusal.TooLong o) h e = absurd (let z : ⊥ = cc in z)
whole-write c seen refusal.WriteFault h e = h.took.rose
whole-write c seen (refusal.Judged j) h e = absurd (judgement-other j status.WriteFault e)

-- ---- nothing was written
pub whole-nothing : (c : Command) (seen : Seen) (r : Refusal) → WholeEnds {Y = Unit {0}} c seen (Err r) → (refusal_status r ≡ status.WriteFault → ⊥) → IsUntouched seen.output
whole-nothing c seen refusal.Usage h n = absurd h.0
whole-nothing c seen refusal.NoMemory h n = h.1
whole-nothing c seen (refusal.ReadFault origin.Program) h n = h.1
whole-nothing c seen (refusal.ReadFault origin.Input) h n = h.1
whole-nothing c seen (refusal.TooLong origin.Program) h n = h.1
whole-nothing c seen (refusal.TooLong origin.Input) h n = h.1
whole-nothing c seen refusal.WriteFault h n = absurd (n refl)
whole-nothing c seen (refusal.Judged j) h n = h.1

-- ---- what the program file decides
-- it is fine, or it is refused so, or memory ran out
abbrev pub FileEnds : Command → List ℕ → Status → Type 0
FileEnds c file s = (IsWithin (reads c origin.Program) file × FilePasses c file) ⊎ (((r : Refusal) × FileDecides c file r × (s ≡ refusal_status r)) ⊎ (s ≡ status.NoMemory))

file-fine : (c : Command) (seen : Seen) (read file : List ℕ) (s : Status) → Tells (reads c origin.Program) seen.program file → IsReadBy (reads c origin.Program) seen.program read → FilePasses c read → FileEnds c file s
file-fine c seen read file s t r p =
    let same = same-bytes (reads c origin.Program) seen.program read file r t in
    inl (subst (IsWithin (reads c origin.Program)) same (read-within (reads c origin.Program) seen.program read r), subst (FilePasses c) same p)

pub whole-file : {Y : Type 0} (c : Command) (seen : Seen) (file : List ℕ) (result : Result Y Refusal) → Tells (reads c origin.Program) seen.program file → (Rose seen.program.faults seen.program.faults_now → ⊥) → WholeEnds c seen result → FileEnds c file (answer_status result)
whole-file c seen file (Ok y) t calm h = file-fine c seen h.file file status.Done t h.program_read h.passes
whole-file c seen file (Err refusal.Usage) t calm h = absurd h.0
whole-file c seen file (Err refusal.NoMemory) t calm h = inr (inr refl)
whole-file c seen file (Err (refusal.ReadFault origin.Program)) t calm h = absurd (calm (failed-rose (reads c origin.Program) seen.program h.0.how))
whole-file c seen file (Err (refusal.ReadFault origin.Input)) t calm h = file-fine c seen h.0.file file status.ReadFault t h.0.program_read h.0.passes
whole-file c seen file (Err (refusal.TooLong origin.Program)) t calm h = inr (inl (refusal.TooLong origin.Program, over-told (reads c origin.Program) seen.program file h.0.how t, refl))
whole-file c seen file (Err (refusal.TooLong origin.Input)) t calm h = file-fine c seen h.0.file file status.TooLarge t h.0.program_read h.0.passes
whole-file c seen file (Err refusal.WriteFault) t calm h = file-fine c seen h.file file status.WriteFault t h.program_read h.passes
whole-file c seen file (Err (refusal.Judged j)) t calm h = elim h.0 [
  | inl memory ↦ inr (inr memory)
  | inr (inl f) ↦
      let same = same-bytes (reads c origin.Program) seen.program f.file file f.program_read t in
      inr (inl (refusal.Judged j, (subst (IsWithin (reads c origin.Program)) same (read-within (reads c origin.Program) seen.program f.file f.program_read), subst (λ (x : List ℕ). FileRefused c x j) same f.refused), refl))
  | inr (inr f) ↦ file-fine c seen f.file file (judgement_status j) t f.program_read f.passes
]

-- ---- what all bytes decide
-- they decide so, or memory ran out
abbrev pub AllEnds : (List ℕ → List ℕ → Result (List ℕ) Refusal → Type 0) → List ℕ → List ℕ → Status → Type 0
AllEnds D file input s = ((answer : Result (List ℕ) Refusal) × D file input answer × (s ≡ answer_status answer)) ⊎ (s ≡ status.NoMemory)

-- what is decided: early, or late
abbrev EarlyOrLate : Command → List ℕ → List ℕ → Result (List ℕ) Refusal → Type 0
EarlyOrLate c file input answer = EarlyDecides c file answer ⊎ (IsWithin (reads c origin.Program) file × WholeDecides c file input answer)

late : (c : Command) (seen : Seen) (read file input : List ℕ) (answer : Result (List ℕ) Refusal) → Tells (reads c origin.Program) seen.program file → IsReadBy (reads c origin.Program) seen.program read → FilePasses c read → InputDecides c read input answer → EarlyOrLate c file input answer
late c seen read file input answer t r p d =
    let same = same-bytes (reads c origin.Program) seen.program read file r t in
    subst (λ (x : List ℕ). EarlyOrLate c x input answer) same (inr (read-within (reads c origin.Program) seen.program read r, (p, d)))

pub whole-decided : {Y : Type 0} (c : Command) (seen : Seen) (file input : List ℕ) (result : Result Y Refusal) → Tells (reads c origin.Program) seen.program file → Tells (reads c origin.Input) seen.input input → IsCalm seen → WholeEnds c seen result → AllEnds (EarlyOrLate c) file input (answer_status result)
whole-decided c seen file input (Ok y) t u calm h =
    let same = same-bytes (reads c origin.Input) seen.input h.input input h.input_read u in
    inl (Ok h.text, late c seen h.file file input (Ok h.text) t h.program_read h.passes (subst (λ (x : List ℕ). InputDecides c h.file x (Ok h.text)) same (read-within (reads c origin.Input) seen.input h.input h.input_read, h.permitted)), refl)
whole-decided c seen file input (Err refusal.Usage) t u calm h = absurd h.0
whole-decided c seen file input (Err refusal.NoMemory) t u calm h = inr refl
whole-decided c seen file input (Err (refusal.ReadFault origin.Program)) t u calm h = absurd (calm.program (failed-rose (reads c origin.Program) seen.program h.0.how))
whole-decided c seen file input (Err (refusal.ReadFault origin.Input)) t u calm h = absurd (calm.input (failed-rose (reads c origin.Input) seen.input h.0.how))
whole-decided c seen file input (Err (refusal.TooLong origin.Program)) t u calm h = inl (Err (refusal.TooLong origin.Program), inl (over-told (reads c origin.Program) seen.program file h.0.how t), refl)
whole-decided c seen file input (Err (refusal.TooLong origin.Input)) t u calm h = inl (Err (refusal.TooLong origin.Input), late c seen h.0.file file input (Err (refusal.TooLong origin.Input)) t h.0.program_read h.0.passes (over-told (reads c origin.Input) seen.input input h.0.how u), refl)
whole-decided c seen file input (Err refusal.WriteFault) t u calm h = absurd (calm.output h.took.rose)
whole-decided c seen file input (Err (refusal.Judged j)) t u calm h = elim h.0 [
  | inl memory ↦ inr memory
  | inr (inl f) ↦
      let same = same-bytes (reads c origin.Program) seen.program f.file file f.program_read t in
      inl (Err (refusal.Judged j), inl (subst (IsWithin (reads c origin.Program)) same (read-within (reads c origin.Program) seen.program f.file f.program_read), subst (λ (x : List ℕ). FileRefused c x j) same f.refused), refl)
  | inr (inr f) ↦
      let same = same-bytes (reads c origin.Input) seen.input f.input input f.input_read u in
      inl (Err (refusal.Judged j), late c seen f.file file input (Err (refusal.Judged j)) t f.program_read f.passes (subst (λ (x : List ℕ). InputDecides c f.file x (Err (refusal.Judged j))) same (read-within (reads c origin.Input) seen.input f.input f.input_read, f.refused)), refl)
]

-- ---- what a command takes
over-within : (limit : Option ℕ) (bytes : List ℕ) → IsOver limit bytes → IsWithin limit bytes → ⊥
over-within None bytes over within = over
over-within (Some limit) bytes over within = omega (arith, over, within)

-- a command that is done ends as with bytes that it takes
done-fine : (c : Command) → EndsFine c status.Done
done-fine Prove = inl refl
done-fine c = refl

faultless-status : (c : Command) (file input : List ℕ) (answer : Result (List ℕ) Refusal) → IsFaultless c file input → EarlyOrLate c file input answer → EndsFine c (answer_status answer) ⊎ (answer_status answer ≡ status.NoMemory)
faultless-status c file input (Ok text) f h = inl (done-fine c)
faultless-status c file input (Err refusal.Usage) f h = elim h [ inl e ↦ absurd e | inr l ↦ absurd l.1.1 ]
faultless-status c file input (Err refusal.NoMemory) f h = inr refl
faultless-status c file input (Err (refusal.ReadFault o)) f h = elim h [ inl e ↦ absurd e | inr l ↦ absurd l.1.1 ]
faultless-status c file input (Err (refusal.TooLong origin.Program)) f h = elim h [ inl e ↦ absurd (over-within (reads c origin.Program) file e f.file_fits) | inr l ↦ absurd l.1.1 ]
faultless-status c file input (Err (refusal.TooLong origin.Input)) f h = elim h [ inl e ↦ absurd e | inr l ↦ absurd (over-within (reads c origin.Input) input l.1.1 f.input_fits) ]
faultless-status c file input (Err refusal.WriteFault) f h = elim h [ inl e ↦ absurd e | inr l ↦ absurd l.1.1 ]
faultless-status c file input (Err (refusal.Judged j)) f h = elim h [ inl e ↦ inr (f.file_passes j e.1) | inr l ↦ f.input_passes j l.1.1.1 ]

-- it is done, where what it takes has no fault
pub whole-complete : {Y : Type 0} (c : Command) (seen : Seen) (result : Result Y Refusal) → ((file input : List ℕ) → IsFine c file input → IsFaultless c file input) → WholeEnds c seen result → IsComplete c seen result
whole-complete c seen result law h = record {
  ends = λ file input t u calm fine. elim (whole-decided c seen file input result t u calm h) [
    | inl d ↦ elim (faultless-status c file input d.0 (law file input fine) d.1) [ inl done ↦ inl (subst (EndsFine c) (sym d.2) done) | inr memory ↦ inr (d.2 ∙ memory) ]
    | inr memory ↦ inr memory
  ];
}

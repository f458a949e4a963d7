-- The same where the source tells its bytes.
use Rattle.std.proofs.Common.{◌≡◌, ◌≢◌, ℕ, ◌+◌, ◌<◌, ◌≤◌, ◌⊎◌, not, Bool, true, false, List, ◌++◌, length, drop, Option, Some, None, Result, Ok, Err, refl, sym, ap, subst, arith}
use Rattle.std.specs.Borrow.{Bor}
use Rattle.std.specs.Prelude.{IfErr, IfOk, OnOk}
use Rattle.pim_debug.specs.Answers.{AnswersLine, refusal_of}
use Rattle.pim_debug.specs.Commands.{command_of}
use Rattle.pim_debug.specs.States.{SessionView}
use Rattle.pim_debug.specs.declared.fault.DebugFault.{DebugFault}
use Rattle.pim_debug.specs.declared.fault.DebugFault.TheVariants as fault
use Rattle.pim_debug.specs.declared.reply.Reply.{Reply}
use Rattle.pim_io.specs.Bits.{bits_of}
use Rattle.pim_io.specs.Outside.{Rose, Told, TookAll, TookFirst}
use Rattle.pim_isa.specs.Programs.{ProgramView}
use Rattle.pim_isa.specs.declared.target.Fill.{Fill}
use Rattle.pim_vectors.specs.Lines.{line_len}
use Rattle.pim_vectors.specs.Next.{IsAfter, LinesView, next_of}
use Rattle.pim_vectors.specs.declared.fault.LinesFault.{LinesFault}
use Rattle.pim_vectors.specs.declared.fault.LinesFault.TheVariants as faults
use Rattle.pim_io.specs.declared.limits.TheConstants.{MAX_INPUT}
use Rattle.pim_top.specs.Debugging.{DebuggedAll, DebuggedDone, DebuggedFront, DebuggedPart, longest_of, session_of}
use Rattle.pim_top.specs.Judged.{is_vector}
use Rattle.pim_top.specs.declared.judgement.Judgement.TheVariants as judgement
use Rattle.pim_top.specs.declared.refusal.Refusal.{Refusal}
use Rattle.pim_top.specs.declared.refusal.Refusal.TheVariants as refusal
use Rattle.pim_top.specs.commands.Replies.{reply_line}
use Rattle.pim_top.specs.inner.Sessions.{DebugStops, DebugsOn, IsDebugging, IsOfDebug, IsOfInput, IsUnwrittenReply, command_refusal, debug_refusal, is_quit}
use Rattle.pim_top.specs.inner.Standing.{first_line, lines_refusal}
use Rattle.pim_top.proofs.Told.{told-both, told-map}
use Rattle.pim_top.proofs.commands.debug.Lines.{begins, command-answered, command-cut, command-refused, input-done, input-ends, input-stops, stop-front, vector-refused, vector-starts}

-- what the walk over lines says of the bytes from the next line on
abbrev pub Answer : Option (List ℕ) → Option (List ℕ) → LinesView → Result (Option (List ℕ)) LinesFault → Type 0
Answer a b l answer = Told a b (λ left rest. next_of l (l.held ++ left) ≡ answer)

-- how the place moved
abbrev Moved : LinesView → LinesView → List ℕ → List ℕ → Type 0
Moved old new left rest =
    (new.held ++ rest ≡ drop (line_len (old.held ++ left) + 1) (old.held ++ left)) × (new.place + length (new.held ++ rest) ≡ old.place + length (old.held ++ left))

moved : (a b : Option (List ℕ)) (old new : LinesView) (line : Bor (List ℕ)) → IsAfter old a b (Ok (Some line)) new → Told a b (Moved old new)
moved a b old new line after = told-both a b _ _ (Moved old new) (λ left rest x y. (x, y)) after.rest after.place

-- the same of a fault, where it is one of the source
abbrev Held : LinesFault → LinesView → LinesView → List ℕ → List ℕ → Type 0
Held f old new left rest = (new.held ++ rest ≡ old.held ++ left) × (new.place + length (new.held ++ rest) ≡ old.place + length (old.held ++ left))

held : (a b : Option (List ℕ)) (old new : LinesView) (f : LinesFault) → IsAfter old a b (Err f) new → Told a b (Held f old new)
held a b old new f after = told-both a b _ _ (Held f old new) (λ left rest x y. (x, y)) after.rest after.place

-- where the source failed nothing is said of the next line
said-or : (a b : Option (List ℕ)) (l new : LinesView) (f : LinesFault) → IsAfter l a b (Err f) new → (f ≢ faults.Fault → Answer a b l (Err f)) → Told a b (λ left rest. f ≢ faults.Fault → next_of l (l.held ++ left) ≡ Err f)
said-or None b l new f after said = tt
said-or (Some x) None l new f after said = absurd after.rest
said-or (Some x) (Some y) l new f after said = said

abbrev err_of : LinesFault → Result (Option (Bor (List ℕ))) LinesFault
err_of f = Err f

-- a source that failed leaves too few bytes to judge
waiting : (a b : Option (List ℕ)) (old new : LinesView) (f : LinesFault) (longest : ℕ) → old.longest ≡ longest → IsAfter old a b (Err f) new → f ≡ faults.Fault →
    (line_len new.held ≡ length new.held) × (length new.held < longest + 2) × (new.place + length new.held ≤ MAX_INPUT)
waiting a b old new f longest same after e =
    let w = after.waits (ap (λ (x : LinesFault). err_of x) e) in
    (w.none, omega (arith, w.short, after.longest, same), w.within)

-- ---- the first line
pub begin-none : (a b : Option (List ℕ)) (p : ProgramView) (fill : Fill) (l : LinesView) → l ≡ first_line (longest_of p) → Answer a b l (Ok None) →
    Told a b (λ left rest. (now : Option (List ℕ)) → DebuggedAll p fill left now now (Some (refusal.Judged (judgement.Vector 1))))
begin-none a b p fill l start said =
    told-map a b (λ left rest. next_of l (l.held ++ left) ≡ Ok None) (λ left rest. (now : Option (List ℕ)) → DebuggedAll p fill left now now (Some (refusal.Judged (judgement.Vector 1))))
    (λ left rest s. λ now. input-ends p fill left left now now l None (begins p fill left now l start) s) said

pub begin-unfit : (a b : Option (List ℕ)) (p : ProgramView) (fill : Fill) (l : LinesView) (line : List ℕ) → l ≡ first_line (longest_of p) → Answer a b l (Ok (Some line)) → is_vector (length p.inputs) line ≡ false →
    Told a b (λ left rest. (now : Option (List ℕ)) → DebuggedAll p fill left now now (Some (refusal.Judged (judgement.Vector 1))))
begin-unfit a b p fill l line start said unfit =
    told-map a b (λ left rest. next_of l (l.held ++ left) ≡ Ok (Some line)) (λ left rest. (now : Option (List ℕ)) → DebuggedAll p fill left now now (Some (refusal.Judged (judgement.Vector 1))))
    (λ left rest s. λ now. vector-refused p fill left left now now l line (begins p fill left now l start) s unfit (ap (λ (v : LinesView). v.given) start)) said

pub begin-front : (a b : Option (List ℕ)) (p : ProgramView) (fill : Fill) (l : LinesView) (answer : Result (Option (List ℕ)) LinesFault) → l ≡ first_line (longest_of p) → Answer a b l answer →
    Told a b (λ left rest. (now : Option (List ℕ)) → DebuggedFront p fill left now now)
begin-front a b p fill l answer start said =
    told-map a b (λ left rest. next_of l (l.held ++ left) ≡ answer) (λ left rest. (now : Option (List ℕ)) → DebuggedFront p fill left now now)
    (λ left rest s. λ now. stop-front p fill left left now now l None (begins p fill left now l start)) said

pub begin-session : (a b : Option (List ℕ)) (p : ProgramView) (fill : Fill) (l new : LinesView) (line : Bor (List ℕ)) → l ≡ first_line (longest_of p) → IsAfter l a b (Ok (Some line)) new →
    Answer a b l (Ok (Some line.now)) → is_vector (length p.inputs) line.now ≡ true →
    Told a b (λ left rest. (now : Option (List ℕ)) → IsDebugging p fill left rest now now new (Some (session_of p fill (bits_of line.now))))
begin-session a b p fill l new line start after said fits =
    told-both a b (λ left rest. next_of l (l.held ++ left) ≡ Ok (Some line.now)) (Moved l new)
    (λ left rest. (now : Option (List ℕ)) → IsDebugging p fill left rest now now new (Some (session_of p fill (bits_of line.now))))
    (λ left rest s m. λ now. vector-starts p fill left left rest now now l new line.now (begins p fill left now l start) s fits after.longest after.given m.0 m.1)
    said (moved a b l new line after)

pub begin-stops : (a b : Option (List ℕ)) (p : ProgramView) (fill : Fill) (l new : LinesView) (f : LinesFault) → l ≡ first_line (longest_of p) → IsAfter l a b (Err f) new → (f ≢ faults.Fault → Answer a b l (Err f)) →
    Told a b (λ left rest. (now : Option (List ℕ)) → DebugStops p fill left rest now now (debug_refusal None f))
begin-stops a b p fill l new f start after said =
    told-both a b (λ left rest. f ≢ faults.Fault → next_of l (l.held ++ left) ≡ Err f) (Held f l new)
    (λ left rest. (now : Option (List ℕ)) → DebugStops p fill left rest now now (debug_refusal None f))
    (λ left rest s k. λ now. input-stops p fill left left rest now now l new None f (begins p fill left now l start) (λ e. k.0) (λ e. k.1)
    (λ e. waiting a b l new f (longest_of p) (ap (λ (v : LinesView). v.longest) start) after e) s)
    (said-or a b l new f after said) (held a b l new f after)

-- ---- a further line
-- from where the lines stand, with the fill and all bytes left open
abbrev pub From : ProgramView → Option (List ℕ) → LinesView → SessionView → (Fill → List ℕ → Option (List ℕ) → List ℕ → Type 0) → List ℕ → List ℕ → Type 0
From p taken l s P left rest =
    (fill : Fill) (bytes : List ℕ) (before : Option (List ℕ)) → IsDebugging p fill bytes left before taken l (Some s) → P fill bytes before rest

pub line-none : (a b taken : Option (List ℕ)) (p : ProgramView) (l new : LinesView) (s : SessionView) → IsAfter l a b (Ok None) new → Answer a b l (Ok None) →
    Told a b (From p taken l s (λ fill bytes before rest. DebuggedDone p fill bytes rest before taken))
line-none a b taken p l new s after said =
    told-both a b (λ left rest. next_of l (l.held ++ left) ≡ Ok None) (λ left rest. new.held ++ rest ≡ l.held ++ left)
    (From p taken l s (λ fill bytes before rest. DebuggedDone p fill bytes rest before taken))
    (λ left rest t kept. λ fill bytes before h. input-done p fill bytes left rest before taken l new s h t kept) said after.rest

pub line-answered : (a b taken now : Option (List ℕ)) (p : ProgramView) (l new : LinesView) (s s' : SessionView) (line : Bor (List ℕ)) (r : Reply) (q : Bool) →
    IsAfter l a b (Ok (Some line)) new → Answer a b l (Ok (Some line.now)) →
    refusal_of s (command_of line.now) ≡ None → AnswersLine s (command_of line.now) r s'.state → s' ≡ record s { state = s'.state } →
    is_quit r ≡ q → TookAll taken now (reply_line r) →
    Told a b (From p taken l s (λ fill bytes before rest. DebugsOn (not q) p fill bytes rest before now new (Some s')))
line-answered a b taken now p l new s s' line r q after said accepted answers state quit took =
    told-both a b (λ left rest. next_of l (l.held ++ left) ≡ Ok (Some line.now)) (Moved l new)
    (From p taken l s (λ fill bytes before rest. DebugsOn (not q) p fill bytes rest before now new (Some s')))
    (λ left rest t m. λ fill bytes before h. command-answered p fill bytes left rest before taken now l new s s' line.now r q h t after.longest after.given m.0 m.1 accepted answers state quit took)
    said (moved a b l new line after)

pub line-cut : (a b taken now : Option (List ℕ)) (p : ProgramView) (l : LinesView) (s s' : SessionView) (line : List ℕ) (r : Reply) →
    Answer a b l (Ok (Some line)) → refusal_of s (command_of line) ≡ None → AnswersLine s (command_of line) r s'.state → s' ≡ record s { state = s'.state } →
    TookFirst taken now (reply_line r) → Told a b (From p taken l s (λ fill bytes before rest. DebuggedPart p fill bytes before now))
line-cut a b taken now p l s s' line r said accepted answers state took =
    told-map a b (λ left rest. next_of l (l.held ++ left) ≡ Ok (Some line)) (From p taken l s (λ fill bytes before rest. DebuggedPart p fill bytes before now))
    (λ left rest t. λ fill bytes before h. command-cut p fill bytes left before taken now l s s' line r h t accepted answers state took) said

pub line-front : (a b taken : Option (List ℕ)) (p : ProgramView) (l : LinesView) (s : SessionView) (answer : Result (Option (List ℕ)) LinesFault) → Answer a b l answer →
    Told a b (From p taken l s (λ fill bytes before rest. DebuggedFront p fill bytes before taken))
line-front a b taken p l s answer said =
    told-map a b (λ left rest. next_of l (l.held ++ left) ≡ answer) (From p taken l s (λ fill bytes before rest. DebuggedFront p fill bytes before taken))
    (λ left rest t. λ fill bytes before h. stop-front p fill bytes left before taken l (Some s) h) said

pub line-refused : (a b taken : Option (List ℕ)) (p : ProgramView) (l : LinesView) (s : SessionView) (line : List ℕ) (n : ℕ) (f : DebugFault) → Answer a b l (Ok (Some line)) → n ≡ l.given + 1 →
    (f ≡ fault.NoMemory) ⊎ (refusal_of s (command_of line) ≡ Some f) →
    Told a b (From p taken l s (λ fill bytes before rest. DebugStops p fill bytes rest before taken (command_refusal n f)))
line-refused a b taken p l s line n f said number why =
    told-map a b (λ left rest. next_of l (l.held ++ left) ≡ Ok (Some line)) (From p taken l s (λ fill bytes before rest. DebugStops p fill bytes rest before taken (command_refusal n f)))
    (λ left rest t. λ fill bytes before h. command-refused p fill bytes left rest before taken l s line n f h t number why) said

pub line-stops : (a b taken : Option (List ℕ)) (p : ProgramView) (l new : LinesView) (s : SessionView) (f : LinesFault) → l.longest ≡ longest_of p → IsAfter l a b (Err f) new → (f ≢ faults.Fault → Answer a b l (Err f)) →
    Told a b (From p taken l s (λ fill bytes before rest. DebugStops p fill bytes rest before taken (debug_refusal (Some s) f)))
line-stops a b taken p l new s f longest after said =
    told-both a b (λ left rest. f ≢ faults.Fault → next_of l (l.held ++ left) ≡ Err f) (Held f l new)
    (From p taken l s (λ fill bytes before rest. DebugStops p fill bytes rest before taken (debug_refusal (Some s) f)))
    (λ left rest t k. λ fill bytes before h. input-stops p fill bytes left rest before taken l new (Some s) f h (λ e. k.0) (λ e. k.1)
    (λ e. waiting a b l new f (longest_of p) longest after e) t)
    (said-or a b l new f after said) (held a b l new f after)

-- ---- one line after another
pub lines-start : (a taken : Option (List ℕ)) (p : ProgramView) (l : LinesView) (s : SessionView) →
    Told a a (From p taken l s (λ fill bytes before rest. DebugsOn true p fill bytes rest before taken l (Some s)))
lines-start None taken p l s = tt
lines-start (Some x) taken p l s = λ fill bytes before h. h

pub lines-then : (a b c taken mid : Option (List ℕ)) (p : ProgramView) (l m : LinesView) (s t : SessionView) (P : Fill → List ℕ → Option (List ℕ) → List ℕ → Type 0) →
    Told a b (From p taken l s (λ fill bytes before rest. DebugsOn true p fill bytes rest before mid m (Some t))) → Told b c (From p mid m t P) → Told a c (From p taken l s P)
lines-then None b c taken mid p l m s t P h k = tt
lines-then (Some x) None c taken mid p l m s t P h k = absurd h
lines-then (Some x) (Some y) None taken mid p l m s t P h k = absurd k
lines-then (Some x) (Some y) (Some z) taken mid p l m s t P h k = λ fill bytes before d. k fill bytes before (h fill bytes before d)

-- the session's first line, and then the others
pub begin-then : (a b c mid : Option (List ℕ)) (p : ProgramView) (fill : Fill) (m : LinesView) (t : SessionView) (P : Fill → List ℕ → Option (List ℕ) → List ℕ → Type 0) →
    Told a b (λ left rest. (now : Option (List ℕ)) → IsDebugging p fill left rest now now m (Some t)) → Told b c (From p mid m t P) → Told a c (λ bytes rest. P fill bytes mid rest)
begin-then None b c mid p fill m t P h k = tt
begin-then (Some x) None c mid p fill m t P h k = absurd h
begin-then (Some x) (Some y) None mid p fill m t P h k = absurd k
begin-then (Some x) (Some y) (Some z) mid p fill m t P h k = k fill x mid (h mid)

pub begin-now : (a b mid : Option (List ℕ)) (p : ProgramView) (fill : Fill) (r : Refusal) → Told a b (λ left rest. (now : Option (List ℕ)) → DebugStops p fill left rest now now r) →
    Told a b (λ bytes rest. DebugStops p fill bytes rest mid mid r)
begin-now None b mid p fill r h = tt
begin-now (Some x) None mid p fill r h = absurd h
begin-now (Some x) (Some y) mid p fill r h = h mid

-- ---- the answer to a command, and what is left of it
pub answered-goes : (a b taken now : Option (List ℕ)) (p : ProgramView) (l new : LinesView) (s s' : SessionView) (line : Bor (List ℕ)) (r : Reply) (result : Result Bool Refusal) →
    IsAfter l a b (Ok (Some line)) new → Answer a b l (Ok (Some line.now)) →
    refusal_of s (command_of line.now) ≡ None → AnswersLine s (command_of line.now) r s'.state → s' ≡ record s { state = s'.state } →
    IfOk result (λ more. more ≡ not (is_quit r)) → OnOk result (TookAll taken now (reply_line r)) →
    IfOk result (λ more. Told a b (From p taken l s (λ fill bytes before rest. DebugsOn more p fill bytes rest before now new (Some s'))))
answered-goes a b taken now p l new s s' line r (Ok more) after said accepted answers state goes took =
    subst (λ (x : Bool). Told a b (From p taken l s (λ fill bytes before rest. DebugsOn x p fill bytes rest before now new (Some s')))) (sym goes)
    (line-answered a b taken now p l new s s' line r (is_quit r) after said accepted answers state refl took)
answered-goes a b taken now p l new s s' line r (Err e) after said accepted answers state goes took = tt

pub answered-refused : (a b taken now : Option (List ℕ)) (p : ProgramView) (l : LinesView) (s s' : SessionView) (line : List ℕ) (r : Reply) (k k' : ℕ) (result : Result Bool Refusal) →
    Answer a b l (Ok (Some line)) → refusal_of s (command_of line) ≡ None → AnswersLine s (command_of line) r s'.state → s' ≡ record s { state = s'.state } →
    IfErr result (IsUnwrittenReply (reply_line r) taken now k k') →
    IfErr result (λ x. Told a b (From p taken l s (λ fill bytes before rest. DebugStops p fill bytes rest before now x)))
answered-refused a b taken now p l s s' line r k k' (Ok more) said accepted answers state why = tt
answered-refused a b taken now p l s s' line r k k' (Err refusal.NoMemory) said accepted answers state why =
    subst (λ (t : Option (List ℕ)). Told a b (From p taken l s (λ fill bytes before rest. DebuggedFront p fill bytes before t))) (sym why.0)
    (line-front a b taken p l s (Ok (Some line)) said)
answered-refused a b taken now p l s s' line r k k' (Err refusal.WriteFault) said accepted answers state why =
    line-cut a b taken now p l s s' line r said accepted answers state why.0
answered-refused a b taken now p l s s' line r k k' (Err refusal.Usage) said accepted answers state why = absurd why
answered-refused a b taken now p l s s' line r k k' (Err (refusal.ReadFault o)) said accepted answers state why = absurd why
answered-refused a b taken now p l s s' line r k k' (Err (refusal.TooLong o)) said accepted answers state why = absurd why
answered-refused a b taken now p l s s' line r k k' (Err (refusal.Judged j)) said accepted answers state why = absurd why

pub answered-kinds : (text : List ℕ) (taken now : Option (List ℕ)) (m n k k' : ℕ) (result : Result Bool Refusal) → n ≡ m → IfErr result (IsUnwrittenReply text taken now k k') → IfErr result (IsOfDebug m n k k')
answered-kinds text taken now m n k k' (Ok more) same why = tt
answered-kinds text taken now m n k k' (Err refusal.NoMemory) same why = (same, why.1)
answered-kinds text taken now m n k k' (Err refusal.WriteFault) same why = (same, why.1)
answered-kinds text taken now m n k k' (Err refusal.Usage) same why = absurd why
answered-kinds text taken now m n k k' (Err (refusal.ReadFault o)) same why = absurd why
answered-kinds text taken now m n k k' (Err (refusal.TooLong o)) same why = absurd why
answered-kinds text taken now m n k k' (Err (refusal.Judged j)) same why = absurd why

-- the first line's refusal is that of any walk over lines
pub first-refusal : (f : LinesFault) → debug_refusal None f ≡ lines_refusal f
first-refusal faults.Fault = refl
first-refusal (faults.Long n) = refl
first-refusal faults.TooMany = refl
first-refusal faults.TooLong = refl

-- the counts of faults at a fault of lines
pub fault-kinds : (session : Option SessionView) (f : LinesFault) (m n : ℕ) → (f ≡ faults.Fault → Rose m n) → (f ≢ faults.Fault → n ≡ m) → IsOfInput m n (debug_refusal session f)
fault-kinds session faults.Fault m n rose same = rose refl
fault-kinds None (faults.Long k) m n rose same = same (λ e. cc)
fault-kinds (Some s) (faults.Long k) m n rose same = same (λ e. cc)
fault-kinds session faults.TooMany m n rose same = same (λ e. cc)
fault-kinds session faults.TooLong m n rose same = same (λ e. cc)

pub line-kinds : (s : SessionView) (f : LinesFault) (m n k : ℕ) → (f ≡ faults.Fault → Rose m n) → (f ≢ faults.Fault → n ≡ m) → IsOfDebug m n k k (debug_refusal (Some s) f)
line-kinds s faults.Fault m n k rose same = (rose refl, refl)
line-kinds s (faults.Long j) m n k rose same = (same (λ e. cc), refl)
line-kinds s faults.TooMany m n k rose same = (same (λ e. cc), refl)
line-kinds s faults.TooLong m n k rose same = (same (λ e. cc), refl)

-- ---- the loop
pub step-on : (a b c taken mid now : Option (List ℕ)) (p p' : ProgramView) (l m n : LinesView) (s t u : SessionView) (x y : Bool) → x ≡ true → p' ≡ p →
    Told a b (From p taken l s (λ fill bytes before rest. DebugsOn x p fill bytes rest before mid m (Some t))) →
    Told b c (From p' mid m t (λ fill bytes before rest. DebugsOn y p' fill bytes rest before now n (Some u))) →
    Told a c (From p taken l s (λ fill bytes before rest. DebugsOn y p fill bytes rest before now n (Some u)))
step-on a b c taken mid now p p' l m n s t u x y on same h k =
    lines-then a b c taken mid p l m s t (λ fill bytes before rest. DebugsOn y p fill bytes rest before now n (Some u))
    (subst (λ (z : Bool). Told a b (From p taken l s (λ fill bytes before rest. DebugsOn z p fill bytes rest before mid m (Some t)))) on h)
    (subst (λ (q : ProgramView). Told b c (From q mid m t (λ fill bytes before rest. DebugsOn y q fill bytes rest before now n (Some u)))) same k)

pub step-off : (a b c taken mid now : Option (List ℕ)) (p p' : ProgramView) (l m : LinesView) (s t : SessionView) (x : Bool) (r : Refusal) → x ≡ true → p' ≡ p →
    Told a b (From p taken l s (λ fill bytes before rest. DebugsOn x p fill bytes rest before mid m (Some t))) →
    Told b c (From p' mid m t (λ fill bytes before rest. DebugStops p' fill bytes rest before now r)) →
    Told a c (From p taken l s (λ fill bytes before rest. DebugStops p fill bytes rest before now r))
step-off a b c taken mid now p p' l m s t x r on same h k =
    lines-then a b c taken mid p l m s t (λ fill bytes before rest. DebugStops p fill bytes rest before now r)
    (subst (λ (z : Bool). Told a b (From p taken l s (λ fill bytes before rest. DebugsOn z p fill bytes rest before mid m (Some t)))) on h)
    (subst (λ (q : ProgramView). Told b c (From q mid m t (λ fill bytes before rest. DebugStops q fill bytes rest before now r))) same k)

pub step-done : (a b taken now : Option (List ℕ)) (p : ProgramView) (l m : LinesView) (s t : SessionView) (x : Bool) → x ≡ false →
    Told a b (From p taken l s (λ fill bytes before rest. DebugsOn x p fill bytes rest before now m (Some t))) →
    Told a b (From p taken l s (λ fill bytes before rest. DebuggedDone p fill bytes rest before now))
step-done a b taken now p l m s t x off h =
    subst (λ (z : Bool). Told a b (From p taken l s (λ fill bytes before rest. DebugsOn z p fill bytes rest before now m (Some t)))) off h

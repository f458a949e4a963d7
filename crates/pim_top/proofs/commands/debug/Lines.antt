-- How the lines of a debugger's input go on, line by line.
use Rattle.std.proofs.Common.{◌≡◌, ◌≢◌, ℕ, ◌+◌, ◌<◌, ◌≤◌, ◌⊎◌, ◌&&◌, ◌||◌, not, Bool, true, false, cond, eqb, ltb, List, [], ◌∷◌, ◌++◌, length, drop, Option, Some, None, Ok, Err, inl, inr, refl, sym, ap, ◌∙◌, subst, arith, append_assoc, append-nil}
use Rattle.std.specs.List.{list_all}
use Rattle.std.proofs.lemmas.Bool.Decides.{nat_tests}
use Rattle.pim_debug.specs.Answers.{AnswersLine, refusal_of}
use Rattle.pim_debug.specs.Commands.{command_of}
use Rattle.pim_debug.specs.States.{SessionView, State}
use Rattle.pim_debug.specs.declared.command.Command.{Command as Asked}
use Rattle.pim_debug.specs.declared.command.Command.TheVariants as asked
use Rattle.pim_debug.specs.declared.fault.DebugFault.{DebugFault}
use Rattle.pim_debug.specs.declared.fault.DebugFault.TheVariants as fault
use Rattle.pim_debug.specs.declared.reply.Reply.{Reply}
use Rattle.pim_debug.specs.declared.reply.Reply.TheVariants as reply
use Rattle.pim_io.specs.Bits.{bits_of}
use Rattle.pim_io.specs.Outside.{TookAll, TookFirst}
use Rattle.pim_io.specs.declared.limits.TheConstants.{MAX_INPUT}
use Rattle.pim_isa.specs.Programs.{ProgramView}
use Rattle.pim_isa.specs.declared.target.Fill.{Fill}
use Rattle.pim_vectors.specs.Lines.{line_len, lines}
use Rattle.pim_vectors.specs.Next.{LinesView}
use Rattle.pim_vectors.specs.declared.fault.LinesFault.{LinesFault}
use Rattle.pim_vectors.specs.declared.fault.LinesFault.TheVariants as faults
use Rattle.pim_vectors.specs.declared.limits.TheConstants.{MAX_LINES}
use Rattle.pim_top.specs.Debugging.{DebuggedAll, DebuggedDone, DebuggedFront, DebuggedPart, Runs, Takes, command_end, last_end, line_end, longest_of, session_of, words_end}
use Rattle.pim_top.specs.Judged.{behind_lines, is_vector, judged_lines}
use Rattle.pim_top.specs.declared.judgement.Judgement.TheVariants as judgement
use Rattle.pim_top.specs.declared.refusal.Origin.TheVariants as origin
use Rattle.pim_top.specs.declared.refusal.Refusal.{Refusal}
use Rattle.pim_top.specs.declared.refusal.Refusal.TheVariants as refusal
use Rattle.pim_top.specs.commands.Replies.{reply_line}
use Rattle.pim_top.specs.inner.Sessions.{DebugStops, DebugsOn, IsDebugging, command_refusal, debug_refusal, is_quit}
use Rattle.pim_top.specs.inner.Standing.{first_line}
use Rattle.pim_top.proofs.LineStates.{Says, StandsNext, halts-next, judged-front, line-more, line-next, long-next, many-next, none-next, over-next, rest-nil}
use Rattle.pim_top.proofs.WalkSteps.{then-first, took-both}

-- ---- one line more
pub runs-push : (p : ProgramView) (fill : Fill) (n : ℕ) (first : Option SessionView) (ls : List (List ℕ)) (text : List ℕ) (session : Option SessionView) (line t : List ℕ) (next : Option SessionView) →
    Runs p fill n first ls text session → line_end p (n + length ls) session line ≡ None → Takes p fill session line t next →
    Runs p fill n first (ls ++ line ∷ []) (text ++ t) next
runs-push p fill n first [] text session line t next r goes takes =
    let same : n + length {A = List ℕ} [] ≡ n = omega arith in (
      ap (λ (s : Option SessionView). line_end p n s line) (sym r.1) ∙ ap (λ (m : ℕ). line_end p m session line) (sym same) ∙ goes,
      (
        t,
        [],
        next,
        subst (λ (s : Option SessionView). Takes p fill s line t next) r.1 takes,
        ap (λ (x : List ℕ). x ++ t) r.0 ∙ sym (append-nil t),
        (refl, refl),
      ),
    )
runs-push p fill n first (l ∷ ls) text session line t next r goes takes =
    let more : n + length (l ∷ ls) ≡ n + 1 + length ls = omega arith in (
      r.0,
      (
        r.1.0,
        r.1.1 ++ t,
        r.1.2,
        r.1.3,
        ap (λ (x : List ℕ). x ++ t) r.1.4 ∙ append_assoc r.1.0 r.1.1 t,
        runs-push p fill (n + 1) r.1.2 ls r.1.1 session line t next r.1.5 (ap (λ (m : ℕ). line_end p m session line) (sym more) ∙ goes) takes,
      ),
    )

-- ---- what ends the lines
end-many : (p : ProgramView) (n : ℕ) (session : Option SessionView) (line : List ℕ) → eqb n MAX_LINES ≡ true →
    line_end p n session line ≡ Some (Some (refusal.Judged judgement.TooManyLines))
end-many p n session line e = ap (λ (b : Bool). cond b (Some (Some (refusal.Judged judgement.TooManyLines))) (words_end p n session line)) e

end-few : (p : ProgramView) (n : ℕ) (session : Option SessionView) (line : List ℕ) → eqb n MAX_LINES ≡ false →
    line_end p n session line ≡ words_end p n session line
end-few p n session line e = ap (λ (b : Bool). cond b (Some (Some (refusal.Judged judgement.TooManyLines))) (words_end p n session line)) e

end-long : (p : ProgramView) (n : ℕ) (s : SessionView) (line : List ℕ) → ltb (longest_of p) (length line) ≡ true →
    words_end p n (Some s) line ≡ Some (Some (refusal.Judged (judgement.Command (n + 1) fault.BadCommand)))
end-long p n s line e =
    ap (λ (b : Bool). cond b (Some (Some (refusal.Judged (judgement.Command (n + 1) fault.BadCommand)))) (command_end n (refusal_of s (command_of line)) (command_of line))) e

end-short : (p : ProgramView) (n : ℕ) (s : SessionView) (line : List ℕ) → ltb (longest_of p) (length line) ≡ false →
    words_end p n (Some s) line ≡ command_end n (refusal_of s (command_of line)) (command_of line)
end-short p n s line e =
    ap (λ (b : Bool). cond b (Some (Some (refusal.Judged (judgement.Command (n + 1) fault.BadCommand)))) (command_end n (refusal_of s (command_of line)) (command_of line))) e

end-vector : (p : ProgramView) (n : ℕ) (line : List ℕ) (b : Bool) → is_vector (length p.inputs) line ≡ b →
    words_end p n None line ≡ cond b None (Some (Some (refusal.Judged (judgement.Vector (n + 1)))))
end-vector p n line b e = ap (λ (x : Bool). cond x None (Some (Some (refusal.Judged (judgement.Vector (n + 1)))))) e

-- a line that is too long is no vector
long-vector : (p : ProgramView) (line : List ℕ) → ltb (longest_of p) (length line) ≡ true → is_vector (length p.inputs) line ≡ false
long-vector p line long =
    let bound : length p.inputs ≤ longest_of p = by (ltb 64 (length p.inputs)) refl in
    let other : eqb (length line) (length p.inputs) ≡ false = grind (arith, nat_tests) in
    ap (λ (b : Bool). b && list_all (λ c. eqb c 48 || eqb c 49) line) other
  where
    by : (b : Bool) → ltb 64 (length p.inputs) ≡ b → length p.inputs ≤ cond b (length p.inputs) 64
    by true e = omega arith
    by false e = grind (arith, nat_tests)

-- ---- from a place
took-none : (k : Option (List ℕ)) → TookAll k k []
took-none None = tt
took-none (Some x) = sym (append-nil x)

pub begins : (p : ProgramView) (fill : Fill) (bytes : List ℕ) (now : Option (List ℕ)) (l : LinesView) → l ≡ first_line (longest_of p) →
    IsDebugging p fill bytes bytes now now l None
begins p fill bytes now l start =
    subst (λ (x : LinesView). IsDebugging p fill bytes bytes now now x None) (sym start) (record {
      front = [];
      place = record { same = refl; cut = refl; place = refl; within = omega arith; whole = inl refl; given = refl };
      text = [];
      runs = (refl, refl);
      took = took-none now;
    })

-- a line ends them
stop-line : (p : ProgramView) (fill : Fill) (bytes left : List ℕ) (before taken : Option (List ℕ)) (l : LinesView) (session : Option SessionView) (line : List ℕ) (many long : Bool) (ended : Option Refusal) →
    (h : IsDebugging p fill bytes left before taken l session) → StandsNext (longest_of p) bytes h.front l.given many long line →
    line_end p l.given session line ≡ Some ended → DebuggedAll p fill bytes before taken ended
stop-line p fill bytes left before taken l session line many long ended h next ends = record {
  text = h.text;
  ran = record {
    done = lines h.front;
    more = line ∷ next.more;
    cut = next.judged;
    session = session;
    runs = h.runs;
    ends = ap (λ (n : ℕ). line_end p n session line) (sym h.place.given) ∙ ends;
  };
  took = h.took;
}

-- no line is left
stop-end : (p : ProgramView) (fill : Fill) (bytes left : List ℕ) (before taken : Option (List ℕ)) (l : LinesView) (session : Option SessionView) (behind : Option Refusal) →
    (h : IsDebugging p fill bytes left before taken l session) → judged_lines (longest_of p) bytes ≡ lines h.front → behind_lines bytes ≡ behind →
    DebuggedAll p fill bytes before taken (last_end session behind)
stop-end p fill bytes left before taken l session behind h judged said = record {
  text = h.text;
  ran = record {
    done = lines h.front;
    more = [];
    cut = judged ∙ sym (append-nil (lines h.front));
    session = session;
    runs = h.runs;
    ends = ap (λ (b : Option Refusal). Some (last_end session b)) said;
  };
  took = h.took;
}

-- memory ran out
pub stop-front : (p : ProgramView) (fill : Fill) (bytes left : List ℕ) (before taken : Option (List ℕ)) (l : LinesView) (session : Option SessionView) →
    IsDebugging p fill bytes left before taken l session → DebuggedFront p fill bytes before taken
stop-front p fill bytes left before taken l session h =
    let f = judged-front (longest_of p) bytes left h.front l h.place in
    record {
      text = h.text;
      ran = record { done = lines h.front; more = f.0; cut = f.1; session = session; runs = h.runs };
      took = h.took;
    }

-- one line more is obeyed
go-line : (p : ProgramView) (fill : Fill) (bytes left rest : List ℕ) (before taken now : Option (List ℕ)) (l new : LinesView) (session next : Option SessionView) (line t : List ℕ) →
    IsDebugging p fill bytes left before taken l session → Says l left (Ok (Some line)) → new.longest ≡ l.longest → new.given ≡ l.given + 1 →
    new.held ++ rest ≡ drop (line_len (l.held ++ left) + 1) (l.held ++ left) → new.place + length (new.held ++ rest) ≡ l.place + length (l.held ++ left) →
    line_end p l.given session line ≡ None → Takes p fill session line t next → TookAll taken now t →
    IsDebugging p fill bytes rest before now new next
go-line p fill bytes left rest before taken now l new session next line t h said same given behind place goes takes took =
    let w = line-more (longest_of p) bytes left rest h.front l new line h.place said same given behind place in
    record {
      front = w.0;
      place = w.1;
      text = h.text ++ t;
      runs = subst (λ (ls : List (List ℕ)). Runs p fill 0 None ls (h.text ++ t) next) (sym w.2)
          (runs-push p fill 0 None (lines h.front) h.text session line t next h.runs
          (ap (λ (n : ℕ). line_end p n session line) (let z : 0 + length (lines h.front) ≡ l.given = omega (arith, h.place.given) in z) ∙ goes) takes);
      took = took-both before taken now h.text t h.took took;
    }

-- the output failed in writing its reply
part-line : (p : ProgramView) (fill : Fill) (bytes left : List ℕ) (before taken now : Option (List ℕ)) (l : LinesView) (session next : Option SessionView) (line t : List ℕ) →
    IsDebugging p fill bytes left before taken l session → Says l left (Ok (Some line)) →
    line_end p l.given session line ≡ None → Takes p fill session line t next → TookFirst taken now t → DebuggedPart p fill bytes before now
part-line p fill bytes left before taken now l session next line t h said goes takes took =
    let f = line-next (longest_of p) bytes left h.front l line h.place said in
    record {
      text = h.text ++ t;
      ran = record {
        done = lines h.front ++ line ∷ [];
        more = f.more;
        cut = f.judged ∙ sym (append_assoc (lines h.front) (line ∷ []) f.more);
        session = next;
        runs = runs-push p fill 0 None (lines h.front) h.text session line t next h.runs
            (ap (λ (n : ℕ). line_end p n session line) (let z : 0 + length (lines h.front) ≡ l.given = omega (arith, h.place.given) in z) ∙ goes) takes;
      };
      took = then-first before taken now h.text t h.took took;
    }

-- ---- the answers of the walk over lines
-- it is to quit: what a reply says of the command
quits : (s : SessionView) (n : ℕ) (c : Option Asked) (r : Reply) (t : State) (b : Bool) → AnswersLine s c r t → is_quit r ≡ b →
    command_end n None c ≡ cond b (Some None) None
quits s n None r t b h e = absurd h
quits s n (Some asked.Nothing) r t b h e = ap (λ (x : Bool). cond x (Some None) None) (sym (ap is_quit h.0) ∙ e)
quits s n (Some (asked.Step k)) r t b h e = ap (λ (x : Bool). cond x (Some None) None) (sym (ap is_quit h.reply) ∙ e)
quits s n (Some (asked.Back k)) r t b h e = ap (λ (x : Bool). cond x (Some None) None) (sym (ap is_quit h.reply) ∙ e)
quits s n (Some (asked.Goto k)) r t b h e = ap (λ (x : Bool). cond x (Some None) None) (sym (ap is_quit h.reply) ∙ e)
quits s n (Some asked.Run) r t b h e = ap (λ (x : Bool). cond x (Some None) None) (sym (ap is_quit h.reply) ∙ e)
quits s n (Some (asked.Break k)) r t b h e = ap (λ (x : Bool). cond x (Some None) None) (sym (ap is_quit h.0) ∙ e)
quits s n (Some (asked.Delete k)) r t b h e = ap (λ (x : Bool). cond x (Some None) None) (sym (ap is_quit h.0) ∙ e)
quits s n (Some (asked.Cell k)) r t b h e = ap (λ (x : Bool). cond x (Some None) None) (sym (ap is_quit h.0) ∙ e)
quits s n (Some asked.Show) r t b h e = ap (λ (x : Bool). cond x (Some None) None) (sym (ap is_quit h.0) ∙ e)
quits s n (Some asked.Quit) r t b h e = ap (λ (x : Bool). cond x (Some None) None) (sym (ap is_quit h.0) ∙ e)

-- nothing is written at the end
silent : (r : Reply) → is_quit r ≡ true → reply_line r ≡ []
silent reply.Nothing e = refl
silent (reply.At k) e = cc
silent (reply.Break m k) e = cc
silent (reply.Deleted m) e = cc
silent (reply.Cell c d) e = cc
silent (reply.Show bits) e = cc
silent reply.Quit e = refl

-- the end of a line of a session, by the answer to it
session-end : (p : ProgramView) (n : ℕ) (s : SessionView) (line : List ℕ) (f : Option DebugFault) → eqb n MAX_LINES ≡ false → ltb (longest_of p) (length line) ≡ false →
    refusal_of s (command_of line) ≡ f → line_end p n (Some s) line ≡ command_end n f (command_of line)
session-end p n s line f few short said =
    end-few p n (Some s) line few ∙ end-short p n s line short ∙ ap (λ (x : Option DebugFault). command_end n x (command_of line)) said

-- what an input says that gives no further line
pub input-stops : (p : ProgramView) (fill : Fill) (bytes left rest : List ℕ) (before taken : Option (List ℕ)) (l new : LinesView) (session : Option SessionView) (f : LinesFault) →
    IsDebugging p fill bytes left before taken l session →
    (f ≡ faults.Fault → new.held ++ rest ≡ l.held ++ left) → (f ≡ faults.Fault → new.place + length (new.held ++ rest) ≡ l.place + length (l.held ++ left)) →
    (f ≡ faults.Fault → (line_len new.held ≡ length new.held) × (length new.held < longest_of p + 2) × (new.place + length new.held ≤ MAX_INPUT)) →
    (f ≢ faults.Fault → Says l left (Err f)) → DebugStops p fill bytes rest before taken (debug_refusal session f)
input-stops p fill bytes left rest before taken l new session faults.Fault h kept place waits said =
    let w = waits refl in
    record {
      front = h.front;
      halts = halts-next (longest_of p) bytes left rest h.front l new h.place (kept refl) (place refl) w.0 w.1 w.2;
      text = h.text;
      session = session;
      runs = h.runs;
      took = h.took;
    }
input-stops p fill bytes left rest before taken l new session faults.TooMany h kept place waits said =
    let w = many-next (longest_of p) bytes left h.front l h.place (said (λ e. cc)) in
    stop-line p fill bytes left before taken l session w.0 true w.1 (Some (refusal.Judged judgement.TooManyLines)) h w.2 (end-many p l.given session w.0 w.2.count)
input-stops p fill bytes left rest before taken l new session faults.TooLong h kept place waits said =
    let w = over-next (longest_of p) bytes left h.front l h.place (said (λ e. cc)) in
    over-end session (stop-end p fill bytes left before taken l session (Some (refusal.TooLong origin.Input)) h w.0 w.1)
  where
    over-end : (s : Option SessionView) → DebuggedAll p fill bytes before taken (last_end s (Some (refusal.TooLong origin.Input))) → DebuggedAll p fill bytes before taken (Some (refusal.TooLong origin.Input))
    over-end None h = h
    over-end (Some s) h = h
input-stops p fill bytes left rest before taken l new None (faults.Long k) h kept place waits said =
    let w = long-next (longest_of p) bytes left h.front l k h.place (said (λ e. cc)) in
    let ends = end-few p l.given None w.0 w.2.count ∙ end-vector p l.given w.0 false (long-vector p w.0 w.2.size) in
    stop-line p fill bytes left before taken l None w.0 false true (Some (refusal.Judged (judgement.Vector k))) h w.2
    (ends ∙ ap (λ (n : ℕ). Some (Some (refusal.Judged (judgement.Vector n)))) (sym w.1))
input-stops p fill bytes left rest before taken l new (Some s) (faults.Long k) h kept place waits said =
    let w = long-next (longest_of p) bytes left h.front l k h.place (said (λ e. cc)) in
    let ends = end-few p l.given (Some s) w.0 w.2.count ∙ end-long p l.given s w.0 w.2.size in
    stop-line p fill bytes left before taken l (Some s) w.0 false true (Some (refusal.Judged (judgement.Command k fault.BadCommand))) h w.2
    (ends ∙ ap (λ (n : ℕ). Some (Some (refusal.Judged (judgement.Command n fault.BadCommand)))) (sym w.1))

-- no line is left
pub input-ends : (p : ProgramView) (fill : Fill) (bytes left : List ℕ) (before taken : Option (List ℕ)) (l : LinesView) (session : Option SessionView) →
    IsDebugging p fill bytes left before taken l session → Says l left (Ok None) → DebuggedAll p fill bytes before taken (last_end session None)
input-ends p fill bytes left before taken l session h said =
    let w = none-next (longest_of p) bytes left h.front l h.place said in
    stop-end p fill bytes left before taken l session None h w.0 w.1

-- no line is left for a session, and nothing of the input
pub input-done : (p : ProgramView) (fill : Fill) (bytes left rest : List ℕ) (before taken : Option (List ℕ)) (l new : LinesView) (s : SessionView) →
    IsDebugging p fill bytes left before taken l (Some s) → Says l left (Ok None) → new.held ++ rest ≡ l.held ++ left → DebuggedDone p fill bytes rest before taken
input-done p fill bytes left rest before taken l new s h said kept = record {
  all = input-ends p fill bytes left before taken l (Some s) h said;
  read = λ none. rest-nil new.held rest (kept ∙ (none-next (longest_of p) bytes left h.front l h.place said).2);
}

-- the first line is the vector of a session
pub vector-starts : (p : ProgramView) (fill : Fill) (bytes left rest : List ℕ) (before taken : Option (List ℕ)) (l new : LinesView) (line : List ℕ) →
    IsDebugging p fill bytes left before taken l None → Says l left (Ok (Some line)) → is_vector (length p.inputs) line ≡ true →
    new.longest ≡ l.longest → new.given ≡ l.given + 1 →
    new.held ++ rest ≡ drop (line_len (l.held ++ left) + 1) (l.held ++ left) → new.place + length (new.held ++ rest) ≡ l.place + length (l.held ++ left) →
    IsDebugging p fill bytes rest before taken new (Some (session_of p fill (bits_of line)))
vector-starts p fill bytes left rest before taken l new line h said fits same given behind place =
    let f = line-next (longest_of p) bytes left h.front l line h.place said in
    go-line p fill bytes left rest before taken taken l new None (Some (session_of p fill (bits_of line))) line [] h said same given behind place
    (end-few p l.given None line f.count ∙ end-vector p l.given line true fits) (refl, refl) (took-none taken)

pub vector-refused : (p : ProgramView) (fill : Fill) (bytes left : List ℕ) (before taken : Option (List ℕ)) (l : LinesView) (line : List ℕ) →
    IsDebugging p fill bytes left before taken l None → Says l left (Ok (Some line)) → is_vector (length p.inputs) line ≡ false → l.given ≡ 0 →
    DebuggedAll p fill bytes before taken (Some (refusal.Judged (judgement.Vector 1)))
vector-refused p fill bytes left before taken l line h said unfit none =
    let f = line-next (longest_of p) bytes left h.front l line h.place said in
    stop-line p fill bytes left before taken l None line false false (Some (refusal.Judged (judgement.Vector 1))) h f
    (end-few p l.given None line f.count ∙ end-vector p l.given line false unfit
    ∙ ap (λ (n : ℕ). Some (Some (refusal.Judged (judgement.Vector (n + 1))))) none)

-- a command is refused, or there was no memory for it
pub command-refused : (p : ProgramView) (fill : Fill) (bytes left rest : List ℕ) (before taken : Option (List ℕ)) (l : LinesView) (s : SessionView) (line : List ℕ) (n : ℕ) (f : DebugFault) →
    IsDebugging p fill bytes left before taken l (Some s) → Says l left (Ok (Some line)) → n ≡ l.given + 1 →
    (f ≡ fault.NoMemory) ⊎ (refusal_of s (command_of line) ≡ Some f) → DebugStops p fill bytes rest before taken (command_refusal n f)
command-refused p fill bytes left rest before taken l s line n f h said number why = by f why
  where
    refused : (g : DebugFault) → refusal_of s (command_of line) ≡ Some g → DebuggedAll p fill bytes before taken (Some (refusal.Judged (judgement.Command n g)))
    refused g e =
        let next = line-next (longest_of p) bytes left h.front l line h.place said in
        stop-line p fill bytes left before taken l (Some s) line false false (Some (refusal.Judged (judgement.Command n g))) h next
        (session-end p l.given s line (Some g) next.count next.size e
        ∙ ap (λ (m : ℕ). Some (Some (refusal.Judged (judgement.Command m g)))) (sym number))

    by : (g : DebugFault) → (g ≡ fault.NoMemory) ⊎ (refusal_of s (command_of line) ≡ Some g) → DebugStops p fill bytes rest before taken (command_refusal n g)
    by fault.NoMemory w = stop-front p fill bytes left before taken l (Some s) h
    by fault.BadCommand (inl e) = absurd (let z : ⊥ = cc in z)
    by fault.BadCommand (inr e) = refused fault.BadCommand e
    by (fault.NoSuchBreak k) (inl e) = absurd (let z : ⊥ = cc in z)
    by (fault.NoSuchBreak k) (inr e) = refused (fault.NoSuchBreak k) e
    by (fault.OutOfProgram k) (inl e) = absurd (let z : ⊥ = cc in z)
    by (fault.OutOfProgram k) (inr e) = refused (fault.OutOfProgram k) e
    by (fault.NoSuchCell k) (inl e) = absurd (let z : ⊥ = cc in z)
    by (fault.NoSuchCell k) (inr e) = refused (fault.NoSuchCell k) e

not-nil : (line : List ℕ) (more : List (List ℕ)) → line ∷ more ≡ [] → ⊥
not-nil line more e = cc

-- a command was answered, and its reply written
pub command-answered : (p : ProgramView) (fill : Fill) (bytes left rest : List ℕ) (before taken now : Option (List ℕ)) (l new : LinesView) (s s' : SessionView) (line : List ℕ) (r : Reply) (b : Bool) →
    IsDebugging p fill bytes left before taken l (Some s) → Says l left (Ok (Some line)) →
    new.longest ≡ l.longest → new.given ≡ l.given + 1 →
    new.held ++ rest ≡ drop (line_len (l.held ++ left) + 1) (l.held ++ left) → new.place + length (new.held ++ rest) ≡ l.place + length (l.held ++ left) →
    refusal_of s (command_of line) ≡ None → AnswersLine s (command_of line) r s'.state → s' ≡ record s { state = s'.state } →
    is_quit r ≡ b → TookAll taken now (reply_line r) → DebugsOn (not b) p fill bytes rest before now new (Some s')
unfolding stop-line
command-answered p fill bytes left rest before taken now l new s s' line r b h said same given behind place accepted answers state quit took = by b quit
  where
    ends : (x : Bool) → is_quit r ≡ x → line_end p l.given (Some s) line ≡ cond x (Some None) None
    ends x e =
        let next = line-next (longest_of p) bytes left h.front l line h.place said in
        session-end p l.given s line None next.count next.size accepted ∙ quits s l.given (command_of line) r s'.state x answers e

    by : (x : Bool) → is_quit r ≡ x → DebugsOn (not x) p fill bytes rest before now new (Some s')
    by true e =
        let next = line-next (longest_of p) bytes left h.front l line h.place said in
        let d = stop-line p fill bytes left before taken l (Some s) line false false None h next (ends true e) in
        record {
          all = record {
            text = d.text;
            ran = d.ran;
            took = subst (TookAll before now) (ap (λ (t : List ℕ). d.text ++ t) (silent r e) ∙ append-nil d.text) (took-both before taken now d.text (reply_line r) d.took took);
          };
          read = λ none. absurd (not-nil line next.more none);
        }
    by false e =
        go-line p fill bytes left rest before taken now l new (Some s) (Some s') line (reply_line r) h said same given behind place (ends false e)
        (r, s'.state, answers, refl, ap (λ (x : SessionView). Some x) state) took

-- the output failed in writing its reply
pub command-cut : (p : ProgramView) (fill : Fill) (bytes left : List ℕ) (before taken now : Option (List ℕ)) (l : LinesView) (s s' : SessionView) (line : List ℕ) (r : Reply) →
    IsDebugging p fill bytes left before taken l (Some s) → Says l left (Ok (Some line)) →
    refusal_of s (command_of line) ≡ None → AnswersLine s (command_of line) r s'.state → s' ≡ record s { state = s'.state } →
    TookFirst taken now (reply_line r) → DebuggedPart p fill bytes before now
command-cut p fill bytes left before taken now l s s' line r h said accepted answers state took = by (is_quit r) refl
  where
    ends : (x : Bool) → is_quit r ≡ x → line_end p l.given (Some s) line ≡ cond x (Some None) None
    ends x e =
        let next = line-next (longest_of p) bytes left h.front l line h.place said in
        session-end p l.given s line None next.count next.size accepted ∙ quits s l.given (command_of line) r s'.state x answers e

    by : (x : Bool) → is_quit r ≡ x → DebuggedPart p fill bytes before now
    by true e =
        let f = stop-front p fill bytes left before taken l (Some s) h in
        record {
          text = f.text;
          ran = f.ran;
          took = subst (TookFirst before now) (ap (λ (t : List ℕ). f.text ++ t) (silent r e) ∙ append-nil f.text) (then-first before taken now f.text (reply_line r) f.took took);
        }
    by false e =
        part-line p fill bytes left before taken now l (Some s) (Some s') line (reply_line r) h said (ends false e)
        (r, s'.state, answers, refl, ap (λ (x : SessionView). Some x) state) took

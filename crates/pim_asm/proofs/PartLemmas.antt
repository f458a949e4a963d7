-- A text has room for its ports and instructions: two bytes and more for each of them.
use Rattle.std.proofs.Common.{◌≡◌, ℕ, ◌+◌, ◌*◌, ◌≤◌, Bool, true, false, cond, List, [], ◌∷◌, ◌++◌, length, Option, Some, None, Result, Ok, Err, refl, ap, arith}
use Rattle.std.specs.Option.{option_map, ok_or}
use Rattle.std.specs.Prelude.{IfOk}
use Rattle.std.proofs.lemmas.List.{length-append}
use Rattle.pim_io.specs.declared.limits.TheConstants.{MAX_PROGRAM}
use Rattle.pim_io.specs.Lines.{LineView, is_newline, last_line, lines_after, lines}
use Rattle.pim_io.specs.Readings.{◌>>=◌}
use Rattle.pim_isa.specs.Programs.{ProgramView}
use Rattle.pim_isa.specs.declared.target.Target.{Target}
use Rattle.pim_asm.specs.declared.fault.AsmFault.{AsmFault}
use Rattle.pim_asm.specs.declared.fault.AsmFault.TheVariants as faults
use Rattle.pim_asm.specs.Assembly.{Body, Stage, Start, Aimed, Inside, begun, done, missed, after, words_read, line_read, finished, read_from}
use Rattle.pim_asm.specs.Names.{with_name, known_cell}
use Rattle.pim_asm.specs.Statements.{Statement, Let, Input, Output, Does, target_of, count_of, statement_of}
use Rattle.pim_asm.specs.Words.{words}
use Rattle.pim_text.specs.Parts.{HasFewParts}
use Rattle.pim_text.specs.ProgramTexts.{program_parts}

-- the bytes of lines, each with the newline that may end it
room : List LineView → ℕ
room [] = 0
room (line ∷ lines) = length line.text + 1 + room lines

room_last : (number place : ℕ) (run : List ℕ) → room (last_line number place run) ≤ length run + 1
unfolding room
room_last number place [] = omega arith
room_last number place (b ∷ run) = omega arith

room_lines : (number place : ℕ) (run bytes : List ℕ) → room (lines_after number place run bytes) ≤ length run + length bytes + 1
unfolding room
room_lines number place run [] = let last = room_last number place run in omega arith
room_lines number place run (b ∷ bytes) = by (is_newline b) (room_lines (number + 1) (place + length run + 1) [] bytes) (room_lines number place (run ++ b ∷ []) bytes)
  where
    by : (t : Bool) → room (lines_after (number + 1) (place + length run + 1) [] bytes) ≤ 0 + length bytes + 1 → room (lines_after number place (run ++ b ∷ []) bytes) ≤ length (run ++ b ∷ []) + length bytes + 1
        → room (cond t (record { number = number; start = place; text = run; ended = true } ∷ lines_after (number + 1) (place + length run + 1) [] bytes) (lines_after number place (run ++ b ∷ []) bytes)) ≤ length run + length (b ∷ bytes) + 1
    by true others same = omega arith
    by false others same = omega (arith, length-append run (b ∷ []))

-- the ports and instructions of a draft
parts : ProgramView → ℕ
parts d = length d.inputs + length d.outputs + length d.instrs

stage_parts : Stage → ℕ
stage_parts Start = 0
stage_parts (Aimed target) = 0
stage_parts (Inside b) = parts b.draft

-- results, one after another

abbrev ok : {A : Type 0} → A → Result A AsmFault
ok x = Ok x

ok_is : {A : Type 0} (x y : A) → ok x ≡ ok y → x ≡ y
ok_is x y e = cc

abbrev there : {A : Type 0} → A → Option A
there x = Some x

some_is : {A : Type 0} (x y : A) → there x ≡ there y → x ≡ y
some_is x y e = cc

bind_ok : {A B : Type 0} (r : Result A AsmFault) (f : A → Result B AsmFault) (y : B) → (r >>= f) ≡ Ok y → (x : A) × (r ≡ Ok x) × (f x ≡ Ok y)
bind_ok (Ok x) f y e = (x, refl, e)
bind_ok (Err fault) f y e = absurd cc

or_fault : {A : Type 0} (o : Option A) (fault : AsmFault) (y : A) → ok_or o fault ≡ Ok y → o ≡ Some y
or_fault None fault y e = absurd cc
or_fault (Some x) fault y e = ap (λ (z : _). Some z) (ok_is x y e)

-- a statement adds one part at most

grown : (b c d : Body) → parts c.draft ≤ parts b.draft + 1 → there c ≡ there d → parts d.draft ≤ parts b.draft + 1
grown b c d h e = let same : parts c.draft ≡ parts d.draft = ap (λ (x : Body). parts x.draft) (some_is c d e) in omega arith

done_parts : (b next : Body) (s : Statement) → done b s ≡ Some next → parts next.draft ≤ parts b.draft + 1
unfolding parts
done_parts b next (Let name cell) e = by (with_name b.names name cell) e
  where
    by : (o : Option (List (List ℕ × ℕ))) → option_map {T = List (List ℕ × ℕ)} (λ names. record b { names = names }) o ≡ Some next → parts next.draft ≤ parts b.draft + 1
    by None e = absurd cc
    by (Some names) e = grown b (record b { names = names }) next (omega arith) e
done_parts b next (Input port) e = grown b (record b { draft = record b.draft { inputs = b.draft.inputs ++ port ∷ [] } }) next (omega (arith, length-append b.draft.inputs (port ∷ []))) e
done_parts b next (Output port) e = grown b (record b { draft = record b.draft { outputs = b.draft.outputs ++ port ∷ [] } }) next (omega (arith, length-append b.draft.outputs (port ∷ []))) e
done_parts b next (Does instr) e = grown b (record b { draft = record b.draft { instrs = b.draft.instrs ++ instr ∷ [] } }) next (omega (arith, length-append b.draft.instrs (instr ∷ []))) e

after_parts : (b next : Body) (n : ℕ) (word : List ℕ) (ws : List (List ℕ)) → after b n word ws ≡ Ok next → parts next.draft ≤ parts b.draft + 1
after_parts b next n word ws e =
    let h = bind_ok (ok_or (statement_of (known_cell b.names) word ws) (missed n word ws)) (λ s. ok_or (done b s) (faults.Name n)) next e in
    done_parts b next h.0 (or_fault (done b h.0) (faults.Name n) next h.2)

-- a line with words has a byte, and adds one part at most
some_byte : (text : List ℕ) (word : List ℕ) (ws : List (List ℕ)) → words text ≡ word ∷ ws → 1 ≤ length text
some_byte [] word ws e = absurd cc
some_byte (b ∷ text) word ws e = omega arith

target_parts : (o : Option Target) (fault : AsmFault) (next : Stage) → ok_or (option_map (λ target. Aimed target) o) fault ≡ Ok next → stage_parts next ≡ 0
unfolding stage_parts
target_parts None fault next e = absurd cc
target_parts (Some target) fault next e = ap stage_parts (ok_is next (Aimed target) (sym_ok (Aimed target) next e))
  where
    sym_ok : (x y : Stage) → ok x ≡ ok y → ok y ≡ ok x
    sym_ok x y e = cc

count_parts : (target : Target) (o : Option ℕ) (fault : AsmFault) (next : Stage) → ok_or (option_map (λ cells. Inside (begun target cells)) o) fault ≡ Ok next → stage_parts next ≡ 0
unfolding stage_parts parts
count_parts target None fault next e = absurd cc
count_parts target (Some cells) fault next e = ap stage_parts (ok_is next (Inside (begun target cells)) (sym_ok (Inside (begun target cells)) next e))
  where
    sym_ok : (x y : Stage) → ok x ≡ ok y → ok y ≡ ok x
    sym_ok x y e = cc

words_parts : (stage next : Stage) (n : ℕ) (word : List ℕ) (ws : List (List ℕ)) → words_read stage n (word ∷ ws) ≡ Ok next → stage_parts next ≤ stage_parts stage + 1
unfolding stage_parts
words_parts Start next n word ws e = let none = target_parts (target_of (word ∷ ws)) (faults.Line n) next e in omega arith
words_parts (Aimed target) next n word ws e = let none = count_parts target (count_of (word ∷ ws)) (faults.Line n) next e in omega arith
words_parts (Inside b) next n word ws e =
    let h = bind_ok (after b n word ws) (λ body. ok (Inside body)) next e in
    let more = after_parts b h.0 n word ws h.1 in
    let same : stage_parts (Inside h.0) ≡ stage_parts next = ap stage_parts (ok_is (Inside h.0) next h.2) in
    omega arith

line_parts : (stage next : Stage) (line : LineView) → line_read stage line ≡ Ok next → 2 * stage_parts next ≤ 2 * stage_parts stage + (length line.text + 1)
line_parts stage next line e = by (words line.text) refl e
  where
    by : (ws : List (List ℕ)) → words line.text ≡ ws → words_read stage line.number ws ≡ Ok next → 2 * stage_parts next ≤ 2 * stage_parts stage + (length line.text + 1)
    by [] h e = let same : stage_parts stage ≡ stage_parts next = ap stage_parts (ok_is stage next e) in omega arith
    by (word ∷ ws) h e =
        let more = words_parts stage next line.number word ws e in
        let byte = some_byte line.text word ws h in
        omega arith

finished_parts : (n : ℕ) (stage : Stage) (d : ProgramView) → finished n stage ≡ Ok d → parts d ≡ stage_parts stage
unfolding stage_parts
finished_parts n Start d e = absurd cc
finished_parts n (Aimed target) d e = absurd cc
finished_parts n (Inside b) d e = let same : b.draft ≡ d = ok_is b.draft d e in ap parts (swap b.draft d same)
  where
    swap : (x y : ProgramView) → x ≡ y → y ≡ x
    swap x y e = cc

read_parts : (n : ℕ) (stage : Stage) (ls : List LineView) (d : ProgramView) → read_from n stage ls ≡ Ok d → 2 * parts d ≤ 2 * stage_parts stage + room ls
unfolding room
read_parts n stage [] d e = let same = finished_parts n stage d e in omega arith
read_parts n stage (line ∷ others) d e =
    let h = bind_ok (line_read stage line) (λ s. read_from (n + 1) s others) d e in
    let first = line_parts stage h.0 line h.1 in
    let rest = read_parts (n + 1) h.0 others d h.2 in
    omega arith

few_parts : (bytes : List ℕ) (d : ProgramView) → length bytes ≤ MAX_PROGRAM → read_from 1 Start (lines bytes) ≡ Ok d → HasFewParts (program_parts d)
unfolding parts stage_parts
few_parts bytes d small e =
    let all = read_parts 1 Start (lines bytes) d e in
    let fits = room_lines 1 0 [] bytes in
    record { ports = omega arith; instrs = omega arith }

pub has_few_parts : (bytes : List ℕ) (r : Result ProgramView AsmFault) → length bytes ≤ MAX_PROGRAM → r ≡ read_from 1 Start (lines bytes) → IfOk r (λ d. HasFewParts (program_parts d))
has_few_parts bytes (Ok d) small e = few_parts bytes d small (swap (ok d) (read_from 1 Start (lines bytes)) e)
  where
    swap : (x y : Result ProgramView AsmFault) → x ≡ y → y ≡ x
    swap x y e = cc
has_few_parts bytes (Err fault) small e = tt

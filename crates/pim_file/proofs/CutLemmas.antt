-- A front of a binary form is cut off: what an item says of the bytes stays as it is where more bytes follow, unless they ended
-- too early.
use Rattle.std.proofs.Common.{◌≡◌, ℕ, zero, suc, ◌+◌, ◌^◌, ◌<◌, ◌≤◌, ◌⊎◌, inl, inr, Bool, true, false, cond, List, [], ◌∷◌, ◌++◌, length, Option, Some, None, Result, Ok, Err, refl, ap, sym, ◌∙◌, length-append, length-drop, subst, arith, take, drop, nat_lt, nat_le, eqb}
use Rattle.std.specs.Str.{bytes_eq}
use Rattle.std.proofs.lemmas.Bool.Decides.{nat_tests}
use Rattle.std.proofs.lemmas.List.{take-append-le, take-append-drop, append-nil}
use Rattle.pim_io.specs.declared.codes.Code.{Code}
use Rattle.pim_io.specs.declared.codes.Code.TheVariants.{Got, Long, Short}
use Rattle.pim_io.specs.Codes.{code_value, high_len, is_high, first_code, code_at, code_of}
use Rattle.pim_io.specs.Names.{is_shown}
use Rattle.pim_io.specs.Readings.{◌>>=◌}
use Rattle.pim_isa.specs.declared.instr.Ins.TheVariants.{Two, Three, Four, One as Single}
use Rattle.pim_isa.specs.declared.instr.Instr.TheVariants.{Init, Nor, Rm3}
use Rattle.pim_isa.specs.Programs.{ProgramView}
use Rattle.pim_isa.specs.Sound.{IsProgram}
use Rattle.pim_file.specs.declared.fault.FileFault.{FileFault}
use Rattle.pim_file.specs.declared.fault.FileFault.TheVariants as faults
use Rattle.pim_file.specs.Items.{Cursor, further, wrong_before, allowed, byte_from, byte_at, shown_at, number_of_code, number_at, is_label_length, length_at, many, counted}
use Rattle.pim_file.specs.BinaryReading.{target_of_byte, target_at, port_at, init_at, nor1_at, nor2_at, nor3_at, nor4_at, operand_of_number, operand_number_at, rm3_at, instr_behind, instr_at, draft_at, draft2_of, parse2_of, parse_of}
use Rattle.pim_file.specs.ProgramFile.{draft_of, parse1_of}
use Rattle.pim_text.specs.Reading.{parts_of}
use Rattle.pim_file.specs.Binary.{bin, body_bin}
use Rattle.pim_file.specs.BinarySpelled.{HasBinary}
use Rattle.pim_file.proofs.CodeLemmas.{got_at}
use Rattle.pim_file.proofs.ItemLemmas.{ok_is}
use Rattle.pim_file.proofs.BinaryLemmas.{draft_read}
use Rattle.pim_file.proofs.FormLaws.{program_has_binary}

-- a cursor whose bytes are followed by more
abbrev with_more : List ℕ → Cursor → Cursor
with_more more c = record { place = c.place; rest = c.rest ++ more }

-- what a reading gives where more bytes follow
abbrev extended : {X : Type 0} → List ℕ → Result (X × Cursor) FileFault → Result (X × Cursor) FileFault
extended more (Ok x) = Ok (x.0, with_more more x.1)
extended more (Err fault) = Err fault

-- the second reading is the first where more bytes follow, unless the bytes of the first ended too early
abbrev Stays : {X : Type 0} → List ℕ → Result (X × Cursor) FileFault → Result (X × Cursor) FileFault → Type 0
Stays more r s = (r ≡ Err faults.Truncated) ⊎ (s ≡ extended more r)

abbrev IsStable : {X : Type 0} → (Cursor → Result (X × Cursor) FileFault) → Type 0
IsStable item = (more : List ℕ) (c : Cursor) → Stays more (item c) (item (with_more more c))

-- one reading after another

extended-then : {X Y : Type 0} (more : List ℕ) (r : Result (X × Cursor) FileFault) (f : X × Cursor → Result (Y × Cursor) FileFault) → ((x : X) (d : Cursor) → Stays more (f (x, d)) (f (x, with_more more d))) → Stays more (r >>= f) (extended more r >>= f)
extended-then more (Ok x) f h = h x.0 x.1
extended-then more (Err fault) f h = inr refl

stays-then : {X Y : Type 0} (more : List ℕ) (r s : Result (X × Cursor) FileFault) (f : X × Cursor → Result (Y × Cursor) FileFault) → Stays more r s → ((x : X) (d : Cursor) → Stays more (f (x, d)) (f (x, with_more more d))) → Stays more (r >>= f) (s >>= f)
stays-then more r s f (inl cut) h = inl (ap (λ t. t >>= f) cut)
stays-then {Y = Y} more r s f (inr same) h = subst (λ (t : Result (Y × Cursor) FileFault). Stays more (r >>= f) t) (ap (λ t. t >>= f) (sym same)) (extended-then more r f h)

-- bytes

byte_stays : IsStable byte_at
byte_stays more c = by_rest c.place c.rest
  where
    by_rest : (place : ℕ) (rest : List ℕ) → Stays more (byte_from place rest) (byte_from place (rest ++ more))
    by_rest place [] = inl refl
    by_rest place (b ∷ rest) = inr refl

allowed_stays : {X : Type 0} (more : List ℕ) (o : Option X) (c : Cursor) → Stays more (allowed o c) (allowed o (with_more more c))
allowed_stays more None c = inr refl
allowed_stays more (Some x) c = inr refl

shown_stays : IsStable shown_at
unfolding shown_at
shown_stays more c = stays-then more (byte_at c) (byte_at (with_more more c)) (λ b. allowed (cond (is_shown b.0) (Some b.0) None) b.1) (byte_stays more c) (λ b d. allowed_stays more (cond (is_shown b) (Some b) None) d)

-- numbers

high_stays : (rest more : List ℕ) → high_len rest < length rest → high_len (rest ++ more) ≡ high_len rest
high_stays [] more h = absurd (omega arith)
high_stays (b ∷ rest) more h = by_high (is_high b) h (λ l. high_stays rest more l)
  where
    by_high : (t : Bool) → cond t (1 + high_len rest) 0 < length (b ∷ rest) → (high_len rest < length rest → high_len (rest ++ more) ≡ high_len rest) → cond t (1 + high_len (rest ++ more)) 0 ≡ cond t (1 + high_len rest) 0
    by_high true h others = ap (λ (n : ℕ). 1 + n) (others (omega arith))
    by_high false h others = refl

high_grows : (rest more : List ℕ) → high_len rest ≤ high_len (rest ++ more)
high_grows [] more = omega arith
high_grows (b ∷ rest) more = by_high (is_high b) (high_grows rest more)
  where
    by_high : (t : Bool) → high_len rest ≤ high_len (rest ++ more) → cond t (1 + high_len rest) 0 ≤ cond t (1 + high_len (rest ++ more)) 0
    by_high true others = omega arith
    by_high false others = omega arith

code_stays : (rest more : List ℕ) → (code_at rest 0 ≡ Short) ⊎ (code_at (rest ++ more) 0 ≡ code_at rest 0)
unfolding code_at
code_stays rest more = by_tests (nat_le 5 (high_len rest)) (nat_lt (high_len rest) (length rest)) refl refl
  where
    by_tests : (long within : Bool) → nat_le 5 (high_len rest) ≡ long → nat_lt (high_len rest) (length rest) ≡ within → (first_code rest 0 ≡ Short) ⊎ (first_code (rest ++ more) 0 ≡ first_code rest 0)
    by_tests true within p q =
        let grown = high_grows rest more in
        let long : nat_le 5 (high_len (rest ++ more)) ≡ true = grind (arith, nat_tests) in
        inr (rw (long, p) refl)
    by_tests false false p q = inl (rw (p, q) refl)
    by_tests false true p q =
        let inside : high_len rest < length rest = grind (arith, nat_tests) in
        let high = high_stays rest more inside in
        let whole = length-append rest more in
        let within : nat_lt (high_len rest) (length (rest ++ more)) ≡ true = grind (arith, nat_tests) in
        let bytes : take (high_len rest + 1) (rest ++ more) ≡ take (high_len rest + 1) rest = take-append-le (high_len rest + 1) rest more (omega arith) in
        inr (rw (high, p, q, within, bytes) refl)

code_within_bytes : (bytes : List ℕ) (value next : ℕ) → code_at bytes 0 ≡ Got value next → next ≤ length bytes
unfolding code_at
code_within_bytes bytes value next e =
    let h = high_len bytes in
    let got = got_at (nat_le 5 h) (nat_lt h (length bytes)) (nat_lt (code_value (take (h + 1) bytes)) (2 ^ 32)) _ _ value next e in
    let within : h < length bytes = grind (arith, nat_tests, got.1) in
    let next_is = got.4 in
    omega arith

drop_append : (n : ℕ) (xs ys : List ℕ) → n ≤ length xs → drop n (xs ++ ys) ≡ drop n xs ++ ys
drop_append zero xs ys h = refl
drop_append (suc n) [] ys h = absurd (omega arith)
drop_append (suc n) (x ∷ xs) ys h = drop_append n xs ys (omega arith)

number_of_code_stays : (more : List ℕ) (c : Cursor) (code : Code) → code_at c.rest 0 ≡ code → Stays more (number_of_code c code) (number_of_code (with_more more c) code)
number_of_code_stays more c Short e = inl refl
number_of_code_stays more c Long e = inr refl
number_of_code_stays more c (Got value next) e =
    let within = code_within_bytes c.rest value next e in
    let front : take next (c.rest ++ more) ≡ take next c.rest = take-append-le next c.rest more within in
    let back : drop next (c.rest ++ more) ≡ drop next c.rest ++ more = drop_append next c.rest more within in
    rw (front, back) (by_test (bytes_eq (take next c.rest) (code_of value)))
  where
    by_test : (t : Bool) → Stays more (cond t (Ok (value, further next c)) (Err (wrong_before (further next c)))) (cond t (Ok (value, with_more more (further next c))) (Err (wrong_before (further next c))))
    by_test true = inr refl
    by_test false = inr refl

number_stays : IsStable number_at
unfolding number_at
number_stays more c = by_code (code_stays c.rest more)
  where
    by_code : (code_at c.rest 0 ≡ Short) ⊎ (code_at (c.rest ++ more) 0 ≡ code_at c.rest 0) → Stays more (number_of_code c (code_at c.rest 0)) (number_of_code (with_more more c) (code_at (c.rest ++ more) 0))
    by_code (inl short) = inl (ap (number_of_code c) short)
    by_code (inr same) = rw same (number_of_code_stays more c (code_at c.rest 0) refl)

length_stays : IsStable length_at
unfolding length_at
length_stays more c = stays-then more (number_at c) (number_at (with_more more c)) (λ n. allowed (cond (is_label_length n.0) (Some n.0) None) n.1) (number_stays more c) (λ n d. allowed_stays more (cond (is_label_length n) (Some n) None) d)

-- many things

many_stays : {X : Type 0} (item : Cursor → Result (X × Cursor) FileFault) → IsStable item → (n : ℕ) → IsStable (many item n)
unfolding many
many_stays item h zero more c = inr refl
many_stays item h (suc n) more c =
    stays-then more (item c) (item (with_more more c)) (λ first. many item n first.1 >>= λ others. Ok (first.0 ∷ others.0, others.1)) (h more c)
    (λ x d. stays-then more (many item n d) (many item n (with_more more d)) (λ others. Ok (x ∷ others.0, others.1)) (many_stays item h n more d) (λ xs e. inr refl))

counted_stays : {X : Type 0} (item : Cursor → Result (X × Cursor) FileFault) → IsStable item → IsStable (counted item)
unfolding counted
counted_stays item h more c = stays-then more (number_at c) (number_at (with_more more c)) (λ n. many item n.0 n.1) (number_stays more c) (λ n d. many_stays item h n more d)

-- the parts of a draft

target_stays : IsStable target_at
unfolding target_at
target_stays more c = stays-then more (byte_at c) (byte_at (with_more more c)) (λ b. allowed (target_of_byte b.0) b.1) (byte_stays more c) (λ b d. allowed_stays more (target_of_byte b) d)

port_stays : IsStable port_at
unfolding port_at
port_stays more c =
    stays-then more (number_at c) (number_at (with_more more c)) (λ cell. length_at cell.1 >>= λ count. many shown_at count.0 count.1 >>= λ label. Ok (record { cell = cell.0; label = label.0 }, label.1)) (number_stays more c)
    (λ cell d. stays-then more (length_at d) (length_at (with_more more d)) (λ count. many shown_at count.0 count.1 >>= λ label. Ok (record { cell = cell; label = label.0 }, label.1)) (length_stays more d)
    (λ count e. stays-then more (many shown_at count e) (many shown_at count (with_more more e)) (λ label. Ok (record { cell = cell; label = label.0 }, label.1)) (many_stays shown_at shown_stays count more e) (λ label g. inr refl)))

-- a number, and what follows it
number_then : {Y : Type 0} (more : List ℕ) (f : ℕ × Cursor → Result (Y × Cursor) FileFault) (c : Cursor) → ((n : ℕ) (d : Cursor) → Stays more (f (n, d)) (f (n, with_more more d))) → Stays more (number_at c >>= f) (number_at (with_more more c) >>= f)
number_then more f c h = stays-then more (number_at c) (number_at (with_more more c)) f (number_stays more c) h

init_stays : IsStable init_at
unfolding init_at
init_stays more c = stays-then more (counted number_at c) (counted number_at (with_more more c)) (λ cells. Ok (Init cells.0, cells.1)) (counted_stays number_at number_stays more c) (λ cells d. inr refl)

nor1_stays : IsStable nor1_at
unfolding nor1_at
nor1_stays more c =
    number_then more (λ t. number_at t.1 >>= λ a. Ok (Nor t.0 (Single a.0), a.1)) c (λ t c1.
    number_then more (λ a. Ok (Nor t (Single a.0), a.1)) c1 (λ a c2. inr refl))

nor2_stays : IsStable nor2_at
unfolding nor2_at
nor2_stays more c =
    number_then more (λ t. number_at t.1 >>= λ a. number_at a.1 >>= λ b. Ok (Nor t.0 (Two a.0 b.0), b.1)) c (λ t c1.
    number_then more (λ a. number_at a.1 >>= λ b. Ok (Nor t (Two a.0 b.0), b.1)) c1 (λ a c2.
    number_then more (λ b. Ok (Nor t (Two a b.0), b.1)) c2 (λ b c3. inr refl)))

nor3_stays : IsStable nor3_at
unfolding nor3_at
nor3_stays more c =
    number_then more (λ t. number_at t.1 >>= λ a. number_at a.1 >>= λ b. number_at b.1 >>= λ x. Ok (Nor t.0 (Three a.0 b.0 x.0), x.1)) c (λ t c1.
    number_then more (λ a. number_at a.1 >>= λ b. number_at b.1 >>= λ x. Ok (Nor t (Three a.0 b.0 x.0), x.1)) c1 (λ a c2.
    number_then more (λ b. number_at b.1 >>= λ x. Ok (Nor t (Three a b.0 x.0), x.1)) c2 (λ b c3.
    number_then more (λ x. Ok (Nor t (Three a b x.0), x.1)) c3 (λ x c4. inr refl))))

nor4_stays : IsStable nor4_at
unfolding nor4_at
nor4_stays more c =
    number_then more (λ t. number_at t.1 >>= λ a. number_at a.1 >>= λ b. number_at b.1 >>= λ x. number_at x.1 >>= λ y. Ok (Nor t.0 (Four a.0 b.0 x.0 y.0), y.1)) c (λ t c1.
    number_then more (λ a. number_at a.1 >>= λ b. number_at b.1 >>= λ x. number_at x.1 >>= λ y. Ok (Nor t (Four a.0 b.0 x.0 y.0), y.1)) c1 (λ a c2.
    number_then more (λ b. number_at b.1 >>= λ x. number_at x.1 >>= λ y. Ok (Nor t (Four a b.0 x.0 y.0), y.1)) c2 (λ b c3.
    number_then more (λ x. number_at x.1 >>= λ y. Ok (Nor t (Four a b x.0 y.0), y.1)) c3 (λ x c4.
    number_then more (λ y. Ok (Nor t (Four a b x y.0), y.1)) c4 (λ y c5. inr refl)))))

operand_stays : IsStable operand_number_at
unfolding operand_number_at
operand_stays more c = number_then more (λ n. Ok (operand_of_number n.0, n.1)) c (λ n d. inr refl)

rm3_stays : IsStable rm3_at
unfolding rm3_at
rm3_stays more c =
    stays-then more (operand_number_at c) (operand_number_at (with_more more c)) (λ p. operand_number_at p.1 >>= λ q. number_at q.1 >>= λ z. Ok (Rm3 p.0 q.0 z.0, z.1)) (operand_stays more c) (λ p c1.
    stays-then more (operand_number_at c1) (operand_number_at (with_more more c1)) (λ q. number_at q.1 >>= λ z. Ok (Rm3 p q.0 z.0, z.1)) (operand_stays more c1) (λ q c2.
    number_then more (λ z. Ok (Rm3 p q z.0, z.1)) c2 (λ z c3. inr refl)))

instr_stays : IsStable instr_at
unfolding instr_at
instr_stays more c = stays-then more (byte_at c) (byte_at (with_more more c)) (λ b. instr_behind b.0 b.1) (byte_stays more c) (λ b d. by_byte d (eqb b 0) (eqb b 1) (eqb b 2) (eqb b 3) (eqb b 4) (eqb b 5))
  where
    by_byte : (d : Cursor) (t0 t1 t2 t3 t4 t5 : Bool) → Stays more
        (cond t0 (init_at d) (cond t1 (nor1_at d) (cond t2 (nor2_at d) (cond t3 (rm3_at d) (cond t4 (nor3_at d) (cond t5 (nor4_at d) (Err (wrong_before d))))))))
        (cond t0 (init_at (with_more more d)) (cond t1 (nor1_at (with_more more d)) (cond t2 (nor2_at (with_more more d)) (cond t3 (rm3_at (with_more more d)) (cond t4 (nor3_at (with_more more d)) (cond t5 (nor4_at (with_more more d)) (Err (wrong_before d))))))))
    by_byte d true t1 t2 t3 t4 t5 = init_stays more d
    by_byte d false true t2 t3 t4 t5 = nor1_stays more d
    by_byte d false false true t3 t4 t5 = nor2_stays more d
    by_byte d false false false true t4 t5 = rm3_stays more d
    by_byte d false false false false true t5 = nor3_stays more d
    by_byte d false false false false false true = nor4_stays more d
    by_byte d false false false false false false = inr refl

draft_stays : IsStable draft_at
unfolding draft_at
draft_stays more c =
    stays-then more (target_at c) (target_at (with_more more c)) (λ t. number_at t.1 >>= λ n. counted port_at n.1 >>= λ i. counted port_at i.1 >>= λ o. counted instr_at o.1 >>= λ k. Ok (record { target = t.0; cells = n.0; inputs = i.0; outputs = o.0; instrs = k.0 }, k.1)) (target_stays more c) (λ t c1.
    number_then more (λ n. counted port_at n.1 >>= λ i. counted port_at i.1 >>= λ o. counted instr_at o.1 >>= λ k. Ok (record { target = t; cells = n.0; inputs = i.0; outputs = o.0; instrs = k.0 }, k.1)) c1 (λ n c2.
    stays-then more (counted port_at c2) (counted port_at (with_more more c2)) (λ i. counted port_at i.1 >>= λ o. counted instr_at o.1 >>= λ k. Ok (record { target = t; cells = n; inputs = i.0; outputs = o.0; instrs = k.0 }, k.1)) (counted_stays port_at port_stays more c2) (λ i c3.
    stays-then more (counted port_at c3) (counted port_at (with_more more c3)) (λ o. counted instr_at o.1 >>= λ k. Ok (record { target = t; cells = n; inputs = i; outputs = o.0; instrs = k.0 }, k.1)) (counted_stays port_at port_stays more c3) (λ o c4.
    stays-then more (counted instr_at c4) (counted instr_at (with_more more c4)) (λ k. Ok (record { target = t; cells = n; inputs = i; outputs = o; instrs = k.0 }, k.1)) (counted_stays instr_at instr_stays more c4) (λ k c5. inr refl)))))

-- whole files

-- what a front gives where the whole is read to the end
front_is_cut : {X : Type 0} (x : X) (end : ℕ) (more : List ℕ) (r s : Result (X × Cursor) FileFault) → 0 < length more → s ≡ Ok (x, record { place = end; rest = [] }) → Stays more r s → r ≡ Err faults.Truncated
front_is_cut x end more r s some whole (inl cut) = cut
front_is_cut x end more (Err fault) s some whole (inr same) = absurd cc
front_is_cut {X = X} x end more (Ok y) s some whole (inr same) =
    let ends : y.1.rest ++ more ≡ [] = ap (λ (z : X × Cursor). z.1.rest) (ok_is (y.0, with_more more y.1) (x, record { place = end; rest = [] }) (sym same ∙ whole)) in
    absurd (omega (arith, ap length ends, length-append y.1.rest more))

front_of_body : (p : ProgramView) (k : ℕ) → HasBinary p → k < length (body_bin p) → draft_at (record { place = 5; rest = take k (body_bin p) }) ≡ Err faults.Truncated
front_of_body p k h lt =
    let body = body_bin p in
    let read = draft_read 5 p [] h in
    let whole : draft_at (record { place = 5; rest = take k body ++ drop k body }) ≡ Ok (p, record { place = read.0; rest = [] }) = ap (λ (t : List ℕ). draft_at (record { place = 5; rest = t })) (take-append-drop k body ∙ sym (append-nil body)) ∙ read.1 in
    let some : 0 < length (drop k body) = omega (arith, length-drop k body) in
    front_is_cut p read.0 (drop k body) (draft_at (record { place = 5; rest = take k body })) _ some whole (draft_stays (drop k body) (record { place = 5; rest = take k body }))

pub parse_of-cut : (p : ProgramView) (k : ℕ) → IsProgram p → k < length (bin p) → parse_of (take k (bin p)) ≡ Err faults.Truncated
unfolding parse_of parse1_of draft_of parts_of parse2_of draft2_of
parse_of-cut p zero h lt = refl
parse_of-cut p (suc zero) h lt = refl
parse_of-cut p (suc (suc zero)) h lt = refl
parse_of-cut p (suc (suc (suc zero))) h lt = refl
parse_of-cut p (suc (suc (suc (suc zero)))) h lt = refl
parse_of-cut p (suc (suc (suc (suc (suc k))))) h lt =
    let cut = front_of_body p k (program_has_binary p h) (omega arith) in
    rw cut refl

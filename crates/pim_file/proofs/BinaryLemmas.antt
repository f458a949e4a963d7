-- A draft is read from its binary form, and from no other bytes.
use Rattle.std.proofs.Common.{◌≡◌, ℕ, zero, suc, ◌+◌, ◌-◌, ◌*◌, ◌^◌, ◌<◌, ◌≤◌, Bool, true, false, cond, eqb, List, [], ◌∷◌, ◌++◌, length, Some, None, Ok, Err, refl, ap, sym, ◌∙◌, append_assoc, length-append, subst, arith, take, drop}
use Rattle.std.specs.List.{AllByRecursion}
use Rattle.std.proofs.lemmas.Bool.{eqb-true, ne_eqb}
use Rattle.std.proofs.lemmas.Slice.Eq.{bytes_eq-Decides}
use Rattle.std.proofs.lemmas.List.{append-nil, take-append-drop}
use Rattle.pim_io.specs.Codes.{code_of}
use Rattle.pim_io.specs.Readings.{◌>>=◌}
use Rattle.pim_io.specs.declared.limits.TheConstants.{MAX_PROGRAM}
use Rattle.pim_isa.specs.declared.target.Target.{Target}
use Rattle.pim_isa.specs.declared.target.Target.TheVariants.{Magic, Plim}
use Rattle.pim_isa.specs.declared.port.Port.{Port}
use Rattle.pim_isa.specs.declared.instr.Ins.{Ins}
use Rattle.pim_isa.specs.declared.instr.Ins.TheVariants.{Two, Three, Four, One as Single}
use Rattle.pim_isa.specs.declared.instr.Operand.{Operand}
use Rattle.pim_isa.specs.declared.instr.Operand.TheVariants.{Zero, One, Cell}
use Rattle.pim_isa.specs.declared.instr.Instr.{Instr}
use Rattle.pim_isa.specs.declared.instr.Instr.TheVariants.{Init, Nor, Rm3}
use Rattle.pim_isa.specs.Programs.{ProgramView}
use Rattle.pim_text.specs.Parts.{HasFewParts}
use Rattle.pim_text.specs.ProgramTexts.{program_parts}
use Rattle.pim_text.specs.Spelled.{HasPortLine}
use Rattle.pim_file.specs.Items.{Cursor, wrong_before, allowed, byte_at, shown_at, number_at, length_at, many, counted}
use Rattle.pim_file.specs.BinaryReading.{target_of_byte, target_at, port_at, init_at, nor1_at, nor2_at, nor3_at, nor4_at, operand_of_number, operand_number_at, rm3_at, instr_behind, instr_at, draft_at, closed_at, tag, is_binary, draft2_of}
use Rattle.pim_file.specs.Binary.{target_byte, each_bin, counted_bin, numbers_bin, port_bin, operand_number, nor_bin, instr_bin, body_bin, bin}
use Rattle.pim_file.specs.BinarySpelled.{HasBytes, HasBinary}
use Rattle.pim_file.proofs.CodeLemmas.{code_is_some}
use Rattle.pim_file.proofs.ItemLemmas.{bind_ok, ok_is, IsSpelled, IsRead, byte_is, number_spelled, number_read, counted_spelled, counted_read, label_spelled, label_read, is_length, length_spelled, length_read}

-- targets

target_spelled : IsSpelled target_at (λ t. target_byte t ∷ []) (λ t. Unit {0})
unfolding target_at
target_spelled c t d e =
    let byte = bind_ok (byte_at c) (λ b. allowed (target_of_byte b.0) b.1) (t, d) e in
    let is = byte_is c.place c.rest byte.0.0 byte.0.1 byte.1 in
    by_byte byte.0.0 byte.0.1 (eqb byte.0.0 0) (eqb byte.0.0 1) refl refl is byte.2
  where
    by_byte : (b : ℕ) (after : Cursor) (is0 is1 : Bool) → eqb b 0 ≡ is0 → eqb b 1 ≡ is1 → c.rest ≡ b ∷ after.rest → allowed (cond is0 (Some Magic) (cond is1 (Some Plim) None)) after ≡ Ok (t, d) → (c.rest ≡ target_byte t ∷ d.rest) × Unit {0}
    by_byte b after true is1 p q is e = (is ∙ ap (λ (x : ℕ). x ∷ after.rest) (eqb-true b 0 p) ∙ ap (λ (z : Target × Cursor). target_byte z.0 ∷ z.1.rest) (ok_is (Magic, after) (t, d) e), tt)
    by_byte b after false true p q is e = (is ∙ ap (λ (x : ℕ). x ∷ after.rest) (eqb-true b 1 q) ∙ ap (λ (z : Target × Cursor). target_byte z.0 ∷ z.1.rest) (ok_is (Plim, after) (t, d) e), tt)
    by_byte b after false false p q is e = absurd cc

target_read : IsRead target_at (λ t. target_byte t ∷ []) (λ t. Unit {0})
unfolding target_at
target_read place Magic rest h = (place + 1, refl)
target_read place Plim rest h = (place + 1, refl)

-- ports

pub port_spelled : IsSpelled port_at port_bin HasPortLine
unfolding port_at
port_spelled c port d e =
    let cell = bind_ok (number_at c) (λ cell. length_at cell.1 >>= λ count. many shown_at count.0 count.1 >>= λ label. Ok (record { cell = cell.0; label = label.0 }, label.1)) (port, d) e in
    let count = bind_ok (length_at cell.0.1) (λ count. many shown_at count.0 count.1 >>= λ label. Ok (record { cell = cell.0.0; label = label.0 }, label.1)) (port, d) cell.2 in
    let label = bind_ok (many shown_at count.0.0 count.0.1) (λ label. Ok (record { cell = cell.0.0; label = label.0 }, label.1)) (port, d) count.2 in
    let told = number_spelled c cell.0.0 cell.0.1 cell.1 in
    let long = length_spelled cell.0.1 count.0.0 count.0.1 count.1 in
    let text = label_spelled count.0.0 count.0.1 label.0.0 label.0.1 long.1 label.1 in
    let whole = told.0 ∙ ap (λ (rest : List ℕ). code_of cell.0.0 ++ rest) (long.0 ∙ ap (λ (rest : List ℕ). code_of count.0.0 ++ rest) text.0 ∙ ap (λ (n : ℕ). code_of n ++ (label.0.0 ++ label.0.1.rest)) (sym text.1) ∙ sym (append_assoc (code_of (length label.0.0)) label.0.0 label.0.1.rest)) ∙ sym (append_assoc (code_of cell.0.0) (code_of (length label.0.0) ++ label.0.0) label.0.1.rest) in
    let made : Port = record { cell = cell.0.0; label = label.0.0 } in
    subst (λ (z : Port × Cursor). (c.rest ≡ port_bin z.0 ++ z.1.rest) × HasPortLine z.0) (ok_is (made, label.0.1) (port, d) label.2) (whole, record { cell = told.1; label = text.2 })

pub port_read : IsRead port_at port_bin HasPortLine
unfolding port_at
port_read place port rest h =
    let label = h.label in
    let short = label.short in
    let tail = code_of (length port.label) ++ (port.label ++ rest) in
    let whole : (code_of port.cell ++ (code_of (length port.label) ++ port.label)) ++ rest ≡ code_of port.cell ++ tail = append_assoc (code_of port.cell) (code_of (length port.label) ++ port.label) rest ∙ ap (λ (t : List ℕ). code_of port.cell ++ t) (append_assoc (code_of (length port.label)) port.label rest) in
    let cell = number_read place port.cell tail h.cell in
    let count = length_read cell.0 (length port.label) (port.label ++ rest) (omega arith, is_length port.label label) in
    let text = label_read count.0 port.label rest label in
    (text.0, rw (whole, cell.1, count.1, text.1) refl)

-- numbers, one after another

number_then : (c : Cursor) (v : ℕ) (d : Cursor) (xs rest : List ℕ) → number_at c ≡ Ok (v, d) → d.rest ≡ numbers_bin xs ++ rest → c.rest ≡ numbers_bin (v ∷ xs) ++ rest
number_then c v d xs rest e h = (number_spelled c v d e).0 ∙ ap (λ (t : List ℕ). code_of v ++ t) h ∙ sym (append_assoc (code_of v) (numbers_bin xs) rest)

number_front : (place v : ℕ) (xs rest : List ℕ) → v < 2 ^ 32 → (end : ℕ) × (number_at (record { place = place; rest = numbers_bin (v ∷ xs) ++ rest }) ≡ Ok (v, record { place = end; rest = numbers_bin xs ++ rest }))
number_front place v xs rest h =
    let read = number_read place v (numbers_bin xs ++ rest) h in
    (read.0, ap (λ (t : List ℕ). number_at (record { place = place; rest = t })) (append_assoc (code_of v) (numbers_bin xs) rest) ∙ read.1)

-- instructions behind their first byte

init_spelled : (c : Cursor) (i : Instr) (d : Cursor) → init_at c ≡ Ok (i, d) → (0 ∷ c.rest ≡ instr_bin i ++ d.rest) × HasBytes i
unfolding init_at
init_spelled c i d e =
    let cells = bind_ok (counted number_at c) (λ cells. Ok (Init cells.0, cells.1)) (i, d) e in
    let told = counted_spelled number_at code_of (λ n. n < 2 ^ 32) number_spelled c cells.0.0 cells.0.1 cells.1 in
    subst (λ (z : Instr × Cursor). (0 ∷ c.rest ≡ instr_bin z.0 ++ z.1.rest) × HasBytes z.0) (ok_is (Init cells.0.0, cells.0.1) (i, d) cells.2) (ap (λ (t : List ℕ). 0 ∷ t) told.0, told.1)

nor1_spelled : (c : Cursor) (i : Instr) (d : Cursor) → nor1_at c ≡ Ok (i, d) → (1 ∷ c.rest ≡ instr_bin i ++ d.rest) × HasBytes i
unfolding nor1_at
nor1_spelled c i d e =
    let t = bind_ok (number_at c) (λ t. number_at t.1 >>= λ a. Ok (Nor t.0 (Single a.0), a.1)) (i, d) e in
    let a = bind_ok (number_at t.0.1) (λ a. Ok (Nor t.0.0 (Single a.0), a.1)) (i, d) t.2 in
    let whole = number_then c t.0.0 t.0.1 (a.0.0 ∷ []) a.0.1.rest t.1 (number_then t.0.1 a.0.0 a.0.1 [] a.0.1.rest a.1 refl) in
    let small : HasBytes (Nor t.0.0 (Single a.0.0)) = ((number_spelled c t.0.0 t.0.1 t.1).1, ((number_spelled t.0.1 a.0.0 a.0.1 a.1).1, tt)) in
    subst (λ (z : Instr × Cursor). (1 ∷ c.rest ≡ instr_bin z.0 ++ z.1.rest) × HasBytes z.0) (ok_is (Nor t.0.0 (Single a.0.0), a.0.1) (i, d) a.2) (ap (λ (x : List ℕ). 1 ∷ x) whole, small)

nor2_spelled : (c : Cursor) (i : Instr) (d : Cursor) → nor2_at c ≡ Ok (i, d) → (2 ∷ c.rest ≡ instr_bin i ++ d.rest) × HasBytes i
unfolding nor2_at
nor2_spelled c i d e =
    let t = bind_ok (number_at c) (λ t. number_at t.1 >>= λ a. number_at a.1 >>= λ b. Ok (Nor t.0 (Two a.0 b.0), b.1)) (i, d) e in
    let a = bind_ok (number_at t.0.1) (λ a. number_at a.1 >>= λ b. Ok (Nor t.0.0 (Two a.0 b.0), b.1)) (i, d) t.2 in
    let b = bind_ok (number_at a.0.1) (λ b. Ok (Nor t.0.0 (Two a.0.0 b.0), b.1)) (i, d) a.2 in
    let whole = number_then c t.0.0 t.0.1 (a.0.0 ∷ b.0.0 ∷ []) b.0.1.rest t.1 (number_then t.0.1 a.0.0 a.0.1 (b.0.0 ∷ []) b.0.1.rest a.1 (number_then a.0.1 b.0.0 b.0.1 [] b.0.1.rest b.1 refl)) in
    let small : HasBytes (Nor t.0.0 (Two a.0.0 b.0.0)) = ((number_spelled c t.0.0 t.0.1 t.1).1, ((number_spelled t.0.1 a.0.0 a.0.1 a.1).1, ((number_spelled a.0.1 b.0.0 b.0.1 b.1).1, tt))) in
    subst (λ (z : Instr × Cursor). (2 ∷ c.rest ≡ instr_bin z.0 ++ z.1.rest) × HasBytes z.0) (ok_is (Nor t.0.0 (Two a.0.0 b.0.0), b.0.1) (i, d) b.2) (ap (λ (x : List ℕ). 2 ∷ x) whole, small)

nor3_spelled : (c : Cursor) (i : Instr) (d : Cursor) → nor3_at c ≡ Ok (i, d) → (4 ∷ c.rest ≡ instr_bin i ++ d.rest) × HasBytes i
unfolding nor3_at
nor3_spelled c i d e =
    let t = bind_ok (number_at c) (λ t. number_at t.1 >>= λ a. number_at a.1 >>= λ b. number_at b.1 >>= λ x. Ok (Nor t.0 (Three a.0 b.0 x.0), x.1)) (i, d) e in
    let a = bind_ok (number_at t.0.1) (λ a. number_at a.1 >>= λ b. number_at b.1 >>= λ x. Ok (Nor t.0.0 (Three a.0 b.0 x.0), x.1)) (i, d) t.2 in
    let b = bind_ok (number_at a.0.1) (λ b. number_at b.1 >>= λ x. Ok (Nor t.0.0 (Three a.0.0 b.0 x.0), x.1)) (i, d) a.2 in
    let x = bind_ok (number_at b.0.1) (λ x. Ok (Nor t.0.0 (Three a.0.0 b.0.0 x.0), x.1)) (i, d) b.2 in
    let end = x.0.1.rest in
    let whole = number_then c t.0.0 t.0.1 (a.0.0 ∷ b.0.0 ∷ x.0.0 ∷ []) end t.1 (number_then t.0.1 a.0.0 a.0.1 (b.0.0 ∷ x.0.0 ∷ []) end a.1 (number_then a.0.1 b.0.0 b.0.1 (x.0.0 ∷ []) end b.1 (number_then b.0.1 x.0.0 x.0.1 [] end x.1 refl))) in
    let small : HasBytes (Nor t.0.0 (Three a.0.0 b.0.0 x.0.0)) = ((number_spelled c t.0.0 t.0.1 t.1).1, ((number_spelled t.0.1 a.0.0 a.0.1 a.1).1, ((number_spelled a.0.1 b.0.0 b.0.1 b.1).1, ((number_spelled b.0.1 x.0.0 x.0.1 x.1).1, tt)))) in
    subst (λ (z : Instr × Cursor). (4 ∷ c.rest ≡ instr_bin z.0 ++ z.1.rest) × HasBytes z.0) (ok_is (Nor t.0.0 (Three a.0.0 b.0.0 x.0.0), x.0.1) (i, d) x.2) (ap (λ (y : List ℕ). 4 ∷ y) whole, small)

nor4_spelled : (c : Cursor) (i : Instr) (d : Cursor) → nor4_at c ≡ Ok (i, d) → (5 ∷ c.rest ≡ instr_bin i ++ d.rest) × HasBytes i
unfolding nor4_at
nor4_spelled c i d e =
    let t = bind_ok (number_at c) (λ t. number_at t.1 >>= λ a. number_at a.1 >>= λ b. number_at b.1 >>= λ x. number_at x.1 >>= λ y. Ok (Nor t.0 (Four a.0 b.0 x.0 y.0), y.1)) (i, d) e in
    let a = bind_ok (number_at t.0.1) (λ a. number_at a.1 >>= λ b. number_at b.1 >>= λ x. number_at x.1 >>= λ y. Ok (Nor t.0.0 (Four a.0 b.0 x.0 y.0), y.1)) (i, d) t.2 in
    let b = bind_ok (number_at a.0.1) (λ b. number_at b.1 >>= λ x. number_at x.1 >>= λ y. Ok (Nor t.0.0 (Four a.0.0 b.0 x.0 y.0), y.1)) (i, d) a.2 in
    let x = bind_ok (number_at b.0.1) (λ x. number_at x.1 >>= λ y. Ok (Nor t.0.0 (Four a.0.0 b.0.0 x.0 y.0), y.1)) (i, d) b.2 in
    let y = bind_ok (number_at x.0.1) (λ y. Ok (Nor t.0.0 (Four a.0.0 b.0.0 x.0.0 y.0), y.1)) (i, d) x.2 in
    let end = y.0.1.rest in
    let whole = number_then c t.0.0 t.0.1 (a.0.0 ∷ b.0.0 ∷ x.0.0 ∷ y.0.0 ∷ []) end t.1 (number_then t.0.1 a.0.0 a.0.1 (b.0.0 ∷ x.0.0 ∷ y.0.0 ∷ []) end a.1 (number_then a.0.1 b.0.0 b.0.1 (x.0.0 ∷ y.0.0 ∷ []) end b.1 (number_then b.0.1 x.0.0 x.0.1 (y.0.0 ∷ []) end x.1 (number_then x.0.1 y.0.0 y.0.1 [] end y.1 refl)))) in
    let small : HasBytes (Nor t.0.0 (Four a.0.0 b.0.0 x.0.0 y.0.0)) = ((number_spelled c t.0.0 t.0.1 t.1).1, ((number_spelled t.0.1 a.0.0 a.0.1 a.1).1, ((number_spelled a.0.1 b.0.0 b.0.1 b.1).1, ((number_spelled b.0.1 x.0.0 x.0.1 x.1).1, ((number_spelled x.0.1 y.0.0 y.0.1 y.1).1, tt))))) in
    subst (λ (z : Instr × Cursor). (5 ∷ c.rest ≡ instr_bin z.0 ++ z.1.rest) × HasBytes z.0) (ok_is (Nor t.0.0 (Four a.0.0 b.0.0 x.0.0 y.0.0), y.0.1) (i, d) y.2) (ap (λ (w : List ℕ). 5 ∷ w) whole, small)

-- operands of an RM3

number_of_operand : (n : ℕ) → operand_number (operand_of_number n) ≡ n
number_of_operand zero = refl
number_of_operand (suc zero) = refl
number_of_operand (suc (suc n)) =
    let a : eqb (suc (suc n)) 0 ≡ false = ne_eqb _ _ (λ e. omega arith) in
    let b : eqb (suc (suc n)) 1 ≡ false = ne_eqb _ _ (λ e. omega arith) in
    rw (a, b) (omega arith)

operand_of_its_number : (o : Operand) → operand_of_number (operand_number o) ≡ o
operand_of_its_number Zero = refl
operand_of_its_number One = refl
operand_of_its_number (Cell c) =
    let a : eqb (c + 2) 0 ≡ false = ne_eqb _ _ (λ e. omega arith) in
    let b : eqb (c + 2) 1 ≡ false = ne_eqb _ _ (λ e. omega arith) in
    let same : c + 2 - 2 ≡ c = omega arith in
    rw (a, b, same) refl

operand_then : (c : Cursor) (o : Operand) (d : Cursor) (xs rest : List ℕ) → operand_number_at c ≡ Ok (o, d) → d.rest ≡ numbers_bin xs ++ rest → (c.rest ≡ numbers_bin (operand_number o ∷ xs) ++ rest) × (operand_number o < 2 ^ 32)
unfolding operand_number_at
operand_then c o d xs rest e h =
    let n = bind_ok (number_at c) (λ n. Ok (operand_of_number n.0, n.1)) (o, d) e in
    let same = ok_is (operand_of_number n.0.0, n.0.1) (o, d) n.2 in
    let number : n.0.0 ≡ operand_number o = sym (number_of_operand n.0.0) ∙ ap (λ (z : Operand × Cursor). operand_number z.0) same in
    let after : n.0.1.rest ≡ numbers_bin xs ++ rest = ap (λ (z : Operand × Cursor). z.1.rest) same ∙ h in
    (number_then c n.0.0 n.0.1 xs rest n.1 after ∙ ap (λ (m : ℕ). numbers_bin (m ∷ xs) ++ rest) number, subst (λ (m : ℕ). m < 2 ^ 32) number (number_spelled c n.0.0 n.0.1 n.1).1)

rm3_spelled : (c : Cursor) (i : Instr) (d : Cursor) → rm3_at c ≡ Ok (i, d) → (3 ∷ c.rest ≡ instr_bin i ++ d.rest) × HasBytes i
unfolding rm3_at
rm3_spelled c i d e =
    let p = bind_ok (operand_number_at c) (λ p. operand_number_at p.1 >>= λ q. number_at q.1 >>= λ z. Ok (Rm3 p.0 q.0 z.0, z.1)) (i, d) e in
    let q = bind_ok (operand_number_at p.0.1) (λ q. number_at q.1 >>= λ z. Ok (Rm3 p.0.0 q.0 z.0, z.1)) (i, d) p.2 in
    let z = bind_ok (number_at q.0.1) (λ z. Ok (Rm3 p.0.0 q.0.0 z.0, z.1)) (i, d) q.2 in
    let end = z.0.1.rest in
    let last = number_then q.0.1 z.0.0 z.0.1 [] end z.1 refl in
    let second = operand_then p.0.1 q.0.0 q.0.1 (z.0.0 ∷ []) end q.1 last in
    let first = operand_then c p.0.0 p.0.1 (operand_number q.0.0 ∷ z.0.0 ∷ []) end p.1 second.0 in
    let small : HasBytes (Rm3 p.0.0 q.0.0 z.0.0) = (first.1, (second.1, ((number_spelled q.0.1 z.0.0 z.0.1 z.1).1, tt))) in
    subst (λ (y : Instr × Cursor). (3 ∷ c.rest ≡ instr_bin y.0 ++ y.1.rest) × HasBytes y.0) (ok_is (Rm3 p.0.0 q.0.0 z.0.0, z.0.1) (i, d) z.2) (ap (λ (w : List ℕ). 3 ∷ w) first.0, small)

-- whole instructions

pub instr_spelled : IsSpelled instr_at instr_bin HasBytes
unfolding instr_at
instr_spelled c i d e =
    let byte = bind_ok (byte_at c) (λ b. instr_behind b.0 b.1) (i, d) e in
    let is = byte_is c.place c.rest byte.0.0 byte.0.1 byte.1 in
    let told = by_byte byte.0.0 byte.0.1 (eqb byte.0.0 0) (eqb byte.0.0 1) (eqb byte.0.0 2) (eqb byte.0.0 3) (eqb byte.0.0 4) (eqb byte.0.0 5) refl refl refl refl refl refl byte.2 in
    (is ∙ told.0, told.1)
  where
    by_byte : (b : ℕ) (after : Cursor) (t0 t1 t2 t3 t4 t5 : Bool) → eqb b 0 ≡ t0 → eqb b 1 ≡ t1 → eqb b 2 ≡ t2 → eqb b 3 ≡ t3 → eqb b 4 ≡ t4 → eqb b 5 ≡ t5
        → cond t0 (init_at after) (cond t1 (nor1_at after) (cond t2 (nor2_at after) (cond t3 (rm3_at after) (cond t4 (nor3_at after) (cond t5 (nor4_at after) (Err (wrong_before after))))))) ≡ Ok (i, d) → (b ∷ after.rest ≡ instr_bin i ++ d.rest) × HasBytes i
    by_byte b after true t1 t2 t3 t4 t5 h0 h1 h2 h3 h4 h5 e = let told = init_spelled after i d e in (ap (λ (x : ℕ). x ∷ after.rest) (eqb-true b 0 h0) ∙ told.0, told.1)
    by_byte b after false true t2 t3 t4 t5 h0 h1 h2 h3 h4 h5 e = let told = nor1_spelled after i d e in (ap (λ (x : ℕ). x ∷ after.rest) (eqb-true b 1 h1) ∙ told.0, told.1)
    by_byte b after false false true t3 t4 t5 h0 h1 h2 h3 h4 h5 e = let told = nor2_spelled after i d e in (ap (λ (x : ℕ). x ∷ after.rest) (eqb-true b 2 h2) ∙ told.0, told.1)
    by_byte b after false false false true t4 t5 h0 h1 h2 h3 h4 h5 e = let told = rm3_spelled after i d e in (ap (λ (x : ℕ). x ∷ after.rest) (eqb-true b 3 h3) ∙ told.0, told.1)
    by_byte b after false false false false true t5 h0 h1 h2 h3 h4 h5 e = let told = nor3_spelled after i d e in (ap (λ (x : ℕ). x ∷ after.rest) (eqb-true b 4 h4) ∙ told.0, told.1)
    by_byte b after false false false false false true h0 h1 h2 h3 h4 h5 e = let told = nor4_spelled after i d e in (ap (λ (x : ℕ). x ∷ after.rest) (eqb-true b 5 h5) ∙ told.0, told.1)
    by_byte b after false false false false false false h0 h1 h2 h3 h4 h5 e = absurd cc

nor_read : (place t : ℕ) (ins : Ins) (rest : List ℕ) → HasBytes (Nor t ins) → (end : ℕ) × (instr_at (record { place = place; rest = nor_bin t ins ++ rest }) ≡ Ok (Nor t ins, record { place = end; rest = rest }))
unfolding instr_at nor1_at nor2_at nor3_at nor4_at
nor_read place t (Single a) rest h =
    let r0 = number_front (place + 1) t (a ∷ []) rest h.0 in
    let r1 = number_front r0.0 a [] rest h.1.0 in
    (r1.0, rw (r0.1, r1.1) refl)
nor_read place t (Two a b) rest h =
    let r0 = number_front (place + 1) t (a ∷ b ∷ []) rest h.0 in
    let r1 = number_front r0.0 a (b ∷ []) rest h.1.0 in
    let r2 = number_front r1.0 b [] rest h.1.1.0 in
    (r2.0, rw (r0.1, r1.1, r2.1) refl)
nor_read place t (Three a b c) rest h =
    let r0 = number_front (place + 1) t (a ∷ b ∷ c ∷ []) rest h.0 in
    let r1 = number_front r0.0 a (b ∷ c ∷ []) rest h.1.0 in
    let r2 = number_front r1.0 b (c ∷ []) rest h.1.1.0 in
    let r3 = number_front r2.0 c [] rest h.1.1.1.0 in
    (r3.0, rw (r0.1, r1.1, r2.1, r3.1) refl)
nor_read place t (Four a b c d) rest h =
    let r0 = number_front (place + 1) t (a ∷ b ∷ c ∷ d ∷ []) rest h.0 in
    let r1 = number_front r0.0 a (b ∷ c ∷ d ∷ []) rest h.1.0 in
    let r2 = number_front r1.0 b (c ∷ d ∷ []) rest h.1.1.0 in
    let r3 = number_front r2.0 c (d ∷ []) rest h.1.1.1.0 in
    let r4 = number_front r3.0 d [] rest h.1.1.1.1.0 in
    (r4.0, rw (r0.1, r1.1, r2.1, r3.1, r4.1) refl)

pub instr_read : IsRead instr_at instr_bin HasBytes
unfolding instr_at init_at rm3_at operand_number_at
instr_read place (Init cells) rest h =
    let read = counted_read number_at code_of (λ n. n < 2 ^ 32) number_read (place + 1) cells rest h in
    (read.0, rw read.1 refl)
instr_read place (Nor t ins) rest h = nor_read place t ins rest h
instr_read place (Rm3 p q z) rest h =
    let r0 = number_front (place + 1) (operand_number p) (operand_number q ∷ z ∷ []) rest h.0 in
    let r1 = number_front r0.0 (operand_number q) (z ∷ []) rest h.1.0 in
    let r2 = number_front r1.0 z [] rest h.1.1.0 in
    (r2.0, rw (r0.1, r1.1, r2.1, operand_of_its_number p, operand_of_its_number q) refl)

-- drafts

pub draft_spelled : IsSpelled draft_at body_bin HasBinary
unfolding draft_at
draft_spelled c p d e =
    let t = bind_ok (target_at c) (λ t. number_at t.1 >>= λ n. counted port_at n.1 >>= λ i. counted port_at i.1 >>= λ o. counted instr_at o.1 >>= λ k. Ok (record { target = t.0; cells = n.0; inputs = i.0; outputs = o.0; instrs = k.0 }, k.1)) (p, d) e in
    let n = bind_ok (number_at t.0.1) (λ n. counted port_at n.1 >>= λ i. counted port_at i.1 >>= λ o. counted instr_at o.1 >>= λ k. Ok (record { target = t.0.0; cells = n.0; inputs = i.0; outputs = o.0; instrs = k.0 }, k.1)) (p, d) t.2 in
    let i = bind_ok (counted port_at n.0.1) (λ i. counted port_at i.1 >>= λ o. counted instr_at o.1 >>= λ k. Ok (record { target = t.0.0; cells = n.0.0; inputs = i.0; outputs = o.0; instrs = k.0 }, k.1)) (p, d) n.2 in
    let o = bind_ok (counted port_at i.0.1) (λ o. counted instr_at o.1 >>= λ k. Ok (record { target = t.0.0; cells = n.0.0; inputs = i.0.0; outputs = o.0; instrs = k.0 }, k.1)) (p, d) i.2 in
    let k = bind_ok (counted instr_at o.0.1) (λ k. Ok (record { target = t.0.0; cells = n.0.0; inputs = i.0.0; outputs = o.0.0; instrs = k.0 }, k.1)) (p, d) o.2 in
    let target = target_spelled c t.0.0 t.0.1 t.1 in
    let cells = number_spelled t.0.1 n.0.0 n.0.1 n.1 in
    let inputs = counted_spelled port_at port_bin HasPortLine port_spelled n.0.1 i.0.0 i.0.1 i.1 in
    let outputs = counted_spelled port_at port_bin HasPortLine port_spelled i.0.1 o.0.0 o.0.1 o.1 in
    let instrs = counted_spelled instr_at instr_bin HasBytes instr_spelled o.0.1 k.0.0 k.0.1 k.1 in
    let made : ProgramView = record { target = t.0.0; cells = n.0.0; inputs = i.0.0; outputs = o.0.0; instrs = k.0.0 } in
    let whole = five_pieces c.rest (target_byte t.0.0) (code_of n.0.0) (counted_bin port_bin i.0.0) (counted_bin port_bin o.0.0) (counted_bin instr_bin k.0.0) t.0.1.rest n.0.1.rest i.0.1.rest o.0.1.rest k.0.1.rest target.0 cells.0 inputs.0 outputs.0 instrs.0 in
    let has : HasBinary made = record { cells = cells.1; few_inputs = inputs.1.0; inputs = inputs.1.1; few_outputs = outputs.1.0; outputs = outputs.1.1; few_instrs = instrs.1.0; instrs = instrs.1.1 } in
    subst (λ (z : ProgramView × Cursor). (c.rest ≡ body_bin z.0 ++ z.1.rest) × HasBinary z.0) (ok_is (made, k.0.1) (p, d) k.2) (whole, has)
  where
    five_pieces : (x0 : List ℕ) (t : ℕ) (n i o k x1 x2 x3 x4 x5 : List ℕ) → x0 ≡ t ∷ x1 → x1 ≡ n ++ x2 → x2 ≡ i ++ x3 → x3 ≡ o ++ x4 → x4 ≡ k ++ x5 → x0 ≡ (t ∷ (n ++ (i ++ (o ++ k)))) ++ x5
    five_pieces x0 t n i o k x1 x2 x3 x4 x5 h0 h1 h2 h3 h4 =
        h0 ∙ ap (λ (x : List ℕ). t ∷ x) (h1 ∙ ap (λ (x : List ℕ). n ++ x) (h2 ∙ ap (λ (x : List ℕ). i ++ x) (h3 ∙ ap (λ (x : List ℕ). o ++ x) h4 ∙ sym (append_assoc o k x5)) ∙ sym (append_assoc i (o ++ k) x5)) ∙ sym (append_assoc n (i ++ (o ++ k)) x5))

pub draft_read : IsRead draft_at body_bin HasBinary
unfolding draft_at
draft_read place p rest h =
    let n = code_of p.cells in
    let i = counted_bin port_bin p.inputs in
    let o = counted_bin port_bin p.outputs in
    let k = counted_bin instr_bin p.instrs in
    let after_outputs = k ++ rest in
    let after_inputs = o ++ after_outputs in
    let after_cells = i ++ after_inputs in
    let whole : (n ++ (i ++ (o ++ k))) ++ rest ≡ n ++ after_cells = append_assoc n (i ++ (o ++ k)) rest ∙ ap (λ (t : List ℕ). n ++ t) (append_assoc i (o ++ k) rest ∙ ap (λ (t : List ℕ). i ++ t) (append_assoc o k rest)) in
    let target = target_read place p.target (n ++ after_cells) tt in
    let cells = number_read target.0 p.cells after_cells h.cells in
    let inputs = counted_read port_at port_bin HasPortLine port_read cells.0 p.inputs after_inputs (h.few_inputs, h.inputs) in
    let outputs = counted_read port_at port_bin HasPortLine port_read inputs.0 p.outputs after_outputs (h.few_outputs, h.outputs) in
    let instrs = counted_read instr_at instr_bin HasBytes instr_read outputs.0 p.instrs rest (h.few_instrs, h.instrs) in
    (instrs.0, rw (whole, target.1, cells.1, inputs.1, outputs.1, instrs.1) refl)

-- whole files

closed_is : {X : Type 0} (x : X) (place : ℕ) (rest : List ℕ) (y : X) → closed_at x place rest ≡ Ok y → (rest ≡ []) × (x ≡ y)
closed_is x place [] y e = (refl, ok_is x y e)
closed_is x place (b ∷ rest) y e = absurd cc

begins_with_tag : (bytes : List ℕ) → is_binary bytes ≡ true → bytes ≡ tag ++ drop 5 bytes
begins_with_tag bytes h =
    let front : tag ≡ take 5 bytes = (bytes_eq-Decides tag (take 5 bytes)).0 h in
    sym (take-append-drop 5 bytes) ∙ ap (λ (t : List ℕ). t ++ drop 5 bytes) (sym front)

pub draft2_is : (bytes : List ℕ) (d : ProgramView) → is_binary bytes ≡ true → draft2_of bytes ≡ Ok d → (bytes ≡ bin d) × HasBinary d
unfolding draft2_of
draft2_is bytes d tagged e =
    let read = bind_ok (draft_at (record { place = 5; rest = drop 5 bytes })) (λ x. closed_at x.0 x.1.place x.1.rest) d e in
    let end = closed_is read.0.0 read.0.1.place read.0.1.rest d read.2 in
    let told = draft_spelled (record { place = 5; rest = drop 5 bytes }) read.0.0 read.0.1 read.1 in
    let body : drop 5 bytes ≡ body_bin d = told.0 ∙ ap (λ (t : List ℕ). body_bin read.0.0 ++ t) end.0 ∙ append-nil (body_bin read.0.0) ∙ ap body_bin end.1 in
    (begins_with_tag bytes tagged ∙ ap (λ (t : List ℕ). tag ++ t) body, subst HasBinary end.1 told.1)

pub draft2_of-bin : (d : ProgramView) → HasBinary d → draft2_of (bin d) ≡ Ok d
unfolding draft2_of
draft2_of-bin d h =
    let read = draft_read 5 d [] h in
    let whole : draft_at (record { place = 5; rest = body_bin d }) ≡ Ok (d, record { place = read.0; rest = [] }) = ap (λ (t : List ℕ). draft_at (record { place = 5; rest = t })) (sym (append-nil (body_bin d))) ∙ read.1 in
    rw whole refl

-- a form is longer than twice its parts

many_ports : (ports : List Port) → AllByRecursion HasPortLine ports → 2 * length ports ≤ length (each_bin port_bin ports)
many_ports [] h = omega arith
many_ports (port ∷ ports) h =
    let others = many_ports ports h.1 in
    let cell = code_is_some port.cell in
    let count = code_is_some (length port.label) in
    let whole = length-append (port_bin port) (each_bin port_bin ports) in
    let first = length-append (code_of port.cell) (code_of (length port.label) ++ port.label) in
    let second = length-append (code_of (length port.label)) port.label in
    omega arith

numbers_are_some : (n : ℕ) (ns : List ℕ) → 1 ≤ length (numbers_bin (n ∷ ns))
numbers_are_some n ns =
    let first = code_is_some n in
    let whole = length-append (code_of n) (numbers_bin ns) in
    omega arith

nor_is_long : (t : ℕ) (ins : Ins) → 2 ≤ length (nor_bin t ins)
nor_is_long t (Single a) = let more = numbers_are_some t (a ∷ []) in omega arith
nor_is_long t (Two a b) = let more = numbers_are_some t (a ∷ b ∷ []) in omega arith
nor_is_long t (Three a b c) = let more = numbers_are_some t (a ∷ b ∷ c ∷ []) in omega arith
nor_is_long t (Four a b c d) = let more = numbers_are_some t (a ∷ b ∷ c ∷ d ∷ []) in omega arith

instr_is_long : (i : Instr) → 2 ≤ length (instr_bin i)
instr_is_long (Init cells) =
    let count = code_is_some (length cells) in
    let whole = length-append (code_of (length cells)) (each_bin code_of cells) in
    omega arith
instr_is_long (Nor t ins) = nor_is_long t ins
instr_is_long (Rm3 p q z) = let more = numbers_are_some (operand_number p) (operand_number q ∷ z ∷ []) in omega arith

many_instrs : (instrs : List Instr) → 2 * length instrs ≤ length (each_bin instr_bin instrs)
many_instrs [] = omega arith
many_instrs (i ∷ instrs) =
    let others = many_instrs instrs in
    let first = instr_is_long i in
    let whole = length-append (instr_bin i) (each_bin instr_bin instrs) in
    omega arith

pub small_form : (d : ProgramView) → HasBinary d → length (bin d) ≤ MAX_PROGRAM → HasFewParts (program_parts d)
small_form d h most =
    let i = counted_bin port_bin d.inputs in
    let o = counted_bin port_bin d.outputs in
    let k = counted_bin instr_bin d.instrs in
    let whole = length-append (code_of d.cells) (i ++ (o ++ k)) in
    let after_cells = length-append i (o ++ k) in
    let after_inputs = length-append o k in
    let counted_inputs = length-append (code_of (length d.inputs)) (each_bin port_bin d.inputs) in
    let counted_outputs = length-append (code_of (length d.outputs)) (each_bin port_bin d.outputs) in
    let counted_instrs = length-append (code_of (length d.instrs)) (each_bin instr_bin d.instrs) in
    let inputs = many_ports d.inputs h.inputs in
    let outputs = many_ports d.outputs h.outputs in
    let instrs = many_instrs d.instrs in
    record { ports = omega arith; instrs = omega arith }

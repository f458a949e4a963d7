-- The line of an instruction is read as that instruction, and no other line is.
use Rattle.std.proofs.Common.{◌≡◌, ℕ, ◌^◌, ◌<◌, Bool, true, false, cond, List, [], ◌∷◌, ◌++◌, Option, Some, None, codes, refl, ap, sym, ◌∙◌, subst, append_assoc, arith}
use Rattle.std.specs.Fmt.{decimal}
use Rattle.std.specs.List.{join_with_byte}
use Rattle.std.specs.Option.{option_map, option_and_then}
use Rattle.std.specs.Str.{bytes_eq}
use Rattle.std.proofs.lemmas.Slice.Eq.{bytes_eq-Decides}
use Rattle.pim_isa.specs.declared.instr.Ins.{Ins}
use Rattle.pim_isa.specs.declared.instr.Ins.TheVariants.{Two, Three, Four, One as Single}
use Rattle.pim_isa.specs.declared.instr.Operand.{Operand}
use Rattle.pim_isa.specs.declared.instr.Operand.TheVariants.{Zero, One, Cell}
use Rattle.pim_isa.specs.declared.instr.Instr.{Instr}
use Rattle.pim_isa.specs.declared.instr.Instr.TheVariants.{Init, Nor, Rm3}
use Rattle.pim_text.specs.Fields.{fields, behind, plain_number, lacks}
use Rattle.pim_text.specs.InstrForms.{cell_at, cells_of, marked_of, marked_at, operand_of, operand_at, closed, init_of, not_of, nor_from_two, nor_from_three, nor_of, rm3_of, instr_of_words, instr_of}
use Rattle.pim_text.specs.Spelled.{AreSpelled, IsSpelledOperand, HasLine}
use Rattle.pim_text.specs.Text.{operand_text, nor_text, instr_text, nor_words, instr_words}
use Rattle.pim_text.proofs.LineLemmas.{behind_is}
use Rattle.pim_text.proofs.OptionLemmas.{bind_some, mapped, some_is}
use Rattle.pim_text.proofs.NumberLemmas.{plain_number-decimal, word_is_decimal}
use Rattle.pim_text.proofs.FieldLemmas.{lacks-decimal, fields-word, fields-only, fields-numbers, join-fields, join-numbers, cells_of-decimal, fields_are_decimal}

regroup_rm3 : (p q z : List ℕ) → (((p ++ 32 ∷ []) ++ q) ++ 32 ∷ 64 ∷ []) ++ z ≡ p ++ 32 ∷ (q ++ 32 ∷ 64 ∷ z)
regroup_rm3 p q z = simp append_assoc

lacks-operand : (operand : Operand) → IsSpelledOperand operand → lacks 32 (operand_text operand) ≡ true
lacks-operand Zero h = refl
lacks-operand One h = refl
lacks-operand (Cell c) h = lacks-decimal 32 c (omega arith) h

fields-nor : (t : ℕ) (ins : Ins) → HasLine (Nor t ins) → fields (nor_text t ins) ≡ nor_words t ins
fields-nor t (Single a) h = fields-numbers (codes "not") (t ∷ a ∷ []) refl h
fields-nor t (Two a b) h = fields-numbers (codes "nor") (t ∷ a ∷ b ∷ []) refl h
fields-nor t (Three a b c) h = fields-numbers (codes "nor") (t ∷ a ∷ b ∷ c ∷ []) refl h
fields-nor t (Four a b c d) h = fields-numbers (codes "nor") (t ∷ a ∷ b ∷ c ∷ d ∷ []) refl h

fields-instr : (i : Instr) → HasLine i → fields (instr_text i) ≡ instr_words i
fields-instr (Init cells) h = fields-numbers (codes "init") cells refl h
fields-instr (Nor t ins) h = fields-nor t ins h
fields-instr (Rm3 p q z) h =
    let last : fields (codes "@" ++ decimal z) ≡ (codes "@" ++ decimal z) ∷ [] = fields-only (codes "@" ++ decimal z) (lacks-decimal 32 z (omega arith) h.2) in
    let second : fields (operand_text q ++ 32 ∷ 64 ∷ decimal z) ≡ operand_text q ∷ (codes "@" ++ decimal z) ∷ [] = fields-word (operand_text q) (codes "@" ++ decimal z) (lacks-operand q h.1) ∙ ap (λ (fs : List (List ℕ)). operand_text q ∷ fs) last in
    let first : fields (operand_text p ++ 32 ∷ (operand_text q ++ 32 ∷ 64 ∷ decimal z)) ≡ operand_text p ∷ operand_text q ∷ (codes "@" ++ decimal z) ∷ [] = fields-word (operand_text p) (operand_text q ++ 32 ∷ 64 ∷ decimal z) (lacks-operand p h.0) ∙ ap (λ (fs : List (List ℕ)). operand_text p ∷ fs) second in
    ap (λ (t : List ℕ). codes "rm3" ∷ fields t) (regroup_rm3 (operand_text p) (operand_text q) (decimal z)) ∙ ap (λ (fs : List (List ℕ)). codes "rm3" ∷ fs) first

join-nor : (t : ℕ) (ins : Ins) → join_with_byte 32 (nor_words t ins) ≡ nor_text t ins
join-nor t (Single a) = join-numbers (codes "not") (t ∷ a ∷ [])
join-nor t (Two a b) = join-numbers (codes "nor") (t ∷ a ∷ b ∷ [])
join-nor t (Three a b c) = join-numbers (codes "nor") (t ∷ a ∷ b ∷ c ∷ [])
join-nor t (Four a b c d) = join-numbers (codes "nor") (t ∷ a ∷ b ∷ c ∷ d ∷ [])

pub join-instr : (i : Instr) → join_with_byte 32 (instr_words i) ≡ instr_text i
join-instr (Init cells) = join-numbers (codes "init") cells
join-instr (Nor t ins) = join-nor t ins
join-instr (Rm3 p q z) = ap (λ (t : List ℕ). codes "rm3 " ++ t) (sym (regroup_rm3 (operand_text p) (operand_text q) (decimal z)))

-- what is read from these words, by a reading of cells that reads decimal numbers

module _ (cell : List ℕ → Option ℕ) (reads : (n : ℕ) → n < 2 ^ 32 → cell (decimal n) ≡ Some n) where
  marked_of-text : (c : ℕ) → c < 2 ^ 32 → marked_of cell (codes "@" ++ decimal c) ≡ Some c
  marked_of-text c h = reads c h

  operand_of-text : (operand : Operand) → IsSpelledOperand operand → operand_of cell (operand_text operand) ≡ Some operand
  operand_of-text Zero h = refl
  operand_of-text One h = refl
  operand_of-text (Cell c) h = ap (λ (o : Option ℕ). option_map (λ c. Cell c) o) (marked_of-text c h)

  nor_is_read : (t : ℕ) (ins : Ins) → HasLine (Nor t ins) → instr_of_words cell (nor_words t ins) ≡ Some (Nor t ins)
  unfolding not_of nor_of
  nor_is_read t (Single a) h = rw (reads t h.0, reads a h.1.0) refl
  nor_is_read t (Two a b) h = rw (reads t h.0, reads a h.1.0, reads b h.1.1.0) refl
  nor_is_read t (Three a b c) h = rw (reads t h.0, reads a h.1.0, reads b h.1.1.0, reads c h.1.1.1.0) refl
  nor_is_read t (Four a b c d) h = rw (reads t h.0, reads a h.1.0, reads b h.1.1.0, reads c h.1.1.1.0, reads d h.1.1.1.1.0) refl

  pub instr_is_read : (i : Instr) → HasLine i → instr_of_words cell (instr_words i) ≡ Some i
  unfolding rm3_of
  instr_is_read (Init cells) h = rw (cells_of-decimal cell cells reads h) refl
  instr_is_read (Nor t ins) h = nor_is_read t ins h
  instr_is_read (Rm3 p q z) h = rw (operand_of-text p h.0, operand_of-text q h.1, marked_of-text z h.2) refl

pub instr_of-text : (i : Instr) → HasLine i → instr_of (instr_text i) ≡ Some i
unfolding instr_of
instr_of-text i h = rw (fields-instr i h) (instr_is_read plain_number plain_number-decimal i h)

-- what fields are that are read as an instruction

abbrev IsFieldsOf : List (List ℕ) → Instr → Type 0
IsFieldsOf fs i = (fs ≡ instr_words i) × HasLine i

cell_at_is : (fs : List (List ℕ)) (x : ℕ × List (List ℕ)) → cell_at plain_number fs ≡ Some x → (fs ≡ decimal x.0 ∷ x.1) × (x.0 < 2 ^ 32)
cell_at_is [] x e = absurd cc
cell_at_is (f ∷ fs) x e =
    let m = mapped (λ (n : ℕ). (n, fs)) (plain_number f) x e in
    let word = word_is_decimal f m.0 m.1 in
    subst (λ (y : ℕ × List (List ℕ)). (f ∷ fs ≡ decimal y.0 ∷ y.1) × (y.0 < 2 ^ 32)) m.2 (ap (λ (w : List ℕ). w ∷ fs) word.0, word.1)

marked_of_is : (field : List ℕ) (c : ℕ) → marked_of plain_number field ≡ Some c → (field ≡ codes "@" ++ decimal c) × (c < 2 ^ 32)
marked_of_is field c e =
    let b = bind_some (behind (codes "@") field) plain_number c e in
    let word = word_is_decimal b.0 c b.2 in
    (behind_is (codes "@") field b.0 b.1 ∙ ap (λ (t : List ℕ). codes "@" ++ t) word.0, word.1)

marked_at_is : (fs : List (List ℕ)) (x : ℕ × List (List ℕ)) → marked_at plain_number fs ≡ Some x → (fs ≡ (codes "@" ++ decimal x.0) ∷ x.1) × (x.0 < 2 ^ 32)
marked_at_is [] x e = absurd cc
marked_at_is (f ∷ fs) x e =
    let m = mapped (λ (n : ℕ). (n, fs)) (marked_of plain_number f) x e in
    let word = marked_of_is f m.0 m.1 in
    subst (λ (y : ℕ × List (List ℕ)). (f ∷ fs ≡ (codes "@" ++ decimal y.0) ∷ y.1) × (y.0 < 2 ^ 32)) m.2 (ap (λ (w : List ℕ). w ∷ fs) word.0, word.1)

is_text : (field word : List ℕ) → bytes_eq field word ≡ true → field ≡ word
is_text field word e = (bytes_eq-Decides field word).0 e

operand_of_is : (field : List ℕ) (operand : Operand) → operand_of plain_number field ≡ Some operand → (field ≡ operand_text operand) × IsSpelledOperand operand
operand_of_is field operand e = by_zero (bytes_eq field (codes "#0")) (bytes_eq field (codes "#1")) refl refl e
  where
    by_zero : (zero_is one_is : Bool) → bytes_eq field (codes "#0") ≡ zero_is → bytes_eq field (codes "#1") ≡ one_is → cond zero_is (Some Zero) (cond one_is (Some One) (option_map (λ c. Cell c) (marked_of plain_number field))) ≡ Some operand → (field ≡ operand_text operand) × IsSpelledOperand operand
    by_zero true one_is p q e = subst (λ o. (field ≡ operand_text o) × IsSpelledOperand o) (some_is Zero operand e) (is_text field (codes "#0") p, tt)
    by_zero false true p q e = subst (λ o. (field ≡ operand_text o) × IsSpelledOperand o) (some_is One operand e) (is_text field (codes "#1") q, tt)
    by_zero false false p q e =
        let m = mapped (λ (c : ℕ). Cell c) (marked_of plain_number field) operand e in
        let word = marked_of_is field m.0 m.1 in
        subst (λ o. (field ≡ operand_text o) × IsSpelledOperand o) m.2 word

operand_at_is : (fs : List (List ℕ)) (x : Operand × List (List ℕ)) → operand_at plain_number fs ≡ Some x → (fs ≡ operand_text x.0 ∷ x.1) × IsSpelledOperand x.0
operand_at_is [] x e = absurd cc
operand_at_is (f ∷ fs) x e =
    let m = mapped (λ (o : Operand). (o, fs)) (operand_of plain_number f) x e in
    let word = operand_of_is f m.0 m.1 in
    subst (λ (y : Operand × List (List ℕ)). (f ∷ fs ≡ operand_text y.0 ∷ y.1) × IsSpelledOperand y.0) m.2 (ap (λ (w : List ℕ). w ∷ fs) word.0, word.1)

closed_is : (instr i : Instr) (fs : List (List ℕ)) → closed instr fs ≡ Some i → (fs ≡ []) × (instr ≡ i)
closed_is instr i [] e = (refl, some_is instr i e)
closed_is instr i (f ∷ fs) e = absurd cc

not_is : (fs : List (List ℕ)) (i : Instr) → not_of plain_number fs ≡ Some i → IsFieldsOf (codes "not" ∷ fs) i
unfolding not_of
not_is fs i e =
    let t = bind_some (cell_at plain_number fs) (λ t. option_and_then (λ a. closed (Nor t.0 (Single a.0)) a.1) (cell_at plain_number t.1)) i e in
    let a = bind_some (cell_at plain_number t.0.1) (λ a. closed (Nor t.0.0 (Single a.0)) a.1) i t.2 in
    let first = cell_at_is fs t.0 t.1 in
    let second = cell_at_is t.0.1 a.0 a.1 in
    let end = closed_is (Nor t.0.0 (Single a.0.0)) i a.0.1 a.2 in
    let whole : fs ≡ decimal t.0.0 ∷ decimal a.0.0 ∷ [] = first.0 ∙ ap (λ (r : List (List ℕ)). decimal t.0.0 ∷ r) (second.0 ∙ ap (λ (r : List (List ℕ)). decimal a.0.0 ∷ r) end.0) in
    subst (λ j. IsFieldsOf (codes "not" ∷ fs) j) end.1 (ap (λ (r : List (List ℕ)). codes "not" ∷ r) whole, (first.1, (second.1, tt)))

three_is : (t a b c : ℕ) (fs : List (List ℕ)) (i : Instr) → AreSpelled (t ∷ a ∷ b ∷ c ∷ []) → nor_from_three plain_number t a b c fs ≡ Some i → IsFieldsOf (codes "nor" ∷ decimal t ∷ decimal a ∷ decimal b ∷ decimal c ∷ fs) i
three_is t a b c [] i h e = subst (λ j. IsFieldsOf (codes "nor" ∷ decimal t ∷ decimal a ∷ decimal b ∷ decimal c ∷ []) j) (some_is (Nor t (Three a b c)) i e) (refl, h)
three_is t a b c (f ∷ fs) i h e =
    let d = bind_some (plain_number f) (λ d. closed (Nor t (Four a b c d)) fs) i e in
    let word = word_is_decimal f d.0 d.1 in
    let end = closed_is (Nor t (Four a b c d.0)) i fs d.2 in
    let last : f ∷ fs ≡ decimal d.0 ∷ [] = ap (λ (w : List ℕ). w ∷ fs) word.0 ∙ ap (λ (r : List (List ℕ)). decimal d.0 ∷ r) end.0 in
    subst (λ j. IsFieldsOf (codes "nor" ∷ decimal t ∷ decimal a ∷ decimal b ∷ decimal c ∷ f ∷ fs) j) end.1
    (ap (λ (r : List (List ℕ)). codes "nor" ∷ decimal t ∷ decimal a ∷ decimal b ∷ decimal c ∷ r) last, (h.0, (h.1.0, (h.1.1.0, (h.1.1.1.0, (word.1, tt))))))

two_is : (t a b : ℕ) (fs : List (List ℕ)) (i : Instr) → AreSpelled (t ∷ a ∷ b ∷ []) → nor_from_two plain_number t a b fs ≡ Some i → IsFieldsOf (codes "nor" ∷ decimal t ∷ decimal a ∷ decimal b ∷ fs) i
two_is t a b [] i h e = subst (λ j. IsFieldsOf (codes "nor" ∷ decimal t ∷ decimal a ∷ decimal b ∷ []) j) (some_is (Nor t (Two a b)) i e) (refl, h)
two_is t a b (f ∷ fs) i h e =
    let c = bind_some (plain_number f) (λ c. nor_from_three plain_number t a b c fs) i e in
    let word = word_is_decimal f c.0 c.1 in
    let others = three_is t a b c.0 fs i (h.0, (h.1.0, (h.1.1.0, (word.1, tt)))) c.2 in
    (ap (λ (w : List ℕ). codes "nor" ∷ decimal t ∷ decimal a ∷ decimal b ∷ w ∷ fs) word.0 ∙ others.0, others.1)

nor_is : (fs : List (List ℕ)) (i : Instr) → nor_of plain_number fs ≡ Some i → IsFieldsOf (codes "nor" ∷ fs) i
unfolding nor_of
nor_is fs i e =
    let t = bind_some (cell_at plain_number fs) (λ t. option_and_then (λ a. option_and_then (λ b. nor_from_two plain_number t.0 a.0 b.0 b.1) (cell_at plain_number a.1)) (cell_at plain_number t.1)) i e in
    let a = bind_some (cell_at plain_number t.0.1) (λ a. option_and_then (λ b. nor_from_two plain_number t.0.0 a.0 b.0 b.1) (cell_at plain_number a.1)) i t.2 in
    let b = bind_some (cell_at plain_number a.0.1) (λ b. nor_from_two plain_number t.0.0 a.0.0 b.0 b.1) i a.2 in
    let first = cell_at_is fs t.0 t.1 in
    let second = cell_at_is t.0.1 a.0 a.1 in
    let third = cell_at_is a.0.1 b.0 b.1 in
    let others = two_is t.0.0 a.0.0 b.0.0 b.0.1 i (first.1, (second.1, (third.1, tt))) b.2 in
    let whole : fs ≡ decimal t.0.0 ∷ decimal a.0.0 ∷ decimal b.0.0 ∷ b.0.1 = first.0 ∙ ap (λ (r : List (List ℕ)). decimal t.0.0 ∷ r) (second.0 ∙ ap (λ (r : List (List ℕ)). decimal a.0.0 ∷ r) third.0) in
    (ap (λ (r : List (List ℕ)). codes "nor" ∷ r) whole ∙ others.0, others.1)

rm3_is : (fs : List (List ℕ)) (i : Instr) → rm3_of plain_number fs ≡ Some i → IsFieldsOf (codes "rm3" ∷ fs) i
unfolding rm3_of
rm3_is fs i e =
    let p = bind_some (operand_at plain_number fs) (λ p. option_and_then (λ q. option_and_then (λ z. closed (Rm3 p.0 q.0 z.0) z.1) (marked_at plain_number q.1)) (operand_at plain_number p.1)) i e in
    let q = bind_some (operand_at plain_number p.0.1) (λ q. option_and_then (λ z. closed (Rm3 p.0.0 q.0 z.0) z.1) (marked_at plain_number q.1)) i p.2 in
    let z = bind_some (marked_at plain_number q.0.1) (λ z. closed (Rm3 p.0.0 q.0.0 z.0) z.1) i q.2 in
    let first = operand_at_is fs p.0 p.1 in
    let second = operand_at_is p.0.1 q.0 q.1 in
    let third = marked_at_is q.0.1 z.0 z.1 in
    let end = closed_is (Rm3 p.0.0 q.0.0 z.0.0) i z.0.1 z.2 in
    let whole : fs ≡ operand_text p.0.0 ∷ operand_text q.0.0 ∷ (codes "@" ++ decimal z.0.0) ∷ [] = first.0 ∙ ap (λ (r : List (List ℕ)). operand_text p.0.0 ∷ r) (second.0 ∙ ap (λ (r : List (List ℕ)). operand_text q.0.0 ∷ r) (third.0 ∙ ap (λ (r : List (List ℕ)). (codes "@" ++ decimal z.0.0) ∷ r) end.0)) in
    subst (λ j. IsFieldsOf (codes "rm3" ∷ fs) j) end.1 (ap (λ (r : List (List ℕ)). codes "rm3" ∷ r) whole, (first.1, second.1, third.1))

init_is : (fs : List (List ℕ)) (i : Instr) → init_of plain_number fs ≡ Some i → IsFieldsOf (codes "init" ∷ fs) i
init_is fs i e =
    let m = mapped (λ (cells : List ℕ). Init cells) (cells_of plain_number fs) i e in
    let cells = fields_are_decimal fs m.0 m.1 in
    subst (λ j. IsFieldsOf (codes "init" ∷ fs) j) m.2 (ap (λ (r : List (List ℕ)). codes "init" ∷ r) cells.0, cells.1)

-- the same with the word still to be compared
module _ (word : List ℕ) (fs : List (List ℕ)) (i : Instr) where
  with_word : (literal : List ℕ) → bytes_eq word literal ≡ true → IsFieldsOf (literal ∷ fs) i → IsFieldsOf (word ∷ fs) i
  with_word literal e h = (ap (λ (w : List ℕ). w ∷ fs) (is_text word literal e) ∙ h.0, h.1)

  from_word : (is_init is_not is_nor is_rm3 : Bool) → bytes_eq word (codes "init") ≡ is_init → bytes_eq word (codes "not") ≡ is_not → bytes_eq word (codes "nor") ≡ is_nor → bytes_eq word (codes "rm3") ≡ is_rm3
      → cond is_init (init_of plain_number fs) (cond is_not (not_of plain_number fs) (cond is_nor (nor_of plain_number fs) (cond is_rm3 (rm3_of plain_number fs) None))) ≡ Some i → IsFieldsOf (word ∷ fs) i
  from_word true is_not is_nor is_rm3 p q r s e = with_word (codes "init") p (init_is fs i e)
  from_word false true is_nor is_rm3 p q r s e = with_word (codes "not") q (not_is fs i e)
  from_word false false true is_rm3 p q r s e = with_word (codes "nor") r (nor_is fs i e)
  from_word false false false true p q r s e = with_word (codes "rm3") s (rm3_is fs i e)
  from_word false false false false p q r s e = absurd cc

fields_are_instr : (fs : List (List ℕ)) (i : Instr) → instr_of_words plain_number fs ≡ Some i → IsFieldsOf fs i
fields_are_instr [] i e = absurd cc
fields_are_instr (word ∷ fs) i e = from_word word fs i (bytes_eq word (codes "init")) (bytes_eq word (codes "not")) (bytes_eq word (codes "nor")) (bytes_eq word (codes "rm3")) refl refl refl refl e

-- a line that is read as an instruction is its line
pub instr_is : (line : List ℕ) (i : Instr) → instr_of line ≡ Some i → (line ≡ instr_text i) × HasLine i
unfolding instr_of
instr_is line i e =
    let h = fields_are_instr (fields line) i e in
    (sym (join-fields line) ∙ ap (λ (fs : List (List ℕ)). join_with_byte 32 fs) h.0 ∙ join-instr i, h.1)

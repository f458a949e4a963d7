-- What the instructions of a gate leave in a row.
use Rattle.std.proofs.Common.{◌≡◌, ◌≢◌, ◌⊎◌, ℕ, ◌/◌, ◌%◌, ◌<◌, Bool, true, false, cond, eqb, nat_lt, ◌&&◌, not, List, [], ◌∷◌, length, refl, sym, ◌∙◌, ap, arith, inl, inr}
use Rattle.std.proofs.lemmas.Bool.Decides.{nat_tests, eqb_tells}
use Rattle.std.proofs.lemmas.List.{get_or-set_same, get_or-set_other}
use Rattle.std.proofs.Math.ListN.{length-set}
use Rattle.pim_aig.specs.declared.literal.Lit.{Lit}
use Rattle.pim_isa.specs.Steps.{bit, exec, majority, step, value}
use Rattle.pim_isa.specs.declared.instr.Operand.{Operand}
use Rattle.pim_isa.specs.declared.instr.Operand.TheVariants as operand
use Rattle.pim_isa.specs.declared.instr.Instr.{Instr}
use Rattle.pim_isa.specs.declared.instr.Instr.TheVariants.{Rm3}
use Rattle.pim_rm3.specs.Schedules.{cell_of, is_inverted, load, narrow, narrow_by, operand_of, set_to, settled}

-- what a row holds of a literal
abbrev pub lit_bit : ℕ → List ℕ → List Bool → Lit → Bool
lit_bit ins cells m e =
    cond (eqb (e.0 / 2) 0) (eqb (e.0 % 2) 1) (cond (eqb (e.0 % 2) 1) (not (bit m (cell_of ins cells e))) (bit m (cell_of ins cells e)))

pub at_target : (m : List Bool) (p q : Operand) (z : ℕ) → z < length m → bit (step m (Rm3 p q z)) z ≡ majority (value m p) (not (value m q)) (bit m z)
at_target m p q z h = get_or-set_same m z (majority (value m p) (not (value m q)) (bit m z)) false h

pub off_target : (m : List Bool) (p q : Operand) (z c : ℕ) → c ≢ z → bit (step m (Rm3 p q z)) c ≡ bit m c
off_target m p q z c ne = get_or-set_other m z c (majority (value m p) (not (value m q)) (bit m z)) false ne

clears : (b : Bool) → majority false (not true) b ≡ false
clears true = refl
clears false = refl

sets : (b : Bool) → majority true (not false) b ≡ true
sets true = refl
sets false = refl

narrows : (a b : Bool) → majority a (not true) b ≡ (a && b)
narrows true true = refl
narrows true false = refl
narrows false true = refl
narrows false false = refl

narrows_not : (a b : Bool) → majority false (not a) b ≡ (not a && b)
narrows_not true true = refl
narrows_not true false = refl
narrows_not false true = refl
narrows_not false false = refl

takes : (a : Bool) → majority a (not false) false ≡ a
takes true = refl
takes false = refl

and_true : (a : Bool) → (a && true) ≡ a
and_true true = refl
and_true false = refl

same_and : (a : Bool) → (true && a) ≡ (a && a)
same_and true = refl
same_and false = refl

other_and : (a : Bool) → (false && a) ≡ (not a && a)
other_and true = refl
other_and false = refl

pub and_turns : (a b : Bool) → (a && b) ≡ (b && a)
and_turns true true = refl
and_turns true false = refl
and_turns false true = refl
and_turns false false = refl

pub bool_cases : (b : Bool) → (b ≡ true) ⊎ (b ≡ false)
bool_cases true = inl refl
bool_cases false = inr refl

-- the value of a plain literal as an operand
pub operand_value : (ins : ℕ) (cells : List ℕ) (m : List Bool) (e : Lit) → is_inverted e ≡ false → value m (operand_of ins cells e) ≡ lit_bit ins cells m e
operand_value ins cells m e plain = elim (eqb_tells (e.0 / 2) 0) [
  | inl t ↦
      elim (eqb_tells e.0 0) [
        | inl z ↦ let even : eqb (e.0 % 2) 1 ≡ false = grind (arith, nat_tests) in rw (t.0, z.0) (sym even)
        | inr n ↦ let odd : eqb (e.0 % 2) 1 ≡ true = grind (arith, nat_tests) in rw (t.0, n.0) (sym odd)
      ]
  | inr f ↦ let even : eqb (e.0 % 2) 1 ≡ false = grind (arith, nat_tests) in rw (f.0, even) refl
]

pub lit_inverted : (ins : ℕ) (cells : List ℕ) (m : List Bool) (e : Lit) → is_inverted e ≡ true → lit_bit ins cells m e ≡ not (bit m (cell_of ins cells e))
lit_inverted ins cells m e inv =
    let some : eqb (e.0 / 2) 0 ≡ false = grind (arith, nat_tests) in
    let odd : eqb (e.0 % 2) 1 ≡ true = grind (arith, nat_tests) in
    rw (some, odd) refl

-- a row that agrees on a literal's cell holds the same of it
pub lit_same : (ins : ℕ) (cells : List ℕ) (m n : List Bool) (e : Lit) → (e.0 / 2 ≡ 0) ⊎ (bit n (cell_of ins cells e) ≡ bit m (cell_of ins cells e)) → lit_bit ins cells n e ≡ lit_bit ins cells m e
lit_same ins cells m n e (inl none) =
    let t : eqb (e.0 / 2) 0 ≡ true = grind (arith, nat_tests) in
    ap (λ (b : Bool). cond b (eqb (e.0 % 2) 1) (cond (eqb (e.0 % 2) 1) (not (bit n (cell_of ins cells e))) (bit n (cell_of ins cells e)))) t
    ∙ sym (ap (λ (b : Bool). cond b (eqb (e.0 % 2) 1) (cond (eqb (e.0 % 2) 1) (not (bit m (cell_of ins cells e))) (bit m (cell_of ins cells e)))) t)
lit_same ins cells m n e (inr same) = ap (λ (b : Bool). cond (eqb (e.0 / 2) 0) (eqb (e.0 % 2) 1) (cond (eqb (e.0 % 2) 1) (not b) b)) same

pub narrow_by_is : (ins : ℕ) (cells : List ℕ) (z : ℕ) (e : Lit) (b : Bool) → is_inverted e ≡ b → narrow_by ins cells z e ≡ cond b (Rm3 operand.Zero (operand.Cell (cell_of ins cells e)) z) (Rm3 (operand_of ins cells e) operand.One z)
narrow_by_is ins cells z e b h = ap (λ (t : Bool). cond t (Rm3 operand.Zero (operand.Cell (cell_of ins cells e)) z) (Rm3 (operand_of ins cells e) operand.One z)) h

narrow_by_gives : (ins : ℕ) (cells : List ℕ) (m : List Bool) (z : ℕ) (e : Lit) → z < length m → bit (step m (narrow_by ins cells z e)) z ≡ (lit_bit ins cells m e && bit m z)
narrow_by_gives ins cells m z e h = elim (bool_cases (is_inverted e)) [
  | inl inv ↦
      ap (λ (i : Instr). bit (step m i) z) (narrow_by_is ins cells z e true inv)
      ∙ at_target m operand.Zero (operand.Cell (cell_of ins cells e)) z h
      ∙ narrows_not (bit m (cell_of ins cells e)) (bit m z)
      ∙ ap (λ (b : Bool). b && bit m z) (sym (lit_inverted ins cells m e inv))
  | inr plain ↦
      ap (λ (i : Instr). bit (step m i) z) (narrow_by_is ins cells z e false plain)
      ∙ at_target m (operand_of ins cells e) operand.One z h
      ∙ narrows (value m (operand_of ins cells e)) (bit m z)
      ∙ ap (λ (b : Bool). b && bit m z) (operand_value ins cells m e plain)
]

narrow_by_off : (ins : ℕ) (cells : List ℕ) (m : List Bool) (z c : ℕ) (e : Lit) → c ≢ z → bit (step m (narrow_by ins cells z e)) c ≡ bit m c
narrow_by_off ins cells m z c e ne = elim (bool_cases (is_inverted e)) [
  | inl inv ↦
      ap (λ (i : Instr). bit (step m i) c) (narrow_by_is ins cells z e true inv)
      ∙ off_target m operand.Zero (operand.Cell (cell_of ins cells e)) z c ne
  | inr plain ↦
      ap (λ (i : Instr). bit (step m i) c) (narrow_by_is ins cells z e false plain)
      ∙ off_target m (operand_of ins cells e) operand.One z c ne
]

-- a literal on its own cell
settled_same : (ins : ℕ) (cells : List ℕ) (m : List Bool) (z : ℕ) (e : Lit) → (lit_bit ins cells m (settled ins cells z e) && bit m z) ≡ (lit_bit ins cells m e && bit m z)
settled_same ins cells m z e = elim (bool_cases (nat_lt 0 (e.0 / 2) && eqb (cell_of ins cells e) z)) [
  | inl own ↦
      let same : cell_of ins cells e ≡ z = grind (arith, nat_tests) in
      let some : eqb (e.0 / 2) 0 ≡ false = grind (arith, nat_tests) in
      let to = λ (o : Bool) (h : eqb (e.0 % 2) 1 ≡ o). ap (λ (t : Bool). cond {A = Lit} t (record { 0 = cond (eqb (e.0 % 2) 1) 0 1 }) e) own ∙ ap (λ (t : Bool). record { 0 = cond {A = ℕ} t 0 1 }) h in
      let held = λ (o : Bool) (h : eqb (e.0 % 2) 1 ≡ o).
      ap (λ (t : Bool). cond t (eqb (e.0 % 2) 1) (cond (eqb (e.0 % 2) 1) (not (bit m (cell_of ins cells e))) (bit m (cell_of ins cells e)))) some
      ∙ ap (λ (t : Bool). cond t (not (bit m (cell_of ins cells e))) (bit m (cell_of ins cells e))) h
      ∙ ap (λ (c : ℕ). cond o (not (bit m c)) (bit m c)) same in
      elim (bool_cases (eqb (e.0 % 2) 1)) [
        | inl odd ↦ ap (λ (l : Lit). lit_bit ins cells m l && bit m z) (to true odd) ∙ other_and (bit m z) ∙ ap (λ (b : Bool). b && bit m z) (sym (held true odd))
        | inr even ↦ ap (λ (l : Lit). lit_bit ins cells m l && bit m z) (to false even) ∙ same_and (bit m z) ∙ ap (λ (b : Bool). b && bit m z) (sym (held false even))
      ]
  | inr other ↦ ap (λ (t : Bool). lit_bit ins cells m (cond {A = Lit} t (record { 0 = cond (eqb (e.0 % 2) 1) 0 1 }) e) && bit m z) other
]

-- narrowing a cell by a literal leaves the AND of the two
pub narrow_gives : (ins : ℕ) (cells : List ℕ) (m : List Bool) (z : ℕ) (e : Lit) → z < length m → bit (step m (narrow ins cells z e)) z ≡ (lit_bit ins cells m e && bit m z)
narrow_gives ins cells m z e h = narrow_by_gives ins cells m z (settled ins cells z e) h ∙ settled_same ins cells m z e

pub narrow_off : (ins : ℕ) (cells : List ℕ) (m : List Bool) (z c : ℕ) (e : Lit) → c ≢ z → bit (step m (narrow ins cells z e)) c ≡ bit m c
narrow_off ins cells m z c e ne = narrow_by_off ins cells m z c (settled ins cells z e) ne

pub load_is : (ins : ℕ) (cells : List ℕ) (z : ℕ) (e : Lit) (b : Bool) → is_inverted e ≡ b → load ins cells z e ≡ cond b (Rm3 operand.One operand.Zero z ∷ Rm3 operand.Zero (operand.Cell (cell_of ins cells e)) z ∷ []) (Rm3 operand.Zero operand.One z ∷ Rm3 (operand_of ins cells e) operand.Zero z ∷ [])
load_is ins cells z e b h = ap (λ (t : Bool). cond t (Rm3 operand.One operand.Zero z ∷ Rm3 operand.Zero (operand.Cell (cell_of ins cells e)) z ∷ []) (Rm3 operand.Zero operand.One z ∷ Rm3 (operand_of ins cells e) operand.Zero z ∷ [])) h

-- loading a literal from elsewhere leaves it, whatever the cell held
pub load_gives : (ins : ℕ) (cells : List ℕ) (m : List Bool) (z : ℕ) (e : Lit) → z < length m → (e.0 / 2 ≡ 0) ⊎ (cell_of ins cells e ≢ z) → bit (exec (load ins cells z e) m) z ≡ lit_bit ins cells m e
load_gives ins cells m z e h apart = elim (bool_cases (is_inverted e)) [
  | inl inv ↦
      let c = cell_of ins cells e in
      let n = step m (Rm3 operand.One operand.Zero z) in
      let ne : c ≢ z = elim apart [ inl none ↦ absurd (grind (arith, nat_tests)) | inr d ↦ d ] in
      let one : bit n z ≡ true = at_target m operand.One operand.Zero z h ∙ sets (bit m z) in
      let len : length n ≡ length m = length-set m z (majority true (not false) (bit m z)) in
      ap (λ (is : List Instr). bit (exec is m) z) (load_is ins cells z e true inv)
      ∙ at_target n operand.Zero (operand.Cell c) z (omega arith)
      ∙ narrows_not (bit n c) (bit n z)
      ∙ ap (λ (b : Bool). not (bit n c) && b) one
      ∙ and_true (not (bit n c))
      ∙ ap not (off_target m operand.One operand.Zero z c ne)
      ∙ sym (lit_inverted ins cells m e inv)
  | inr plain ↦
      let c = cell_of ins cells e in
      let n = step m (Rm3 operand.Zero operand.One z) in
      let zero_bit : bit n z ≡ false = at_target m operand.Zero operand.One z h ∙ clears (bit m z) in
      let len : length n ≡ length m = length-set m z (majority false (not true) (bit m z)) in
      let near : (e.0 / 2 ≡ 0) ⊎ (bit n c ≡ bit m c) = elim apart [ inl none ↦ inl none | inr d ↦ inr (off_target m operand.Zero operand.One z c d) ] in
      ap (λ (is : List Instr). bit (exec is m) z) (load_is ins cells z e false plain)
      ∙ at_target n (operand_of ins cells e) operand.Zero z (omega arith)
      ∙ ap (λ (b : Bool). majority (value n (operand_of ins cells e)) (not false) b) zero_bit
      ∙ takes (value n (operand_of ins cells e))
      ∙ operand_value ins cells n e plain
      ∙ lit_same ins cells m n e near
]

pub load_off : (ins : ℕ) (cells : List ℕ) (m : List Bool) (z c : ℕ) (e : Lit) → c ≢ z → bit (exec (load ins cells z e) m) c ≡ bit m c
load_off ins cells m z c e ne = elim (bool_cases (is_inverted e)) [
  | inl inv ↦
      ap (λ (is : List Instr). bit (exec is m) c) (load_is ins cells z e true inv)
      ∙ off_target (step m (Rm3 operand.One operand.Zero z)) operand.Zero (operand.Cell (cell_of ins cells e)) z c ne
      ∙ off_target m operand.One operand.Zero z c ne
  | inr plain ↦
      ap (λ (is : List Instr). bit (exec is m) c) (load_is ins cells z e false plain)
      ∙ off_target (step m (Rm3 operand.Zero operand.One z)) (operand_of ins cells e) operand.Zero z c ne
      ∙ off_target m operand.Zero operand.One z c ne
]

pub set_gives : (m : List Bool) (b : Bool) (z : ℕ) → z < length m → bit (step m (set_to b z)) z ≡ b
set_gives m true z h = at_target m operand.One operand.Zero z h ∙ sets (bit m z)
set_gives m false z h = at_target m operand.Zero operand.One z h ∙ clears (bit m z)

pub set_off : (m : List Bool) (b : Bool) (z c : ℕ) → c ≢ z → bit (step m (set_to b z)) c ≡ bit m c
set_off m true z c ne = off_target m operand.One operand.Zero z c ne
set_off m false z c ne = off_target m operand.Zero operand.One z c ne

-- What a clean program gives does not depend on what its other cells held before.
use Rattle.std.proofs.Common.{◌≡◌, ℕ, ◌<◌, ◌≤◌, Bool, true, false, ◌&&◌, ◌||◌, not, cond, eqb, List, [], ◌∷◌, ◌++◌, length, map, refl, sym, ap, subst, inl, inr, ◌∙◌, arith}
use Rattle.std.specs.Prelude.{All}
use Rattle.std.specs.List.{list_any}
use Rattle.std.proofs.lemmas.Bool.{cases_Bool, eqb-true, or_cases, false≢true}
use Rattle.std.proofs.lemmas.List.{get_or-set_same}
use Rattle.std.proofs.lemmas.List.Elements.{All-head, All-tail, All-cons, All-nil, All-weaker}
use Rattle.pim_isa.specs.declared.instr.Instr.{Instr}
use Rattle.pim_isa.specs.declared.instr.Instr.TheVariants.{Init, Nor, Rm3}
use Rattle.pim_isa.specs.declared.instr.Operand.{Operand}
use Rattle.pim_isa.specs.declared.instr.Operand.TheVariants.{Zero, One, Cell}
use Rattle.pim_isa.specs.Laws.{ExecLaws}
use Rattle.pim_isa.specs.Programs.{ProgramView}
use Rattle.pim_isa.specs.Sound.{cells_of, IsProgram, IsValid}
use Rattle.pim_isa.specs.Steps.{bit, exec, majority, step, value}
use Rattle.pim_isa.specs.Touches.{names, operands, operand_cells, reads, writes}
use Rattle.pim_isa.specs.Validity.{has}
use Rattle.pim_prove.specs.Clean.{are_unequal, uses}
use Rattle.pim_prove.specs.inner.Marks.{set_after}
use Rattle.pim_prove.specs.Steady.{IsSteady}
use Rattle.pim_prove.proofs.Cells.{AllSet, AllSet-back, AllSet-front, All-has, any_same, has-front, same_at, same_on}

-- the rows agree on the cells that are set
abbrev pub Alike : (ℕ → Bool) → List Bool → List Bool → Type 0
Alike set a b = (c : ℕ) → set c ≡ true → bit a c ≡ bit b c

or_none : (b : Bool) → (b || false) ≡ b
or_none true = refl
or_none false = refl

-- each cell that an instruction uses is set before it, and each of these cells at the end
abbrev pub CleanFrom : (ℕ → Bool) → List Instr → List ℕ → Type 0
CleanFrom set [] outputs = AllSet set outputs
CleanFrom set (i ∷ is) outputs = AllSet set (uses i) × CleanFrom (set_after set i) is outputs

-- each instruction writes cells of the row
abbrev pub WritesWithin : ℕ → List Instr → Type 0
WritesWithin n is = All (λ i. (c : ℕ) → has c (writes i) ≡ true → c < n) is

-- what an operand gives
value_same : (set : ℕ → Bool) (a b : List Bool) (p : Operand) → Alike set a b → AllSet set (operand_cells p) → value a p ≡ value b p
value_same set a b Zero alike all = refl
value_same set a b One alike all = refl
value_same set a b (Cell c) alike all = alike c all.0

-- of unequal constants the old bit makes no difference
unequal_same : (a b : List Bool) (p q : Operand) (x y : Bool) → are_unequal p q ≡ true →
    majority (value a p) (not (value a q)) x ≡ majority (value b p) (not (value b q)) y
unequal_same a b Zero Zero x y unequal = absurd (false≢true unequal)
unequal_same a b Zero One x y unequal = refl
unequal_same a b Zero (Cell c) x y unequal = absurd (false≢true unequal)
unequal_same a b One Zero x y unequal = refl
unequal_same a b One One x y unequal = absurd (false≢true unequal)
unequal_same a b One (Cell c) x y unequal = absurd (false≢true unequal)
unequal_same a b (Cell c) q x y unequal = absurd (false≢true unequal)

-- what an RM3 leaves in its cell
rm3_same : (set : ℕ → Bool) (a b : List Bool) (p q : Operand) (z : ℕ) (unequal : Bool) → are_unequal p q ≡ unequal → Alike set a b →
    AllSet set ((operand_cells p ++ operand_cells q) ++ cond unequal [] (z ∷ [])) →
    majority (value a p) (not (value a q)) (bit a z) ≡ majority (value b p) (not (value b q)) (bit b z)
rm3_same set a b p q z true is alike all = unequal_same a b p q (bit a z) (bit b z) is
rm3_same set a b p q z false is alike all =
    let both = AllSet-front set (operand_cells p ++ operand_cells q) (z ∷ []) all in
    let first : value a p ≡ value b p = value_same set a b p alike (AllSet-front set (operand_cells p) (operand_cells q) both) in
    let second : value a q ≡ value b q = value_same set a b q alike (AllSet-back set (operand_cells p) (operand_cells q) both) in
    let third : bit a z ≡ bit b z = alike z (AllSet-back set (operand_cells p ++ operand_cells q) (z ∷ []) all).0 in
    cc

-- the one cell of a list
only : (t c : ℕ) → has c (t ∷ []) ≡ true → t ≡ c
only t c there = elim (or_cases (eqb t c) false there) [ inl same ↦ eqb-true t c same | inr never ↦ absurd (false≢true never) ]

-- a cell that an instruction writes
written_same : ExecLaws → (set : ℕ → Bool) (i : Instr) (a b : List Bool) → Alike set a b → AllSet set (uses i) →
    (c : ℕ) → has c (writes i) ≡ true → c < length a → c < length b → bit (step a i) c ≡ bit (step b i) c
written_same laws set (Init cells) a b alike all c there in_a in_b =
    laws.init_sets cells a c there in_a ∙ sym (laws.init_sets cells b c there in_b)
written_same laws set (Nor t ins) a b alike all c there in_a in_b =
    let P : ℕ → Type 0 = λ x. x < length a → x < length b → bit (step a (Nor t ins)) x ≡ bit (step b (Nor t ins)) x in
    subst P (only t c there)
    (λ t_a t_b.
    laws.nor_gives a t ins t_a
    ∙ ap (λ (x : Bool). x && not (list_any (bit a) (operands ins))) (alike t (AllSet-back set (operands ins) (t ∷ []) all).0)
    ∙ ap (λ (x : Bool). bit b t && not x) (any_same (bit a) (bit b) set alike (operands ins) (AllSet-front set (operands ins) (t ∷ []) all))
    ∙ sym (laws.nor_gives b t ins t_b))
    in_a in_b
written_same laws set (Rm3 p q z) a b alike all c there in_a in_b =
    let P : ℕ → Type 0 = λ x. x < length a → x < length b → bit (step a (Rm3 p q z)) x ≡ bit (step b (Rm3 p q z)) x in
    subst P (only z c there)
    (λ z_a z_b.
    get_or-set_same a z _ false z_a
    ∙ rm3_same set a b p q z (are_unequal p q) refl alike all
    ∙ sym (get_or-set_same b z _ false z_b))
    in_a in_b

-- a cell that an instruction doesn't write
kept : ExecLaws → (i : Instr) (m : List Bool) (c : ℕ) → has c (writes i) ≡ false → bit (step m i) c ≡ bit m c
kept laws i m c apart =
    laws.keeps_others (i ∷ []) m c (All-cons (λ j. has c (writes j) ≡ false) i [] apart (All-nil (λ j. has c (writes j) ≡ false)))

alike_step : ExecLaws → (set : ℕ → Bool) (i : Instr) (a b : List Bool) → Alike set a b → AllSet set (uses i) →
    ((c : ℕ) → has c (writes i) ≡ true → c < length a) → ((c : ℕ) → has c (writes i) ≡ true → c < length b) →
    Alike (set_after set i) (step a i) (step b i)
alike_step laws set i a b alike all in_a in_b = λ c is_set.
    elim (cases_Bool (has c (writes i))) [
      | inl there ↦ written_same laws set i a b alike all c there (in_a c there) (in_b c there)
      | inr apart ↦
          let before : set c ≡ true = sym (or_none (set c)) ∙ ap (λ (b : Bool). set c || b) (sym apart) ∙ is_set in
          kept laws i a c apart ∙ alike c before ∙ sym (kept laws i b c apart)
    ]

length-step : ExecLaws → (i : Instr) (m : List Bool) → length (step m i) ≡ length m
length-step laws i m = laws.keeps_length (i ∷ []) m

steady_from : ExecLaws → (set : ℕ → Bool) (is : List Instr) (outputs : List ℕ) (n : ℕ) (a b : List Bool) → CleanFrom set is outputs →
    Alike set a b → WritesWithin n is → n ≤ length a → n ≤ length b →
    map (bit (exec is a)) outputs ≡ map (bit (exec is b)) outputs
steady_from laws set [] outputs n a b clean alike within in_a in_b = same_on (bit a) (bit b) set alike outputs clean
steady_from laws set (i ∷ is) outputs n a b clean alike within in_a in_b =
    let P : Instr → Type 0 = λ i. (c : ℕ) → has c (writes i) ≡ true → c < n in
    let here = All-head P i is within in
    steady_from laws (set_after set i) is outputs n (step a i) (step b i) clean.1
    (alike_step laws set i a b alike clean.0
    (λ c there. let small : c < n = here c there in omega arith)
    (λ c there. let small : c < n = here c there in omega arith))
    (All-tail P i is within) (omega (arith, length-step laws i a)) (omega (arith, length-step laws i b))

writes_within : (p : ProgramView) → IsProgram p → WritesWithin p.cells p.instrs
writes_within p valid =
    let P : Instr → Type 0 = λ i. (c : ℕ) → has c (writes i) ≡ true → c < p.cells in
    All-weaker (IsValid p.target p.cells) P
    (λ i ok c there. All-has (λ x. x < p.cells) (names i) ok.within c (has-front c (writes i) (reads i) there))
    p.instrs valid.sound.instrs

pub steady : ExecLaws → (p : ProgramView) → IsProgram p → CleanFrom (λ c. has c (cells_of p.inputs)) p.instrs (cells_of p.outputs) → IsSteady p
steady laws p valid clean = λ bits a b held_a held_b.
    steady_from laws (λ c. has c (cells_of p.inputs)) p.instrs (cells_of p.outputs) p.cells a b clean
    (same_at (bit a) (bit b) (cells_of p.inputs) (held_a.inputs ∙ sym held_b.inputs))
    (writes_within p valid) held_a.long held_b.long

-- The machine's step where a NOR of more operands is done in two parts.
use Rattle.std.proofs.Common.{◌≡◌, ℕ, ◌<◌, Bool, true, false, ◌&&◌, ◌||◌, not, eqb, List, length, set, refl, sym, ap, ◌∙◌}
use Rattle.std.proofs.lemmas.Bool.{eqb-false}
use Rattle.std.proofs.lemmas.List.{get_or-set_same, get_or-set_other, set-set}
use Rattle.pim_isa.specs.declared.instr.Ins.{Ins}
use Rattle.pim_isa.specs.declared.instr.Ins.TheVariants as ins
use Rattle.pim_isa.specs.declared.instr.Instr.TheVariants.{Nor}
use Rattle.pim_isa.specs.Touches.{operands}
use Rattle.pim_isa.specs.Validity.{has}
use Rattle.pim_isa.specs.Steps.{bit, step}

pub or_falses : (a b : Bool) → (a || b) ≡ false → (a ≡ false) × (b ≡ false)
or_falses false b e = (refl, e)
or_falses true b e = cc

three_bits : (w x y z : Bool) → ((w && not (x || y)) && not z) ≡ (w && not (x || (y || (z || false))))
three_bits false x y z = refl
three_bits true true y z = refl
three_bits true false true z = refl
three_bits true false false true = refl
three_bits true false false false = refl

four_bits : (w x y z u : Bool) → ((w && not (x || y)) && not (z || u)) ≡ (w && not (x || (y || (z || (u || false)))))
four_bits false x y z u = refl
four_bits true true y z u = refl
four_bits true false true z u = refl
four_bits true false false true u = refl
four_bits true false false false true = refl
four_bits true false false false false = refl

-- a NOR into what another NOR left
nor_more : (m n : List Bool) (t : ℕ) (x z : Bool) → t < length m → n ≡ set m t x → set n t (bit n t && not z) ≡ set m t (x && not z)
nor_more m n t x z small e =
    ap (λ (l : List Bool). set l t (bit l t && not z)) e
    ∙ ap (λ (b : Bool). set (set m t x) t (b && not z)) (get_or-set_same m t x false small)
    ∙ set-set m t x (x && not z)

-- another cell keeps its bit
bit_kept : (m n : List Bool) (t c : ℕ) (x : Bool) → n ≡ set m t x → eqb c t ≡ false → bit n c ≡ bit m c
bit_kept m n t c x e apart = ap (λ (l : List Bool). bit l c) e ∙ get_or-set_other m t c x false (eqb-false c t apart)

-- three operands: two, and then one
pub nor_three : (m n o : List Bool) (t a b c : ℕ) (i : Ins) → i ≡ ins.Three a b c → t < length m → has t (operands i) ≡ false →
    n ≡ set m t (bit m t && not (bit m a || bit m b)) → o ≡ set n t (bit n t && not (bit n c)) → o ≡ step m (Nor t i)
nor_three m n o t a b c i is small apart first second =
    let none : (eqb a t || (eqb b t || (eqb c t || false))) ≡ false = sym (ap (λ (j : Ins). has t (operands j)) is) ∙ apart in
    let c_none : eqb c t ≡ false = (or_falses (eqb c t) false (or_falses (eqb b t) _ (or_falses (eqb a t) _ none).1).1).0 in
    let x : Bool = bit m t && not (bit m a || bit m b) in
    second
    ∙ ap (λ (z : Bool). set n t (bit n t && not z)) (bit_kept m n t c x first c_none)
    ∙ nor_more m n t x (bit m c) small first
    ∙ ap (λ (v : Bool). set m t v) (three_bits (bit m t) (bit m a) (bit m b) (bit m c))
    ∙ sym (ap (λ (j : Ins). step m (Nor t j)) is)

-- four operands: two, and then two
pub nor_four : (m n o : List Bool) (t a b c d : ℕ) (i : Ins) → i ≡ ins.Four a b c d → t < length m → has t (operands i) ≡ false →
    n ≡ set m t (bit m t && not (bit m a || bit m b)) → o ≡ set n t (bit n t && not (bit n c || bit n d)) → o ≡ step m (Nor t i)
nor_four m n o t a b c d i is small apart first second =
    let none : (eqb a t || (eqb b t || (eqb c t || (eqb d t || false)))) ≡ false = sym (ap (λ (j : Ins). has t (operands j)) is) ∙ apart in
    let later : (eqb c t || (eqb d t || false)) ≡ false = (or_falses (eqb b t) _ (or_falses (eqb a t) _ none).1).1 in
    let c_none : eqb c t ≡ false = (or_falses (eqb c t) _ later).0 in
    let d_none : eqb d t ≡ false = (or_falses (eqb d t) false (or_falses (eqb c t) _ later).1).0 in
    let x : Bool = bit m t && not (bit m a || bit m b) in
    second
    ∙ ap (λ (z : Bool). set n t (bit n t && not (z || bit n d))) (bit_kept m n t c x first c_none)
    ∙ ap (λ (z : Bool). set n t (bit n t && not (bit m c || z))) (bit_kept m n t d x first d_none)
    ∙ nor_more m n t x (bit m c || bit m d) small first
    ∙ ap (λ (v : Bool). set m t v) (four_bits (bit m t) (bit m a) (bit m b) (bit m c) (bit m d))
    ∙ sym (ap (λ (j : Ins). step m (Nor t j)) is)

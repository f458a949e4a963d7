-- The instructions of a schedule are those of a program: they write the cells after the inputs, and read no cell that they write.
use Rattle.std.proofs.Common.{◌≡◌, ◌≢◌, ◌⊎◌, ℕ, suc, ◌-◌, ◌*◌, ◌/◌, ◌%◌, ◌<◌, ◌≤◌, Bool, true, false, cond, eqb, nat_lt, ◌&&◌, ◌||◌, List, [], ◌∷◌, ◌++◌, length, get_or, take, flat_map, slice_get, All, Option, Some, None, refl, sym, ◌∙◌, ap, subst, arith, inl, inr}
use Rattle.std.specs.List.{list_any}
use Rattle.std.proofs.lemmas.Bool.{false≢true}
use Rattle.std.proofs.lemmas.Bool.Decides.{nat_tests, eqb_tells, leb_tells}
use Rattle.std.proofs.lemmas.List.Elements.{All-append, All-cons}
use Rattle.std.proofs.lemmas.Option.{slice_get_cases}
use Rattle.pim_aig.specs.Graph.{AigView}
use Rattle.pim_aig.specs.declared.literal.Lit.{Lit}
use Rattle.pim_graph.specs.Allotments.{AllotmentView}
use Rattle.pim_graph.specs.Graphs.{has, kids_of}
use Rattle.pim_isa.specs.Sound.{IsValid}
use Rattle.pim_isa.specs.Touches.{operand_cells, writes}
use Rattle.pim_isa.specs.declared.target.Target.TheVariants.{Plim}
use Rattle.pim_isa.specs.declared.instr.Operand.{Operand}
use Rattle.pim_isa.specs.declared.instr.Operand.TheVariants as operand
use Rattle.pim_isa.specs.declared.instr.Instr.{Instr}
use Rattle.pim_isa.specs.declared.instr.Instr.TheVariants.{Init, Nor, Rm3}
use Rattle.pim_rm3.specs.Gates.{ands_read, gate_graph, gates, taken, taken_of}
use Rattle.pim_rm3.specs.Schedules.{cell_of, gate_instrs, instrs_at, is_inverted, load, narrow, narrow_by, operand_of, schedule, set_to, settled}
use Rattle.pim_rm3.specs.declared.gate.Gate.{Gate}
use Rattle.pim_rm3.specs.declared.gate.Gate.TheVariants as gate
use Rattle.pim_rm3.proofs.Lists.{all_has, has_whole, has_of_take}
use Rattle.pim_rm3.proofs.GateKinds.{Kind, kind_of, kids_at, and_of, first_read, second_read, inverse_child}
use Rattle.pim_rm3.proofs.GateKinds.Kind.{constant, inverse, input, meet}
use Rattle.pim_rm3.proofs.GateOrders.{taken_map}
use Rattle.pim_rm3.proofs.Stepping.{read_needed}
use Rattle.pim_rm3.proofs.Rows.{bool_cases, load_is, narrow_by_is}
use Rattle.pim_rm3.specs.inner.Settled.{IsSettled}
use Rattle.pim_rm3.proofs.Walks.{cell_input, cell_gate, none_some, option_cases, not_input}

-- an operand is a constant, or a cell of the program other than the target
abbrev pub FitsOperand : ℕ → ℕ → Operand → Type 0
FitsOperand w z operand.Zero = Unit {0}
FitsOperand w z operand.One = Unit {0}
FitsOperand w z (operand.Cell c) = (c < w) × (c ≢ z)

-- the target is one of the cells after the first, and the operands are others
abbrev pub Fits : ℕ → ℕ → Instr → Type 0
Fits f w (Init cells) = ⊥
Fits f w (Nor t ins) = ⊥
Fits f w (Rm3 p q z) = (f ≤ z) × (z < w) × FitsOperand w z p × FitsOperand w z q

eqb_other : (a b : ℕ) → a ≢ b → eqb a b ≡ false
eqb_other a b h = grind (arith, nat_tests)

apart_from_own : (n c z : ℕ) → (nat_lt 0 n && eqb c z) ≡ false → 0 < n → c ≡ z → ⊥
apart_from_own n c z h some same =
    let t : nat_lt 0 n ≡ true = grind (arith, nat_tests) in
    let u : eqb c z ≡ true = grind (arith, nat_tests) in
    false≢true (sym h ∙ ap (λ (b : Bool). b && eqb c z) t ∙ u)

constants : (w z : ℕ) (b : Bool) → FitsOperand w z (cond b operand.Zero operand.One)
constants w z true = tt
constants w z false = tt

pick : (b : Bool) (x y : Lit) (P : Lit → Type 0) → P x → P y → P (cond b x y)
pick true x y P p q = p
pick false x y P p q = q

two_fit : (f w : ℕ) (i j : Instr) → Fits f w i → Fits f w j → All (Fits f w) (i ∷ j ∷ [])
two_fit f w i j a b = All-cons (Fits f w) i (j ∷ []) a (All-cons (Fits f w) j [] b (λ k d l. absurd (omega arith)))

append_none : (xs : List ℕ) → xs ++ [] ≡ xs
append_none [] = refl
append_none (x ∷ xs) = ap (λ (ys : List ℕ). x ∷ ys) (append_none xs)

none_get : (o : Option Instr) (i : Instr) → o ≡ None → o ≡ Some i → ⊥
none_get o i n e = cc

some_is : (x i : Instr) → Some x ≡ Some i → x ≡ i
some_is x i e = cc

pub fits_operand : (ins : ℕ) (cells : List ℕ) (w z : ℕ) (e : Lit) → (0 < e.0 / 2 → (cell_of ins cells e < w) × (cell_of ins cells e ≢ z)) → FitsOperand w z (operand_of ins cells e)
fits_operand ins cells w z e h = elim (eqb_tells (e.0 / 2) 0) [
  | inl t ↦
      let P : Bool → Type 0 = λ b. FitsOperand w z (cond b (cond (eqb e.0 0) operand.Zero operand.One) (operand.Cell (cell_of ins cells e))) in
      subst P (sym t.0) (constants w z (eqb e.0 0))
  | inr f ↦
      let P : Bool → Type 0 = λ b. FitsOperand w z (cond b (cond (eqb e.0 0) operand.Zero operand.One) (operand.Cell (cell_of ins cells e))) in
      subst P (sym f.0) (h (omega (arith, f.1)))
]

pub inverted_some : (e : Lit) → is_inverted e ≡ true → 0 < e.0 / 2
inverted_some e h = grind (arith, nat_tests)

fits_narrow_by : (ins : ℕ) (cells : List ℕ) (f w z : ℕ) (e : Lit) → f ≤ z → z < w → (0 < e.0 / 2 → (cell_of ins cells e < w) × (cell_of ins cells e ≢ z)) → Fits f w (narrow_by ins cells z e)
fits_narrow_by ins cells f w z e a b h = elim (bool_cases (is_inverted e)) [
  | inl inv ↦ subst (Fits f w) (sym (narrow_by_is ins cells z e true inv)) (a, b, tt, h (inverted_some e inv))
  | inr plain ↦ subst (Fits f w) (sym (narrow_by_is ins cells z e false plain)) (a, b, fits_operand ins cells w z e h, tt)
]

zero_half : (o : Bool) → 0 < cond {A = ℕ} o 0 1 / 2 → ⊥
zero_half true h = absurd (omega arith)
zero_half false h = absurd (omega arith)

fits_narrow : (ins : ℕ) (cells : List ℕ) (f w z : ℕ) (e : Lit) → f ≤ z → z < w → (0 < e.0 / 2 → cell_of ins cells e < w) → Fits f w (narrow ins cells z e)
fits_narrow ins cells f w z e a b h =
    let S : Bool → Lit = λ t. cond t (record { 0 = cond (eqb (e.0 % 2) 1) 0 1 }) e in
    let P : Bool → Type 0 = λ t. 0 < (S t).0 / 2 → (cell_of ins cells (S t) < w) × (cell_of ins cells (S t) ≢ z) in
    fits_narrow_by ins cells f w z (settled ins cells z e) a b (elim (bool_cases (nat_lt 0 (e.0 / 2) && eqb (cell_of ins cells e) z)) [
      | inl own ↦ subst P (sym own) (λ some. absurd (zero_half (eqb (e.0 % 2) 1) some))
      | inr other ↦ subst P (sym other) (λ some. (h some, λ same. apart_from_own (e.0 / 2) (cell_of ins cells e) z other some same))
    ])

pub fits_load : (ins : ℕ) (cells : List ℕ) (f w z : ℕ) (e : Lit) → f ≤ z → z < w → (0 < e.0 / 2 → (cell_of ins cells e < w) × (cell_of ins cells e ≢ z)) → All (Fits f w) (load ins cells z e)
fits_load ins cells f w z e a b h = elim (bool_cases (is_inverted e)) [
  | inl inv ↦ subst (All (Fits f w)) (sym (load_is ins cells z e true inv)) (two_fit f w _ _ (a, b, tt, tt) (a, b, tt, h (inverted_some e inv)))
  | inr plain ↦ subst (All (Fits f w)) (sym (load_is ins cells z e false plain)) (two_fit f w _ _ (a, b, tt, tt) (a, b, fits_operand ins cells w z e h, tt))
]

pub fits_set : (f w z : ℕ) (b : Bool) → f ≤ z → z < w → Fits f w (set_to b z)
fits_set f w z true a b = (a, b, tt, tt)
fits_set f w z false a b = (a, b, tt, tt)

-- an operand of the gate at a place
record OperandFits (g : AigView) (a : AllotmentView) (p : ℕ) (e : Lit) : Type 0 where
  within : 0 < e.0 / 2 → cell_of g.inputs a.cells e < a.width
  apart : taken g (get_or (gates g) p 0) ≡ None → 0 < e.0 / 2 → cell_of g.inputs a.cells e ≢ get_or a.cells (get_or (gates g) p 0) 0

operand_fits : (g : AigView) (a : AllotmentView) (p : ℕ) (e : Lit) → IsSettled g a → p < length (gates g) → (g.inputs < e.0 / 2 → has (kids_of (gate_graph g) (get_or (gates g) p 0)) (2 * (e.0 / 2)) ≡ true) → OperandFits g a p e
operand_fits g a p e s h child =
    let xs = gates g in
    let l = get_or xs p 0 in
    let from = s.allotted.from l (has_whole xs p h) in
    elim (leb_tells (e.0 / 2) g.inputs) [
      | inl i ↦
          let cell = cell_input g.inputs a.cells e i.1 in
          record {
            within = λ some. omega (arith, i.1, s.allotted.room);
            apart = λ none some same. absurd (omega (arith, i.1));
          }
      | inr b ↦
          let k = 2 * (e.0 / 2) in
          let kid = child b.1 in
          let before : has (take p xs) k ≡ true = all_has (λ y. has (take p xs) y ≡ true) (kids_of (gate_graph g) l) k (s.placed.after p h) kid in
          let cell = cell_gate g.inputs a.cells e b.1 in
          record {
            within = λ some. let w = s.allotted.within k (has_of_take xs p k before) in omega arith;
            apart = λ none some same. s.allotted.apart p k h before (read_needed (gate_graph g) (gates g) p k h kid) (λ o. none_some (taken g l) k none (sym (taken_map g p h) ∙ o)) (sym cell ∙ same);
          }
    ]

pub one_fits : (f w : ℕ) (i : Instr) → Fits f w i → All (Fits f w) (i ∷ [])
one_fits f w i h = All-cons (Fits f w) i [] h (λ k d l. absurd (omega arith))

gate_fits : (g : AigView) (a : AllotmentView) (p : ℕ) → IsSettled g a → p < length (gates g) → Kind g (get_or (gates g) p 0) → All (Fits g.inputs a.width) (instrs_at g a.cells (get_or (gates g) p 0))
gate_fits g a p s h (constant none is) =
    let l = get_or (gates g) p 0 in
    let z = get_or a.cells l 0 in
    let P : Gate → Type 0 = λ t. All (Fits g.inputs a.width) (gate_instrs g a.cells z (taken g l) l t) in
    subst P (sym is) (one_fits g.inputs a.width (set_to (eqb l 1) z) (fits_set g.inputs a.width z (eqb l 1) (s.allotted.from l (has_whole (gates g) p h)) (s.allotted.within l (has_whole (gates g) p h))))
gate_fits g a p s h (inverse some odd is) =
    let l = get_or (gates g) p 0 in
    let z = get_or a.cells l 0 in
    let e : Lit = record { 0 = l } in
    let fit = operand_fits g a p e s h (inverse_child g l (s.there p 0 h) odd is) in
    let P : Gate → Type 0 = λ t. All (Fits g.inputs a.width) (gate_instrs g a.cells z (taken g l) l t) in
    subst P (sym is) (fits_load g.inputs a.cells g.inputs a.width z e (s.allotted.from l (has_whole (gates g) p h)) (s.allotted.within l (has_whole (gates g) p h)) (λ q. (fit.within q, fit.apart (ap (taken_of g) is) q)))
gate_fits g a p s h (input some even few is) =
    absurd (not_input g (get_or (gates g) p 0) (s.there p 0 h) (s.reached p 0 h) some even few)
gate_fits g a p s h (meet even above is) =
    let l = get_or (gates g) p 0 in
    let z = get_or a.cells l 0 in
    let x = (and_of g (l / 2 - 1 - g.inputs)).x in
    let y = (and_of g (l / 2 - 1 - g.inputs)).y in
    let f = g.inputs in
    let w = a.width in
    let lo = s.allotted.from l (has_whole (gates g) p h) in
    let hi = s.allotted.within l (has_whole (gates g) p h) in
    let kids = kids_at g l (s.there p 0 h) ∙ ap (ands_read g) is in
    let fx = operand_fits g a p x s h (λ o. ap (λ (xs : List ℕ). has xs (2 * (x.0 / 2))) kids ∙ first_read g x y o) in
    let fy = operand_fits g a p y s h (λ o. ap (λ (xs : List ℕ). has xs (2 * (y.0 / 2))) kids ∙ second_read g x y o) in
    let P : Gate → Type 0 = λ t. All (Fits f w) (gate_instrs g a.cells z (taken g l) l t) in
    let Q : Option ℕ → Type 0 = λ o. All (Fits f w) (gate_instrs g a.cells z o l (gate.And x y)) in
    subst P (sym is) (elim (option_cases (taken g l)) [
      | inl none ↦ subst Q (sym none) (All-append (Fits f w) (load g.inputs a.cells z x) (narrow g.inputs a.cells z y ∷ []) (fits_load g.inputs a.cells f w z x lo hi (λ q. (fx.within q, fx.apart none q))) (one_fits f w (narrow g.inputs a.cells z y) (fits_narrow g.inputs a.cells f w z y lo hi fy.within)))
      | inr some ↦
          let R : Lit → Type 0 = λ e. Fits f w (narrow g.inputs a.cells z e) in
          subst Q (sym some.1) (one_fits f w (narrow g.inputs a.cells z (cond (eqb x.0 some.0) y x)) (pick (eqb x.0 some.0) y x R (fits_narrow g.inputs a.cells f w z y lo hi fy.within) (fits_narrow g.inputs a.cells f w z x lo hi fx.within)))
    ])

pub all_flat : (P : Instr → Type 0) (f : ℕ → List Instr) (xs : List ℕ) → ((k : ℕ) → k < length xs → All P (f (get_or xs k 0))) → All P (flat_map f xs)
all_flat P f [] h = λ k d l. absurd (omega arith)
all_flat P f (x ∷ xs) h = All-append P (f x) (flat_map f xs) (h 0 (omega arith)) (all_flat P f xs (λ k l. h (suc k) (omega arith)))

-- all instructions of a schedule fit
pub schedule_fits : (g : AigView) (a : AllotmentView) → IsSettled g a → All (Fits g.inputs a.width) (schedule g a.cells)
schedule_fits g a s = all_flat (Fits g.inputs a.width) (instrs_at g a.cells) (gates g) (λ k l. gate_fits g a k s l (kind_of g (get_or (gates g) k 0)))

operand_within : (w z : ℕ) (p : Operand) → FitsOperand w z p → All (λ c. c < w) (operand_cells p)
operand_within w z operand.Zero h = λ k d l. absurd (omega arith)
operand_within w z operand.One h = λ k d l. absurd (omega arith)
operand_within w z (operand.Cell c) h = All-cons (λ k. k < w) c [] h.0 (λ k d l. absurd (omega arith))

operand_apart : (w z : ℕ) (p : Operand) (ys : List ℕ) → FitsOperand w z p → list_any (λ d. eqb d z) ys ≡ false → list_any (λ d. eqb d z) (operand_cells p ++ ys) ≡ false
operand_apart w z operand.Zero ys h e = e
operand_apart w z operand.One ys h e = e
operand_apart w z (operand.Cell c) ys h e = ap (λ (b : Bool). b || list_any (λ d. eqb d z) ys) (eqb_other c z h.1) ∙ e

-- an instruction that fits is valid
pub fits_valid : (f w : ℕ) (i : Instr) → Fits f w i → IsValid Plim w i
fits_valid f w (Init cells) h = absurd h
fits_valid f w (Nor t ins) h = absurd h
fits_valid f w (Rm3 p q z) h = record {
  suited = refl;
  listed = refl;
  within = All-cons (λ c. c < w) z (z ∷ (operand_cells p ++ operand_cells q)) h.1 (All-cons (λ c. c < w) z (operand_cells p ++ operand_cells q) h.1 (All-append (λ c. c < w) (operand_cells p) (operand_cells q) (operand_within w z p h.2) (operand_within w z q h.3)));
  apart = operand_apart w z p (operand_cells q) h.2 (ap (list_any (λ d. eqb d z)) (sym (append_none (operand_cells q))) ∙ operand_apart w z q [] h.3 refl);
}

-- it writes no cell before the first and none from the end on
pub fits_writes : (f w : ℕ) (i : Instr) (c : ℕ) → Fits f w i → (c < f) ⊎ (w ≤ c) → list_any (λ d. eqb d c) (writes i) ≡ false
fits_writes f w (Init cells) c h o = absurd h
fits_writes f w (Nor t ins) c h o = absurd h
fits_writes f w (Rm3 p q z) c h o =
    let ne : z ≢ c = λ e. elim o [ inl l ↦ absurd (omega (arith, h.0)) | inr r ↦ absurd (omega (arith, h.1)) ] in
    ap (λ (b : Bool). b || false) (eqb_other z c ne)

-- what holds of all holds of the one at a place
pub all_get : (P : Instr → Type 0) (is : List Instr) (k : ℕ) (i : Instr) → All P is → slice_get is k ≡ Some i → P i
all_get P is k i h e = elim (slice_get_cases is k).1 [
  | inl t ↦ subst P (t.3 ∙ some_is t.0 i (sym t.2 ∙ e)) (h k t.0 t.1)
  | inr n ↦ absurd (none_get (slice_get is k) i n.1 e)
]

-- At width four the outputs reach no gate that they don't reach at width two, so there are no more NORs.
use Rattle.std.proofs.Common.{◌≡◌, ◌≢◌, ◌⊎◌, ℕ, zero, suc, ◌+◌, ◌-◌, ◌*◌, ◌/◌, ◌%◌, ◌<◌, ◌≤◌, Bool, true, false, cond, eqb, ◌||◌, List, [], ◌∷◌, length, get_or, map, Contains, inl, inr, refl, sym, ◌∙◌, ap, subst, arith}
use Rattle.std.proofs.lemmas.Bool.{cases_eq, cases_lt, false≢true, cond_both, cond-false, ne_eqb}
use Rattle.std.proofs.lemmas.List.{length-map}
use Rattle.std.proofs.lemmas.List.Sums.{sum_by-cons}
use Rattle.pim_aig.specs.Graph.{AigView, IsAig}
use Rattle.pim_aig.specs.Literals.{complement}
use Rattle.pim_aig.specs.declared.literal.Lit.{Lit}
use Rattle.pim_nor.specs.Leaves.{leaves, operands, and_at, widened, distinct}
use Rattle.pim_nor.specs.Lowered.{marks_of, nors}
use Rattle.pim_nor.specs.Named.{slots, source, literal_at, gate_of, gate_at, nor_of_leaves}
use Rattle.pim_nor.specs.Network.{pins, is_nor, nor_count}
use Rattle.pim_nor.specs.Reached.{numbered_gate, kept}
use Rattle.pim_nor.specs.Reaching.{IsSlotReached, by_output, by_gate}
use Rattle.pim_nor.specs.declared.lowering.Width.TheVariants.{Two, Four}
use Rattle.pim_nor.specs.declared.network.Gate.{Gate}
use Rattle.pim_nor.specs.declared.network.Gate.TheVariants.{One, Not}
use Rattle.pim_nor.specs.declared.network.Pin.{Pin}
use Rattle.pim_nor.specs.declared.network.Pin.TheVariants.{Gate as Place}
use Rattle.pim_nor.proofs.Constants.{is_nor-numbered, is_nor-nor_of}
use Rattle.pim_nor.proofs.LeafLists.{AllOf, AllOf-distinct, AllOf-widened, IsAnd, IsOpened, AreLeaves, leaves-AreLeaves}
use Rattle.pim_nor.proofs.LiteralValues.{pins-nor_of, complement-even, complement-odd, source_and}
use Rattle.pim_nor.proofs.Reachable.{reached-kept, kept-reached, marked_there}
use Rattle.pim_nor.proofs.SlotLiterals.{literal_low, literal_mid, literal_high}
use Rattle.pim_nor.proofs.Sound.{gate_of_one, gate_of_not, gate_of-and, length-marks_of}

-- the pin that a gate reads for a leaf
abbrev leaf_pin : AigView → Lit → Pin
leaf_pin g leaf = source g.inputs (complement leaf)

-- the slot of an AND node's value
abbrev pos : AigView → ℕ → ℕ
pos g n = 2 * n - g.inputs

-- the gate of an AND node's value reads the complements of its leaves
pins-pos : (g : AigView) (lists : ℕ → List Lit) → AreLeaves g lists → (n : ℕ) → IsAnd g n → pins (gate_at g lists (pos g n)) ≡ map (leaf_pin g) (lists n)
pins-pos g lists are n is =
    let l = literal_at g.inputs (pos g n) in
    let above = is.above in
    let number : l.0 ≡ 2 * n = literal_high g.inputs (pos g n) (omega arith) ∙ omega arith in
    let half : l.0 / 2 ≡ n = omega arith in
    let few = are.few n is in
    ap (λ (x : Gate). pins x) (gate_of-and g lists l (omega arith) (omega arith)) ∙ (ap (λ (m : ℕ). pins (nor_of_leaves g.inputs (lists m))) half ∙ pins-nor_of (map (leaf_pin g) (lists n)) (omega (arith, length-map (lists n) (leaf_pin g))))

-- the gate that the leaf's complement has, if it has one, is reached at width two
abbrev LeafIsReached : AigView → Lit → Type 0
LeafIsReached g l = (slot : ℕ) → leaf_pin g l ≡ Place slot → IsSlotReached g Two slot

-- what a reached gate reads for its first operand
first_read : (g : AigView) → IsAig g → (n : ℕ) → IsAnd g n → IsSlotReached g Two (pos g n) → LeafIsReached g (and_at g n).x
unfolding leaves
first_read g sound n is r slot e =
    let P : List Pin → Type 0 = λ ps. Contains ps (Place slot) in
    by_gate r (subst P (sym (pins-pos g (leaves g Two) (leaves-AreLeaves g sound Two) n is)) (0, omega arith, e))

-- and for its second one, which may repeat the first
second_read : (g : AigView) → IsAig g → (n : ℕ) → IsAnd g n → IsSlotReached g Two (pos g n) → LeafIsReached g (and_at g n).y
unfolding leaves
second_read g sound n is r slot e =
    let x = (and_at g n).x in
    let y = (and_at g n).y in
    elim (cases_eq x.0 y.0) [
      | inl same ↦
          let swap : leaf_pin g x ≡ leaf_pin g y = ap (λ (k : ℕ). leaf_pin g (record { 0 = k })) same in
          first_read g sound n is r slot (swap ∙ e)
      | inr other ↦
          let P : List Pin → Type 0 = λ ps. Contains ps (Place slot) in
          let both : distinct (x ∷ y ∷ []) ≡ x ∷ y ∷ [] = second_stays x y other in
          let there : Contains (map (leaf_pin g) (x ∷ y ∷ [])) (Place slot) = (1, omega arith, e) in
          let Q : List Lit → Type 0 = λ ls. Contains (map (leaf_pin g) ls) (Place slot) in
          by_gate r (subst P (sym (pins-pos g (leaves g Two) (leaves-AreLeaves g sound Two) n is)) (subst Q (sym both) there))
    ]
  where
    second_stays : (x y : Lit) → x.0 ≢ y.0 → distinct (x ∷ y ∷ []) ≡ x ∷ y ∷ []
    second_stays x y other = ap (λ (b : Bool). x ∷ cond (b || false) [] (y ∷ [])) (ne_eqb x.0 y.0 other)

-- a reached slot is there
slot_there : (g : AigView) → IsAig g → (slot : ℕ) → IsSlotReached g Two slot → slot < slots g
slot_there g sound slot r =
    omega (arith, marked_there (marks_of g (leaves g Two)) slot (reached-kept g sound Two r), length-marks_of g (leaves g Two))

-- the gate of an AND node's complement reads the gate of its value
pins-neg : (g : AigView) (lists : ℕ → List Lit) (n : ℕ) → g.inputs < n → pins (gate_at g lists (pos g n + 1)) ≡ Place (pos g n) ∷ []
pins-neg g lists n above =
    let l = literal_at g.inputs (pos g n + 1) in
    let number : l.0 ≡ 2 * n + 1 = literal_high g.inputs (pos g n + 1) (omega arith) ∙ omega arith in
    let odd : l.0 % 2 ≡ 1 = omega arith in
    let c = complement l in
    let even : c.0 ≡ 2 * n = complement-odd l odd ∙ omega arith in
    let place : source g.inputs c ≡ Place (pos g n) = source_and g.inputs c (omega arith) ∙ ap (λ (k : ℕ). Place k) (omega arith) in
    ap (λ (x : Gate). pins x) (gate_of_not g lists l (inr (omega arith, odd))) ∙ ap (λ (p : Pin). p ∷ []) place

-- where an opened literal's complement is reached, so are the complements of its node's operands
opened_read : (g : AigView) → IsAig g → (l : Lit) → IsOpened g l → LeafIsReached g l → LeafIsReached g (and_at g (l.0 / 2)).x × LeafIsReached g (and_at g (l.0 / 2)).y
opened_read g sound l opened h =
    let n = l.0 / 2 in
    let above = opened.above in
    let even = opened.even in
    let c = complement l in
    let number : c.0 ≡ 2 * n + 1 = complement-even l even ∙ omega arith in
    let neg = pos g n + 1 in
    let pin_is : leaf_pin g l ≡ Place neg = source_and g.inputs c (omega arith) ∙ ap (λ (k : ℕ). Place k) (omega arith) in
    let neg_reached : IsSlotReached g Two neg = h neg pin_is in
    let is : IsAnd g n = record { above = opened.above; there = omega (arith, slot_there g sound neg neg_reached) } in
    let P : List Pin → Type 0 = λ ps. Contains ps (Place (pos g n)) in
    let r : IsSlotReached g Two (pos g n) = by_gate neg_reached (subst P (sym (pins-neg g (leaves g Two) n above)) (0, omega arith, refl)) in
    (first_read g sound n is r, second_read g sound n is r)

-- all leaves of a reached AND node at width four are reached so
leaves_read : (g : AigView) → IsAig g → (n : ℕ) → IsAnd g n → IsSlotReached g Two (pos g n) → AllOf (LeafIsReached g) (leaves g Four n)
unfolding leaves
leaves_read g sound n is r =
    let P : Lit → Type 0 = LeafIsReached g in
    let first : AllOf P (operands g n) = (first_read g sound n is r, (second_read g sound n is r, tt)) in
    let once = AllOf-widened g P (λ l o h. opened_read g sound l o h) (operands g n) first in
    let twice = AllOf-widened g P (λ l o h. opened_read g sound l o h) (widened g (operands g n)) once in
    AllOf-distinct P [] (widened g (widened g (operands g n))) twice

leaf_there : (g : AigView) (ls : List Lit) (slot k : ℕ) → AllOf (LeafIsReached g) ls → k < length (map (leaf_pin g) ls) → get_or (map (leaf_pin g) ls) k (Place slot) ≡ Place slot → IsSlotReached g Two slot
leaf_there g [] slot k h l e = absurd (omega arith)
leaf_there g (m ∷ ls) slot zero h l e = h.0 slot e
leaf_there g (m ∷ ls) slot (suc k) h l e = leaf_there g ls slot k h.1 (omega arith) e

-- the gate of a slot that is no AND node's value is the same at both widths
same_gate : (g : AigView) (ls ms : ℕ → List Lit) (s : ℕ) → (s < 2 + g.inputs) ⊎ ((2 + g.inputs ≤ s) × ((s + g.inputs) % 2 ≡ 1)) → gate_at g ls s ≡ gate_at g ms s
same_gate g ls ms s (inl low) =
    let l = literal_at g.inputs s in
    elim (cases_lt s 2) [
      | inl two ↦
          let e = literal_low g.inputs s two in
          elim (cases_eq s 0) [
            | inl z ↦ gate_of_one g ls l (omega arith) ∙ sym (gate_of_one g ms l (omega arith))
            | inr ne ↦ gate_of_not g ls l (inl (omega arith)) ∙ sym (gate_of_not g ms l (inl (omega arith)))
          ]
      | inr mid ↦
          let e = literal_mid g.inputs s mid low in
          gate_of_not g ls l (inr (omega arith, omega arith)) ∙ sym (gate_of_not g ms l (inr (omega arith, omega arith)))
    ]
same_gate g ls ms s (inr h) =
    let l = literal_at g.inputs s in
    let from = h.0 in
    let odd = h.1 in
    let e = literal_high g.inputs s from in
    gate_of_not g ls l (inr (omega arith, omega arith)) ∙ sym (gate_of_not g ms l (inr (omega arith, omega arith)))

-- what the outputs reach at width four they reach at width two
pub reached-narrower : (g : AigView) → IsAig g → {slot : ℕ} → IsSlotReached g Four slot → IsSlotReached g Two slot
reached-narrower g sound (by_output c) = by_output c
reached-narrower g sound {slot} (by_gate {reader} r c) =
    let here : IsSlotReached g Two reader = reached-narrower g sound r in
    let there = slot_there g sound reader here in
    let P : Gate → Type 0 = λ x. Contains (pins x) (Place slot) in
    elim (cases_lt reader (2 + g.inputs)) [
      | inl low ↦ by_gate here (subst P (same_gate g (leaves g Four) (leaves g Two) reader (inl low)) c)
      | inr from ↦ elim (cases_eq ((reader + g.inputs) % 2) 0) [
        | inl even ↦
            let n = (reader + g.inputs) / 2 in
            let is : IsAnd g n = record { above = omega arith; there = omega arith } in
            let at : reader ≡ pos g n = omega arith in
            let R : ℕ → Type 0 = λ s. IsSlotReached g Two s in
            let Q : ℕ → Type 0 = λ s. Contains (pins (gate_at g (leaves g Four) s)) (Place slot) in
            let S : List Pin → Type 0 = λ ps. Contains ps (Place slot) in
            let found = subst S (pins-pos g (leaves g Four) (leaves-AreLeaves g sound Four) n is) (subst Q at c) in
            leaf_there g (leaves g Four n) slot found.0 (leaves_read g sound n is (subst R at here)) found.1 found.2
        | inr other ↦ by_gate here (subst P (same_gate g (leaves g Four) (leaves g Two) reader (inr (from, omega arith))) c)
      ]
    ]

-- counting

-- the gates before the marked ones are no more where fewer are marked and fewer are NORs
nor_count-kept : (f h : ℕ → Gate) (s : ℕ) (ms ns : List Bool) → length ms ≡ length ns → ((k : ℕ) → get_or ms k false ≡ true → get_or ns k false ≡ true) → ((t : ℕ) → is_nor (f t) ≡ true → is_nor (h t) ≡ true) → nor_count (kept f s ms) ≤ nor_count (kept h s ns)
nor_count-kept f h s [] [] len marked nor = omega arith
nor_count-kept f h s [] (n ∷ ns) len marked nor = absurd (omega arith)
nor_count-kept f h s (m ∷ ms) [] len marked nor = absurd (omega arith)
nor_count-kept f h s (true ∷ ms) (true ∷ ns) len marked nor =
    omega (arith, sum_by-cons (λ x. cond (is_nor x) 1 0) (f s) (kept f (suc s) ms), sum_by-cons (λ x. cond (is_nor x) 1 0) (h s) (kept h (suc s) ns), one_each (is_nor (f s)) (is_nor (h s)) (nor s), nor_count-kept f h (suc s) ms ns (omega arith) (λ k e. marked (suc k) e) nor)
  where
    one_each : (a b : Bool) → (a ≡ true → b ≡ true) → cond a 1 0 ≤ cond b 1 0
    one_each false b e = omega arith
    one_each true true e = omega arith
    one_each true false e = absurd (false≢true (e refl))
nor_count-kept f h s (true ∷ ms) (false ∷ ns) len marked nor = absurd (false≢true (marked 0 refl))
nor_count-kept f h s (false ∷ ms) (true ∷ ns) len marked nor =
    omega (arith, sum_by-cons (λ x. cond (is_nor x) 1 0) (h s) (kept h (suc s) ns), nor_count-kept f h (suc s) ms ns (omega arith) (λ k e. marked (suc k) e) nor)
nor_count-kept f h s (false ∷ ms) (false ∷ ns) len marked nor =
    nor_count-kept f h (suc s) ms ns (omega arith) (λ k e. marked (suc k) e) nor

-- at width two each gate but the constant one is a NOR or a NOT
nor_at_two : (g : AigView) (l : Lit) (lists : ℕ → List Lit) → is_nor (gate_of g lists l) ≡ true → is_nor (gate_of g (leaves g Two) l) ≡ true
unfolding leaves
nor_at_two g l lists h =
    elim (cases_eq l.0 1) [
      | inl one ↦ absurd (false≢true (sym (ap is_nor (gate_of_one g lists l one)) ∙ h))
      | inr other ↦
          let P : Gate → Type 0 = λ x. is_nor x ≡ true in
          let n = l.0 / 2 in
          let rest = nor_of_leaves g.inputs (leaves g Two n) in
          subst P (sym (cond-false (eqb l.0 1) One _ (ne_eqb l.0 1 other))) (cond_both (eqb l.0 0 || eqb (l.0 % 2) 1) (Not (source g.inputs (complement l))) rest P (λ _. refl) (λ _. is_nor-nor_of (leaf_pin g (and_at g n).x) _))
    ]

-- the network of width four has no more NORs than that of width two
pub nor_count-narrower : (g : AigView) → IsAig g → nor_count (nors g Four).gates ≤ nor_count (nors g Two).gates
nor_count-narrower g sound =
    let four = marks_of g (leaves g Four) in
    let two = marks_of g (leaves g Two) in
    let same : length four ≡ length two = length-marks_of g (leaves g Four) ∙ sym (length-marks_of g (leaves g Two)) in
    nor_count-kept (λ s. numbered_gate four (gate_at g (leaves g Four) s)) (λ s. numbered_gate two (gate_at g (leaves g Two) s)) 0 four two same
    (λ k m. reached-kept g sound Two (reached-narrower g sound (kept-reached g Four k m)))
    (λ t e. is_nor-numbered two (gate_at g (leaves g Two) t) ∙ nor_at_two g (literal_at g.inputs t) (leaves g Four) (sym (is_nor-numbered four (gate_at g (leaves g Four) t)) ∙ e))

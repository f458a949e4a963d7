-- At most one gate of a network is the constant one.
use Rattle.std.proofs.Common.{◌≡◌, ℕ, suc, ◌+◌, ◌/◌, ◌%◌, ◌<◌, ◌≤◌, Bool, true, false, not, cond, List, [], ◌∷◌, length, count_by, inl, inr, refl, sym, ◌∙◌, ap, subst, arith}
use Rattle.std.proofs.lemmas.Bool.{cases_eq, cases_lt}
use Rattle.std.proofs.lemmas.List.Sums.{sum_by-cons}
use Rattle.pim_aig.specs.Graph.{AigView}
use Rattle.pim_aig.specs.Literals.{complement}
use Rattle.pim_aig.specs.declared.literal.Lit.{Lit}
use Rattle.pim_nor.specs.Lowered.{marks_of, network_of}
use Rattle.pim_nor.specs.Named.{slots, source, literal_at, gate_of, gate_at, nor_of, nor_of_leaves}
use Rattle.pim_nor.specs.Network.{is_nor}
use Rattle.pim_nor.specs.Reached.{numbered_gate, kept}
use Rattle.pim_nor.specs.declared.network.Gate.{Gate}
use Rattle.pim_nor.specs.declared.network.Gate.TheVariants.{One, Not, Nor, Nor3, Nor4}
use Rattle.pim_nor.specs.declared.network.Pin.{Pin}
use Rattle.pim_nor.proofs.LeafLists.{AreLeaves}
use Rattle.pim_nor.proofs.SlotLiterals.{literal_low, literal_mid, literal_high}
use Rattle.pim_nor.proofs.Sound.{gate_of_not, gate_of-and, length-marks_of, slot-IsAnd}

pub is_nor-numbered : (marks : List Bool) (x : Gate) → is_nor (numbered_gate marks x) ≡ is_nor x
is_nor-numbered marks One = refl
is_nor-numbered marks (Not a) = refl
is_nor-numbered marks (Nor a b) = refl
is_nor-numbered marks (Nor3 a b c) = refl
is_nor-numbered marks (Nor4 a b c d) = refl

pub is_nor-nor_of : (p : Pin) (ps : List Pin) → is_nor (nor_of (p ∷ ps)) ≡ true
is_nor-nor_of a [] = refl
is_nor-nor_of a (b ∷ []) = refl
is_nor-nor_of a (b ∷ c ∷ []) = refl
is_nor-nor_of a (b ∷ c ∷ d ∷ ps) = refl

is_nor-leaves : (inputs : ℕ) (ls : List Lit) → 0 < length ls → is_nor (nor_of_leaves inputs ls) ≡ true
is_nor-leaves inputs [] h = absurd (omega arith)
is_nor-leaves inputs (l ∷ ls) h = is_nor-nor_of (source inputs (complement l)) _

-- the gate of each slot but the first is a NOR or a NOT

is_nor-not : (g : AigView) (lists : ℕ → List Lit) (l : Lit) → gate_of g lists l ≡ Not (source g.inputs (complement l)) → is_nor (gate_of g lists l) ≡ true
is_nor-not g lists l e = ap is_nor e

is_nor-slot : (g : AigView) (lists : ℕ → List Lit) → AreLeaves g lists → (s : ℕ) → 0 < s → s < slots g → is_nor (gate_at g lists s) ≡ true
is_nor-slot g lists are s some there =
    let l = literal_at g.inputs s in
    elim (cases_lt s 2) [
      | inl low ↦
          let e = literal_low g.inputs s low in
          is_nor-not g lists l (gate_of_not g lists l (inl (omega arith)))
      | inr two ↦ elim (cases_lt s (2 + g.inputs)) [
        | inl mid ↦
            let e = literal_mid g.inputs s two mid in
            is_nor-not g lists l (gate_of_not g lists l (inr (omega arith, omega arith)))
        | inr high ↦
            let e : l.0 ≡ s + g.inputs = literal_high g.inputs s high in
            elim (cases_eq ((s + g.inputs) % 2) 0) [
              | inl even ↦
                  let P : ℕ → Type 0 = λ n. 0 < length (lists (n / 2)) in
                  let leaf : 0 < length (lists (l.0 / 2)) = subst P (sym e) (are.some ((s + g.inputs) / 2) (slot-IsAnd g s there high)) in
                  ap is_nor (gate_of-and g lists l (omega arith) (omega arith)) ∙ is_nor-leaves g.inputs (lists (l.0 / 2)) leaf
              | inr odd ↦ is_nor-not g lists l (gate_of_not g lists l (inr (omega arith, omega arith)))
            ]
      ]
    ]

-- how many of some gates are the constant one
abbrev pub constants : List Gate → ℕ
constants gates = count_by (λ gate. not (is_nor gate)) gates

constants-cons : (x : Gate) (xs : List Gate) → constants (x ∷ xs) ≡ cond (not (is_nor x)) 1 0 + constants xs
constants-cons x xs = sum_by-cons (λ gate. cond {A = ℕ} (not (is_nor gate)) 1 0) x xs

constants-none : (f : ℕ → Gate) (s : ℕ) (ms : List Bool) → ((t : ℕ) → s ≤ t → t < s + length ms → is_nor (f t) ≡ true) → constants (kept f s ms) ≡ 0
constants-none f s [] nor = refl
constants-none f s (true ∷ ms) nor =
    let here = ap (λ (b : Bool). cond {A = ℕ} (not b) 1 0) (nor s (omega arith) (omega arith)) in
    let rest = constants-none f (suc s) ms (λ t l h. nor t (omega arith) (omega arith)) in
    omega (arith, constants-cons (f s) (kept f (suc s) ms))
constants-none f s (false ∷ ms) nor = constants-none f (suc s) ms (λ t l h. nor t (omega arith) (omega arith))

bit-le : (b : Bool) → cond {A = ℕ} b 1 0 ≤ 1
bit-le true = omega arith
bit-le false = omega arith

constants-one : (f : ℕ → Gate) (ms : List Bool) → ((t : ℕ) → 0 < t → t < length ms → is_nor (f t) ≡ true) → constants (kept f 0 ms) ≤ 1
constants-one f [] nor = omega arith
constants-one f (true ∷ ms) nor =
    let rest = constants-none f 1 ms (λ t l h. nor t (omega arith) (omega arith)) in
    let here = bit-le (not (is_nor (f 0))) in
    omega (arith, constants-cons (f 0) (kept f 1 ms))
constants-one f (false ∷ ms) nor =
    let rest = constants-none f 1 ms (λ t l h. nor t (omega arith) (omega arith)) in
    omega arith

pub constants-network_of : (g : AigView) (lists : ℕ → List Lit) → AreLeaves g lists → constants (network_of g lists).gates ≤ 1
constants-network_of g lists are =
    let ms = marks_of g lists in
    constants-one (λ s. numbered_gate ms (gate_at g lists s)) ms (λ t some l. is_nor-numbered ms (gate_at g lists t) ∙ is_nor-slot g lists are t some (omega (arith, length-marks_of g lists)))

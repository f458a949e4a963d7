-- What `nors` gives is a network.
use Rattle.std.proofs.Common.{◌≡◌, ◌≢◌, ◌⊎◌, ℕ, ◌+◌, ◌-◌, ◌*◌, ◌/◌, ◌%◌, ◌<◌, ◌≤◌, zero, suc, [], ◌∷◌, inl, inr, Bool, true, false, not, eqb, ◌||◌, List, length, get_or, map, replicate, sym, ◌∙◌, ap, subst, arith, count_by}
use Rattle.std.proofs.lemmas.List.{length-replicate, length-map}
use Rattle.std.proofs.lemmas.List.Sums.{count_by-le-length}
use Rattle.std.proofs.lemmas.Bool.{cases_eq, cases_lt, cond-true, cond-false, eq-eqb, ne_eqb, or_left, or_right, or_from}
use Rattle.pim_aig.specs.Graph.{AigView, IsAig}
use Rattle.pim_aig.specs.declared.literal.Lit.{Lit}
use Rattle.pim_aig.specs.Literals.{complement}
use Rattle.pim_nor.specs.Leaves.{leaves}
use Rattle.pim_nor.specs.Lowered.{roots, marks_of, network_at, network_of, nors}
use Rattle.pim_nor.specs.Named.{slots, source, literal_at, gate_of, gate_at, nor_of_leaves}
use Rattle.pim_nor.specs.Network.{pins, IsOfFirst, AreOfFirst, ReadsFirst, is_nor, IsRead, IsNetwork, AreInputsOrFirst}
use Rattle.pim_nor.specs.inner.Plans.{PlanView}
use Rattle.pim_nor.specs.Reached.{mark_all, numbered, numbered_gate, kept}
use Rattle.pim_nor.specs.declared.lowering.Width.{Width}
use Rattle.pim_nor.specs.declared.network.Gate.{Gate}
use Rattle.pim_nor.specs.declared.network.Gate.TheVariants.{One, Not}
use Rattle.pim_nor.specs.declared.network.Pin.{Pin}
use Rattle.pim_nor.specs.declared.network.Pin.TheVariants.{Input, Gate as Place}
use Rattle.pim_nor.proofs.Closure.{AreMarked, ReadBefore, length-mark_all, length-reached, mark_all-marks, reached-keeps_all, reached-closed}
use Rattle.pim_nor.proofs.LeafLists.{AllOf, IsBefore, IsAnd, AreLeaves}
use Rattle.pim_nor.proofs.LiteralValues.{pins-nor_of}
use Rattle.pim_nor.proofs.Numbering.{length-kept, get_or-kept, numbered_gate-AreOfFirst, numbered-IsOfFirst_all}
use Rattle.pim_nor.proofs.SlotLiterals.{literal_low, literal_mid, literal_high}

pub length-marks_of : (g : AigView) (lists : ℕ → List Lit) → length (marks_of g lists) ≡ slots g
length-marks_of g lists =
    length-reached (gate_at g lists) (slots g) (mark_all (replicate (slots g) false) (roots g)) ∙ (length-mark_all (replicate (slots g) false) (roots g) ∙ length-replicate (slots g) false)

pub source-IsOfFirst : (inputs ands : ℕ) (l : Lit) → l.0 < 2 * (1 + inputs + ands) → IsOfFirst inputs (2 + inputs + 2 * ands) (source inputs l)
source-IsOfFirst inputs ands l h = grind arith

complement-lt : (l : Lit) (n : ℕ) → l.0 < 2 * n → (complement l).0 < 2 * n
complement-lt l n h = grind arith

leaves-AreOfFirst : (inputs ands : ℕ) (ls : List Lit) → AllOf (IsBefore (1 + inputs + ands)) ls → AreOfFirst inputs (2 + inputs + 2 * ands) (map (λ leaf. source inputs (complement leaf)) ls)
leaves-AreOfFirst inputs ands [] h = tt
leaves-AreOfFirst inputs ands (l ∷ ls) h =
    (source-IsOfFirst inputs ands (complement l) (complement-lt l (1 + inputs + ands) h.0), leaves-AreOfFirst inputs ands ls h.1)

-- the NOR of leaves of nodes before one reads gates before that node's
nor-ReadsFirst : (inputs ands : ℕ) (ls : List Lit) → length ls ≤ 4 → AllOf (IsBefore (1 + inputs + ands)) ls → ReadsFirst inputs (2 + inputs + 2 * ands) (nor_of_leaves inputs ls)
nor-ReadsFirst inputs ands ls few before =
    let ps = map (λ leaf. source inputs (complement leaf)) ls in
    let P : List Pin → Type 0 = AreOfFirst inputs (2 + inputs + 2 * ands) in
    subst P (sym (pins-nor_of ps (omega (arith, length-map ls (λ leaf. source inputs (complement leaf)))))) (leaves-AreOfFirst inputs ands ls before)

-- the AND node of a slot
pub slot-IsAnd : (g : AigView) (s : ℕ) → s < slots g → 2 + g.inputs ≤ s → IsAnd g ((s + g.inputs) / 2)
slot-IsAnd g s h from = record { above = omega arith; there = omega arith }

and-before : (g : AigView) (lists : ℕ → List Lit) → AreLeaves g lists → (s : ℕ) → s < slots g → 2 + g.inputs ≤ s → (s + g.inputs) % 2 ≡ 0 → ReadsFirst g.inputs s (nor_of_leaves g.inputs (lists ((s + g.inputs) / 2)))
and-before g lists are s h from even =
    let n = (s + g.inputs) / 2 in
    let is = slot-IsAnd g s h from in
    let k = n - 1 - g.inputs in
    let number : n ≡ 1 + g.inputs + k = omega arith in
    let P : ℕ → Type 0 = λ m. ReadsFirst g.inputs m (nor_of_leaves g.inputs (lists n)) in
    let Q : ℕ → Type 0 = λ m. AllOf (IsBefore m) (lists n) in
    let e : 2 + g.inputs + 2 * k ≡ s = omega arith in
    subst P e (nor-ReadsFirst g.inputs k (lists n) (are.few n is) (subst Q number (are.before n is)))

-- the gate of a literal, in each of its three cases
pub gate_of_one : (g : AigView) (lists : ℕ → List Lit) (l : Lit) → l.0 ≡ 1 → gate_of g lists l ≡ One
gate_of_one g lists l e = cond-true (eqb l.0 1) One _ (eq-eqb l.0 1 e)

pub gate_of_not : (g : AigView) (lists : ℕ → List Lit) (l : Lit) → (l.0 ≡ 0) ⊎ ((l.0 ≢ 1) × (l.0 % 2 ≡ 1)) → gate_of g lists l ≡ Not (source g.inputs (complement l))
gate_of_not g lists l e =
    let other : l.0 ≢ 1 = λ one. elim e [ inl z ↦ absurd (omega arith) | inr odd ↦ absurd (odd.0 one) ] in
    let is : (eqb l.0 0 || eqb (l.0 % 2) 1) ≡ true = elim e [ inl z ↦ or_left (eqb l.0 0) (eqb (l.0 % 2) 1) (eq-eqb l.0 0 z) | inr odd ↦ or_right (eqb l.0 0) (eqb (l.0 % 2) 1) (eq-eqb (l.0 % 2) 1 odd.1) ] in
    cond-false (eqb l.0 1) One _ (ne_eqb l.0 1 other) ∙ cond-true (eqb l.0 0 || eqb (l.0 % 2) 1) (Not (source g.inputs (complement l))) (nor_of_leaves g.inputs (lists (l.0 / 2))) is

pub gate_of-and : (g : AigView) (lists : ℕ → List Lit) (l : Lit) → 2 ≤ l.0 → l.0 % 2 ≡ 0 → gate_of g lists l ≡ nor_of_leaves g.inputs (lists (l.0 / 2))
gate_of-and g lists l two even =
    let is : (eqb l.0 0 || eqb (l.0 % 2) 1) ≡ false = or_from (eqb l.0 0) (eqb (l.0 % 2) 1) (ne_eqb l.0 0 (omega arith)) (ne_eqb (l.0 % 2) 1 (omega arith)) in
    cond-false (eqb l.0 1) One _ (ne_eqb l.0 1 (omega arith)) ∙ cond-false (eqb l.0 0 || eqb (l.0 % 2) 1) (Not (source g.inputs (complement l))) (nor_of_leaves g.inputs (lists (l.0 / 2))) is

gate_of-one : (g : AigView) (lists : ℕ → List Lit) (l : Lit) (n : ℕ) → l.0 ≡ 1 → ReadsFirst g.inputs n (gate_of g lists l)
gate_of-one g lists l n e =
    let P : Gate → Type 0 = ReadsFirst g.inputs n in
    subst P (sym (gate_of_one g lists l e)) tt

gate_of-not : (g : AigView) (lists : ℕ → List Lit) (l : Lit) (n : ℕ) → (l.0 ≡ 0) ⊎ ((l.0 ≢ 1) × (l.0 % 2 ≡ 1)) → IsOfFirst g.inputs n (source g.inputs (complement l)) → ReadsFirst g.inputs n (gate_of g lists l)
gate_of-not g lists l n e h =
    let P : Gate → Type 0 = ReadsFirst g.inputs n in
    subst P (sym (gate_of_not g lists l e)) (h, tt)

source_low : (inputs s : ℕ) (l : Lit) → l.0 ≡ 0 → 0 < s → IsOfFirst inputs s (source inputs (complement l))
source_low inputs s l e h = grind arith

source_mid : (inputs s : ℕ) (l : Lit) → l.0 ≡ 2 * (2 + inputs - s) + 1 → 2 ≤ s → s < 2 + inputs → IsOfFirst inputs s (source inputs (complement l))
source_mid inputs s l e h k = grind arith

source_high : (inputs s : ℕ) (l : Lit) → l.0 ≡ s + inputs → 2 + inputs ≤ s → (s + inputs) % 2 ≡ 1 → IsOfFirst inputs s (source inputs (complement l))
source_high inputs s l e h odd = grind arith

before_low : (g : AigView) (lists : ℕ → List Lit) (s : ℕ) → s < 2 → ReadsFirst g.inputs s (gate_at g lists s)
before_low g lists s h =
    let l = literal_at g.inputs s in
    let e = literal_low g.inputs s h in
    elim (cases_eq s 0) [
      | inl z ↦ gate_of-one g lists l s (omega arith)
      | inr ne ↦ gate_of-not g lists l s (inl (omega arith)) (source_low g.inputs s l (omega arith) (omega arith))
    ]

before_mid : (g : AigView) (lists : ℕ → List Lit) (s : ℕ) → 2 ≤ s → s < 2 + g.inputs → ReadsFirst g.inputs s (gate_at g lists s)
before_mid g lists s h k =
    let l = literal_at g.inputs s in
    let e = literal_mid g.inputs s h k in
    gate_of-not g lists l s (inr (omega arith, omega arith)) (source_mid g.inputs s l e h k)

before_high : (g : AigView) (lists : ℕ → List Lit) → AreLeaves g lists → (s : ℕ) → s < slots g → 2 + g.inputs ≤ s → ReadsFirst g.inputs s (gate_at g lists s)
before_high g lists are s h from =
    let l = literal_at g.inputs s in
    let e : l.0 ≡ s + g.inputs = literal_high g.inputs s from in
    elim (cases_eq ((s + g.inputs) % 2) 0) [
      | inl even ↦
          let P : Gate → Type 0 = λ x. ReadsFirst g.inputs s x in
          let Q : ℕ → Type 0 = λ n. ReadsFirst g.inputs s (nor_of_leaves g.inputs (lists (n / 2))) in
          let lit_even : l.0 % 2 ≡ 0 = omega arith in
          subst P (sym (gate_of-and g lists l (omega arith) lit_even)) (subst Q (sym e) (and-before g lists are s h from even))
      | inr odd ↦ gate_of-not g lists l s (inr (omega arith, omega arith)) (source_high g.inputs s l e from (omega arith))
    ]

-- the gate of each slot reads inputs and gates of slots before it
pub gate_at-before : (g : AigView) (lists : ℕ → List Lit) → AreLeaves g lists → (s : ℕ) → s < slots g → ReadsFirst g.inputs s (gate_at g lists s)
gate_at-before g lists are s h =
    elim (cases_lt s 2) [
      | inl low ↦ before_low g lists s low
      | inr two ↦ elim (cases_lt s (2 + g.inputs)) [ inl mid ↦ before_mid g lists s two mid | inr high ↦ before_high g lists are s h high ]
    ]

pub AreInputsOrFirst-AreOfFirst : (inputs n : ℕ) (ps : List Pin) → AreOfFirst inputs n ps → AreInputsOrFirst n ps
AreInputsOrFirst-AreOfFirst inputs n [] h = tt
AreInputsOrFirst-AreOfFirst inputs n (Input j ∷ ps) h = (tt, AreInputsOrFirst-AreOfFirst inputs n ps h.1)
AreInputsOrFirst-AreOfFirst inputs n (Place s ∷ ps) h = (h.0, AreInputsOrFirst-AreOfFirst inputs n ps h.1)

pub ReadBefore-gate_at : (g : AigView) (lists : ℕ → List Lit) → AreLeaves g lists → ReadBefore (gate_at g lists) (slots g)
ReadBefore-gate_at g lists are s h = AreInputsOrFirst-AreOfFirst g.inputs s (pins (gate_at g lists s)) (gate_at-before g lists are s h)

-- the pins of all outputs are there
pub roots-there : (g : AigView) → (outs : List Lit) → ((k : ℕ) (d : Lit) → k < length outs → (get_or outs k d).0 < 2 * (1 + g.inputs + length g.ands)) → AreOfFirst g.inputs (slots g) (map (source g.inputs) outs)
roots-there g [] h = tt
roots-there g (l ∷ ls) h =
    (source-IsOfFirst g.inputs (length g.ands) l (h 0 l (omega arith)), roots-there g ls (λ k d below. h (suc k) d (omega arith)))

pub roots-marked : (g : AigView) (lists : ℕ → List Lit) → IsAig g → AreMarked (marks_of g lists) (roots g)
roots-marked g lists sound =
    let zeros = replicate (slots g) false in
    let P : ℕ → Type 0 = λ n. AreInputsOrFirst n (roots g) in
    let there = AreInputsOrFirst-AreOfFirst g.inputs (slots g) (roots g) (roots-there g g.outputs sound.outputs_there) in
    reached-keeps_all (gate_at g lists) (slots g) (mark_all zeros (roots g)) (roots g) (mark_all-marks zeros (roots g) (subst P (sym (length-replicate (slots g) false)) there))

outs-there : (marks : List Bool) (inputs : ℕ) (ps : List Pin) → AreOfFirst inputs (length marks) ps → AreMarked marks ps → (k : ℕ) (d : Pin) → k < length ps → IsOfFirst inputs (count_by (λ b. b) marks) (get_or (map (numbered marks) ps) k d)
outs-there marks inputs [] h m k d l = absurd (omega arith)
outs-there marks inputs (p ∷ ps) h m zero d l = numbered-IsOfFirst_all marks inputs p h.0 m.0
outs-there marks inputs (p ∷ ps) h m (suc k) d l = outs-there marks inputs ps h.1 m.1 k d (omega arith)

pub closed : (g : AigView) (lists : ℕ → List Lit) → AreLeaves g lists → (s : ℕ) → s < slots g → get_or (marks_of g lists) s false ≡ true → AreMarked (marks_of g lists) (pins (gate_at g lists s))
closed g lists are s h m =
    let zeros = replicate (slots g) false in
    let len : length (mark_all zeros (roots g)) ≡ slots g = length-mark_all zeros (roots g) ∙ length-replicate (slots g) false in
    reached-closed (gate_at g lists) (slots g) (mark_all zeros (roots g)) s (ReadBefore-gate_at g lists are) (omega arith) h m

gates-after : (g : AigView) (lists : ℕ → List Lit) → AreLeaves g lists → (k : ℕ) (d : Gate) → k < length (network_of g lists).gates → ReadsFirst g.inputs k (get_or (network_of g lists).gates k d)
gates-after g lists are k d l =
    let gate : ℕ → Gate = λ s. numbered_gate (marks_of g lists) (gate_at g lists s) in
    let r = get_or-kept gate 0 (marks_of g lists) k d l in
    let there : r.slot < slots g = omega (arith, r.there, length-marks_of g lists) in
    let P : ℕ → Type 0 = λ n. ReadsFirst g.inputs n (numbered_gate (marks_of g lists) (gate_at g lists r.slot)) in
    let Q : Gate → Type 0 = λ x. ReadsFirst g.inputs k x in
    let here = numbered_gate-AreOfFirst (marks_of g lists) g.inputs r.slot (gate_at g lists r.slot) (gate_at-before g lists are r.slot there) (closed g lists are r.slot there r.marked) in
    let from_zero : 0 + r.slot ≡ r.slot = omega arith in
    subst Q (sym (r.gate_is ∙ ap gate from_zero)) (subst P r.number_is here)

-- a network whose gates are read and have at most one constant one
pub network_of-IsNetwork : (g : AigView) (lists : ℕ → List Lit) → IsAig g → AreLeaves g lists → ((k : ℕ) → k < length (network_of g lists).gates → IsRead (network_of g lists) k) → count_by (λ gate. not (is_nor gate)) (network_of g lists).gates ≤ 1 → IsNetwork (network_of g lists)
network_of-IsNetwork g lists sound are read one_constant =
    let marks = marks_of g lists in
    let gate : ℕ → Gate = λ s. numbered_gate marks (gate_at g lists s) in
    let count : length (network_of g lists).gates ≡ count_by (λ b. b) marks = length-kept gate 0 marks in
    let len : length marks ≡ slots g = length-marks_of g lists in
    let outs_len : length (network_of g lists).outs ≡ length g.outputs = length-map (roots g) (numbered marks) ∙ length-map g.outputs (source g.inputs) in
    let P : ℕ → Type 0 = λ n. AreOfFirst g.inputs n (roots g) in
    let O : ℕ → ℕ → Pin → Type 0 = λ n k d. IsOfFirst g.inputs n (get_or (network_of g lists).outs k d) in
    record {
      inputs_fit = sound.inputs_fit;
      gates_fit = omega (arith, count_by-le-length (λ b. b) marks, sound.inputs_fit, sound.ands_fit);
      outs_fit = omega (arith, sound.outputs_fit);
      gates_after = gates-after g lists are;
      outs_there = λ k d l. let Q : ℕ → Type 0 = λ n. O n k d in subst Q (sym count) (outs-there marks g.inputs (roots g) (subst P (sym len) (roots-there g g.outputs sound.outputs_there)) (roots-marked g lists sound) k d (omega (arith, length-map (roots g) (numbered marks))));
      read = read;
      one_constant = one_constant;
    }

-- the network of lists that are equal to those of one
pub network-is : (g : AigView) (lists : ℕ → List Lit) (marks : List Bool) (inputs : ℕ) (gates : List Gate) (outs : List Pin) → marks ≡ marks_of g lists → inputs ≡ g.inputs → gates ≡ kept (λ s. numbered_gate marks (gate_at g lists s)) 0 marks → outs ≡ map (numbered marks) (roots g) → (record { inputs = inputs; gates = gates; outs = outs }) ≡ network_of g lists
network-is g lists marks inputs gates outs m i k o =
    ap (λ (n : ℕ). record { inputs = n; gates = gates; outs = outs }) i ∙ (ap (λ (x : List Gate). record { inputs = g.inputs; gates = x; outs = outs }) k ∙ (ap (λ (x : List Pin). record { inputs = g.inputs; gates = kept (λ s. numbered_gate marks (gate_at g lists s)) 0 marks; outs = x }) o ∙ ap (network_at g lists) m))

-- and of a plan's network
pub plan-network : (g : AigView) (width : Width) (p : PlanView) → p ≡ record { graph = g; width = width } → (marks : List Bool) (inputs : ℕ) (gates : List Gate) (outs : List Pin) → marks ≡ marks_of p.graph (leaves p.graph p.width) → inputs ≡ g.inputs → gates ≡ kept (λ s. numbered_gate marks (gate_at p.graph (leaves p.graph p.width) s)) 0 marks → outs ≡ map (numbered marks) (roots p.graph) → (record { inputs = inputs; gates = gates; outs = outs }) ≡ nors g width
plan-network g width p e marks inputs gates outs m i k o =
    network-is p.graph (leaves p.graph p.width) marks inputs gates outs m (i ∙ ap (λ (q : PlanView). q.graph.inputs) (sym e)) k o ∙ ap (λ (q : PlanView). nors q.graph q.width) e

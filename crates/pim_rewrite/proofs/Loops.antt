-- What one step of each loop changes.
use Rattle.std.proofs.Common.{◌≡◌, ℕ, suc, ◌+◌, ◌-◌, ◌*◌, ◌<◌, ◌≤◌, Bool, true, false, cond, eqb, ltb, ◌&&◌, ◌||◌, List, [], ◌∷◌, ◌++◌, length, get_or, map, take, drop, Option, Some, None, refl, sym, ◌∙◌, ap, arith, inl, inr}
use Rattle.std.specs.Prelude.{is_some}
use Rattle.std.proofs.lemmas.List.{drop_more, length-map, length-take-le, map-append, take_more}
use Rattle.pim_aig.specs.Literals.{node}
use Rattle.pim_aig.specs.declared.literal.Lit.{Lit}
use Rattle.pim_mig.specs.Graph.{IsApart, IsMig, MigView, size}
use Rattle.pim_mig.specs.Laws.{IsOperand, NodeLaws}
use Rattle.pim_mig.specs.Majs.{Making}
use Rattle.pim_mig.specs.Needs.{is_needed, needed_count, reads_from, times}
use Rattle.pim_mig.specs.declared.node.Maj.{Maj}
use Rattle.pim_rewrite.specs.Cases.{case_of, has_case, has_case_from, match_pair, node_at}
use Rattle.pim_rewrite.specs.Passes.{passed_from, Step, stepped}
use Rattle.pim_rewrite.specs.declared.cases.Case.{Case}
use Rattle.pim_rewrite.specs.declared.passes.Pass.{Pass}
use Rattle.pim_rewrite.specs.declared.passes.Pass.TheVariants.{Copy, Distribute, Flip}
use Rattle.pim_rewrite.specs.inner.Steps.{step_of}
use Rattle.pim_rewrite.specs.inner.Tables.{IsCaseBefore, most_made}
use Rattle.pim_rewrite.proofs.Counting.{counted, counted_is, counted_split, without_one}
use Rattle.pim_rewrite.proofs.Frame.{AtNode, bool_cases, from_split, Grows, none, one_if, ops, times_append}
use Rattle.pim_rewrite.proofs.Gone.{spread_grows}
use Rattle.pim_rewrite.proofs.NoMore.{flip_grows, plain_grows}
use Rattle.pim_rewrite.proofs.Spreading.{spread_values}
use Rattle.pim_rewrite.proofs.Values.{AreTwo, flip_values, KeepsValues, plain_values}
use Rattle.pim_rewrite.proofs.Views.{matches, operand_before, pair_case, shares, single, Single, single_needed, taken_operands, v_operand, View, view}
use Rattle.pim_rewrite.proofs.Views.View.{a_case, no_case}

-- ---- the counts
pub times_few : (i : ℕ) (xs : List ℕ) → times i xs ≤ length xs
times_few i [] = omega arith
times_few i (x ∷ xs) = elim (bool_cases (eqb x i)) [
  | inl t ↦ let e = ap one_if t in omega (arith, times_few i xs)
  | inr f ↦ let e = ap one_if f in omega (arith, times_few i xs)
]

pub outs_few : (outs : List Lit) (k i : ℕ) → k ≤ length outs → times i (map node (take k outs)) ≤ k
outs_few outs k i h = omega (arith, times_few i (map node (take k outs)), length-map (take k outs) node, length-take-le {A = Lit})

abbrev zero_lit : Lit
zero_lit = record { 0 = 0 }

pub count_step : (outs : List Lit) (old new : List ℕ) (n k q : ℕ) → length old ≡ n → k < length outs → q ≡ node (get_or outs k (record { 0 = 0 })) → ((i : ℕ) → i < n → get_or old i 0 ≡ times i (map node (take k outs))) → ((i : ℕ) → i < length old → get_or new i 0 ≡ times i (q ∷ []) + get_or old i 0) → (i : ℕ) → i < n → get_or new i 0 ≡ times i (map node (take (k + 1) outs))
count_step outs old new n k q len there is before now i h =
    let a = before i h in
    let b = now i (omega arith) in
    let e = ap (map node) (take_more outs k (record { 0 = 0 }) there) ∙ map-append node (take k outs) (get_or outs k (record { 0 = 0 }) ∷ []) in
    let f = ap (times i) e in
    let d = times_append i (map node (take k outs)) (node (get_or outs k (record { 0 = 0 })) ∷ []) in
    let g = ap (λ (x : ℕ). times i (x ∷ [])) is in
    omega arith

-- ---- the reads
reads_length : (outs : List ℕ) (n : ℕ) (rest : List Maj) → length (reads_from outs n rest) ≤ 3 * length rest
reads_length outs n [] = omega arith
reads_length outs n (m ∷ rest) = elim (bool_cases (ltb 0 (times n outs + times n (reads_from outs (suc n) rest)))) [
  | inl t ↦
      let e = ap (λ (b : Bool). length (cond b (node m.x ∷ node m.y ∷ node m.z ∷ reads_from outs (suc n) rest) (reads_from outs (suc n) rest))) t in
      omega (arith, reads_length outs (suc n) rest)
  | inr f ↦
      let e = ap (λ (b : Bool). length (cond b (node m.x ∷ node m.y ∷ node m.z ∷ reads_from outs (suc n) rest) (reads_from outs (suc n) rest))) f in
      omega (arith, reads_length outs (suc n) rest)
]

pub reads_few : (outs : List ℕ) (n i : ℕ) (rest : List Maj) → times i (reads_from outs n rest) ≤ 3 * length rest
reads_few outs n i rest = omega (arith, times_few i (reads_from outs n rest), reads_length outs n rest)

-- one node more, from the last one down
pub reads_step : (outs : List ℕ) (nodes : List Maj) (first done n : ℕ) (table old new : List ℕ) (needed : Bool) → length old ≡ n → n ≡ first + length nodes → done < length nodes → ((i : ℕ) → i < n → get_or table i 0 ≡ times i outs) → ((i : ℕ) → i < n → get_or old i 0 ≡ times i (reads_from outs (first + (length nodes - done)) (drop (length nodes - done) nodes))) → needed ≡ ltb 0 (get_or table (first + (length nodes - 1 - done)) 0 + get_or old (first + (length nodes - 1 - done)) 0) → ((i : ℕ) → i < length old → get_or new i 0 ≡ times i (cond needed (ops (get_or nodes (length nodes - 1 - done) none)) []) + get_or old i 0) → (i : ℕ) → i < n → get_or new i 0 ≡ times i (reads_from outs (first + (length nodes - (done + 1))) (drop (length nodes - (done + 1)) nodes))
reads_step outs nodes first done n table old new needed len all there outs_are old_are is now i h =
    let k = length nodes - 1 - done in
    let m = get_or nodes k none in
    let rest = drop (k + 1) nodes in
    let here = first + k in
    let at : length nodes - (done + 1) ≡ k = omega arith in
    let next : length nodes - done ≡ k + 1 = omega arith in
    let cut = drop_more nodes k none (omega arith) in
    let up : first + (k + 1) ≡ suc here = omega arith in
    let later : (j : ℕ) → times j (reads_from outs (first + (length nodes - done)) (drop (length nodes - done) nodes)) ≡ times j (reads_from outs (suc here) rest) = λ j.
    ap (λ (x : ℕ). times j (reads_from outs (first + x) (drop x nodes))) next ∙ ap (λ (x : ℕ). times j (reads_from outs x rest)) up in
    let in_range : here < n = omega arith in
    let test : needed ≡ ltb 0 (times here outs + times here (reads_from outs (suc here) rest)) =
    is ∙ ap (λ (x : ℕ). ltb 0 (x + get_or old here 0)) (outs_are here in_range) ∙ ap (λ (x : ℕ). ltb 0 (times here outs + x)) (old_are here in_range ∙ later here) in
    let split = from_split outs here m rest (ltb 0 (times here outs + times here (reads_from outs (suc here) rest))) refl i in
    now i (omega arith)
    ∙ ap (λ (b : Bool). times i (cond b (ops m) []) + get_or old i 0) test
    ∙ ap (λ (x : ℕ). times i (cond (ltb 0 (times here outs + times here (reads_from outs (suc here) rest))) (ops m) []) + x) (old_are i h ∙ later i)
    ∙ sym split
    ∙ ap (λ (xs : List Maj). times i (reads_from outs here xs)) (sym cut)
    ∙ ap (λ (x : ℕ). times i (reads_from outs (first + x) (drop x nodes))) (sym at)

-- ---- cases
pub case_step : (g : MigView) (n k : ℕ) (nodes : List Maj) (d : Maj) (b : Bool) → k < length nodes → b ≡ (is_needed g n && is_some (case_of g (get_or nodes k d))) → b ≡ false → has_case_from g n (drop k nodes) ≡ has_case g → has_case_from g (n + 1) (drop (k + 1) nodes) ≡ has_case g
case_step g n k nodes d b there is none_here whole =
    let cut = drop_more nodes k d there in
    ap (λ (x : ℕ). has_case_from g x (drop (k + 1) nodes)) (let z : n + 1 ≡ suc n = omega arith in z)
    ∙ sym (ap (λ (c : Bool). c || has_case_from g (suc n) (drop (k + 1) nodes)) (sym is ∙ none_here))
    ∙ sym (ap (has_case_from g n) cut) ∙ whole

-- the literals of a case are of earlier nodes
operand_first : (g : MigView) (e l : Lit) (n : ℕ) → IsMig g → Single g e → e.0 < 2 * size g → e.0 < 2 * n → IsOperand l (node_at g e) → l.0 < 2 * n
operand_first g e l n sound s there h o =
    let k = node e - (1 + g.inputs) in
    let in_nodes : k < length g.nodes = omega (arith, s.majority) in
    let x = sound.x_before k none in_nodes in
    let y = sound.y_before k none in_nodes in
    let z = sound.z_before k none in_nodes in
    elim o [
      | inl e ↦ let i = ap (λ (a : Lit). a.0) e in omega (arith, s.majority)
      | inr r ↦ elim r [
        | inl e ↦ let i = ap (λ (a : Lit). a.0) e in omega (arith, s.majority)
        | inr e ↦ let i = ap (λ (a : Lit). a.0) e in omega (arith, s.majority)
      ]
    ]

pub pair_before : (g : MigView) (e f w : Lit) (c : Case) (n : ℕ) → IsMig g → e.0 < 2 * size g → f.0 < 2 * size g → match_pair g e f w ≡ Some c → e.0 < 2 * n → f.0 < 2 * n → w.0 < 2 * n → IsCaseBefore n c
pair_before g e f w c n sound e_there f_there is eb fb wb =
    let p = pair_case g e f w c is in
    let a = node_at g e in
    let b = node_at g f in
    let one = single g e p.first in
    let two = single g f p.second in
    let ap_a : IsApart a = sound.apart (node e - (1 + g.inputs)) none (omega (arith, one.majority)) in
    let sh = shares a b w c ap_a (matches a b w c p.match) in
    let wi = ap (λ (l : Lit). l.0) sh.w_is in
    record {
      s = operand_first g e c.s n sound one e_there eb sh.s_first;
      t = operand_first g e c.t n sound one e_there eb sh.t_first;
      u = operand_first g e c.u n sound one e_there eb sh.u_first;
      v = operand_first g f c.v n sound two f_there fb (v_operand a b w c sh);
      w = omega arith;
    }

-- ---- a pass
pub step_grows : (laws : NodeLaws) (g : MigView) (p : Pass) → Grows (step_of p g)
step_grows laws g Copy = plain_grows laws g.inputs
step_grows laws g Flip = flip_grows laws g.inputs
step_grows laws g Distribute = spread_grows laws g

pub step_values : (g t : MigView) (bits : List Bool) (p : Pass) → AreTwo g t bits → KeepsValues (step_of p g) g t bits
step_values g t bits Copy two = plain_values g t bits two
step_values g t bits Flip two = flip_values g t bits two
step_values g t bits Distribute two = spread_values g t bits two

pub pass_step : (step : Step) (needed : ℕ → Bool) (nodes new : List Maj) (lits grown : List Lit) (m : Maj) (l : Lit) (n later at : ℕ) (before rest : List Maj) (whole : Making) → before ≡ m ∷ rest → at ≡ n → later ≡ suc n → l ≡ (stepped (needed at) step (record { nodes = nodes; lits = lits }) m).lit → new ≡ (stepped (needed at) step (record { nodes = nodes; lits = lits }) m).nodes → grown ≡ lits ++ l ∷ [] → passed_from step needed (record { nodes = nodes; lits = lits }) n before ≡ whole → passed_from step needed (record { nodes = new; lits = grown }) later rest ≡ whole
pass_step step needed nodes new lits grown m l n later at before rest whole cut same up is_l is_new is_grown so_far =
    let st : Making = record { nodes = nodes; lits = lits } in
    let turn = ap (λ (x : ℕ). stepped (needed x) step st m) same in
    let e : new ≡ (stepped (needed n) step st m).nodes = is_new ∙ ap (λ (x : ℕ). (stepped (needed x) step st m).nodes) same in
    let f : grown ≡ lits ++ (stepped (needed n) step st m).lit ∷ [] = is_grown ∙ ap (λ (k : Lit). lits ++ k ∷ []) (is_l ∙ ap (λ (x : ℕ). (stepped (needed x) step st m).lit) same) in
    ap (λ (x : ℕ). passed_from step needed (record { nodes = new; lits = grown }) x rest) up
    ∙ ap (λ (xs : List Maj). passed_from step needed (record { nodes = xs; lits = grown }) (suc n) rest) e
    ∙ ap (λ (xs : List Lit). passed_from step needed (record { nodes = (stepped (needed n) step st m).nodes; lits = xs }) (suc n) rest) f
    ∙ sym (ap (passed_from step needed st n) cut) ∙ so_far

-- a graph by its parts
pub graph_is : (g : MigView) (inputs : ℕ) (outputs : List Lit) → g.inputs ≡ inputs → g.outputs ≡ outputs → g ≡ record { inputs = inputs; nodes = g.nodes; outputs = outputs }
graph_is g inputs outputs e f =
    ap (λ (k : ℕ). let r : MigView = record { inputs = k; nodes = g.nodes; outputs = g.outputs } in r) e
    ∙ ap (λ (os : List Lit). let r : MigView = record { inputs = inputs; nodes = g.nodes; outputs = os } in r) f

-- ---- room
counted_more : (p : ℕ → Bool) (a k : ℕ) → counted p a (k + 1) ≡ counted p a k + one_if (p (a + k))
counted_more p a k = let e = counted_split p a k 1 in omega arith

pub room : (g : MigView) (k : ℕ) → k < length g.nodes → is_needed g (1 + g.inputs + k) ≡ true → counted (is_needed g) (1 + g.inputs) k + 1 ≤ needed_count g
room g k there needed =
    let p = is_needed g in
    let a = 1 + g.inputs in
    let all = counted_is p a (length g.nodes) in
    let cut = counted_split p a (k + 1) (length g.nodes - (k + 1)) in
    let e = ap (counted p a) (let z : k + 1 + (length g.nodes - (k + 1)) ≡ length g.nodes = omega arith in z) in
    let f = ap one_if needed in
    omega (arith, counted_more p a k)

counted_some : (p : ℕ → Bool) (a k t : ℕ) → a ≤ t → t < a + k → p t ≡ true → 0 < counted p a k
counted_some p a k t low high marked = omega (arith, without_one p t a k low high marked)

case_before : (g : MigView) (k : ℕ) (m : Maj) (c : Case) → IsMig g → AtNode g k m → case_of g m ≡ Some c → View g m → 0 < counted (is_needed g) (1 + g.inputs) k
case_before g k m c sound at is (no_case n p) = absurd (let e : Some c ≡ None = sym is ∙ n in let z : ⊥ = cc in z)
case_before g k m c sound at is (a_case e f w d ic) =
    let s = single g e ic.first in
    let o = taken_operands m e f w ic.taken in
    counted_some (is_needed g) (1 + g.inputs) k (node e) (omega (arith, s.majority)) (operand_before g k m e sound at o.0) (single_needed g e s)

few_by : (g : MigView) (k : ℕ) (m : Maj) (b : Bool) (o : Option Case) (old new : ℕ) → is_needed g (1 + g.inputs + k) ≡ b → case_of g m ≡ o → IsMig g → (b ≡ true → AtNode g k m) → old ≤ 2 * counted (is_needed g) (1 + g.inputs) k - 1 → new ≤ old + most_made b o → new ≤ 2 * counted (is_needed g) (1 + g.inputs) (k + 1) - 1
few_by g k m false o old new needed is sound at few more = omega (arith, counted_more (is_needed g) (1 + g.inputs) k)
few_by g k m true None old new needed is sound at few more = let f = ap one_if needed in omega (arith, counted_more (is_needed g) (1 + g.inputs) k)
few_by g k m true (Some c) old new needed is sound at few more =
    let f = ap one_if needed in
    omega (arith, counted_more (is_needed g) (1 + g.inputs) k, case_before g k m c sound (at refl) is (view g m))

pub few_step : (g : MigView) (k : ℕ) (m : Maj) (old new n : ℕ) → n ≡ 1 + g.inputs + k → IsMig g → k < length g.nodes → m ≡ get_or g.nodes k none → old ≤ 2 * counted (is_needed g) (1 + g.inputs) k - 1 → new ≤ old + most_made (is_needed g n) (case_of g m) → new ≤ 2 * counted (is_needed g) (1 + g.inputs) (k + 1) - 1
few_step g k m old new n at sound there is few more =
    let e = ap (λ (x : ℕ). most_made (is_needed g x) (case_of g m)) at in
    few_by g k m (is_needed g (1 + g.inputs + k)) (case_of g m) old new refl refl sound (λ h. record { there = there; is = is; needed = h }) few (omega arith)

-- What each pass keeps: the nodes that are made stay, each old node gets a literal, and what needed nodes read is needed.
use Rattle.std.proofs.Common.{◌≡◌, ◌⊎◌, ℕ, zero, suc, ◌+◌, ◌<◌, ◌≤◌, Bool, true, false, cond, eqb, ltb, List, [], ◌∷◌, ◌++◌, length, get_or, map, refl, sym, ◌∙◌, ap, arith, inl, inr, length-append}
use Rattle.std.proofs.lemmas.Bool.Decides.{nat_tests, eqb_tells}
use Rattle.std.proofs.lemmas.List.FromFn.{length-map-range_with_len}
use Rattle.std.proofs.lemmas.List.{get_or_append_left}
use Rattle.pim_aig.specs.Literals.{node, plain}
use Rattle.pim_aig.specs.declared.literal.Lit.{Lit}
use Rattle.pim_mig.specs.Graph.{IsMig, MigView}
use Rattle.pim_mig.specs.Laws.{IsFront}
use Rattle.pim_mig.specs.Majs.{begun, Making}
use Rattle.pim_mig.specs.Needs.{all_reads, is_needed, named, reads, reads_from, times}
use Rattle.pim_mig.specs.declared.node.Maj.{Maj}
use Rattle.pim_rewrite.specs.Passes.{after, passed_from, Step, stepped}

pub bool_cases : (b : Bool) → (b ≡ true) ⊎ (b ≡ false)
bool_cases true = inl refl
bool_cases false = inr refl

pub true_not_false : (b : Bool) → b ≡ true → b ≡ false → ⊥
true_not_false b e f = let g : true ≡ false = sym e ∙ f in let z : ⊥ = cc in z

-- one where it is true
abbrev pub one_if : Bool → ℕ
one_if b = cond b 1 0

pub positive : (n : ℕ) → ltb 0 n ≡ true → 0 < n
positive n h = grind (arith, nat_tests)

pub is_positive : (n : ℕ) → 0 < n → ltb 0 n ≡ true
is_positive n h = grind (arith, nat_tests)

abbrev pub none : Maj
none = record { x = record { 0 = 0 }; y = record { 0 = 0 }; z = record { 0 = 0 } }

-- ---- what is there stays
pub front_refl : (nodes : List Maj) → IsFront nodes nodes
front_refl nodes = record { few = omega arith; same = λ k d h. refl }

pub front_both : (a b c : List Maj) → IsFront a b → IsFront b c → IsFront a c
front_both a b c f g = record {
  few = omega (arith, f.few, g.few);
  same = λ k d h. g.same k d (omega (arith, f.few)) ∙ f.same k d h;
}

-- a step after which all nodes are there still
pub record Grows (step : Step) : Type 0 where
  pub front : (st : Making) (m : Maj) → IsFront st.nodes (step st m).nodes

stepped_front : (step : Step) (b : Bool) (st : Making) (m : Maj) → Grows step → IsFront st.nodes (stepped b step st m).nodes
stepped_front step true st m grows = grows.front st m
stepped_front step false st m grows = front_refl st.nodes

pub after_front : (step : Step) (b : Bool) (st : Making) (m : Maj) → Grows step → IsFront st.nodes (after step b st m).nodes
after_front step b st m grows = stepped_front step b st m grows

pub rest_front : (step : Step) (needed : ℕ → Bool) (st : Making) (n : ℕ) (rest : List Maj) → Grows step → IsFront st.nodes (passed_from step needed st n rest).nodes
rest_front step needed st n [] grows = front_refl st.nodes
rest_front step needed st n (m ∷ rest) grows =
    let next = after step (needed n) st m in
    front_both st.nodes next.nodes (passed_from step needed next (suc n) rest).nodes (after_front step (needed n) st m grows) (rest_front step needed next (suc n) rest grows)

-- ---- literals
pub lits_count : (step : Step) (needed : ℕ → Bool) (st : Making) (n : ℕ) (rest : List Maj) → length (passed_from step needed st n rest).lits ≡ length st.lits + length rest
lits_count step needed st n [] = omega arith
lits_count step needed st n (m ∷ rest) =
    let next = after step (needed n) st m in
    let more = lits_count step needed next (suc n) rest in
    omega (arith, length-append st.lits ((stepped (needed n) step st m).lit ∷ []))

pub begun_count : (inputs : ℕ) → length (begun inputs).lits ≡ 1 + inputs
begun_count inputs = length-map-range_with_len plain 0 (1 + inputs)

-- the first literals stay
pub lits_stay : (step : Step) (needed : ℕ → Bool) (st : Making) (n : ℕ) (rest : List Maj) (k : ℕ) (d : Lit) → k < length st.lits → get_or (passed_from step needed st n rest).lits k d ≡ get_or st.lits k d
lits_stay step needed st n [] k d h = refl
lits_stay step needed st n (m ∷ rest) k d h =
    let next = after step (needed n) st m in
    let l = (stepped (needed n) step st m).lit in
    lits_stay step needed next (suc n) rest k d (omega (arith, length-append st.lits (l ∷ []))) ∙ get_or_append_left st.lits (l ∷ []) d k h

-- ---- reads
-- the operands of each of these nodes, of which the first has number n, are of nodes before it
pub record AreBefore (n : ℕ) (nodes : List Maj) : Type 0 where
  pub x : (j : ℕ) (d : Maj) → j < length nodes → node (get_or nodes j d).x < n + j
  pub y : (j : ℕ) (d : Maj) → j < length nodes → node (get_or nodes j d).y < n + j
  pub z : (j : ℕ) (d : Maj) → j < length nodes → node (get_or nodes j d).z < n + j

pub before_rest : (n : ℕ) (m : Maj) (rest : List Maj) → AreBefore n (m ∷ rest) → AreBefore (suc n) rest
before_rest n m rest b = record {
  x = λ j d h. let e = b.x (suc j) d (omega arith) in omega arith;
  y = λ j d h. let e = b.y (suc j) d (omega arith) in omega arith;
  z = λ j d h. let e = b.z (suc j) d (omega arith) in omega arith;
}

pub mig_before : (g : MigView) → IsMig g → AreBefore (1 + g.inputs) g.nodes
mig_before g sound = record {
  x = λ j d h. let e = sound.x_before j d h in omega arith;
  y = λ j d h. let e = sound.y_before j d h in omega arith;
  z = λ j d h. let e = sound.z_before j d h in omega arith;
}

-- the nodes of the operands
abbrev pub ops : Maj → List ℕ
ops m = node m.x ∷ node m.y ∷ node m.z ∷ []

-- the reads of the needed nodes among these
abbrev pub reads_of : (ℕ → Bool) → ℕ → List Maj → List ℕ
reads_of needed n [] = []
reads_of needed n (m ∷ rest) = (cond (needed n) (ops m) []) ++ reads_of needed (suc n) rest

pub times_append : (i : ℕ) (xs ys : List ℕ) → times i (xs ++ ys) ≡ times i xs + times i ys
times_append i [] ys = omega arith
times_append i (x ∷ xs) ys = let e = times_append i xs ys in omega arith

times_other : (i j : ℕ) → j < i → one_if (eqb j i) ≡ 0
times_other i j h = elim (eqb_tells j i) [
  | inl e ↦ absurd (omega (arith, e.1))
  | inr o ↦ ap one_if o.0
]

pub times_self : (i : ℕ) (xs : List ℕ) → 0 < times i (i ∷ xs)
times_self i xs = elim (eqb_tells i i) [
  | inl e ↦ let v = ap (λ (b : Bool). cond b 1 0 + times i xs) e.0 in omega arith
  | inr o ↦ absurd (o.1 refl)
]

-- nodes read earlier ones alone
pub ops_before : (i : ℕ) (n : ℕ) (m : Maj) (rest : List Maj) → AreBefore n (m ∷ rest) → n ≤ i → times i (ops m) ≡ 0
ops_before i n m rest b h =
    let x = times_other i (node m.x) (let e = b.x 0 none (omega arith) in omega arith) in
    let y = times_other i (node m.y) (let e = b.y 0 none (omega arith) in omega arith) in
    let z = times_other i (node m.z) (let e = b.z 0 none (omega arith) in omega arith) in
    omega arith

split_by : (b : Bool) (m : Maj) (later : List ℕ) (i : ℕ) → times i (cond b (node m.x ∷ node m.y ∷ node m.z ∷ later) later) ≡ times i (cond b (ops m) []) + times i later
split_by true m later i = omega arith
split_by false m later i = omega arith

pub from_split : (outs : List ℕ) (n : ℕ) (m : Maj) (rest : List Maj) (b : Bool) → ltb 0 (times n outs + times n (reads_from outs (suc n) rest)) ≡ b → (i : ℕ) → times i (reads_from outs n (m ∷ rest)) ≡ times i (cond b (ops m) []) + times i (reads_from outs (suc n) rest)
from_split outs n m rest b e i =
    let later = reads_from outs (suc n) rest in
    ap (λ (c : Bool). times i (cond c (node m.x ∷ node m.y ∷ node m.z ∷ later) later)) e ∙ split_by b m later i

pub cond_times : (b : Bool) (m : Maj) (j : ℕ) → times j (cond b (ops m) []) ≤ times j (ops m)
cond_times true m j = omega arith
cond_times false m j = omega arith

pub by_both : (b : Bool) (o l r c : ℕ) → o ≡ 0 → c ≤ o → r ≡ c + l → r ≡ l
by_both b o l r c e f g = omega arith

-- the reads of needed nodes are those of the nodes that are needed by the whole graph
pub reads_same : (outs all : List ℕ) (n : ℕ) (nodes : List Maj) → AreBefore n nodes → ((i : ℕ) → n ≤ i → times i all ≡ times i (reads_from outs n nodes)) → (i : ℕ) → times i (reads_from outs n nodes) ≡ times i (reads_of (λ k. ltb 0 (times k outs + times k all)) n nodes)
reads_same outs all n [] before same i = refl
reads_same outs all n (m ∷ rest) before same i =
    let later = reads_from outs (suc n) rest in
    let b = ltb 0 (times n outs + times n later) in
    let later_same : (j : ℕ) → n ≤ j → times j (reads_from outs n (m ∷ rest)) ≡ times j later = λ j h. by_both b (times j (ops m)) (times j later) (times j (reads_from outs n (m ∷ rest))) (times j (cond b (ops m) [])) (ops_before j n m rest before h) (cond_times b m j) (from_split outs n m rest b refl j) in
    let here : ltb 0 (times n outs + times n all) ≡ b = ap (λ (k : ℕ). ltb 0 (times n outs + k)) (same n (omega arith) ∙ later_same n (omega arith)) in
    let more = reads_same outs all (suc n) rest (before_rest n m rest before) (λ j h. same j (omega arith) ∙ later_same j (omega arith)) i in
    let split = times_append i (cond (ltb 0 (times n outs + times n all)) (ops m) []) (reads_of (λ k. ltb 0 (times k outs + times k all)) (suc n) rest) in
    let turn = ap (λ (c : Bool). times i (cond c (ops m) [])) here in
    let whole = from_split outs n m rest b refl i in
    omega arith

pub mig_reads : (g : MigView) → IsMig g → (i : ℕ) → reads g i ≡ times i (reads_of (is_needed g) (1 + g.inputs) g.nodes)
mig_reads g sound i = reads_same (map node g.outputs) (all_reads g) (1 + g.inputs) g.nodes (mig_before g sound) (λ j h. refl) i

-- what a needed node reads is read
pub reads_part : (needed : ℕ → Bool) (n : ℕ) (nodes : List Maj) (j : ℕ) (d : Maj) (i : ℕ) → j < length nodes → needed (n + j) ≡ true → times i (ops (get_or nodes j d)) ≤ times i (reads_of needed n nodes)
reads_part needed n [] j d i h e = absurd (omega arith)
reads_part needed n (m ∷ rest) zero d i h e =
    let at : needed n ≡ true = ap needed (let z : n ≡ n + 0 = omega arith in z) ∙ e in
    let split = times_append i (cond (needed n) (ops m) []) (reads_of needed (suc n) rest) in
    let turn = ap (λ (b : Bool). times i (cond b (ops m) [])) at in
    omega arith
reads_part needed n (m ∷ rest) (suc j) d i h e =
    let at : needed (suc n + j) ≡ true = ap needed (let z : suc n + j ≡ n + suc j = omega arith in z) ∙ e in
    let split = times_append i (cond (needed n) (ops m) []) (reads_of needed (suc n) rest) in
    let more = reads_part needed (suc n) rest j d i (omega arith) at in
    omega arith

pub operand_times : (i : ℕ) (m : Maj) → (i ≡ node m.x) ⊎ ((i ≡ node m.y) ⊎ (i ≡ node m.z)) → 0 < times i (ops m)
operand_times i m h = elim h [
  | inl e ↦ let a = times_self i (node m.y ∷ node m.z ∷ []) in let b = ap (λ (k : ℕ). times i (k ∷ node m.y ∷ node m.z ∷ [])) e in omega arith
  | inr s ↦ elim s [
    | inl e ↦ let a = times_self i (node m.z ∷ []) in let b = ap (λ (k : ℕ). times i (k ∷ node m.z ∷ [])) e in omega arith
    | inr e ↦ let a = times_self i [] in let b = ap (λ (k : ℕ). times i (k ∷ [])) e in omega arith
  ]
]

-- a needed node of a graph
pub record AtNode (g : MigView) (k : ℕ) (m : Maj) : Type 0 where
  pub there : k < length g.nodes
  pub is : m ≡ get_or g.nodes k none
  pub needed : is_needed g (1 + g.inputs + k) ≡ true

pub node_reads : (g : MigView) (k : ℕ) (m : Maj) (i : ℕ) → IsMig g → AtNode g k m → times i (ops m) ≤ reads g i
node_reads g k m i sound at =
    let part = reads_part (is_needed g) (1 + g.inputs) g.nodes k none i at.there at.needed in
    let e = ap (λ (n : Maj). times i (ops n)) at.is in
    omega (arith, mig_reads g sound i)

pub operand_needed : (g : MigView) (k : ℕ) (m : Maj) (i : ℕ) → IsMig g → AtNode g k m → (i ≡ node m.x) ⊎ ((i ≡ node m.y) ⊎ (i ≡ node m.z)) → is_needed g i ≡ true
operand_needed g k m i sound at h =
    let a = operand_times i m h in
    let b = node_reads g k m i sound at in
    is_positive (named g i + reads g i) (omega arith)

pub output_times : (outs : List Lit) (k : ℕ) (d : Lit) → k < length outs → 0 < times (node (get_or outs k d)) (map node outs)
output_times [] k d h = absurd (omega arith)
output_times (o ∷ outs) zero d h = times_self (node o) (map node outs)
output_times (o ∷ outs) (suc k) d h = let e = output_times outs k d (omega arith) in omega arith

pub output_needed : (g : MigView) (k : ℕ) (d : Lit) → k < length g.outputs → is_needed g (node (get_or g.outputs k d)) ≡ true
output_needed g k d h =
    let a = output_times g.outputs k d h in
    is_positive (named g (node (get_or g.outputs k d)) + reads g (node (get_or g.outputs k d))) (omega arith)

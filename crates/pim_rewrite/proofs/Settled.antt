-- The copy is read as the graph is, and has a case where that has one.
use Rattle.std.proofs.Common.{◌≡◌, ◌≢◌, ◌⊎◌, ℕ, zero, suc, ◌+◌, ◌-◌, ◌/◌, ◌%◌, ◌<◌, ◌≤◌, Bool, true, false, cond, eqb, ltb, ◌&&◌, ◌||◌, List, [], ◌∷◌, ◌++◌, length, get_or, map, Option, Some, None, refl, sym, ◌∙◌, ap, subst, arith, inl, inr}
use Rattle.std.specs.Prelude.{is_some}
use Rattle.std.proofs.lemmas.Bool.Decides.{nat_tests, eqb_tells}
use Rattle.pim_aig.specs.Literals.{node}
use Rattle.pim_aig.specs.declared.literal.Lit.{Lit}
use Rattle.pim_mig.specs.Graph.{IsMig, MigView}
use Rattle.pim_mig.specs.Laws.{NodeLaws}
use Rattle.pim_mig.specs.Majs.{begun}
use Rattle.pim_aig.specs.Moving.{moved}
use Rattle.pim_mig.specs.Needs.{all_reads, is_needed, is_single, named, reads, reads_from, times}
use Rattle.pim_mig.specs.declared.node.Maj.{Maj}
use Rattle.pim_rewrite.specs.Cases.{case_of, first_of_two, has, has_case, has_case_from, is_spreadable, match_nodes, match_pair, node_at}
use Rattle.pim_rewrite.specs.Normal.{AreUpright, IsNormal}
use Rattle.pim_rewrite.specs.Passes.{copy, inversions, inverted, passed_from, plainly}
use Rattle.pim_rewrite.specs.declared.cases.Case.{Case}
use Rattle.pim_rewrite.proofs.Copied.{copied, IsCopied, packed, ranked_operands}
use Rattle.pim_rewrite.proofs.Counting.{counted}
use Rattle.pim_rewrite.proofs.Frame.{AreBefore, AtNode, before_rest, begun_count, by_both, cond_times, from_split, is_positive, lits_count, mig_before, none, one_if, ops, operand_needed, ops_before, output_needed, positive, true_not_false}
use Rattle.pim_rewrite.proofs.Ranks.{AreRanked, counted_more, IsRanked, moved_ren, node_ren, number_is, rank, rank_input, rank_is, rank_node, ren, ren_node, sign_ren}
use Rattle.pim_rewrite.proofs.Views.{neither, single}

eqb_yes : (m n : ℕ) → m ≡ n → eqb m n ≡ true
eqb_yes m n e = grind (arith, nat_tests)

eqb_no : (m n : ℕ) → m ≢ n → eqb m n ≡ false
eqb_no m n e = grind (arith, nat_tests)

-- ---- renumbered lists
times_map : (f : ℕ → ℕ) (i : ℕ) (xs : List ℕ) → times i xs ≤ times (f i) (map f xs)
times_map f i [] = omega arith
times_map f i (x ∷ xs) = elim (eqb_tells x i) [
  | inl e ↦
      let a = ap one_if e.0 in
      let b : eqb (f x) (f i) ≡ true = eqb_yes (f x) (f i) (ap f e.1) in
      let d = ap one_if b in
      omega (arith, times_map f i xs)
  | inr o ↦ let a = ap one_if o.0 in omega (arith, times_map f i xs)
]

times_is : (f : ℕ → ℕ) (i : ℕ) (xs : List ℕ) → ((x : ℕ) → 0 < times x xs → f x ≡ f i → x ≡ i) → times (f i) (map f xs) ≡ times i xs
times_is f i [] one = refl
times_is f i (x ∷ xs) one =
    let rest = times_is f i xs (λ y h e. one y (omega arith) e) in
    elim (eqb_tells x i) [
      | inl e ↦
          let a = ap one_if e.0 in
          let d = ap one_if (eqb_yes (f x) (f i) (ap f e.1)) in
          omega arith
      | inr o ↦
          let a = ap one_if o.0 in
          let self : 0 < times x (x ∷ xs) = let z = ap one_if (eqb_yes x x refl) in omega arith in
          let d = ap one_if (eqb_no (f x) (f i) (λ z. o.1 (one x self z))) in
          omega arith
    ]

packed_by : (b : Bool) (m : Maj) (later : List Maj) → cond b (m ∷ []) [] ++ later ≡ cond b (m ∷ later) later
packed_by true m later = refl
packed_by false m later = refl

-- ---- the reads of the copy
packed_some : (g : MigView) (n : ℕ) (m : Maj) (rest : List Maj) (b : Bool) → is_needed g n ≡ b → packed g n (m ∷ rest) ≡ cond b (ren_node g m ∷ packed g (suc n) rest) (packed g (suc n) rest)
packed_some g n m rest b e = ap (λ (c : Bool). cond c (ren_node g m ∷ []) [] ++ packed g (suc n) rest) e ∙ packed_by b (ren_node g m) (packed g (suc n) rest)

-- the rank of the next node
rank_next : (g : MigView) (k n : ℕ) (b : Bool) → n ≡ 1 + g.inputs + k → is_needed g n ≡ b → rank g (suc n) ≡ one_if b + rank g n
rank_next g k n b at is =
    let e = rank_node g k in
    let f = rank_node g (k + 1) in
    let x = ap (rank g) at in
    let y = ap (rank g) (let z : suc n ≡ 1 + g.inputs + (k + 1) = omega arith in z) in
    let more = counted_more (is_needed g) (1 + g.inputs) k in
    let here = ap one_if (ap (is_needed g) (sym at) ∙ is) in
    omega arith

from_needed : (outs : List ℕ) (n : ℕ) (m : Maj) (rest : List Maj) (b : Bool) → ltb 0 (times n outs + times n (reads_from outs (suc n) rest)) ≡ b → reads_from outs n (m ∷ rest) ≡ cond b (node m.x ∷ node m.y ∷ node m.z ∷ reads_from outs (suc n) rest) (reads_from outs (suc n) rest)
from_needed outs n m rest b e = ap (λ (c : Bool). cond c (node m.x ∷ node m.y ∷ node m.z ∷ reads_from outs (suc n) rest) (reads_from outs (suc n) rest)) e

-- the operands' nodes, renumbered
ren_three : (g : MigView) (m : Maj) (xs ys : List ℕ) → xs ≡ map (rank g) ys → (node (ren g m.x) ∷ node (ren g m.y) ∷ node (ren g m.z) ∷ xs) ≡ map (rank g) (node m.x ∷ node m.y ∷ node m.z ∷ ys)
ren_three g m xs ys e =
    ap (λ (i : ℕ). i ∷ node (ren g m.y) ∷ node (ren g m.z) ∷ xs) (node_ren g m.x)
    ∙ ap (λ (i : ℕ). rank g (node m.x) ∷ i ∷ node (ren g m.z) ∷ xs) (node_ren g m.y)
    ∙ ap (λ (i : ℕ). rank g (node m.x) ∷ rank g (node m.y) ∷ i ∷ xs) (node_ren g m.z)
    ∙ ap (λ (zs : List ℕ). rank g (node m.x) ∷ rank g (node m.y) ∷ rank g (node m.z) ∷ zs) e

packed_step : (g : MigView) (outs : List ℕ) (k n : ℕ) (m : Maj) (rest : List Maj) (b : Bool) → n ≡ 1 + g.inputs + k → is_needed g n ≡ b → ltb 0 (times n outs + times n (reads_from outs (suc n) rest)) ≡ b → reads_from (map (rank g) outs) (rank g (suc n)) (packed g (suc n) rest) ≡ map (rank g) (reads_from outs (suc n) rest) → reads_from (map (rank g) outs) (rank g n) (cond b (ren_node g m ∷ packed g (suc n) rest) (packed g (suc n) rest)) ≡ map (rank g) (cond b (node m.x ∷ node m.y ∷ node m.z ∷ reads_from outs (suc n) rest) (reads_from outs (suc n) rest))
packed_step g outs k n m rest true at is test more =
    let new_outs = map (rank g) outs in
    let later = packed g (suc n) rest in
    let here : suc (rank g n) ≡ rank g (suc n) = let e = rank_next g k n true at is in omega arith in
    let down : reads_from new_outs (suc (rank g n)) later ≡ map (rank g) (reads_from outs (suc n) rest) = ap (λ (j : ℕ). reads_from new_outs j later) here ∙ more in
    let pos = positive (times n outs + times n (reads_from outs (suc n) rest)) test in
    let p = times_map (rank g) n outs in
    let q = times_map (rank g) n (reads_from outs (suc n) rest) in
    let w = ap (times (rank g n)) down in
    let some_read : ltb 0 (times (rank g n) new_outs + times (rank g n) (reads_from new_outs (suc (rank g n)) later)) ≡ true =
    is_positive (times (rank g n) new_outs + times (rank g n) (reads_from new_outs (suc (rank g n)) later)) (omega arith) in
    from_needed new_outs (rank g n) (ren_node g m) later true some_read
    ∙ ren_three g m (reads_from new_outs (suc (rank g n)) later) (reads_from outs (suc n) rest) down
packed_step g outs k n m rest false at is test more =
    let e : rank g n ≡ rank g (suc n) = let z = rank_next g k n false at is in omega arith in
    ap (λ (j : ℕ). reads_from (map (rank g) outs) j (packed g (suc n) rest)) e ∙ more

reads_packed : (g : MigView) (outs : List ℕ) (k n : ℕ) (rest : List Maj) → n ≡ 1 + g.inputs + k → AreBefore n rest → ((j : ℕ) → is_needed g j ≡ ltb 0 (times j outs + times j (all_reads g))) → ((j : ℕ) → n ≤ j → times j (all_reads g) ≡ times j (reads_from outs n rest)) → reads_from (map (rank g) outs) (rank g n) (packed g n rest) ≡ map (rank g) (reads_from outs n rest)
reads_packed g outs k n [] at before needed same = refl
reads_packed g outs k n (m ∷ rest) at before needed same =
    let later = reads_from outs (suc n) rest in
    let b = ltb 0 (times n outs + times n later) in
    let later_same : (j : ℕ) → n ≤ j → times j (reads_from outs n (m ∷ rest)) ≡ times j later = λ j h. by_both b (times j (ops m)) (times j later) (times j (reads_from outs n (m ∷ rest))) (times j (cond b (ops m) [])) (ops_before j n m rest before h) (cond_times b m j) (from_split outs n m rest b refl j) in
    let here : is_needed g n ≡ b = needed n ∙ ap (λ (x : ℕ). ltb 0 (times n outs + x)) (same n (omega arith) ∙ later_same n (omega arith)) in
    let more = reads_packed g outs (k + 1) (suc n) rest (omega arith) (before_rest n m rest before) needed (λ j h. same j (omega arith) ∙ later_same j (omega arith)) in
    ap (reads_from (map (rank g) outs) (rank g n)) (packed_some g n m rest b here) ∙ packed_step g outs k n m rest b at here refl more

-- the outputs' nodes, renumbered
outs_ren : (g : MigView) (lits outs : List Lit) → ((k : ℕ) (d : Lit) → k < length outs → moved lits (get_or outs k d) ≡ ren g (get_or outs k d)) → map node (map (moved lits) outs) ≡ map (rank g) (map node outs)
outs_ren g lits [] is = refl
outs_ren g lits (o ∷ outs) is =
    ap (λ (l : Lit). node l ∷ map node (map (moved lits) outs)) (is 0 o (omega arith)) ∙ ap (λ (i : ℕ). i ∷ map node (map (moved lits) outs)) (node_ren g o)
    ∙ ap (λ (xs : List ℕ). rank g (node o) ∷ xs) (outs_ren g lits outs (λ k d h. is (suc k) d (omega arith)))

-- the copy has the outputs and the reads of the graph, renumbered
pub record IsRenumbered (g t : MigView) : Type 0 where
  pub inputs : t.inputs ≡ g.inputs
  pub copied : IsCopied g (length g.nodes) (record { nodes = t.nodes; lits = (passed_from (plainly g.inputs) (is_needed g) (begun g.inputs) (1 + g.inputs) g.nodes).lits })
  pub outs : map node t.outputs ≡ map (rank g) (map node g.outputs)
  pub reads : all_reads t ≡ map (rank g) (all_reads g)

pub renumbered : (laws : NodeLaws) (g : MigView) → IsMig g → IsRenumbered g (copy g)
renumbered laws g sound =
    let t = copy g in
    let st = passed_from (plainly g.inputs) (is_needed g) (begun g.inputs) (1 + g.inputs) g.nodes in
    let end = copied laws g sound in
    let count = lits_count (plainly g.inputs) (is_needed g) (begun g.inputs) (1 + g.inputs) g.nodes in
    let os = outs_ren g st.lits g.outputs (λ k d h. moved_ren g st.lits (get_or g.outputs k d) (end.copied.lits_are (node (get_or g.outputs k d)) (record { 0 = 0 }) (omega (arith, sound.outputs_there k d h, begun_count g.inputs)) (inr (output_needed g k d h)))) in
    let first : 1 + g.inputs ≡ rank g (1 + g.inputs) =
    sym (ap (rank g) (let z : 1 + g.inputs ≡ 1 + g.inputs + 0 = omega arith in z) ∙ rank_node g 0 ∙ (let z : 1 + g.inputs + 0 ≡ 1 + g.inputs = omega arith in z)) in
    record {
      inputs = refl;
      copied = end.copied;
      outs = os;
      reads =
          ap (λ (xs : List ℕ). reads_from xs (1 + g.inputs) st.nodes) os
          ∙ ap (λ (j : ℕ). reads_from (map (rank g) (map node g.outputs)) j st.nodes) first
          ∙ ap (reads_from (map (rank g) (map node g.outputs)) (rank g (1 + g.inputs))) end.nodes
          ∙ reads_packed g (map node g.outputs) 0 (1 + g.inputs) g.nodes (omega arith) (mig_before g sound) (λ j. refl) (λ j h. refl);
    }

-- ---- what is read
ranked_read : (g : MigView) (x : ℕ) → 0 < times x (all_reads g) → IsRanked g x
ranked_read g x h = inr (is_positive (named g x + reads g x) (omega arith))

ranked_named : (g : MigView) (x : ℕ) → 0 < times x (map node g.outputs) → IsRanked g x
ranked_named g x h = inr (is_positive (named g x + reads g x) (omega arith))

reads_ren : (g t : MigView) (i : ℕ) → IsRenumbered g t → IsRanked g i → reads t (rank g i) ≡ reads g i
reads_ren g t i r ranked = ap (times (rank g i)) r.reads ∙ times_is (rank g) i (all_reads g) (λ x h e. rank_is g x i (ranked_read g x h) ranked e)

named_ren : (g t : MigView) (i : ℕ) → IsRenumbered g t → IsRanked g i → named t (rank g i) ≡ named g i
named_ren g t i r ranked = ap (times (rank g i)) r.outs ∙ times_is (rank g) i (map node g.outputs) (λ x h e. rank_is g x i (ranked_named g x h) ranked e)

ltb_yes : (m n : ℕ) → m < n → ltb m n ≡ true
ltb_yes m n h = grind (arith, nat_tests)

ltb_not : (m n : ℕ) → n ≤ m → ltb m n ≡ false
ltb_not m n h = grind (arith, nat_tests)

two_ways : (m n : ℕ) → (m ≤ n) ⊎ (n < m)
two_ways zero n = inl (omega arith)
two_ways (suc m) zero = inr (omega arith)
two_ways (suc m) (suc n) = elim (two_ways m n) [
  | inl a ↦ inl (omega arith)
  | inr a ↦ inr (omega arith)
]

-- a majority stays one
above_ren : (g : MigView) (i : ℕ) → ltb g.inputs (rank g i) ≡ ltb g.inputs i
above_ren g i = elim (two_ways i g.inputs) [
  | inl a ↦ ap (ltb g.inputs) (rank_input g i a)
  | inr a ↦
      let k = i - (1 + g.inputs) in
      let e = rank_node g k in
      let f = ap (rank g) (let z : 1 + g.inputs + k ≡ i = omega arith in z) in
      ltb_yes g.inputs (rank g i) (omega arith) ∙ sym (ltb_yes g.inputs i a)
]

spreadable_ren : (g t : MigView) (l : Lit) → IsRenumbered g t → IsRanked g (node l) → is_spreadable t (ren g l) ≡ is_spreadable g l
spreadable_ren g t l r ranked =
    let i = node l in
    let s = (ren g l).0 % 2 in
    ap (λ (v : ℕ). eqb v 0 && is_single t (node (ren g l))) (sign_ren g l)
    ∙ ap (λ (v : ℕ). eqb (l.0 % 2) 0 && is_single t v) (node_ren g l)
    ∙ ap (λ (v : ℕ). eqb (l.0 % 2) 0 && (ltb v (rank g i) && (eqb (reads t (rank g i)) 1 && eqb (named t (rank g i)) 0))) r.inputs
    ∙ ap (λ (v : Bool). eqb (l.0 % 2) 0 && (v && (eqb (reads t (rank g i)) 1 && eqb (named t (rank g i)) 0))) (above_ren g i)
    ∙ ap (λ (v : ℕ). eqb (l.0 % 2) 0 && (ltb g.inputs i && (eqb v 1 && eqb (named t (rank g i)) 0))) (reads_ren g t i r ranked)
    ∙ ap (λ (v : ℕ). eqb (l.0 % 2) 0 && (ltb g.inputs i && (eqb (reads g i) 1 && eqb v 0))) (named_ren g t i r ranked)

-- ---- cases
eqb_ren : (g : MigView) (a b : Lit) → IsRanked g (node a) → IsRanked g (node b) → eqb (ren g a).0 (ren g b).0 ≡ eqb a.0 b.0
eqb_ren g a b ra rb = elim (eqb_tells a.0 b.0) [
  | inl e ↦ eqb_yes (ren g a).0 (ren g b).0 (ap (λ (n : ℕ). (ren g (record { 0 = n })).0) e.1) ∙ sym e.0
  | inr o ↦ eqb_no (ren g a).0 (ren g b).0 (λ z. o.1 (number_is g a.0 b.0 ra rb z)) ∙ sym o.0
]

has_ren : (g : MigView) (m : Maj) (l : Lit) → AreRanked g m → IsRanked g (node l) → has (ren_node g m) (ren g l) ≡ has m l
has_ren g m l rm rl =
    ap (λ (v : Bool). v || (eqb (ren g m.y).0 (ren g l).0 || eqb (ren g m.z).0 (ren g l).0)) (eqb_ren g m.x l rm.x rl)
    ∙ ap (λ (v : Bool). eqb m.x.0 l.0 || (v || eqb (ren g m.z).0 (ren g l).0)) (eqb_ren g m.y l rm.y rl)
    ∙ ap (λ (v : Bool). eqb m.x.0 l.0 || (eqb m.y.0 l.0 || v)) (eqb_ren g m.z l rm.z rl)

-- whether two of three
abbrev two_of : Bool → Bool → Bool → Bool
two_of x y z = (x && y) || ((x && z) || (y && z))

some_match : (x y z : Bool) (a b c : Case) → is_some (cond (x && y) (Some a) (cond (x && z) (Some b) (cond (y && z) (Some c) None))) ≡ two_of x y z
some_match true true z a b c = refl
some_match true false true a b c = refl
some_match true false false a b c = refl
some_match false true true a b c = refl
some_match false true false a b c = refl
some_match false false true a b c = refl
some_match false false false a b c = refl

matched : (a b : Maj) (w : Lit) → is_some (match_nodes a b w) ≡ two_of (has b a.x) (has b a.y) (has b a.z)
matched a b w = some_match (has b a.x) (has b a.y) (has b a.z) _ _ _

match_ren : (g : MigView) (a b : Maj) (v w : Lit) → AreRanked g a → AreRanked g b → is_some (match_nodes (ren_node g a) (ren_node g b) v) ≡ is_some (match_nodes a b w)
match_ren g a b v w ra rb =
    let hx = has (ren_node g b) (ren g a.x) in
    let hy = has (ren_node g b) (ren g a.y) in
    let hz = has (ren_node g b) (ren g a.z) in
    matched (ren_node g a) (ren_node g b) v
    ∙ ap (λ (p : Bool). two_of p hy hz) (has_ren g b a.x rb ra.x)
    ∙ ap (λ (p : Bool). two_of (has b a.x) p hz) (has_ren g b a.y rb ra.y)
    ∙ ap (λ (p : Bool). two_of (has b a.x) (has b a.y) p) (has_ren g b a.z rb ra.z)
    ∙ sym (matched a b w)

node_at_ren : (g t : MigView) (e : Lit) → IsRenumbered g t → g.inputs < node e → node e < 1 + g.inputs + length g.nodes → is_needed g (node e) ≡ true → node_at t (ren g e) ≡ ren_node g (node_at g e)
node_at_ren g t e r low high needed =
    let k = node e - (1 + g.inputs) in
    let at : 1 + g.inputs + k ≡ node e = omega arith in
    let place : node (ren g e) - (1 + t.inputs) ≡ counted (is_needed g) (1 + g.inputs) k =
    (let a = node_ren g e in let b = ap (rank g) (sym at) in let c = rank_node g k in let d = r.inputs in omega arith) in
    ap (λ (j : ℕ). get_or t.nodes j none) place ∙ r.copied.nodes_are k none (omega arith) (ap (is_needed g) at ∙ needed)

some_both : (c : Bool) (o p : Option Case) → (c ≡ true → is_some o ≡ is_some p) → is_some (cond c o None) ≡ is_some (cond c p None)
some_both true o p h = h refl
some_both false o p h = refl

some_by : (b c : Bool) (o p : Option Case) → b ≡ c → (c ≡ true → is_some o ≡ is_some p) → is_some (cond b o None) ≡ is_some (cond c p None)
some_by b c o p e h = ap (λ (v : Bool). is_some (cond v o None)) e ∙ some_both c o p h

both_yes : (a b : Bool) → (a && b) ≡ true → (a ≡ true) × (b ≡ true)
both_yes true b h = (refl, h)
both_yes false b h = absurd (let z : ⊥ = cc in z)

ranked_single : (g : MigView) (k : ℕ) (e : Lit) → IsMig g → is_needed g (node e) ≡ true → g.inputs < node e → node e < 1 + g.inputs + length g.nodes → AreRanked g (node_at g e)
ranked_single g k e sound needed low high =
    let j = node e - (1 + g.inputs) in
    let at : 1 + g.inputs + j ≡ node e = omega arith in
    ranked_operands g j (node_at g e) sound (record { there = omega arith; is = refl; needed = ap (is_needed g) at ∙ needed })

pair_ren : (g t : MigView) (e f v w : Lit) → IsMig g → IsRenumbered g t → is_needed g (node e) ≡ true → is_needed g (node f) ≡ true → node e < 1 + g.inputs + length g.nodes → node f < 1 + g.inputs + length g.nodes → is_some (match_pair t (ren g e) (ren g f) v) ≡ is_some (match_pair g e f w)
pair_ren g t e f v w sound r ne nf he hf =
    some_by (is_spreadable t (ren g e) && is_spreadable t (ren g f)) (is_spreadable g e && is_spreadable g f) _ _
    (ap (λ (p : Bool). p && is_spreadable t (ren g f)) (spreadable_ren g t e r (inr ne)) ∙ ap (λ (p : Bool). is_spreadable g e && p) (spreadable_ren g t f r (inr nf)))
    (λ h.
    let p = both_yes (is_spreadable g e) (is_spreadable g f) h in
    let se = single g e p.0 in
    let sf = single g f p.1 in
    ap (λ (n : Maj). is_some (match_nodes n (node_at t (ren g f)) v)) (node_at_ren g t e r se.majority he ne)
    ∙ ap (λ (n : Maj). is_some (match_nodes (ren_node g (node_at g e)) n v)) (node_at_ren g t f r sf.majority hf nf)
    ∙ match_ren g (node_at g e) (node_at g f) v w (ranked_single g 0 e sound ne se.majority he) (ranked_single g 0 f sound nf sf.majority hf))

some_first : (a b c : Option Case) → is_some (first_of_two a (first_of_two b c)) ≡ (is_some a || (is_some b || is_some c))
some_first (Some a) b c = refl
some_first None (Some b) c = refl
some_first None None c = refl

needed_operands : (g : MigView) (k : ℕ) (m : Maj) → IsMig g → AtNode g k m → (is_needed g (node m.x) ≡ true) × (is_needed g (node m.y) ≡ true) × (is_needed g (node m.z) ≡ true)
needed_operands g k m sound at =
    (operand_needed g k m (node m.x) sound at (inl refl), operand_needed g k m (node m.y) sound at (inr (inl refl)), operand_needed g k m (node m.z) sound at (inr (inr refl)))

case_ren : (g t : MigView) (k : ℕ) (m : Maj) → IsMig g → IsRenumbered g t → AtNode g k m → is_some (case_of t (ren_node g m)) ≡ is_some (case_of g m)
case_ren g t k m sound r at =
    let ra = needed_operands g k m sound at in
    let ex = ap (λ (n : Maj). n.x.0) at.is in
    let ey = ap (λ (n : Maj). n.y.0) at.is in
    let ez = ap (λ (n : Maj). n.z.0) at.is in
    let hx : node m.x < 1 + g.inputs + length g.nodes = omega (arith, sound.x_before k none at.there, at.there) in
    let hy : node m.y < 1 + g.inputs + length g.nodes = omega (arith, sound.y_before k none at.there, at.there) in
    let hz : node m.z < 1 + g.inputs + length g.nodes = omega (arith, sound.z_before k none at.there, at.there) in
    let n = ren_node g m in
    some_first (match_pair t n.x n.y n.z) (match_pair t n.x n.z n.y) (match_pair t n.y n.z n.x)
    ∙ ap (λ (p : Bool). p || (is_some (match_pair t n.x n.z n.y) || is_some (match_pair t n.y n.z n.x))) (pair_ren g t m.x m.y n.z m.z sound r ra.0 ra.1 hx hy)
    ∙ ap (λ (p : Bool). is_some (match_pair g m.x m.y m.z) || (p || is_some (match_pair t n.y n.z n.x))) (pair_ren g t m.x m.z n.y m.y sound r ra.0 ra.2 hx hz)
    ∙ ap (λ (p : Bool). is_some (match_pair g m.x m.y m.z) || (is_some (match_pair g m.x m.z m.y) || p)) (pair_ren g t m.y m.z n.x m.x sound r ra.1 ra.2 hy hz)
    ∙ sym (some_first (match_pair g m.x m.y m.z) (match_pair g m.x m.z m.y) (match_pair g m.y m.z m.x))

-- no needed node has a case
no_case_at : (g : MigView) (k n : ℕ) (rest : List Maj) (j : ℕ) (d : Maj) → n ≡ 1 + g.inputs + k → has_case_from g n rest ≡ false → j < length rest → is_needed g (n + j) ≡ true → is_some (case_of g (get_or rest j d)) ≡ false
no_case_at g k n [] j d at none_here h needed = absurd (omega arith)
no_case_at g k n (m ∷ rest) zero d at none_here h needed =
    let p = neither (is_needed g n && is_some (case_of g m)) (has_case_from g (suc n) rest) none_here in
    let here : is_needed g n ≡ true = ap (is_needed g) (let z : n ≡ n + 0 = omega arith in z) ∙ needed in
    sym (ap (λ (v : Bool). v && is_some (case_of g m)) here) ∙ p.0
no_case_at g k n (m ∷ rest) (suc j) d at none_here h needed =
    let p = neither (is_needed g n && is_some (case_of g m)) (has_case_from g (suc n) rest) none_here in
    no_case_at g (k + 1) (suc n) rest j d (omega arith) p.1 (omega arith) (ap (is_needed g) (let z : suc n + j ≡ n + suc j = omega arith in z) ∙ needed)

is_none : (o : Option Case) → is_some o ≡ false → o ≡ None
is_none None h = refl
is_none (Some c) h = absurd (true_not_false true refl h)

rank_positive : (g : MigView) (i : ℕ) → 0 < i → 0 < rank g i
rank_positive g i h = elim (two_ways i g.inputs) [
  | inl a ↦ let e = rank_input g i a in omega arith
  | inr a ↦
      let k = i - (1 + g.inputs) in
      let e = rank_node g k in
      let f = ap (rank g) (let z : 1 + g.inputs + k ≡ i = omega arith in z) in
      omega arith
]

-- as many operands are complemented
ltb_ren : (g : MigView) (l : Lit) → l.0 % 2 ≡ 1 → ltb 1 (ren g l).0 ≡ ltb 1 l.0
ltb_ren g l odd = elim (two_ways l.0 1) [
  | inl a ↦
      let e : l.0 / 2 ≡ 0 = omega arith in
      let f = ap (rank g) e in
      let h = rank_input g 0 (omega arith) in
      ltb_not 1 (ren g l).0 (omega arith) ∙ sym (ltb_not 1 l.0 a)
  | inr a ↦
      let pos : 0 < rank g (l.0 / 2) = rank_positive g (l.0 / 2) (omega arith) in
      ltb_yes 1 (ren g l).0 (omega arith) ∙ sym (ltb_yes 1 l.0 a)
]

and_no : (a b c : Bool) → b ≡ false → (a && b) ≡ (c && b)
and_no true b true e = refl
and_no true b false e = e
and_no false b true e = sym e
and_no false b false e = refl

inverted_ren : (g : MigView) (l : Lit) → inverted (ren g l) ≡ inverted l
inverted_ren g l =
    ap (λ (s : ℕ). one_if (ltb 1 (ren g l).0 && eqb s 1)) (sign_ren g l)
    ∙ elim (eqb_tells (l.0 % 2) 1) [
      | inl odd ↦ ap (λ (b : Bool). one_if (b && eqb (l.0 % 2) 1)) (ltb_ren g l odd.1)
      | inr even ↦ ap one_if (and_no (ltb 1 (ren g l).0) (eqb (l.0 % 2) 1) (ltb 1 l.0) even.0)
    ]

inversions_ren : (g : MigView) (m : Maj) → inversions (ren_node g m) ≡ inversions m
inversions_ren g m = let x = inverted_ren g m.x in let y = inverted_ren g m.y in let z = inverted_ren g m.z in omega arith

-- ---- the normal form
normal_copy : (laws : NodeLaws) (g : MigView) → IsMig g → IsMig (copy g) → AreUpright g.nodes → has_case g ≡ false → IsNormal (copy g)
normal_copy laws g sound new upright settled =
    let t = copy g in
    let r = renumbered laws g sound in
    record {
      apart = new.apart;
      once = new.once;
      upright = λ q d h.
          let w = r.copied.onto q h in
          let e = ap (λ (x : ℕ). get_or t.nodes x d) (sym w.3) ∙ r.copied.nodes_are w.0 d w.1 w.2 in
          let f = ap inversions e ∙ inversions_ren g (get_or g.nodes w.0 none) in
          omega (arith, upright w.0 none w.1);
      settled = λ q d h needed.
          let w = r.copied.onto q h in
          let m = get_or g.nodes w.0 none in
          let e = ap (λ (x : ℕ). get_or t.nodes x d) (sym w.3) ∙ r.copied.nodes_are w.0 d w.1 w.2 in
          let at : AtNode g w.0 m = record { there = w.1; is = refl; needed = w.2 } in
          ap (case_of t) e ∙ is_none (case_of t (ren_node g m)) (case_ren g t w.0 m sound r at ∙ no_case_at g 0 (1 + g.inputs) g.nodes w.0 none (omega arith) settled w.1 w.2);
    }

pub copy_normal : (laws : NodeLaws) (g t : MigView) → IsMig g → IsMig t → t ≡ copy g → AreUpright g.nodes → has_case g ≡ false → IsNormal t
copy_normal laws g t sound new is upright settled = subst IsNormal (sym is) (normal_copy laws g sound (subst IsMig is new) upright settled)

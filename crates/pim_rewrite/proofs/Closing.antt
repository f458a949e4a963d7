-- A pass leaves no more needed nodes than it makes for needed nodes.
use Rattle.std.proofs.Common.{◌≡◌, ◌⊎◌, ℕ, zero, suc, ◌+◌, ◌-◌, ◌/◌, ◌%◌, ◌<◌, ◌≤◌, Bool, true, false, cond, eqb, ltb, List, [], ◌∷◌, ◌++◌, length, get_or, map, refl, sym, ◌∙◌, ap, subst, arith, inl, inr, length-append}
use Rattle.std.proofs.lemmas.Bool.Decides.{eqb_tells}
use Rattle.std.proofs.lemmas.List.FromFn.{get_or-map-range_with_len, length-map-range_with_len}
use Rattle.std.proofs.lemmas.List.{get_or_append_left}
use Rattle.std.proofs.Math.Seq.{get_or-append_seam}
use Rattle.pim_aig.specs.Literals.{complement, node, plain}
use Rattle.pim_aig.specs.declared.literal.Lit.{Lit}
use Rattle.pim_mig.specs.Graph.{IsMig, MigView}
use Rattle.pim_mig.specs.Laws.{Answer, IsFront, IsOperand, NodeLaws}
use Rattle.pim_mig.specs.Laws.Answer.{by_new, by_node, by_rule}
use Rattle.pim_mig.specs.Majs.{begun, Making}
use Rattle.pim_aig.specs.Moving.{moved}
use Rattle.pim_mig.specs.Needs.{is_needed, named, needed_count, reads, reads_from, times}
use Rattle.pim_mig.specs.Nodes.{made, same_operands}
use Rattle.pim_mig.specs.declared.node.Maj.{Maj}
use Rattle.pim_rewrite.specs.Passes.{after, passed_from, Step, stepped}
use Rattle.pim_rewrite.proofs.Counting.{counted_is, in_list}
use Rattle.pim_rewrite.proofs.Frame.{AtNode, bool_cases, lits_count, none, one_if, operand_times, ops, output_needed, positive, begun_count}
use Rattle.pim_rewrite.proofs.Values.{AreRest, at_rest, rest_all, rest_next}

abbrev zero_lit : Lit
zero_lit = record { 0 = 0 }

-- the node is the constant, an input, or in the list
abbrev pub IsLive : ℕ → List ℕ → ℕ → Type 0
IsLive inputs live i = (i ≤ inputs) ⊎ (0 < times i live)

-- the nodes in the list are there, and what they read is live
pub record IsClosed (inputs : ℕ) (nodes : List Maj) (live : List ℕ) : Type 0 where
  pub there : (q : ℕ) → 0 < times q live → q < 1 + inputs + length nodes
  pub closed : (k : ℕ) (d : Maj) (i : ℕ) → k < length nodes → 0 < times (1 + inputs + k) live → 0 < times i (ops (get_or nodes k d)) → IsLive inputs live i

pub live_more : (inputs : ℕ) (live : List ℕ) (q i : ℕ) → IsLive inputs live i → IsLive inputs (q ∷ live) i
live_more inputs live q i h = elim h [
  | inl e ↦ inl e
  | inr e ↦ inr (omega arith)
]

pub closed_front : (inputs : ℕ) (nodes new : List Maj) (live : List ℕ) → IsClosed inputs nodes live → IsFront nodes new → IsClosed inputs new live
closed_front inputs nodes new live c front = record {
  there = λ q h. let e = c.there q h in omega (arith, front.few);
  closed = λ k d i there h o.
      let e = c.there (1 + inputs + k) h in
      let l : k < length nodes = omega arith in
      let s = ap (λ (m : Maj). times i (ops m)) (front.same k d l) in
      c.closed k d i l h (omega arith);
}

times_tail : (q i : ℕ) (live : List ℕ) → eqb q i ≡ false → 0 < times i (q ∷ live) → 0 < times i live
times_tail q i live e h = let z = ap one_if e in omega arith

-- one node more in the list
pub closed_add : (inputs : ℕ) (nodes new : List Maj) (live : List ℕ) (q : ℕ) → IsClosed inputs nodes live → IsFront nodes new → q < 1 + inputs + length new → ((k : ℕ) (d : Maj) (i : ℕ) → k < length new → q ≡ 1 + inputs + k → 0 < times i (ops (get_or new k d)) → IsLive inputs live i) → IsClosed inputs new (q ∷ live)
closed_add inputs nodes new live q c front in_new here =
    let old = closed_front inputs nodes new live c front in
    record {
      there = λ i h. elim (eqb_tells q i) [
        | inl e ↦ omega (arith, e.1)
        | inr o ↦ old.there i (times_tail q i live o.0 h)
      ];
      closed = λ k d i there h o. live_more inputs live q i (elim (eqb_tells q (1 + inputs + k)) [
        | inl e ↦ here k d i there e.1 o
        | inr f ↦ old.closed k d i there (times_tail q (1 + inputs + k) live f.0 h) o
      ]);
    }

number_of : (l : Lit) (m : Maj) → IsOperand l m → (node l ≡ node m.x) ⊎ ((node l ≡ node m.y) ⊎ (node l ≡ node m.z))
number_of l m h = elim h [
  | inl e ↦ inl (ap node e)
  | inr r ↦ elim r [
    | inl e ↦ inr (inl (ap node e))
    | inr e ↦ inr (inr (ap node e))
  ]
]

pub operand_node : (l : Lit) (m : Maj) → IsOperand l m → 0 < times (node l) (ops m)
operand_node l m h = operand_times (node l) m (number_of l m h)

-- an operand of the node
pub node_operand : (i : ℕ) (m : Maj) → 0 < times i (ops m) → (l : Lit) × (IsOperand l m) × (node l ≡ i)
node_operand i m h = elim (eqb_tells (node m.x) i) [
  | inl e ↦ (m.x, inl refl, e.1)
  | inr a ↦ elim (eqb_tells (node m.y) i) [
    | inl e ↦ (m.y, inr (inl refl), e.1)
    | inr b ↦ elim (eqb_tells (node m.z) i) [
      | inl e ↦ (m.z, inr (inr refl), e.1)
      | inr d ↦
          let p = ap one_if a.0 in
          let q = ap one_if b.0 in
          let r = ap one_if d.0 in
          absurd (let z : ⊥ = omega arith in z)
    ]
  ]
]

same_ops : (laws : NodeLaws) (a b : Maj) (i : ℕ) → same_operands a b ≡ true → 0 < times i (ops a) → 0 < times i (ops b)
same_ops laws a b i same h =
    let o = node_operand i a h in
    let e = operand_node o.0 b (laws.operands a b o.0 same o.1) in
    let f = ap (λ (j : ℕ). times j (ops b)) o.2 in
    omega arith

node_plain : (n : ℕ) → node (plain n) ≡ n
node_plain n = omega arith

answer_closed : (laws : NodeLaws) (inputs : ℕ) (nodes : List Maj) (m : Maj) (new : List Maj) (l : Lit) (live : List ℕ) → IsClosed inputs nodes live → IsFront nodes new → ((i : ℕ) → 0 < times i (ops m) → IsLive inputs live i) → Answer inputs nodes m new l → IsClosed inputs new (node l ∷ live)
answer_closed laws inputs nodes m new l live c front asked (by_rule f e) =
    let old = closed_front inputs nodes new live c front in
    let is_live = asked (node l) (operand_node l m (laws.rules m l f)) in
    closed_add inputs nodes new live (node l) c front
    (elim is_live [
      | inl a ↦ omega arith
      | inr a ↦ old.there (node l) a
    ])
    (λ k d i there at o. elim is_live [
      | inl a ↦ absurd (omega arith)
      | inr a ↦ old.closed k d i there (let z = ap (λ (j : ℕ). times j live) at in omega arith) o
    ])
answer_closed laws inputs nodes m new l live c front asked (by_node f p h e s w) =
    let at : node l ≡ 1 + inputs + p = ap node w ∙ node_plain (1 + inputs + p) in
    closed_add inputs nodes new live (node l) c front (omega (arith, front.few))
    (λ k d i there is o.
    let k_is : k ≡ p = omega arith in
    let n_is : get_or new k d ≡ get_or nodes p d = ap (λ (j : ℕ). get_or new j d) k_is ∙ front.same p d h in
    let in_p = ap (λ (n : Maj). times i (ops n)) n_is in
    asked i (same_ops laws (get_or nodes p d) m i (s d) (omega arith)))
answer_closed laws inputs nodes m new l live c front asked (by_new f n e w) =
    let at : node l ≡ 1 + inputs + length nodes = ap node w ∙ node_plain (1 + inputs + length nodes) in
    let count = ap (λ (xs : List Maj). length xs) e in
    let more = length-append nodes (m ∷ []) in
    closed_add inputs nodes new live (node l) c front (omega arith)
    (λ k d i there is o.
    let k_is : k ≡ length nodes = omega arith in
    let n_is : get_or new k d ≡ m = ap (λ (xs : List Maj). get_or xs k d) e ∙ ap (λ (j : ℕ). get_or (nodes ++ m ∷ []) j d) k_is ∙ get_or-append_seam nodes m [] d in
    let in_m = ap (λ (x : Maj). times i (ops x)) n_is in
    asked i (omega arith))

pub made_closed : (laws : NodeLaws) (inputs : ℕ) (nodes : List Maj) (m : Maj) (live : List ℕ) → IsClosed inputs nodes live → ((i : ℕ) → 0 < times i (ops m) → IsLive inputs live i) → IsClosed inputs (made inputs nodes m).nodes (node (made inputs nodes m).lit ∷ live)
made_closed laws inputs nodes m live c asked =
    answer_closed laws inputs nodes m (made inputs nodes m).nodes (made inputs nodes m).lit live c (laws.fronts inputs nodes m) asked (laws.answers inputs nodes m)

-- ---- a whole pass
-- the literals of needed nodes that are not gone are live
pub record IsCovered (g : MigView) (gone : ℕ → Bool) (lits : List Lit) (live : List ℕ) : Type 0 where
  pub each : (i : ℕ) (d : Lit) → i < length lits → is_needed g i ≡ true → gone i ≡ false → IsLive g.inputs live (node (get_or lits i d))

-- the node of a moved literal
pub node_complement : (l : Lit) → node (complement l) ≡ node l
node_complement l = elim (eqb_tells (l.0 % 2) 0) [
  | inl even ↦ let is : (complement l).0 ≡ l.0 + 1 = ap (λ (b : Bool). (cond b (l.0 + 1) (l.0 - 1))) even.0 in omega (arith, even.1)
  | inr odd ↦ let is : (complement l).0 ≡ l.0 - 1 = ap (λ (b : Bool). (cond b (l.0 + 1) (l.0 - 1))) odd.0 in omega (arith, odd.1)
]

pub node_moved : (lits : List Lit) (l : Lit) → node (moved lits l) ≡ node (get_or lits (node l) (record { 0 = 0 }))
node_moved lits l = elim (bool_cases (eqb (l.0 % 2) 1)) [
  | inl odd ↦ ap (λ (b : Bool). node (cond b (complement (get_or lits (l.0 / 2) (record { 0 = 0 }))) (get_or lits (l.0 / 2) (record { 0 = 0 })))) odd ∙ node_complement (get_or lits (l.0 / 2) (record { 0 = 0 }))
  | inr even ↦ ap (λ (b : Bool). node (cond b (complement (get_or lits (l.0 / 2) (record { 0 = 0 }))) (get_or lits (l.0 / 2) (record { 0 = 0 })))) even
]

-- the live nodes after one more: those that the step adds, and its literal's, unless the old node is gone
abbrev pub live_by : Bool → Bool → Step → (Making → Maj → List ℕ) → Making → List ℕ → Maj → List ℕ
live_by false gone step extra st live m = live
live_by true true step extra st live m = extra st m ++ live
live_by true false step extra st live m = node (step st m).lit ∷ extra st m ++ live

abbrev pub lives_from : Step → (ℕ → Bool) → (ℕ → Bool) → (Making → Maj → List ℕ) → Making → List ℕ → ℕ → List Maj → List ℕ
lives_from step needed gone extra st live n [] = live
lives_from step needed gone extra st live n (m ∷ rest) =
    lives_from step needed gone extra (after step (needed n) st m) (live_by (needed n) (gone n) step extra st live m) (suc n) rest

-- a step after which what is live stays so
pub record Closes (step : Step) (g : MigView) (gone : ℕ → Bool) (extra : Making → Maj → List ℕ) : Type 0 where
  pub added : (st : Making) (live : List ℕ) (k : ℕ) (m : Maj) → AtNode g k m → length st.lits ≡ 1 + g.inputs + k → IsClosed g.inputs st.nodes live → IsCovered g gone st.lits live → gone (1 + g.inputs + k) ≡ true → IsClosed g.inputs (step st m).nodes (extra st m ++ live)
  pub lived : (st : Making) (live : List ℕ) (k : ℕ) (m : Maj) → AtNode g k m → length st.lits ≡ 1 + g.inputs + k → IsClosed g.inputs st.nodes live → IsCovered g gone st.lits live → gone (1 + g.inputs + k) ≡ false → IsClosed g.inputs (step st m).nodes (node (step st m).lit ∷ extra st m ++ live)

live_append : (inputs : ℕ) (xs live : List ℕ) (i : ℕ) → IsLive inputs live i → IsLive inputs (xs ++ live) i
live_append inputs [] live i h = h
live_append inputs (x ∷ xs) live i h = live_more inputs (xs ++ live) x i (live_append inputs xs live i h)

live_grows : (needed gone : Bool) (step : Step) (extra : Making → Maj → List ℕ) (st : Making) (live : List ℕ) (m : Maj) (inputs i : ℕ) → IsLive inputs live i → IsLive inputs (live_by needed gone step extra st live m) i
live_grows false gone step extra st live m inputs i h = h
live_grows true true step extra st live m inputs i h = live_append inputs (extra st m) live i h
live_grows true false step extra st live m inputs i h = live_more inputs (extra st m ++ live) (node (step st m).lit) i (live_append inputs (extra st m) live i h)

pub live_self : (inputs q : ℕ) (live : List ℕ) → IsLive inputs (q ∷ live) q
live_self inputs q live = inr (elim (eqb_tells q q) [
  | inl e ↦ let z = ap one_if e.0 in omega arith
  | inr o ↦ absurd (o.1 refl)
])

-- one node more, by cases
after_closed : (step : Step) (g : MigView) (gone : ℕ → Bool) (extra : Making → Maj → List ℕ) (st : Making) (live : List ℕ) (k : ℕ) (m : Maj) (b c : Bool) → is_needed g (1 + g.inputs + k) ≡ b → gone (1 + g.inputs + k) ≡ c → Closes step g gone extra → (b ≡ true → AtNode g k m) → length st.lits ≡ 1 + g.inputs + k → IsClosed g.inputs st.nodes live → IsCovered g gone st.lits live → IsClosed g.inputs (after step b st m).nodes (live_by b c step extra st live m)
after_closed step g gone extra st live k m false c needed is_gone closes at len cl cov = cl
after_closed step g gone extra st live k m true true needed is_gone closes at len cl cov = closes.added st live k m (at refl) len cl cov is_gone
after_closed step g gone extra st live k m true false needed is_gone closes at len cl cov = closes.lived st live k m (at refl) len cl cov is_gone

here_live : (step : Step) (extra : Making → Maj → List ℕ) (st : Making) (live : List ℕ) (m : Maj) (b c : Bool) (inputs : ℕ) → b ≡ true → c ≡ false → IsLive inputs (live_by b c step extra st live m) (node (stepped b step st m).lit)
here_live step extra st live m true false inputs e f = live_self inputs (node (step st m).lit) (extra st m ++ live)
here_live step extra st live m false c inputs e f = absurd (let z : ⊥ = cc in z)
here_live step extra st live m true true inputs e f = absurd (let z : ⊥ = cc in z)

after_covered : (step : Step) (g : MigView) (gone : ℕ → Bool) (extra : Making → Maj → List ℕ) (st : Making) (live : List ℕ) (m : Maj) (n : ℕ) → length st.lits ≡ n → IsCovered g gone st.lits live → IsCovered g gone (after step (is_needed g n) st m).lits (live_by (is_needed g n) (gone n) step extra st live m)
after_covered step g gone extra st live m n len cov =
    let l = (stepped (is_needed g n) step st m).lit in
    let now = live_by (is_needed g n) (gone n) step extra st live m in
    record {
      each = λ i d h needed not_gone. elim (eqb_tells i (length st.lits)) [
        | inl e ↦
            let at : i ≡ n = e.1 ∙ len in
            let is : get_or (st.lits ++ l ∷ []) i d ≡ l = ap (λ (j : ℕ). get_or (st.lits ++ l ∷ []) j d) e.1 ∙ get_or-append_seam st.lits l [] d in
            let P : Lit → Type 0 = λ x. IsLive g.inputs now (node x) in
            subst P (sym is) (here_live step extra st live m (is_needed g n) (gone n) g.inputs (ap (is_needed g) (sym at) ∙ needed) (ap gone (sym at) ∙ not_gone))
        | inr o ↦
            let b : i < length st.lits = omega (arith, o.1, length-append st.lits (l ∷ [])) in
            let P : Lit → Type 0 = λ x. IsLive g.inputs now (node x) in
            subst P (sym (get_or_append_left st.lits (l ∷ []) d i b)) (live_grows (is_needed g n) (gone n) step extra st live m g.inputs (node (get_or st.lits i d)) (cov.each i d b needed not_gone))
      ];
    }

-- what a pass ends with
pub record Ended (g : MigView) (gone : ℕ → Bool) (st : Making) (live : List ℕ) : Type 0 where
  pub closed : IsClosed g.inputs st.nodes live
  pub covered : IsCovered g gone st.lits live

pub rest_closed : (step : Step) (g : MigView) (gone : ℕ → Bool) (extra : Making → Maj → List ℕ) (st : Making) (live : List ℕ) (k n : ℕ) (rest : List Maj) → Closes step g gone extra → AreRest g k rest → n ≡ 1 + g.inputs + k → length st.lits ≡ n → IsClosed g.inputs st.nodes live → IsCovered g gone st.lits live → Ended g gone (passed_from step (is_needed g) st n rest) (lives_from step (is_needed g) gone extra st live n rest)
rest_closed step g gone extra st live k n [] closes are at len cl cov = record { closed = cl; covered = cov }
rest_closed step g gone extra st live k n (m ∷ rest) closes are at len cl cov =
    let next = after step (is_needed g n) st m in
    let now = live_by (is_needed g n) (gone n) step extra st live m in
    let l = (stepped (is_needed g n) step st m).lit in
    rest_closed step g gone extra next now (k + 1) (suc n) rest closes (rest_next g k m rest are) (omega arith) (omega (arith, length-append st.lits (l ∷ [])))
    (after_closed step g gone extra st live k m (is_needed g n) (gone n) (ap (is_needed g) (sym at)) (ap gone (sym at)) closes (λ h. at_rest g k m rest are (ap (is_needed g) (sym at) ∙ h)) (len ∙ at) cl cov)
    (after_covered step g gone extra st live m n len cov)

two_ways : (n : ℕ) → (0 < n) ⊎ (n ≡ 0)
two_ways zero = inr refl
two_ways (suc n) = inl (omega arith)

above : (inputs n : ℕ) (live : List ℕ) → inputs < n → IsLive inputs live n → 0 < times n live
above inputs n live low h = elim h [
  | inl e ↦ absurd (omega arith)
  | inr e ↦ e
]

-- ---- the new graph
-- what needed nodes read is live, where outputs and what live nodes read are
reads_live : (inputs : ℕ) (outs live : List ℕ) (n : ℕ) (rest : List Maj) → inputs < n → ((i : ℕ) → 0 < times i outs → IsLive inputs live i) → ((j : ℕ) (d : Maj) (i : ℕ) → j < length rest → 0 < times (n + j) live → 0 < times i (ops (get_or rest j d)) → IsLive inputs live i) → (i : ℕ) → 0 < times i (reads_from outs n rest) → IsLive inputs live i
reads_live inputs outs live n [] low named closed i h = absurd (omega arith)
reads_live inputs outs live n (m ∷ rest) low named closed i h =
    let later = reads_from outs (suc n) rest in
    let rest_live = reads_live inputs outs live (suc n) rest (omega arith) named (λ j d q there l o. closed (suc j) d q (omega arith) (let e = ap (λ (x : ℕ). times x live) (let z : suc n + j ≡ n + suc j = omega arith in z) in omega arith) o) in
    elim (bool_cases (ltb 0 (times n outs + times n later))) [
      | inr f ↦ rest_live i (let e = ap (λ (b : Bool). times i (cond b (node m.x ∷ node m.y ∷ node m.z ∷ later) later)) f in omega arith)
      | inl t ↦
          let pos = positive (times n outs + times n later) t in
          let all = ap (λ (b : Bool). times i (cond b (node m.x ∷ node m.y ∷ node m.z ∷ later) later)) t in
          let n_live : 0 < times n live = elim (two_ways (times n outs)) [
            | inl o ↦ above inputs n live low (named n o)
            | inr o ↦ above inputs n live low (rest_live n (omega arith))
          ] in
          elim (two_ways (times i (ops m))) [
            | inl o ↦ closed 0 none i (omega arith) (let e = ap (λ (x : ℕ). times x live) (let z : n ≡ n + 0 = omega arith in z) in omega arith) o
            | inr o ↦ rest_live i (omega arith)
          ]
    ]

-- no more nodes of a graph are needed than are live
pub needed_live : (t : MigView) (live : List ℕ) → IsClosed t.inputs t.nodes live → ((i : ℕ) → 0 < times i (map node t.outputs) → IsLive t.inputs live i) → needed_count t ≤ length live
needed_live t live c outs =
    let count = counted_is (is_needed t) (1 + t.inputs) (length t.nodes) in
    let few = in_list (is_needed t) (1 + t.inputs) (length t.nodes) live (λ i low needed.
    let pos = positive (named t i + reads t i) needed in
    above t.inputs i live (omega arith) (elim (two_ways (named t i)) [
      | inl o ↦ outs i o
      | inr o ↦ reads_live t.inputs (map node t.outputs) live (1 + t.inputs) t.nodes (omega arith) outs c.closed i (omega arith)
    ])) in
    omega arith

-- the outputs' nodes are live
outs_live : (g : MigView) (gone : ℕ → Bool) (lits : List Lit) (live : List ℕ) (outs : List Lit) → IsCovered g gone lits live → ((k : ℕ) (d : Lit) → k < length outs → node (get_or outs k d) < length lits) → ((k : ℕ) (d : Lit) → k < length outs → is_needed g (node (get_or outs k d)) ≡ true) → ((k : ℕ) (d : Lit) → k < length outs → gone (node (get_or outs k d)) ≡ false) → (i : ℕ) → 0 < times i (map node (map (moved lits) outs)) → IsLive g.inputs live i
outs_live g gone lits live [] cov there needed stays i h = absurd (omega arith)
outs_live g gone lits live (o ∷ outs) cov there needed stays i h = elim (eqb_tells (node (moved lits o)) i) [
  | inl e ↦ subst (IsLive g.inputs live) (sym (node_moved lits o) ∙ e.1) (cov.each (node o) (record { 0 = 0 }) (there 0 o (omega arith)) (needed 0 o (omega arith)) (stays 0 o (omega arith)))
  | inr f ↦
      outs_live g gone lits live outs cov (λ k d l. there (suc k) d (omega arith)) (λ k d l. needed (suc k) d (omega arith)) (λ k d l. stays (suc k) d (omega arith)) i
      (times_tail (node (moved lits o)) i (map node (map (moved lits) outs)) f.0 h)
]

begun_covered : (g : MigView) (gone : ℕ → Bool) → IsCovered g gone (begun g.inputs).lits []
begun_covered g gone = record {
  each = λ i d h needed stays.
      let l : i < 1 + g.inputs = omega (arith, length-map-range_with_len plain 0 (1 + g.inputs)) in
      let e = ap node (get_or-map-range_with_len plain 0 (1 + g.inputs) i i d l (omega arith)) ∙ node_plain i in
      inl (omega arith);
}

begun_closed : (inputs : ℕ) → IsClosed inputs [] []
begun_closed inputs = record { there = λ q h. absurd (omega arith); closed = λ k d i there h o. absurd (omega arith) }

-- the live nodes of a whole pass
abbrev pub lives : Step → MigView → (ℕ → Bool) → (Making → Maj → List ℕ) → List ℕ
lives step g gone extra = lives_from step (is_needed g) gone extra (begun g.inputs) [] (1 + g.inputs) g.nodes

pub passed_live : (step : Step) (g t : MigView) (gone : ℕ → Bool) (extra : Making → Maj → List ℕ) → IsMig g → Closes step g gone extra → ((k : ℕ) (d : Lit) → k < length g.outputs → gone (node (get_or g.outputs k d)) ≡ false) → t ≡ record { inputs = g.inputs; nodes = (passed_from step (is_needed g) (begun g.inputs) (1 + g.inputs) g.nodes).nodes; outputs = map (moved (passed_from step (is_needed g) (begun g.inputs) (1 + g.inputs) g.nodes).lits) g.outputs } → needed_count t ≤ length (lives step g gone extra)
passed_live step g t gone extra sound closes stays is =
    let st = passed_from step (is_needed g) (begun g.inputs) (1 + g.inputs) g.nodes in
    let live = lives step g gone extra in
    let end = rest_closed step g gone extra (begun g.inputs) [] 0 (1 + g.inputs) g.nodes closes (rest_all g) (omega arith) (begun_count g.inputs) (begun_closed g.inputs) (begun_covered g gone) in
    let count = lits_count step (is_needed g) (begun g.inputs) (1 + g.inputs) g.nodes in
    let new : MigView = record { inputs = g.inputs; nodes = st.nodes; outputs = map (moved st.lits) g.outputs } in
    let e = ap needed_count is in
    let few = needed_live new live end.closed (outs_live g gone st.lits live g.outputs end.covered (λ k d h. omega (arith, sound.outputs_there k d h, begun_count g.inputs)) (output_needed g) stays) in
    omega arith

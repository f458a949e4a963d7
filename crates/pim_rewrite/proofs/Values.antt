-- Each pass keeps the values of needed nodes.
use Rattle.std.proofs.Common.{◌≡◌, ℕ, zero, suc, ◌+◌, ◌/◌, ◌%◌, ◌<◌, ◌≤◌, Bool, true, false, cond, ltb, not, List, [], ◌∷◌, ◌++◌, length, get_or, map, refl, sym, ◌∙◌, ap, subst, arith, inl, inr, length-append}
use Rattle.std.proofs.lemmas.Bool.Decides.{eqb_tells}
use Rattle.std.proofs.lemmas.List.FromFn.{get_or-map-range_with_len, length-map-range_with_len}
use Rattle.std.proofs.lemmas.List.{get_or_append_left}
use Rattle.std.proofs.Math.Seq.{get_or-append_seam}
use Rattle.pim_aig.specs.Literals.{complement, node, plain}
use Rattle.pim_aig.specs.declared.literal.Lit.{Lit}
use Rattle.pim_mig.specs.Graph.{IsMig, MigView}
use Rattle.pim_mig.specs.Laws.{IsFront, MajorityLaws, NodeLaws}
use Rattle.pim_mig.specs.Majs.{begun, Making}
use Rattle.pim_aig.specs.Moving.{moved}
use Rattle.pim_mig.specs.Needs.{is_needed}
use Rattle.pim_mig.specs.Nodes.{made}
use Rattle.pim_mig.specs.Values.{majority, mval, node_values}
use Rattle.pim_mig.specs.declared.node.Maj.{Maj}
use Rattle.pim_rewrite.specs.Passes.{after, flipped, flipped_by, inversions, moved_node, opposite, passed_from, plainly, Step, stepped}
use Rattle.pim_rewrite.proofs.Frame.{AtNode, begun_count, front_both, front_refl, Grows, lits_count, none, operand_needed, output_needed, rest_front}

-- an old graph and a new one of as many inputs, by whose laws values are told
pub record AreTwo (g t : MigView) (bits : List Bool) : Type 0 where
  pub sound : IsMig g
  pub laws : NodeLaws
  pub old : MajorityLaws g
  pub new : MajorityLaws t
  pub same : t.inputs ≡ g.inputs
  pub count : length bits ≡ g.inputs

-- the literals of needed nodes have the values of these
pub record AreValued (g t : MigView) (bits : List Bool) (lits : List Lit) : Type 0 where
  pub each : (i : ℕ) (d : Lit) → i < length lits → is_needed g i ≡ true → mval t bits (get_or lits i d) ≡ mval g bits (plain i)

pub moved_value : (g t : MigView) (bits : List Bool) (lits : List Lit) (l : Lit) → AreTwo g t bits → AreValued g t bits lits → l.0 / 2 < length lits → is_needed g (node l) ≡ true → mval t bits (moved lits l) ≡ mval g bits l
moved_value g t bits lits l two v h needed =
    let e = get_or lits (l.0 / 2) (record { 0 = 0 }) in
    let entry : mval t bits e ≡ get_or (node_values g bits) (l.0 / 2) false = v.each (l.0 / 2) (record { 0 = 0 }) h needed ∙ two.old.plains (node_values g bits) (l.0 / 2) in
    elim (eqb_tells (l.0 % 2) 1) [
      | inl odd ↦
          ap (λ (b : Bool). mval t bits (cond b (complement e) e)) odd.0
          ∙ two.new.complements (node_values t bits) e
          ∙ ap not entry
          ∙ sym (ap (λ (b : Bool). cond b (not (get_or (node_values g bits) (l.0 / 2) false)) (get_or (node_values g bits) (l.0 / 2) false)) odd.0)
      | inr even ↦
          ap (λ (b : Bool). mval t bits (cond b (complement e) e)) even.0
          ∙ entry
          ∙ sym (ap (λ (b : Bool). cond b (not (get_or (node_values g bits) (l.0 / 2) false)) (get_or (node_values g bits) (l.0 / 2) false)) even.0)
    ]

-- a majority that is made has the value of its operands, in a graph that begins with the nodes then
pub value_in : (g t : MigView) (bits : List Bool) (nodes : List Maj) (m : Maj) → AreTwo g t bits → IsFront (made g.inputs nodes m).nodes t.nodes → mval t bits (made g.inputs nodes m).lit ≡ majority (mval t bits m.x) (mval t bits m.y) (mval t bits m.z)
value_in g t bits nodes m two front =
    let Q : ℕ → Type 0 = λ i. IsFront (made i nodes m).nodes t.nodes in
    ap (λ (i : ℕ). mval t bits (made i nodes m).lit) (sym two.same) ∙ two.laws.values t bits nodes m two.new (two.count ∙ sym two.same) (subst Q (sym two.same) front)

-- a step that keeps the value of each needed node
pub record KeepsValues (step : Step) (g t : MigView) (bits : List Bool) : Type 0 where
  pub value : (st : Making) (k : ℕ) (m : Maj) → AtNode g k m → length st.lits ≡ 1 + g.inputs + k → AreValued g t bits st.lits → IsFront (step st m).nodes t.nodes → mval t bits (step st m).lit ≡ mval g bits (plain (1 + g.inputs + k))

-- the operands of a needed node have their values in the new graph
pub record HasOperands (g t : MigView) (bits : List Bool) (lits : List Lit) (m : Maj) : Type 0 where
  pub x : mval t bits (moved lits m.x) ≡ mval g bits m.x
  pub y : mval t bits (moved lits m.y) ≡ mval g bits m.y
  pub z : mval t bits (moved lits m.z) ≡ mval g bits m.z

pub has_operands : (g t : MigView) (bits : List Bool) (lits : List Lit) (k : ℕ) (m : Maj) → AreTwo g t bits → AtNode g k m → 1 + g.inputs + k ≤ length lits → AreValued g t bits lits → HasOperands g t bits lits m
has_operands g t bits lits k m two at len v =
    let x_there : m.x.0 / 2 < length lits = let e = ap (λ (n : Maj). n.x.0) at.is in omega (arith, two.sound.x_before k none at.there) in
    let y_there : m.y.0 / 2 < length lits = let e = ap (λ (n : Maj). n.y.0) at.is in omega (arith, two.sound.y_before k none at.there) in
    let z_there : m.z.0 / 2 < length lits = let e = ap (λ (n : Maj). n.z.0) at.is in omega (arith, two.sound.z_before k none at.there) in
    record {
      x = moved_value g t bits lits m.x two v x_there (operand_needed g k m (node m.x) two.sound at (inl refl));
      y = moved_value g t bits lits m.y two v y_there (operand_needed g k m (node m.y) two.sound at (inr (inl refl)));
      z = moved_value g t bits lits m.z two v z_there (operand_needed g k m (node m.z) two.sound at (inr (inr refl)));
    }

-- the value of a node of the old graph
pub old_value : (g t : MigView) (bits : List Bool) (k : ℕ) (m : Maj) → AreTwo g t bits → AtNode g k m → majority (mval g bits m.x) (mval g bits m.y) (mval g bits m.z) ≡ mval g bits (plain (1 + g.inputs + k))
old_value g t bits k m two at =
    ap (λ (n : Maj). majority (mval g bits n.x) (mval g bits n.y) (mval g bits n.z)) at.is ∙ sym (two.old.nodes bits k none two.count at.there)

pub by_three : (a b c p q r : Bool) → a ≡ p → b ≡ q → c ≡ r → majority a b c ≡ majority p q r
by_three a b c p q r e f h = ap (λ (v : Bool). majority v b c) e ∙ ap (λ (v : Bool). majority p v c) f ∙ ap (λ (v : Bool). majority p q v) h

-- ---- the copy and the flip pass
pub plain_values : (g t : MigView) (bits : List Bool) → AreTwo g t bits → KeepsValues (plainly g.inputs) g t bits
plain_values g t bits two = record {
  value = λ st k m at len v front.
      let m2 = moved_node st.lits m in
      let o = has_operands g t bits st.lits k m two at (omega arith) v in
      value_in g t bits st.nodes m2 two front
      ∙ by_three (mval t bits m2.x) (mval t bits m2.y) (mval t bits m2.z) (mval g bits m.x) (mval g bits m.y) (mval g bits m.z) o.x o.y o.z
      ∙ old_value g t bits k m two at;
}

not_majority : (a b c : Bool) → not (majority (not a) (not b) (not c)) ≡ majority a b c
not_majority true true c = refl
not_majority true false true = refl
not_majority true false false = refl
not_majority false true true = refl
not_majority false true false = refl
not_majority false false c = refl

flip_value : (g t : MigView) (bits : List Bool) (nodes : List Maj) (m : Maj) (b : Bool) → AreTwo g t bits → IsFront (flipped_by b g.inputs nodes m).nodes t.nodes → mval t bits (flipped_by b g.inputs nodes m).lit ≡ majority (mval t bits m.x) (mval t bits m.y) (mval t bits m.z)
flip_value g t bits nodes m true two front =
    let turn = two.new.complements (node_values t bits) in
    turn (made g.inputs nodes (opposite m)).lit
    ∙ ap not (value_in g t bits nodes (opposite m) two front
    ∙ by_three (mval t bits (complement m.x)) (mval t bits (complement m.y)) (mval t bits (complement m.z)) (not (mval t bits m.x)) (not (mval t bits m.y)) (not (mval t bits m.z)) (turn m.x) (turn m.y) (turn m.z))
    ∙ not_majority (mval t bits m.x) (mval t bits m.y) (mval t bits m.z)
flip_value g t bits nodes m false two front = value_in g t bits nodes m two front

pub flip_values : (g t : MigView) (bits : List Bool) → AreTwo g t bits → KeepsValues (flipped g.inputs) g t bits
flip_values g t bits two = record {
  value = λ st k m at len v front.
      let m2 = moved_node st.lits m in
      let o = has_operands g t bits st.lits k m two at (omega arith) v in
      flip_value g t bits st.nodes m2 (ltb 1 (inversions m2)) two front
      ∙ by_three (mval t bits m2.x) (mval t bits m2.y) (mval t bits m2.z) (mval g bits m.x) (mval g bits m.y) (mval g bits m.z) o.x o.y o.z
      ∙ old_value g t bits k m two at;
}

-- ---- a whole pass
valued_push : (g t : MigView) (bits : List Bool) (lits : List Lit) (l : Lit) → AreValued g t bits lits → (is_needed g (length lits) ≡ true → mval t bits l ≡ mval g bits (plain (length lits))) → AreValued g t bits (lits ++ l ∷ [])
valued_push g t bits lits l v h = record {
  each = λ i d there needed. elim (eqb_tells i (length lits)) [
    | inl e ↦
        ap (λ (j : ℕ). mval t bits (get_or (lits ++ l ∷ []) j d)) e.1 ∙ ap (mval t bits) (get_or-append_seam lits l [] d) ∙ h (ap (is_needed g) (sym e.1) ∙ needed)
        ∙ ap (λ (j : ℕ). mval g bits (plain j)) (sym e.1)
    | inr o ↦
        let b : i < length lits = omega (arith, o.1, length-append lits (l ∷ [])) in
        ap (mval t bits) (get_or_append_left lits (l ∷ []) d i b) ∙ v.each i d b needed
  ];
}

-- the nodes from a place of the old graph on
pub record AreRest (g : MigView) (k : ℕ) (rest : List Maj) : Type 0 where
  pub count : k + length rest ≡ length g.nodes
  pub same : (i : ℕ) (d : Maj) → i < length rest → get_or rest i d ≡ get_or g.nodes (k + i) d

pub rest_next : (g : MigView) (k : ℕ) (m : Maj) (rest : List Maj) → AreRest g k (m ∷ rest) → AreRest g (k + 1) rest
rest_next g k m rest are = record {
  count = omega (arith, are.count);
  same = λ i d h. are.same (suc i) d (omega arith) ∙ ap (λ (j : ℕ). get_or g.nodes j d) (let e : k + suc i ≡ k + 1 + i = omega arith in e);
}

pub rest_all : (g : MigView) → AreRest g 0 g.nodes
rest_all g = record { count = omega arith; same = λ i d h. ap (λ (j : ℕ). get_or g.nodes j d) (let e : i ≡ 0 + i = omega arith in e) }

pub at_rest : (g : MigView) (k : ℕ) (m : Maj) (rest : List Maj) → AreRest g k (m ∷ rest) → is_needed g (1 + g.inputs + k) ≡ true → AtNode g k m
at_rest g k m rest are needed = record {
  there = omega (arith, are.count);
  is = are.same 0 none (omega arith) ∙ ap (λ (i : ℕ). get_or g.nodes i none) (let e : k + 0 ≡ k = omega arith in e);
  needed = needed;
}

rest_values : (step : Step) (g t : MigView) (bits : List Bool) (st : Making) (k : ℕ) (rest : List Maj) → AreTwo g t bits → Grows step → KeepsValues step g t bits → AreRest g k rest → length st.lits ≡ 1 + g.inputs + k → IsFront (passed_from step (is_needed g) st (1 + g.inputs + k) rest).nodes t.nodes → AreValued g t bits st.lits → AreValued g t bits (passed_from step (is_needed g) st (1 + g.inputs + k) rest).lits
rest_values step g t bits st k [] two grows keeps are len front v = v
rest_values step g t bits st k (m ∷ rest) two grows keeps are len front v =
    let n = 1 + g.inputs + k in
    let needed = is_needed g n in
    let next = after step needed st m in
    let l = (stepped needed step st m).lit in
    let begins : IsFront next.nodes t.nodes = front_both next.nodes (passed_from step (is_needed g) next (suc n) rest).nodes t.nodes (rest_front step (is_needed g) next (suc n) rest grows) front in
    let value : is_needed g (length st.lits) ≡ true → mval t bits l ≡ mval g bits (plain (length st.lits)) = λ h.
    let here : needed ≡ true = ap (is_needed g) (sym len) ∙ h in
    let F : List Maj → Type 0 = λ xs. IsFront xs t.nodes in
    ap (λ (b : Bool). mval t bits (stepped b step st m).lit) here
    ∙ keeps.value st k m (at_rest g k m rest are here) len v (subst F (ap (λ (b : Bool). (stepped b step st m).nodes) here) begins)
    ∙ ap (λ (j : ℕ). mval g bits (plain j)) (sym len) in
    let at : suc n ≡ 1 + g.inputs + (k + 1) = omega arith in
    let G : ℕ → Type 0 = λ j. IsFront (passed_from step (is_needed g) next j rest).nodes t.nodes in
    let H : ℕ → Type 0 = λ j. AreValued g t bits (passed_from step (is_needed g) next j rest).lits in
    subst H (sym at) (rest_values step g t bits next (k + 1) rest two grows keeps (rest_next g k m rest are) (omega (arith, len, length-append st.lits (l ∷ []))) (subst G at front) (valued_push g t bits st.lits l v value))

first_value : (g t : MigView) (bits : List Bool) (i : ℕ) → AreTwo g t bits → i < 1 + g.inputs → mval t bits (plain i) ≡ mval g bits (plain i)
first_value g t bits zero two h = two.new.constant bits ∙ sym (two.old.constant bits)
first_value g t bits (suc i) two h =
    let e : suc i ≡ 1 + i = omega arith in
    ap (λ (j : ℕ). mval t bits (plain j)) e ∙ two.new.inputs bits i (two.count ∙ sym two.same) (omega (arith, two.same))
    ∙ sym (two.old.inputs bits i two.count (omega arith)) ∙ ap (λ (j : ℕ). mval g bits (plain j)) (sym e)

begun_values : (g t : MigView) (bits : List Bool) → AreTwo g t bits → AreValued g t bits (begun g.inputs).lits
begun_values g t bits two = record {
  each = λ i d h needed.
      let l : i < 1 + g.inputs = omega (arith, length-map-range_with_len plain 0 (1 + g.inputs)) in
      ap (mval t bits) (get_or-map-range_with_len plain 0 (1 + g.inputs) i i d l (omega arith)) ∙ first_value g t bits i two l;
}

outs_values : (g t : MigView) (bits : List Bool) (lits outs : List Lit) → AreTwo g t bits → AreValued g t bits lits → ((k : ℕ) (d : Lit) → k < length outs → (get_or outs k d).0 / 2 < length lits) → ((k : ℕ) (d : Lit) → k < length outs → is_needed g (node (get_or outs k d)) ≡ true) → map (mval t bits) (map (moved lits) outs) ≡ map (mval g bits) outs
outs_values g t bits lits [] two v there needed = refl
outs_values g t bits lits (o ∷ outs) two v there needed =
    ap (λ (b : Bool). b ∷ map (mval t bits) (map (moved lits) outs)) (moved_value g t bits lits o two v (there 0 o (omega arith)) (needed 0 o (omega arith)))
    ∙ ap (λ (bs : List Bool). mval g bits o ∷ bs) (outs_values g t bits lits outs two v (λ k d h. there (suc k) d (omega arith)) (λ k d h. needed (suc k) d (omega arith)))

-- the outputs of the graph that a pass makes have the old values
pub passed_values : (step : Step) (g t : MigView) (bits : List Bool) → AreTwo g t bits → Grows step → KeepsValues step g t bits → t.nodes ≡ (passed_from step (is_needed g) (begun g.inputs) (1 + g.inputs) g.nodes).nodes → t.outputs ≡ map (moved (passed_from step (is_needed g) (begun g.inputs) (1 + g.inputs) g.nodes).lits) g.outputs → map (mval t bits) t.outputs ≡ map (mval g bits) g.outputs
passed_values step g t bits two grows keeps nodes outs =
    let st = begun g.inputs in
    let whole = passed_from step (is_needed g) st (1 + g.inputs) g.nodes in
    let F : List Maj → Type 0 = λ xs. IsFront whole.nodes xs in
    let front : IsFront whole.nodes t.nodes = subst F (sym nodes) (front_refl whole.nodes) in
    let at : 1 + g.inputs ≡ 1 + g.inputs + 0 = omega arith in
    let G : ℕ → Type 0 = λ j. IsFront (passed_from step (is_needed g) st j g.nodes).nodes t.nodes in
    let H : ℕ → Type 0 = λ j. AreValued g t bits (passed_from step (is_needed g) st j g.nodes).lits in
    let v = subst H (sym at) (rest_values step g t bits st 0 g.nodes two grows keeps (rest_all g) (omega (arith, begun_count g.inputs)) (subst G at front) (begun_values g t bits two)) in
    ap (map (mval t bits)) outs
    ∙ outs_values g t bits whole.lits g.outputs two v (λ k d h. omega (arith, two.sound.outputs_there k d h, lits_count step (is_needed g) st (1 + g.inputs) g.nodes, begun_count g.inputs)) (output_needed g)

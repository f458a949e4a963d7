-- What one AND more changes, and the values of the graph that is made.
use Rattle.std.proofs.Common.{◌≡◌, ℕ, zero, suc, ◌+◌, ◌/◌, ◌%◌, ◌<◌, Bool, true, false, cond, not, ◌&&◌, List, [], ◌∷◌, ◌++◌, length, get_or, map, refl, sym, ◌∙◌, ap, subst, arith, inl, inr, length-append}
use Rattle.std.proofs.lemmas.Bool.Decides.{eqb_tells}
use Rattle.std.proofs.lemmas.List.FromFn.{get_or-map-range_with_len, length-map-range_with_len}
use Rattle.std.proofs.lemmas.List.{get_or_append_left}
use Rattle.std.proofs.Math.Seq.{get_or-append_seam}
use Rattle.pim_aig.specs.Graph.{AigView, IsAig}
use Rattle.pim_aig.specs.Laws.{ValueLaws}
use Rattle.pim_aig.specs.Literals.{complement, plain}
use Rattle.pim_aig.specs.Values.{aval, node_values as and_values}
use Rattle.pim_aig.specs.declared.graph.And.{And}
use Rattle.pim_aig.specs.declared.literal.Lit.{Lit}
use Rattle.pim_mig.specs.Graph.{MigView}
use Rattle.pim_mig.specs.Laws.{IsFront, MajorityLaws}
use Rattle.pim_mig.specs.Majs.{after, begun, maj_of, Making, majs_from, making}
use Rattle.pim_aig.specs.Moving.{moved}
use Rattle.pim_mig.specs.Nodes.{made}
use Rattle.pim_mig.specs.Values.{majority, mval, node_values}
use Rattle.pim_mig.specs.declared.node.Maj.{Maj}
use Rattle.pim_mig.proofs.Answers.{front_refl, made_front, made_value}

pub front_both : (a b c : List Maj) → IsFront a b → IsFront b c → IsFront a c
front_both a b c f g = record {
  few = omega (arith, f.few, g.few);
  same = λ k d h. g.same k d (omega (arith, f.few)) ∙ f.same k d h;
}

rest_front : (inputs : ℕ) (st : Making) (rest : List And) → IsFront st.nodes (majs_from inputs st rest).nodes
rest_front inputs st [] = front_refl st.nodes
rest_front inputs st (a ∷ rest) =
    let now = made inputs st.nodes (maj_of st.lits a) in
    front_both st.nodes now.nodes (majs_from inputs (after inputs st a) rest).nodes (made_front inputs st.nodes (maj_of st.lits a)) (rest_front inputs (after inputs st a) rest)

-- ---- the loop over the ANDs
pub step_whole : (inputs later : ℕ) (nodes new : List Maj) (before rest : List And) (lits grown : List Lit) (a : And) (x y l : Lit) (whole : Making) → before ≡ a ∷ rest → majs_from inputs (record { nodes = nodes; lits = lits }) before ≡ whole → x ≡ moved lits a.x → y ≡ moved lits a.y → l ≡ (made inputs nodes (record { x = x; y = y; z = record { 0 = 0 } })).lit → new ≡ (made inputs nodes (record { x = x; y = y; z = record { 0 = 0 } })).nodes → grown ≡ lits ++ l ∷ [] → later ≡ inputs → majs_from later (record { nodes = new; lits = grown }) rest ≡ whole
step_whole inputs later nodes new before rest lits grown a x y l whole cut so_far is_x is_y is_l is_new is_grown same =
    let here : Maj = record { x = x; y = y; z = record { 0 = 0 } } in
    let there : here ≡ maj_of lits a = ap (λ (p : Lit). let r : Maj = record { x = p; y = y; z = record { 0 = 0 } } in r) is_x ∙ ap (λ (p : Lit). let r : Maj = record { x = moved lits a.x; y = p; z = record { 0 = 0 } } in r) is_y in
    let j = made inputs nodes (maj_of lits a) in
    let e : new ≡ j.nodes = is_new ∙ ap (λ (b : Maj). (made inputs nodes b).nodes) there in
    let f : l ≡ j.lit = is_l ∙ ap (λ (b : Maj). (made inputs nodes b).lit) there in
    let h : grown ≡ lits ++ j.lit ∷ [] = is_grown ∙ ap (λ (k : Lit). lits ++ k ∷ []) f in
    ap (λ (i : ℕ). majs_from i (record { nodes = new; lits = grown }) rest) same
    ∙ ap (λ (xs : List Maj). majs_from inputs (record { nodes = xs; lits = grown }) rest) e
    ∙ ap (λ (xs : List Lit). majs_from inputs (record { nodes = j.nodes; lits = xs }) rest) h
    ∙ sym (ap (majs_from inputs (record { nodes = nodes; lits = lits })) cut) ∙ so_far

-- a graph by its parts
pub graph_is : (g : MigView) (inputs : ℕ) (outputs : List Lit) → g.inputs ≡ inputs → g.outputs ≡ outputs → g ≡ record { inputs = inputs; nodes = g.nodes; outputs = outputs }
graph_is g inputs outputs e f =
    ap (λ (k : ℕ). let r : MigView = record { inputs = k; nodes = g.nodes; outputs = g.outputs } in r) e
    ∙ ap (λ (os : List Lit). let r : MigView = record { inputs = inputs; nodes = g.nodes; outputs = os } in r) f

-- ---- values
-- an and-inverter graph and a majority graph of as many inputs, by whose laws values are told
pub record AreTwo (g : AigView) (t : MigView) (bits : List Bool) : Type 0 where
  pub old : ValueLaws g
  pub new : MajorityLaws t
  pub same : t.inputs ≡ g.inputs
  pub count : length bits ≡ g.inputs

-- the literals have the values of the first nodes
pub record AreValued (g : AigView) (t : MigView) (bits : List Bool) (lits : List Lit) : Type 0 where
  pub each : (m : ℕ) (d : Lit) → m < length lits → mval t bits (get_or lits m d) ≡ aval g bits (plain m)

moved_value : (g : AigView) (t : MigView) (bits : List Bool) (lits : List Lit) (l : Lit) → AreTwo g t bits → AreValued g t bits lits → l.0 / 2 < length lits → mval t bits (moved lits l) ≡ aval g bits l
moved_value g t bits lits l two v h =
    let e = get_or lits (l.0 / 2) (record { 0 = 0 }) in
    let entry : mval t bits e ≡ get_or (and_values g bits) (l.0 / 2) false = v.each (l.0 / 2) (record { 0 = 0 }) h ∙ two.old.plains (and_values g bits) (l.0 / 2) in
    elim (eqb_tells (l.0 % 2) 1) [
      | inl odd ↦
          ap (λ (b : Bool). mval t bits (cond b (complement e) e)) odd.0
          ∙ two.new.complements (node_values t bits) e
          ∙ ap not entry
          ∙ sym (ap (λ (b : Bool). cond b (not (get_or (and_values g bits) (l.0 / 2) false)) (get_or (and_values g bits) (l.0 / 2) false)) odd.0)
      | inr even ↦
          ap (λ (b : Bool). mval t bits (cond b (complement e) e)) even.0
          ∙ entry
          ∙ sym (ap (λ (b : Bool). cond b (not (get_or (and_values g bits) (l.0 / 2) false)) (get_or (and_values g bits) (l.0 / 2) false)) even.0)
    ]

with_false : (a b : Bool) → majority a b false ≡ (a && b)
with_false true true = refl
with_false true false = refl
with_false false true = refl
with_false false false = refl

valued_push : (g : AigView) (t : MigView) (bits : List Bool) (lits : List Lit) (l : Lit) → AreValued g t bits lits → mval t bits l ≡ aval g bits (plain (length lits)) → AreValued g t bits (lits ++ l ∷ [])
valued_push g t bits lits l v h = record {
  each = λ m d k. elim (eqb_tells m (length lits)) [
    | inl e ↦ ap (λ (i : ℕ). mval t bits (get_or (lits ++ l ∷ []) i d)) e.1 ∙ ap (mval t bits) (get_or-append_seam lits l [] d) ∙ h ∙ ap (λ (i : ℕ). aval g bits (plain i)) (sym e.1)
    | inr o ↦
        let b : m < length lits = omega (arith, o.1, length-append lits (l ∷ [])) in
        ap (mval t bits) (get_or_append_left lits (l ∷ []) d m b) ∙ v.each m d b
  ];
}

-- the ANDs from a place of the and-inverter graph on
pub record AreRest (g : AigView) (k : ℕ) (rest : List And) : Type 0 where
  pub count : k + length rest ≡ length g.ands
  pub same : (i : ℕ) (d : And) → i < length rest → get_or rest i d ≡ get_or g.ands (k + i) d

abbrev none : And
none = record { x = record { 0 = 0 }; y = record { 0 = 0 } }

-- a majority that is made has the value of its operands, in a graph that begins with the nodes then
value_in : (t : MigView) (bits : List Bool) (inputs : ℕ) (nodes : List Maj) (m : Maj) → MajorityLaws t → length bits ≡ inputs → t.inputs ≡ inputs → IsFront (made inputs nodes m).nodes t.nodes → mval t bits (made inputs nodes m).lit ≡ majority (mval t bits m.x) (mval t bits m.y) (mval t bits m.z)
value_in t bits inputs nodes m laws count same front =
    let Q : ℕ → Type 0 = λ i. IsFront (made i nodes m).nodes t.nodes in
    ap (λ (i : ℕ). mval t bits (made i nodes m).lit) (sym same) ∙ made_value t bits nodes m laws (count ∙ sym same) (subst Q (sym same) front)

rest_values : (g : AigView) (t : MigView) (bits : List Bool) (st : Making) (k : ℕ) (rest : List And) → IsAig g → AreTwo g t bits → AreRest g k rest → length st.lits ≡ 1 + g.inputs + k → IsFront (majs_from g.inputs st rest).nodes t.nodes → AreValued g t bits st.lits → AreValued g t bits (majs_from g.inputs st rest).lits
rest_values g t bits st k [] sound two are len front v = v
rest_values g t bits st k (a ∷ rest) sound two are len front v =
    let b = maj_of st.lits a in
    let now = made g.inputs st.nodes b in
    let next = after g.inputs st a in
    let at : a ≡ get_or g.ands k none = are.same 0 none (omega arith) ∙ ap (λ (i : ℕ). get_or g.ands i none) (let e : k + 0 ≡ k = omega arith in e) in
    let there : k < length g.ands = omega (arith, are.count) in
    let x_there : a.x.0 / 2 < length st.lits = let e = ap (λ (c : And). c.x.0) at in omega (arith, sound.x_before k none there) in
    let y_there : a.y.0 / 2 < length st.lits = let e = ap (λ (c : And). c.y.0) at in omega (arith, sound.y_before k none there) in
    let begins : IsFront now.nodes t.nodes = front_both now.nodes (majs_from g.inputs next rest).nodes t.nodes (rest_front g.inputs next rest) front in
    let value : mval t bits now.lit ≡ aval g bits (plain (length st.lits)) =
    value_in t bits g.inputs st.nodes b two.new two.count two.same begins
    ∙ ap (λ (u : Bool). majority u (mval t bits b.y) (mval t bits (plain 0))) (moved_value g t bits st.lits a.x two v x_there)
    ∙ ap (λ (u : Bool). majority (aval g bits a.x) u (mval t bits (plain 0))) (moved_value g t bits st.lits a.y two v y_there)
    ∙ ap (λ (u : Bool). majority (aval g bits a.x) (aval g bits a.y) u) (two.new.constant bits)
    ∙ with_false (aval g bits a.x) (aval g bits a.y)
    ∙ sym (two.old.ands bits k none two.count there ∙ ap (λ (c : And). aval g bits c.x && aval g bits c.y) (sym at))
    ∙ ap (λ (i : ℕ). aval g bits (plain i)) (sym len) in
    rest_values g t bits next (k + 1) rest sound two (record {
      count = omega (arith, are.count);
      same = λ i d h. are.same (suc i) d (omega arith) ∙ ap (λ (j : ℕ). get_or g.ands j d) (let e : k + suc i ≡ k + 1 + i = omega arith in e);
    }) (omega (arith, len, length-append st.lits (now.lit ∷ []))) front (valued_push g t bits st.lits now.lit v value)

first_value : (g : AigView) (t : MigView) (bits : List Bool) (m : ℕ) → AreTwo g t bits → m < 1 + g.inputs → mval t bits (plain m) ≡ aval g bits (plain m)
first_value g t bits zero two h = two.new.constant bits ∙ sym (two.old.constant bits)
first_value g t bits (suc m) two h =
    let e : suc m ≡ 1 + m = omega arith in
    ap (λ (i : ℕ). mval t bits (plain i)) e ∙ two.new.inputs bits m (two.count ∙ sym two.same) (omega (arith, two.same))
    ∙ sym (two.old.inputs bits m two.count (omega arith)) ∙ ap (λ (i : ℕ). aval g bits (plain i)) (sym e)

begun_values : (g : AigView) (t : MigView) (bits : List Bool) → AreTwo g t bits → AreValued g t bits (begun g.inputs).lits
begun_values g t bits two = record {
  each = λ m d h.
      let l : m < 1 + g.inputs = omega (arith, length-map-range_with_len plain 0 (1 + g.inputs)) in
      ap (mval t bits) (get_or-map-range_with_len plain 0 (1 + g.inputs) m m d l (omega arith)) ∙ first_value g t bits m two l;
}

lits_count : (inputs : ℕ) (st : Making) (rest : List And) → length (majs_from inputs st rest).lits ≡ length st.lits + length rest
lits_count inputs st [] = omega arith
lits_count inputs st (a ∷ rest) =
    let now = made inputs st.nodes (maj_of st.lits a) in
    let more = lits_count inputs (after inputs st a) rest in
    omega (arith, length-append st.lits (now.lit ∷ []))

outs_values : (g : AigView) (t : MigView) (bits : List Bool) (lits outs : List Lit) → AreTwo g t bits → AreValued g t bits lits → ((k : ℕ) (d : Lit) → k < length outs → (get_or outs k d).0 / 2 < length lits) → map (mval t bits) (map (moved lits) outs) ≡ map (aval g bits) outs
outs_values g t bits lits [] two v there = refl
outs_values g t bits lits (o ∷ outs) two v there =
    ap (λ (b : Bool). b ∷ map (mval t bits) (map (moved lits) outs)) (moved_value g t bits lits o two v (there 0 o (omega arith)))
    ∙ ap (λ (bs : List Bool). aval g bits o ∷ bs) (outs_values g t bits lits outs two v (λ k d h. there (suc k) d (omega arith)))

-- the outputs of a graph that has the nodes of the ANDs have the old values
pub majs_values : (g : AigView) (t : MigView) (bits : List Bool) → IsAig g → ValueLaws g → MajorityLaws t → t.inputs ≡ g.inputs → length bits ≡ g.inputs → t.nodes ≡ (making g).nodes → t.outputs ≡ map (moved (making g).lits) g.outputs → map (mval t bits) t.outputs ≡ map (aval g bits) g.outputs
majs_values g t bits sound old new same count nodes outs =
    let two : AreTwo g t bits = record { old = old; new = new; same = same; count = count } in
    let st = begun g.inputs in
    let whole = majs_from g.inputs st g.ands in
    let first : length st.lits ≡ 1 + g.inputs = length-map-range_with_len plain 0 (1 + g.inputs) in
    let F : List Maj → Type 0 = λ xs. IsFront whole.nodes xs in
    let front : IsFront whole.nodes t.nodes = subst F (sym nodes) (front_refl whole.nodes) in
    let v = rest_values g t bits st 0 g.ands sound two (record { count = omega arith; same = λ i d h. ap (λ (j : ℕ). get_or g.ands j d) (let e : i ≡ 0 + i = omega arith in e) }) (omega (arith, first)) front (begun_values g t bits two) in
    ap (map (mval t bits)) outs
    ∙ outs_values g t bits whole.lits g.outputs two v (λ k d h. omega (arith, sound.outputs_there k d h, lits_count g.inputs st g.ands, first))

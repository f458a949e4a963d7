-- Each literal of the tidied graph has the value of the old node that it stands for.
use Rattle.std.proofs.Common.{◌≡◌, ◌⊎◌, ℕ, zero, suc, ◌+◌, ◌/◌, ◌%◌, ◌<◌, Bool, true, false, cond, eqb, not, ◌&&◌, ◌||◌, List, [], ◌∷◌, ◌++◌, length, get_or, map, Option, Some, refl, sym, ◌∙◌, ap, subst, arith, inl, inr, length-append}
use Rattle.std.proofs.lemmas.Bool.{false≢true}
use Rattle.std.proofs.lemmas.Bool.Decides.{nat_tests, eqb_tells}
use Rattle.std.proofs.lemmas.List.FromFn.{get_or-map-range_with_len, length-map-range_with_len}
use Rattle.std.proofs.lemmas.List.{get_or_append_left}
use Rattle.std.proofs.Math.Seq.{get_or-append_seam}
use Rattle.pim_aig.specs.Graph.{AigView, IsAig}
use Rattle.pim_aig.specs.Laws.{ValueLaws}
use Rattle.pim_aig.specs.Literals.{complement, plain}
use Rattle.pim_aig.specs.Values.{aval, node_values}
use Rattle.pim_aig.specs.declared.graph.And.{And}
use Rattle.pim_aig.specs.declared.literal.Lit.{Lit}
use Rattle.pim_tidy.specs.Tidied.{after, begun, folded, joined, moved_and, same_operands, tidied_from, Tidying}
use Rattle.pim_aig.specs.Moving.{moved}
use Rattle.pim_tidy.proofs.Steps.{IsFront, Joins, front_both, joins, rest_front}
use Rattle.pim_tidy.proofs.Steps.Joins.{by_folding, by_node, by_new}

-- two graphs of as many inputs, by whose laws values are told
pub record AreTwo (g t : AigView) (bits : List Bool) : Type 0 where
  pub old : ValueLaws g
  pub new : ValueLaws t
  pub same : t.inputs ≡ g.inputs
  pub count : length bits ≡ g.inputs

-- the literals have the values of the first nodes
pub record AreValued (g t : AigView) (bits : List Bool) (lits : List Lit) : Type 0 where
  pub each : (m : ℕ) (d : Lit) → m < length lits → aval t bits (get_or lits m d) ≡ aval g bits (plain m)

moved_value : (g t : AigView) (bits : List Bool) (lits : List Lit) (l : Lit) → AreTwo g t bits → AreValued g t bits lits → l.0 / 2 < length lits → aval t bits (moved lits l) ≡ aval g bits l
moved_value g t bits lits l two v h =
    let e = get_or lits (l.0 / 2) (record { 0 = 0 }) in
    let entry : aval t bits e ≡ get_or (node_values g bits) (l.0 / 2) false = v.each (l.0 / 2) (record { 0 = 0 }) h ∙ two.old.plains (node_values g bits) (l.0 / 2) in
    elim (eqb_tells (l.0 % 2) 1) [
      | inl odd ↦
          ap (λ (b : Bool). aval t bits (cond b (complement e) e)) odd.0
          ∙ two.new.complements (node_values t bits) e
          ∙ ap not entry
          ∙ sym (ap (λ (b : Bool). cond b (not (get_or (node_values g bits) (l.0 / 2) false)) (get_or (node_values g bits) (l.0 / 2) false)) odd.0)
      | inr even ↦
          ap (λ (b : Bool). aval t bits (cond b (complement e) e)) even.0
          ∙ entry
          ∙ sym (ap (λ (b : Bool). cond b (not (get_or (node_values g bits) (l.0 / 2) false)) (get_or (node_values g bits) (l.0 / 2) false)) even.0)
    ]

some_of : (b : Bool) (v l : Lit) (r : Option Lit) → cond b (Some v) r ≡ Some l → ((b ≡ true) × (v ≡ l)) ⊎ (r ≡ Some l)
some_of true v l r h = inl (refl, (let e : v ≡ l = cc in e))
some_of false v l r h = inr h

either : (a b : Bool) → (a || b) ≡ true → (a ≡ true) ⊎ (b ≡ true)
either true b h = inl refl
either false b h = inr h

both : (a b : Bool) → (a && b) ≡ true → (a ≡ true) × (b ≡ true)
both true b h = (refl, h)
both false b h = absurd (false≢true h)

and_false : (a : Bool) → false ≡ (a && false)
and_false true = refl
and_false false = refl

and_true : (a : Bool) → a ≡ (a && true)
and_true true = refl
and_true false = refl

and_self : (a : Bool) → a ≡ (a && a)
and_self true = refl
and_self false = refl

and_not : (a : Bool) → false ≡ (a && not a)
and_not true = refl
and_not false = refl

and_turned : (a b : Bool) → (a && b) ≡ (b && a)
and_turned true true = refl
and_turned true false = refl
and_turned false true = refl
and_turned false false = refl

eqb_is : (m n : ℕ) → eqb m n ≡ true → m ≡ n
eqb_is m n e = grind (arith, nat_tests)

lit_is : (l : Lit) (n : ℕ) → eqb l.0 n ≡ true → l ≡ record { 0 = n }
lit_is l n e = ap (λ (k : ℕ). let r : Lit = record { 0 = k } in r) (eqb_is l.0 n e)

lits_same : (l m : Lit) → eqb l.0 m.0 ≡ true → l ≡ m
lits_same l m e = lit_is l m.0 e

false_value : (t : AigView) (bits : List Bool) (l : Lit) → ValueLaws t → l ≡ record { 0 = 0 } → aval t bits l ≡ false
false_value t bits l laws e = ap (aval t bits) e ∙ laws.constant bits

true_value : (t : AigView) (bits : List Bool) (l : Lit) → ValueLaws t → l ≡ record { 0 = 1 } → aval t bits l ≡ true
true_value t bits l laws e = ap (aval t bits) e ∙ laws.complements (node_values t bits) (plain 0) ∙ ap not (laws.constant bits)

-- what two literals fold to has the value of their AND
folded_value : (t : AigView) (bits : List Bool) (x y l : Lit) → ValueLaws t → folded x y ≡ Some l → aval t bits l ≡ (aval t bits x && aval t bits y)
folded_value t bits x y l laws h = elim (some_of (eqb x.0 0 || eqb y.0 0) _ l _ h) [
  | inl a ↦ false_value t bits l laws (sym a.1) ∙ elim (either (eqb x.0 0) (eqb y.0 0) a.0) [
    | inl e ↦ sym (ap (λ (b : Bool). b && aval t bits y) (false_value t bits x laws (lit_is x 0 e)))
    | inr e ↦ and_false (aval t bits x) ∙ sym (ap (λ (b : Bool). aval t bits x && b) (false_value t bits y laws (lit_is y 0 e)))
  ]
  | inr r ↦ elim (some_of (eqb x.0 1) _ l _ r) [
    | inl a ↦ ap (aval t bits) (sym a.1) ∙ sym (ap (λ (b : Bool). b && aval t bits y) (true_value t bits x laws (lit_is x 1 a.0)))
    | inr s ↦ elim (some_of (eqb y.0 1) _ l _ s) [
      | inl a ↦ ap (aval t bits) (sym a.1) ∙ and_true (aval t bits x) ∙ sym (ap (λ (b : Bool). aval t bits x && b) (true_value t bits y laws (lit_is y 1 a.0)))
      | inr u ↦ elim (some_of (eqb x.0 y.0) _ l _ u) [
        | inl a ↦ ap (aval t bits) (sym a.1) ∙ and_self (aval t bits x) ∙ ap (λ (m : Lit). aval t bits x && aval t bits m) (lits_same x y a.0)
        | inr w ↦ elim (some_of (eqb (complement x).0 y.0) _ l _ w) [
          | inl a ↦
              false_value t bits l laws (sym a.1) ∙ and_not (aval t bits x)
              ∙ ap (λ (b : Bool). aval t bits x && b) (sym (laws.complements (node_values t bits) x) ∙ ap (aval t bits) (lits_same (complement x) y a.0))
          | inr n ↦ absurd (let z : ⊥ = cc in z)
        ]
      ]
    ]
  ]
]

-- a node that reads the same has the value of the AND
same_value : (t : AigView) (bits : List Bool) (a b : And) → same_operands a b ≡ true → (aval t bits a.x && aval t bits a.y) ≡ (aval t bits b.x && aval t bits b.y)
same_value t bits a b h = elim (either (eqb a.x.0 b.x.0 && eqb a.y.0 b.y.0) (eqb a.x.0 b.y.0 && eqb a.y.0 b.x.0) h) [
  | inl e ↦
      let p = both (eqb a.x.0 b.x.0) (eqb a.y.0 b.y.0) e in
      ap (λ (l : Lit). aval t bits l && aval t bits a.y) (lits_same a.x b.x p.0) ∙ ap (λ (l : Lit). aval t bits b.x && aval t bits l) (lits_same a.y b.y p.1)
  | inr e ↦
      let p = both (eqb a.x.0 b.y.0) (eqb a.y.0 b.x.0) e in
      ap (λ (l : Lit). aval t bits l && aval t bits a.y) (lits_same a.x b.y p.0) ∙ ap (λ (l : Lit). aval t bits b.y && aval t bits l) (lits_same a.y b.x p.1)
      ∙ and_turned (aval t bits b.y) (aval t bits b.x)
]

abbrev none : And
none = record { x = record { 0 = 0 }; y = record { 0 = 0 } }

node_value : (t : AigView) (bits : List Bool) (inputs p : ℕ) (a : And) → ValueLaws t → t.inputs ≡ inputs → length bits ≡ inputs → p < length t.ands → get_or t.ands p none ≡ a → aval t bits (plain (1 + inputs + p)) ≡ (aval t bits a.x && aval t bits a.y)
node_value t bits inputs p a laws same count h is =
    ap (λ (k : ℕ). aval t bits (plain (1 + k + p))) (sym same) ∙ laws.ands bits p none (count ∙ sym same) h
    ∙ ap (λ (b : And). aval t bits b.x && aval t bits b.y) is

join_value : (t : AigView) (bits : List Bool) (inputs : ℕ) (ands : List And) (a : And) (new : List And) (l : Lit) → ValueLaws t → t.inputs ≡ inputs → length bits ≡ inputs → IsFront new t.ands → Joins inputs ands a new l → aval t bits l ≡ (aval t bits a.x && aval t bits a.y)
join_value t bits inputs ands a new l laws same count front (by_folding f e) = folded_value t bits a.x a.y l laws f
join_value t bits inputs ands a new l laws same count front (by_node f p h e s m) =
    let len = ap (λ (xs : List And). length xs) e in
    let at : get_or t.ands p none ≡ get_or ands p none = front.same p none (omega arith) ∙ ap (λ (xs : List And). get_or xs p none) e in
    ap (aval t bits) m ∙ node_value t bits inputs p (get_or ands p none) laws same count (omega (arith, front.few)) at ∙ same_value t bits (get_or ands p none) a (s none)
join_value t bits inputs ands a new l laws same count front (by_new f n e m) =
    let len = ap (λ (xs : List And). length xs) e in
    let more = length-append ands (a ∷ []) in
    let at : get_or t.ands (length ands) none ≡ a = front.same (length ands) none (omega arith) ∙ ap (λ (xs : List And). get_or xs (length ands) none) e ∙ get_or-append_seam ands a [] none in
    ap (aval t bits) m ∙ node_value t bits inputs (length ands) a laws same count (omega (arith, front.few)) at

valued_push : (g t : AigView) (bits : List Bool) (lits : List Lit) (l : Lit) → AreValued g t bits lits → aval t bits l ≡ aval g bits (plain (length lits)) → AreValued g t bits (lits ++ l ∷ [])
valued_push g t bits lits l v h = record {
  each = λ m d k. elim (eqb_tells m (length lits)) [
    | inl e ↦ ap (λ (i : ℕ). aval t bits (get_or (lits ++ l ∷ []) i d)) e.1 ∙ ap (aval t bits) (get_or-append_seam lits l [] d) ∙ h ∙ ap (λ (i : ℕ). aval g bits (plain i)) (sym e.1)
    | inr o ↦
        let b : m < length lits = omega (arith, o.1, length-append lits (l ∷ [])) in
        ap (aval t bits) (get_or_append_left lits (l ∷ []) d m b) ∙ v.each m d b
  ];
}

-- the nodes from a place of the old graph on
pub record AreRest (g : AigView) (k : ℕ) (rest : List And) : Type 0 where
  pub count : k + length rest ≡ length g.ands
  pub same : (i : ℕ) (d : And) → i < length rest → get_or rest i d ≡ get_or g.ands (k + i) d

rest_values : (g t : AigView) (bits : List Bool) (st : Tidying) (k : ℕ) (rest : List And) → IsAig g → AreTwo g t bits → AreRest g k rest → length st.lits ≡ 1 + g.inputs + k → IsFront (tidied_from g.inputs st rest).ands t.ands → AreValued g t bits st.lits → AreValued g t bits (tidied_from g.inputs st rest).lits
rest_values g t bits st k [] sound two are len front v = v
rest_values g t bits st k (a ∷ rest) sound two are len front v =
    let b = moved_and st.lits a in
    let now = joined g.inputs st.ands b in
    let next = after g.inputs st a in
    let at : a ≡ get_or g.ands k none = are.same 0 none (omega arith) ∙ ap (λ (i : ℕ). get_or g.ands i none) (let e : k + 0 ≡ k = omega arith in e) in
    let there : k < length g.ands = omega (arith, are.count) in
    let x_there : a.x.0 / 2 < length st.lits = let e = ap (λ (c : And). c.x.0) at in omega (arith, sound.x_before k none there) in
    let y_there : a.y.0 / 2 < length st.lits = let e = ap (λ (c : And). c.y.0) at in omega (arith, sound.y_before k none there) in
    let begins : IsFront now.ands t.ands = front_both now.ands (tidied_from g.inputs next rest).ands t.ands (rest_front g.inputs next rest) front in
    let value : aval t bits now.lit ≡ aval g bits (plain (length st.lits)) =
    join_value t bits g.inputs st.ands b now.ands now.lit two.new two.same two.count begins (joins g.inputs st.ands b)
    ∙ ap (λ (u : Bool). u && aval t bits b.y) (moved_value g t bits st.lits a.x two v x_there)
    ∙ ap (λ (u : Bool). aval g bits a.x && u) (moved_value g t bits st.lits a.y two v y_there)
    ∙ sym (node_value g bits g.inputs k a two.old refl two.count there (sym at))
    ∙ ap (λ (i : ℕ). aval g bits (plain i)) (sym len) in
    rest_values g t bits next (k + 1) rest sound two (record {
      count = omega (arith, are.count);
      same = λ i d h. are.same (suc i) d (omega arith) ∙ ap (λ (j : ℕ). get_or g.ands j d) (let e : k + suc i ≡ k + 1 + i = omega arith in e);
    }) (omega (arith, len, length-append st.lits (now.lit ∷ []))) front (valued_push g t bits st.lits now.lit v value)

first_value : (g t : AigView) (bits : List Bool) (m : ℕ) → AreTwo g t bits → m < 1 + g.inputs → aval t bits (plain m) ≡ aval g bits (plain m)
first_value g t bits zero two h = two.new.constant bits ∙ sym (two.old.constant bits)
first_value g t bits (suc m) two h =
    let e : suc m ≡ 1 + m = omega arith in
    ap (λ (i : ℕ). aval t bits (plain i)) e ∙ two.new.inputs bits m (two.count ∙ sym two.same) (omega (arith, two.same))
    ∙ sym (two.old.inputs bits m two.count (omega arith)) ∙ ap (λ (i : ℕ). aval g bits (plain i)) (sym e)

begun_values : (g t : AigView) (bits : List Bool) → AreTwo g t bits → AreValued g t bits (begun g.inputs).lits
begun_values g t bits two = record {
  each = λ m d h.
      let l : m < 1 + g.inputs = omega (arith, length-map-range_with_len plain 0 (1 + g.inputs)) in
      ap (aval t bits) (get_or-map-range_with_len plain 0 (1 + g.inputs) m m d l (omega arith)) ∙ first_value g t bits m two l;
}

lits_count : (inputs : ℕ) (st : Tidying) (rest : List And) → length (tidied_from inputs st rest).lits ≡ length st.lits + length rest
lits_count inputs st [] = omega arith
lits_count inputs st (a ∷ rest) =
    let now = joined inputs st.ands (moved_and st.lits a) in
    let more = lits_count inputs (after inputs st a) rest in
    omega (arith, length-append st.lits (now.lit ∷ []))

outs_values : (g t : AigView) (bits : List Bool) (lits outs : List Lit) → AreTwo g t bits → AreValued g t bits lits → ((k : ℕ) (d : Lit) → k < length outs → (get_or outs k d).0 / 2 < length lits) → map (aval t bits) (map (moved lits) outs) ≡ map (aval g bits) outs
outs_values g t bits lits [] two v there = refl
outs_values g t bits lits (o ∷ outs) two v there =
    ap (λ (b : Bool). b ∷ map (aval t bits) (map (moved lits) outs)) (moved_value g t bits lits o two v (there 0 o (omega arith)))
    ∙ ap (λ (bs : List Bool). aval g bits o ∷ bs) (outs_values g t bits lits outs two v (λ k d h. there (suc k) d (omega arith)))

-- the outputs of a graph that has the tidied nodes have the old values
pub tidied_values : (g t : AigView) (bits : List Bool) → IsAig g → ValueLaws g → ValueLaws t → t.inputs ≡ g.inputs → length bits ≡ g.inputs → t.ands ≡ (tidied_from g.inputs (begun g.inputs) g.ands).ands → t.outputs ≡ map (moved (tidied_from g.inputs (begun g.inputs) g.ands).lits) g.outputs → map (aval t bits) t.outputs ≡ map (aval g bits) g.outputs
tidied_values g t bits sound old new same count ands outs =
    let two : AreTwo g t bits = record { old = old; new = new; same = same; count = count } in
    let st = begun g.inputs in
    let whole = tidied_from g.inputs st g.ands in
    let first : length st.lits ≡ 1 + g.inputs = length-map-range_with_len plain 0 (1 + g.inputs) in
    let F : List And → Type 0 = λ xs. IsFront whole.ands xs in
    let front : IsFront whole.ands t.ands = subst F (sym ands) (record { few = omega arith; same = λ k d h. refl }) in
    let v = rest_values g t bits st 0 g.ands sound two (record { count = omega arith; same = λ i d h. ap (λ (j : ℕ). get_or g.ands j d) (let e : i ≡ 0 + i = omega arith in e) }) (omega (arith, first)) front (begun_values g t bits two) in
    ap (map (aval t bits)) outs
    ∙ outs_values g t bits whole.lits g.outputs two v (λ k d h. omega (arith, sound.outputs_there k d h, lits_count g.inputs st g.ands, first))

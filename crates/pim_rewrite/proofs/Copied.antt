-- The copy of a graph in normal form, but for what is not needed, is in normal form.
use Rattle.std.proofs.Common.{◌≡◌, ◌≢◌, ℕ, suc, ◌+◌, ◌-◌, ◌/◌, ◌%◌, ◌<◌, Bool, true, false, cond, eqb, ◌||◌, List, [], ◌∷◌, ◌++◌, length, get_or, Option, Some, None, refl, sym, ◌∙◌, ap, subst, arith, inl, inr, length-append}
use Rattle.std.proofs.lemmas.Bool.Decides.{nat_tests, eqb_tells}
use Rattle.std.proofs.lemmas.List.{get_or_append_left, append_assoc}
use Rattle.std.proofs.lemmas.List.FromFn.{get_or-map-range_with_len, length-map-range_with_len}
use Rattle.std.proofs.Math.Seq.{get_or-append_seam}
use Rattle.pim_aig.specs.Literals.{complement, node, plain}
use Rattle.pim_aig.specs.declared.literal.Lit.{Lit}
use Rattle.pim_mig.specs.Graph.{IsApart, IsMig, MigView}
use Rattle.pim_mig.specs.Laws.{Answer, NodeLaws}
use Rattle.pim_mig.specs.Laws.Answer.{by_new, by_node, by_rule}
use Rattle.pim_mig.specs.Majs.{begun, Making}
use Rattle.pim_aig.specs.Moving.{moved}
use Rattle.pim_mig.specs.Needs.{is_needed}
use Rattle.pim_mig.specs.Nodes.{made, same_operands, simplified}
use Rattle.pim_mig.specs.declared.node.Maj.{Maj}
use Rattle.pim_rewrite.specs.Passes.{after, moved_node, passed_from, plainly, stepped}
use Rattle.pim_rewrite.proofs.Counting.{counted}
use Rattle.pim_rewrite.proofs.Frame.{AtNode, begun_count, none, one_if, operand_needed, true_not_false}
use Rattle.pim_rewrite.proofs.Ranks.{AreRanked, counted_more, counted_rises, IsRanked, moved_ren, rank, rank_input, rank_node, ren, ren_apart, ren_node, same_ren}
use Rattle.pim_rewrite.proofs.Values.{AreRest, at_rest, rest_all, rest_next}
use Rattle.pim_rewrite.proofs.Views.{node_apart}

-- ---- what a copy has made so far
-- the needed nodes of these, renumbered
abbrev pub packed : MigView → ℕ → List Maj → List Maj
packed g n [] = []
packed g n (m ∷ rest) = cond (is_needed g n) (ren_node g m ∷ []) [] ++ packed g (suc n) rest

-- after k nodes: each ranked node has the literal of its rank, and the new nodes are the needed ones, renumbered
pub record IsCopied (g : MigView) (k : ℕ) (st : Making) : Type 0 where
  pub lits_are : (i : ℕ) (d : Lit) → i < length st.lits → IsRanked g i → get_or st.lits i d ≡ plain (rank g i)
  pub nodes_are : (j : ℕ) (d : Maj) → j < k → is_needed g (1 + g.inputs + j) ≡ true → get_or st.nodes (counted (is_needed g) (1 + g.inputs) j) d ≡ ren_node g (get_or g.nodes j none)
  pub count : length st.nodes ≡ counted (is_needed g) (1 + g.inputs) k
  pub onto : (q : ℕ) → q < length st.nodes → (j : ℕ) × (j < k) × (is_needed g (1 + g.inputs + j) ≡ true) × (counted (is_needed g) (1 + g.inputs) j ≡ q)

cond_no : (b : Bool) (v : Lit) (r : Option Lit) → b ≡ false → cond b (Some v) r ≡ r
cond_no b v r e = ap (λ (c : Bool). cond c (Some v) r) e

eqb_no : (m n : ℕ) → m ≢ n → eqb m n ≡ false
eqb_no m n e = grind (arith, nat_tests)

apart_eqb : (l m : Lit) → node l ≢ node m → eqb l.0 m.0 ≡ false
apart_eqb l m h = eqb_no l.0 m.0 (λ e. h (ap (λ (k : ℕ). k / 2) e))

node_complement : (l : Lit) → node (complement l) ≡ node l
node_complement l = elim (eqb_tells (l.0 % 2) 0) [
  | inl even ↦ let is : (complement l).0 ≡ l.0 + 1 = ap (λ (b : Bool). (cond b (l.0 + 1) (l.0 - 1))) even.0 in omega (arith, even.1)
  | inr odd ↦ let is : (complement l).0 ≡ l.0 - 1 = ap (λ (b : Bool). (cond b (l.0 + 1) (l.0 - 1))) odd.0 in omega (arith, odd.1)
]

or_no : (a b : Bool) → a ≡ false → b ≡ false → (a || b) ≡ false
or_no a b e f = ap (λ (c : Bool). c || b) e ∙ f

-- what reads three nodes is a node
not_simple : (m : Maj) → IsApart m → simplified m ≡ None
not_simple m p =
    cond_no (eqb m.x.0 m.y.0 || eqb m.x.0 m.z.0) m.x _ (or_no (eqb m.x.0 m.y.0) (eqb m.x.0 m.z.0) (apart_eqb m.x m.y p.first) (apart_eqb m.x m.z p.second))
    ∙ cond_no (eqb m.y.0 m.z.0) m.y _ (apart_eqb m.y m.z p.third)
    ∙ cond_no (eqb (complement m.x).0 m.y.0) m.z _ (apart_eqb (complement m.x) m.y (λ e. p.first (sym (node_complement m.x) ∙ e)))
    ∙ cond_no (eqb (complement m.x).0 m.z.0) m.y _ (apart_eqb (complement m.x) m.z (λ e. p.second (sym (node_complement m.x) ∙ e)))
    ∙ cond_no (eqb (complement m.y).0 m.z.0) m.x _ (apart_eqb (complement m.y) m.z (λ e. p.third (sym (node_complement m.y) ∙ e)))

-- what is made anew
pub record IsNew (inputs : ℕ) (nodes : List Maj) (m : Maj) (new : List Maj) (l : Lit) : Type 0 where
  pub grown : new ≡ nodes ++ m ∷ []
  pub lit : l ≡ plain (1 + inputs + length nodes)

answer_new : (inputs : ℕ) (nodes : List Maj) (m : Maj) (new : List Maj) (l : Lit) → IsApart m → ((p : ℕ) → p < length nodes → same_operands (get_or nodes p none) m ≡ true → ⊥) → Answer inputs nodes m new l → IsNew inputs nodes m new l
answer_new inputs nodes m new l apart other (by_rule f e) = absurd (let h : Some l ≡ None = sym f ∙ not_simple m apart in let z : ⊥ = cc in z)
answer_new inputs nodes m new l apart other (by_node f p h e s w) = absurd (other p h (s none))
answer_new inputs nodes m new l apart other (by_new f n e w) = record { grown = e; lit = w }

pub ranked_operands : (g : MigView) (k : ℕ) (m : Maj) → IsMig g → AtNode g k m → AreRanked g m
ranked_operands g k m sound at = record {
  x = inr (operand_needed g k m (node m.x) sound at (inl refl));
  y = inr (operand_needed g k m (node m.y) sound at (inr (inl refl)));
  z = inr (operand_needed g k m (node m.z) sound at (inr (inr refl)));
}

-- the moved operands are the renumbered ones
pub moved_is : (g : MigView) (k : ℕ) (m : Maj) (st : Making) → IsMig g → AtNode g k m → length st.lits ≡ 1 + g.inputs + k → IsCopied g k st → moved_node st.lits m ≡ ren_node g m
moved_is g k m st sound at len c =
    let r = ranked_operands g k m sound at in
    let ex = ap (λ (n : Maj). n.x.0) at.is in
    let ey = ap (λ (n : Maj). n.y.0) at.is in
    let ez = ap (λ (n : Maj). n.z.0) at.is in
    let x = moved_ren g st.lits m.x (c.lits_are (node m.x) (record { 0 = 0 }) (omega (arith, sound.x_before k none at.there)) r.x) in
    let y = moved_ren g st.lits m.y (c.lits_are (node m.y) (record { 0 = 0 }) (omega (arith, sound.y_before k none at.there)) r.y) in
    let z = moved_ren g st.lits m.z (c.lits_are (node m.z) (record { 0 = 0 }) (omega (arith, sound.z_before k none at.there)) r.z) in
    ap (λ (l : Lit). let n : Maj = record { x = l; y = moved st.lits m.y; z = moved st.lits m.z } in n) x
    ∙ ap (λ (l : Lit). let n : Maj = record { x = ren g m.x; y = l; z = moved st.lits m.z } in n) y
    ∙ ap (λ (l : Lit). let n : Maj = record { x = ren g m.x; y = ren g m.y; z = l } in n) z

none_same : (g : MigView) (k : ℕ) (m : Maj) (st : Making) → IsMig g → AtNode g k m → IsCopied g k st → (p : ℕ) → p < length st.nodes → same_operands (get_or st.nodes p none) (ren_node g m) ≡ true → ⊥
none_same g k m st sound at c p h same =
    let w = c.onto p h in
    let j = w.0 in
    let a = get_or g.nodes j none in
    let at_j : AtNode g j a = record { there = omega (arith, w.1, at.there); is = refl; needed = w.2 } in
    let is : get_or st.nodes p none ≡ ren_node g a = ap (λ (q : ℕ). get_or st.nodes q none) (sym w.3) ∙ c.nodes_are j none w.1 w.2 in
    let old = same_ren g a m (ranked_operands g j a sound at_j) (ranked_operands g k m sound at) (ap (λ (n : Maj). same_operands n (ren_node g m)) (sym is) ∙ same) in
    true_not_false (same_operands a m) old (ap (same_operands a) at.is ∙ sound.once j k none w.1 at.there)

-- a needed node is made anew
pub copy_new : (laws : NodeLaws) (g : MigView) (k : ℕ) (m : Maj) (st : Making) → IsMig g → AtNode g k m → length st.lits ≡ 1 + g.inputs + k → IsCopied g k st → IsNew g.inputs st.nodes (ren_node g m) (plainly g.inputs st m).nodes (plainly g.inputs st m).lit
copy_new laws g k m st sound at len c =
    let P : Maj → Type 0 = λ n. IsNew g.inputs st.nodes (ren_node g m) (made g.inputs st.nodes n).nodes (made g.inputs st.nodes n).lit in
    let n = ren_node g m in
    subst P (sym (moved_is g k m st sound at len c))
    (answer_new g.inputs st.nodes n (made g.inputs st.nodes n).nodes (made g.inputs st.nodes n).lit (ren_apart g m (ranked_operands g k m sound at) (node_apart g k m sound at))
    (none_same g k m st sound at c) (laws.answers g.inputs st.nodes n))

-- ---- one node more
lits_push : (g : MigView) (k : ℕ) (st : Making) (l : Lit) → length st.lits ≡ 1 + g.inputs + k → IsCopied g k st → (is_needed g (1 + g.inputs + k) ≡ true → l ≡ plain (rank g (1 + g.inputs + k))) → (i : ℕ) (d : Lit) → i < length (st.lits ++ l ∷ []) → IsRanked g i → get_or (st.lits ++ l ∷ []) i d ≡ plain (rank g i)
lits_push g k st l len c new i d h ranked = elim (eqb_tells i (length st.lits)) [
  | inl e ↦
      let at : i ≡ 1 + g.inputs + k = e.1 ∙ len in
      let needed : is_needed g (1 + g.inputs + k) ≡ true = elim ranked [
        | inl z ↦ absurd (omega arith)
        | inr z ↦ ap (is_needed g) (sym at) ∙ z
      ] in
      ap (λ (j : ℕ). get_or (st.lits ++ l ∷ []) j d) e.1 ∙ get_or-append_seam st.lits l [] d ∙ new needed ∙ ap (λ (j : ℕ). plain (rank g j)) (sym at)
  | inr o ↦
      let b : i < length st.lits = omega (arith, o.1, length-append st.lits (l ∷ [])) in
      get_or_append_left st.lits (l ∷ []) d i b ∙ c.lits_are i d b ranked
]

copied_new : (g : MigView) (k : ℕ) (m : Maj) (st : Making) (new : List Maj) (l : Lit) → IsMig g → AtNode g k m → length st.lits ≡ 1 + g.inputs + k → IsCopied g k st → IsNew g.inputs st.nodes (ren_node g m) new l → IsCopied g (k + 1) (record { nodes = new; lits = st.lits ++ l ∷ [] })
copied_new g k m st new l sound at len c is =
    let p = is_needed g in
    let a = 1 + g.inputs in
    let one = ap one_if at.needed in
    let more = counted_more p a k in
    let size = ap (λ (xs : List Maj). length xs) is.grown in
    let len_new = length-append st.nodes (ren_node g m ∷ []) in
    record {
      lits_are = lits_push g k st l len c (λ needed. is.lit ∙ ap plain (ap (λ (q : ℕ). 1 + g.inputs + q) c.count ∙ sym (rank_node g k)));
      nodes_are = λ j d h needed. ap (λ (xs : List Maj). get_or xs (counted p a j) d) is.grown ∙ elim (eqb_tells j k) [
        | inl e ↦
            ap (λ (q : ℕ). get_or (st.nodes ++ ren_node g m ∷ []) q d) (ap (counted p a) e.1 ∙ sym c.count)
            ∙ get_or-append_seam st.nodes (ren_node g m) [] d ∙ ap (ren_node g) (at.is ∙ ap (λ (q : ℕ). get_or g.nodes q none) (sym e.1))
        | inr o ↦
            let before : j < k = omega (arith, o.1) in
            let rises = counted_rises p a j k before needed in
            get_or_append_left st.nodes (ren_node g m ∷ []) d (counted p a j) (omega (arith, c.count)) ∙ c.nodes_are j d before needed
      ];
      count = omega (arith, c.count);
      onto = λ q h. elim (eqb_tells q (length st.nodes)) [
        | inl e ↦ (k, omega arith, at.needed, sym (e.1 ∙ c.count))
        | inr o ↦
            let w = c.onto q (omega (arith, o.1)) in
            let b = w.1 in
            (w.0, omega arith, w.2, w.3)
      ];
    }

copied_same : (g : MigView) (k : ℕ) (st : Making) (l : Lit) → is_needed g (1 + g.inputs + k) ≡ false → length st.lits ≡ 1 + g.inputs + k → IsCopied g k st → IsCopied g (k + 1) (record { nodes = st.nodes; lits = st.lits ++ l ∷ [] })
copied_same g k st l unneeded len c =
    let p = is_needed g in
    let a = 1 + g.inputs in
    let one = ap one_if unneeded in
    let more = counted_more p a k in
    record {
      lits_are = lits_push g k st l len c (λ needed. absurd (true_not_false (is_needed g (1 + g.inputs + k)) needed unneeded));
      nodes_are = λ j d h needed. elim (eqb_tells j k) [
        | inl e ↦ absurd (true_not_false (is_needed g (1 + g.inputs + j)) needed (ap (λ (q : ℕ). is_needed g (1 + g.inputs + q)) e.1 ∙ unneeded))
        | inr o ↦ c.nodes_are j d (omega (arith, o.1)) needed
      ];
      count = omega (arith, c.count);
      onto = λ q h. let w = c.onto q h in let b = w.1 in (w.0, omega arith, w.2, w.3);
    }

-- ---- the whole copy
-- what the copy has at its end
pub record Ended (g : MigView) (k : ℕ) (st : Making) (before rest : List Maj) : Type 0 where
  pub copied : IsCopied g k st
  pub nodes : st.nodes ≡ before ++ rest

append_none : (xs : List Maj) → xs ≡ xs ++ []
append_none [] = refl
append_none (x ∷ xs) = ap (λ (ys : List Maj). x ∷ ys) (append_none xs)

step_ended : (laws : NodeLaws) (g : MigView) (k n : ℕ) (m : Maj) (rest : List Maj) (st : Making) (b : Bool) → is_needed g n ≡ b → n ≡ 1 + g.inputs + k → IsMig g → AreRest g k (m ∷ rest) → length st.lits ≡ n → IsCopied g k st → Ended g (k + 1) (after (plainly g.inputs) b st m) st.nodes (cond b (ren_node g m ∷ []) [])
step_ended laws g k n m rest st true is at sound are len c =
    let needed : is_needed g (1 + g.inputs + k) ≡ true = ap (is_needed g) (sym at) ∙ is in
    let here = at_rest g k m rest are needed in
    let new = copy_new laws g k m st sound here (len ∙ at) c in
    record { copied = copied_new g k m st (plainly g.inputs st m).nodes (plainly g.inputs st m).lit sound here (len ∙ at) c new; nodes = new.grown }
step_ended laws g k n m rest st false is at sound are len c =
    record { copied = copied_same g k st (record { 0 = 0 }) (ap (is_needed g) (sym at) ∙ is) (len ∙ at) c; nodes = append_none st.nodes }

rest_ended : (laws : NodeLaws) (g : MigView) (k n : ℕ) (rest : List Maj) (st : Making) → n ≡ 1 + g.inputs + k → IsMig g → AreRest g k rest → length st.lits ≡ n → IsCopied g k st → Ended g (length g.nodes) (passed_from (plainly g.inputs) (is_needed g) st n rest) st.nodes (packed g n rest)
rest_ended laws g k n [] st at sound are len c =
    let P : ℕ → Type 0 = λ j. IsCopied g j st in
    record { copied = subst P (let e : k ≡ length g.nodes = omega (arith, are.count) in e) c; nodes = append_none st.nodes }
rest_ended laws g k n (m ∷ rest) st at sound are len c =
    let b = is_needed g n in
    let next = after (plainly g.inputs) b st m in
    let l = (stepped b (plainly g.inputs) st m).lit in
    let here = step_ended laws g k n m rest st b refl at sound are len c in
    let later = rest_ended laws g (k + 1) (suc n) rest next (omega arith) sound (rest_next g k m rest are) (omega (arith, length-append st.lits (l ∷ []))) here.copied in
    record {
      copied = later.copied;
      nodes = later.nodes ∙ ap (λ (xs : List Maj). xs ++ packed g (suc n) rest) here.nodes ∙ append_assoc st.nodes (cond b (ren_node g m ∷ []) []) (packed g (suc n) rest);
    }

begun_copied : (g : MigView) → IsCopied g 0 (begun g.inputs)
begun_copied g = record {
  lits_are = λ i d h ranked.
      let l : i < 1 + g.inputs = omega (arith, length-map-range_with_len plain 0 (1 + g.inputs)) in
      get_or-map-range_with_len plain 0 (1 + g.inputs) i i d l (omega arith) ∙ ap plain (sym (rank_input g i (omega arith)));
  nodes_are = λ j d h needed. absurd (omega arith);
  count = refl;
  onto = λ q h. absurd (omega arith);
}

pub copied : (laws : NodeLaws) (g : MigView) → IsMig g → Ended g (length g.nodes) (passed_from (plainly g.inputs) (is_needed g) (begun g.inputs) (1 + g.inputs) g.nodes) [] (packed g (1 + g.inputs) g.nodes)
copied laws g sound = rest_ended laws g 0 (1 + g.inputs) g.nodes (begun g.inputs) (omega arith) sound (rest_all g) (begun_count g.inputs) (begun_copied g)

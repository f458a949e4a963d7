-- The flip pass leaves at most one complemented operand that is no constant.
use Rattle.std.proofs.Common.{◌≡◌, ℕ, suc, ◌+◌, ◌-◌, ◌%◌, ◌<◌, ◌≤◌, Bool, true, false, cond, eqb, ltb, ◌&&◌, List, [], ◌∷◌, ◌++◌, length, get_or, refl, sym, ◌∙◌, ap, subst, arith, inl, inr, length-append}
use Rattle.std.proofs.lemmas.Bool.Decides.{nat_tests, eqb_tells}
use Rattle.std.proofs.lemmas.List.{get_or_append_left}
use Rattle.std.proofs.Math.Seq.{get_or-append_seam}
use Rattle.pim_aig.specs.Literals.{complement}
use Rattle.pim_aig.specs.declared.literal.Lit.{Lit}
use Rattle.pim_mig.specs.Laws.{Answer, NodeLaws}
use Rattle.pim_mig.specs.Laws.Answer.{by_new, by_node, by_rule}
use Rattle.pim_mig.specs.Majs.{Making}
use Rattle.pim_mig.specs.Nodes.{made}
use Rattle.pim_mig.specs.declared.node.Maj.{Maj}
use Rattle.pim_rewrite.specs.Normal.{AreUpright}
use Rattle.pim_rewrite.specs.Passes.{after, flipped, flipped_by, inversions, inverted, moved_node, opposite, passed_from, stepped}
use Rattle.pim_rewrite.proofs.Frame.{one_if}

one_at_most : (b : Bool) → one_if b ≤ 1
one_at_most true = omega arith
one_at_most false = omega arith

and_false : (b c : Bool) → c ≡ false → one_if (b && c) ≡ 0
and_false true c e = ap one_if e
and_false false c e = refl

-- a literal and its complement are not both complemented
one_inverted : (l : Lit) → inverted l + inverted (complement l) ≤ 1
one_inverted l = elim (eqb_tells (l.0 % 2) 0) [
  | inl even ↦
      let none : inverted l ≡ 0 = and_false (ltb 1 l.0) (eqb (l.0 % 2) 1) (ap (λ (k : ℕ). eqb k 1) even.1) in
      omega (arith, one_at_most (ltb 1 (complement l).0 && eqb ((complement l).0 % 2) 1))
  | inr odd ↦
      let is : (complement l).0 ≡ l.0 - 1 = ap (λ (b : Bool). cond b (l.0 + 1) (l.0 - 1)) odd.0 in
      let half : (complement l).0 % 2 ≡ 0 = omega (arith, odd.1) in
      let none : inverted (complement l) ≡ 0 = and_false (ltb 1 (complement l).0) (eqb ((complement l).0 % 2) 1) (ap (λ (k : ℕ). eqb k 1) half) in
      omega (arith, one_at_most (ltb 1 l.0 && eqb (l.0 % 2) 1))
]

opposite_few : (m : Maj) → inversions m + inversions (opposite m) ≤ 3
opposite_few m = omega (arith, one_inverted m.x, one_inverted m.y, one_inverted m.z)

pub upright_push : (nodes : List Maj) (m : Maj) → AreUpright nodes → inversions m ≤ 1 → AreUpright (nodes ++ m ∷ [])
upright_push nodes m u h = λ k d there. elim (eqb_tells k (length nodes)) [
  | inl e ↦
      let is = ap inversions (ap (λ (i : ℕ). get_or (nodes ++ m ∷ []) i d) e.1 ∙ get_or-append_seam nodes m [] d) in
      omega arith
  | inr o ↦
      let l : k < length nodes = omega (arith, o.1, length-append nodes (m ∷ [])) in
      let is = ap inversions (get_or_append_left nodes (m ∷ []) d k l) in
      omega (arith, u k d l)
]

answer_upright : (inputs : ℕ) (nodes : List Maj) (m : Maj) (new : List Maj) (l : Lit) → AreUpright nodes → inversions m ≤ 1 → Answer inputs nodes m new l → AreUpright new
answer_upright inputs nodes m new l u h (by_rule f e) = subst AreUpright (sym e) u
answer_upright inputs nodes m new l u h (by_node f p q e s w) = subst AreUpright (sym e) u
answer_upright inputs nodes m new l u h (by_new f n e w) = subst AreUpright (sym e) (upright_push nodes m u h)

made_upright : (laws : NodeLaws) (inputs : ℕ) (nodes : List Maj) (m : Maj) → AreUpright nodes → inversions m ≤ 1 → AreUpright (made inputs nodes m).nodes
made_upright laws inputs nodes m u h = answer_upright inputs nodes m (made inputs nodes m).nodes (made inputs nodes m).lit u h (laws.answers inputs nodes m)

ltb_is : (m n : ℕ) → ltb m n ≡ true → m < n
ltb_is m n h = grind (arith, nat_tests)

ltb_no : (m n : ℕ) → ltb m n ≡ false → n ≤ m
ltb_no m n h = grind (arith, nat_tests)

flip_upright : (laws : NodeLaws) (inputs : ℕ) (nodes : List Maj) (m : Maj) (b : Bool) → ltb 1 (inversions m) ≡ b → AreUpright nodes → AreUpright (flipped_by b inputs nodes m).nodes
flip_upright laws inputs nodes m true h u = made_upright laws inputs nodes (opposite m) u (omega (arith, opposite_few m, ltb_is 1 (inversions m) h))
flip_upright laws inputs nodes m false h u = made_upright laws inputs nodes m u (ltb_no 1 (inversions m) h)

step_upright : (laws : NodeLaws) (inputs : ℕ) (st : Making) (m : Maj) (b : Bool) → AreUpright st.nodes → AreUpright (stepped b (flipped inputs) st m).nodes
step_upright laws inputs st m true u = flip_upright laws inputs st.nodes (moved_node st.lits m) (ltb 1 (inversions (moved_node st.lits m))) refl u
step_upright laws inputs st m false u = u

pub rest_upright : (laws : NodeLaws) (inputs : ℕ) (needed : ℕ → Bool) (st : Making) (n : ℕ) (rest : List Maj) → AreUpright st.nodes → AreUpright (passed_from (flipped inputs) needed st n rest).nodes
rest_upright laws inputs needed st n [] u = u
rest_upright laws inputs needed st n (m ∷ rest) u =
    rest_upright laws inputs needed (after (flipped inputs) (needed n) st m) (suc n) rest (step_upright laws inputs st m (needed n) u)

pub none_upright : AreUpright []
none_upright = λ k d h. absurd (omega arith)

-- Each step keeps the nodes tidy.
use Rattle.std.proofs.Common.{◌≡◌, ◌≢◌, ℕ, ◌+◌, ◌-◌, ◌/◌, ◌%◌, ◌<◌, Bool, true, false, cond, eqb, ◌||◌, List, [], ◌∷◌, ◌++◌, length, get_or, Option, Some, None, refl, sym, ◌∙◌, ap, subst, arith, inl, inr, length-append}
use Rattle.std.proofs.lemmas.Bool.Decides.{nat_tests, eqb_tells}
use Rattle.std.proofs.lemmas.List.{get_or_append_left}
use Rattle.std.proofs.Math.Seq.{get_or-append_seam}
use Rattle.pim_aig.specs.Literals.{complement}
use Rattle.pim_aig.specs.declared.graph.And.{And}
use Rattle.pim_aig.specs.declared.literal.Lit.{Lit}
use Rattle.pim_tidy.specs.Tidied.{after, folded, joined, moved_and, same_operands, tidied_from, Tidying}
use Rattle.pim_tidy.specs.Tidy.{AreTidy, IsPlainPair}
use Rattle.pim_tidy.proofs.Steps.{Joins, joins}
use Rattle.pim_tidy.proofs.Steps.Joins.{by_folding, by_node, by_new}

none_of : (b : Bool) (v : Lit) (r : Option Lit) → cond b (Some v) r ≡ None → (b ≡ false) × (r ≡ None)
none_of true v r h = absurd (let z : ⊥ = cc in z)
none_of false v r h = (refl, h)

or_none : (a b : Bool) → (a || b) ≡ false → (a ≡ false) × (b ≡ false)
or_none true b h = absurd (let z : ⊥ = cc in z)
or_none false b h = (refl, h)

eqb_no : (m n : ℕ) → eqb m n ≡ false → m ≢ n
eqb_no m n h = grind (arith, nat_tests)

other_sign : (x : Lit) (n : ℕ) → (complement x).0 ≢ n → x.0 ≢ n → x.0 / 2 ≢ n / 2
other_sign x n apart differ = elim (eqb_tells (x.0 % 2) 0) [
  | inl even ↦
      let is : (complement x).0 ≡ x.0 + 1 = ap (λ (b : Bool). (cond b (x.0 + 1) (x.0 - 1))) even.0 in
      λ same. absurd (let z : ⊥ = omega (arith, even.1) in z)
  | inr odd ↦
      let is : (complement x).0 ≡ x.0 - 1 = ap (λ (b : Bool). (cond b (x.0 + 1) (x.0 - 1))) odd.0 in
      λ same. absurd (let z : ⊥ = omega (arith, odd.1) in z)
]

plain_pair : (a : And) → folded a.x a.y ≡ None → IsPlainPair a
plain_pair a h =
    let x = a.x in
    let y = a.y in
    let p = none_of (eqb x.0 0 || eqb y.0 0) _ _ h in
    let q = none_of (eqb x.0 1) _ _ p.1 in
    let r = none_of (eqb y.0 1) _ _ q.1 in
    let s = none_of (eqb x.0 y.0) _ _ r.1 in
    let t = none_of (eqb (complement x).0 y.0) _ _ s.1 in
    let zero_no = or_none (eqb x.0 0) (eqb y.0 0) p.0 in
    record {
      first = omega (arith, eqb_no x.0 0 zero_no.0, eqb_no x.0 1 q.0);
      second = omega (arith, eqb_no y.0 0 zero_no.1, eqb_no y.0 1 r.0);
      apart = other_sign x y.0 (eqb_no (complement x).0 y.0 t.0) (eqb_no x.0 y.0 s.0);
    }

at_end : (ands : List And) (a d : And) (k : ℕ) → k ≡ length ands → get_or (ands ++ a ∷ []) k d ≡ a
at_end ands a d k e = ap (λ (i : ℕ). get_or (ands ++ a ∷ []) i d) e ∙ get_or-append_seam ands a [] d

tidy_push : (ands : List And) (a : And) → AreTidy ands → IsPlainPair a → ((j : ℕ) (d : And) → j < length ands → same_operands (get_or ands j d) a ≡ false) → AreTidy (ands ++ a ∷ [])
tidy_push ands a t pair none =
    let count = length-append ands (a ∷ []) in
    record {
      each = λ k d h. elim (eqb_tells k (length ands)) [
        | inl e ↦ subst IsPlainPair (sym (at_end ands a d k e.1)) pair
        | inr o ↦ let l : k < length ands = omega (arith, o.1) in subst IsPlainPair (sym (get_or_append_left ands (a ∷ []) d k l)) (t.each k d l)
      ];
      once = λ j k d before h. elim (eqb_tells k (length ands)) [
        | inl e ↦
            let l : j < length ands = omega (arith, e.1) in
            ap (λ (b : And). same_operands b (get_or (ands ++ a ∷ []) k d)) (get_or_append_left ands (a ∷ []) d j l)
            ∙ ap (same_operands (get_or ands j d)) (at_end ands a d k e.1) ∙ none j d l
        | inr o ↦
            let l : k < length ands = omega (arith, o.1) in
            ap (λ (b : And). same_operands b (get_or (ands ++ a ∷ []) k d)) (get_or_append_left ands (a ∷ []) d j (omega arith))
            ∙ ap (same_operands (get_or ands j d)) (get_or_append_left ands (a ∷ []) d k l) ∙ t.once j k d before l
      ];
    }

join_tidy : (inputs : ℕ) (ands : List And) (a : And) (new : List And) (l : Lit) → AreTidy ands → Joins inputs ands a new l → AreTidy new
join_tidy inputs ands a new l t (by_folding f e) = subst AreTidy (sym e) t
join_tidy inputs ands a new l t (by_node f p h e s m) = subst AreTidy (sym e) t
join_tidy inputs ands a new l t (by_new f n e m) = subst AreTidy (sym e) (tidy_push ands a t (plain_pair a f) n)

rest_tidy : (inputs : ℕ) (st : Tidying) (rest : List And) → AreTidy st.ands → AreTidy (tidied_from inputs st rest).ands
rest_tidy inputs st [] t = t
rest_tidy inputs st (a ∷ rest) t =
    let b = moved_and st.lits a in
    let now = joined inputs st.ands b in
    rest_tidy inputs (after inputs st a) rest (join_tidy inputs st.ands b now.ands now.lit t (joins inputs st.ands b))

pub all_tidy : (inputs : ℕ) (st : Tidying) (rest : List And) → st.ands ≡ [] → AreTidy (tidied_from inputs st rest).ands
all_tidy inputs st rest none = rest_tidy inputs st rest (let n = ap (λ (xs : List And). length xs) none in record {
  each = λ k d h. absurd (omega arith);
  once = λ j k d b h. absurd (omega arith);
})

-- What one node more changes, and what all of them keep.
use Rattle.std.proofs.Common.{◌≡◌, ◌⊎◌, ℕ, zero, suc, ◌+◌, ◌<◌, ◌≤◌, Bool, true, false, cond, List, [], ◌∷◌, ◌++◌, length, get_or, Option, Some, None, refl, sym, ◌∙◌, ap, subst, arith, inl, inr, length-append}
use Rattle.std.proofs.lemmas.Bool.Decides.{eqb_tells}
use Rattle.std.proofs.lemmas.List.{get_or_append_left}
use Rattle.pim_aig.specs.Graph.{AigView}
use Rattle.pim_aig.specs.Literals.{plain}
use Rattle.pim_aig.specs.declared.graph.And.{And}
use Rattle.pim_aig.specs.declared.literal.Lit.{Lit}
use Rattle.pim_tidy.specs.Tidied.{after, folded, joined, joined_by, Joined, moved_and, place_of, same_operands, tidied_from, Tidying}
use Rattle.pim_aig.specs.Moving.{moved}

-- ---- places
pub place_within : (ands : List And) (a : And) → place_of ands a ≤ length ands
place_within [] a = omega arith
place_within (b ∷ bs) a =
    elim (same_operands b a) as (λ t. cond t 0 (suc (place_of bs a)) ≤ suc (length bs)) [
      | true ↦ omega arith
      | false ↦ omega (arith, place_within bs a)
    ]

bool_cases : (b : Bool) → (b ≡ true) ⊎ (b ≡ false)
bool_cases true = inl refl
bool_cases false = inr refl

-- the node at the place reads the same
pub place_same : (ands : List And) (a d : And) → place_of ands a < length ands → same_operands (get_or ands (place_of ands a) d) a ≡ true
place_same [] a d h = absurd (omega arith)
place_same (b ∷ bs) a d h = elim (bool_cases (same_operands b a)) [
  | inl t ↦ ap (λ (k : ℕ). same_operands (get_or (b ∷ bs) k d) a) (ap (λ (v : Bool). cond v 0 (suc (place_of bs a))) t) ∙ t
  | inr f ↦
      let at : place_of (b ∷ bs) a ≡ suc (place_of bs a) = ap (λ (v : Bool). cond v 0 (suc (place_of bs a))) f in
      ap (λ (k : ℕ). same_operands (get_or (b ∷ bs) k d) a) at ∙ place_same bs a d (omega arith)
]

none_at_each : (b : And) (bs : List And) (a d : And) (j : ℕ) → same_operands b a ≡ false → ((i : ℕ) (d : And) → i < length bs → same_operands (get_or bs i d) a ≡ false) → j < suc (length bs) → same_operands (get_or (b ∷ bs) j d) a ≡ false
none_at_each b bs a d zero f rest h = f
none_at_each b bs a d (suc j) f rest h = rest j d (omega arith)

-- where there is no place no node reads the same
pub place_none : (ands : List And) (a : And) → place_of ands a ≡ length ands → (j : ℕ) (d : And) → j < length ands → same_operands (get_or ands j d) a ≡ false
place_none [] a e j d h = absurd (omega arith)
place_none (b ∷ bs) a e j d h = elim (bool_cases (same_operands b a)) [
  | inl t ↦ let z : place_of (b ∷ bs) a ≡ 0 = ap (λ (v : Bool). cond v 0 (suc (place_of bs a))) t in absurd (omega arith)
  | inr f ↦
      let at : place_of (b ∷ bs) a ≡ suc (place_of bs a) = ap (λ (v : Bool). cond v 0 (suc (place_of bs a))) f in
      none_at_each b bs a d j f (place_none bs a (omega arith)) h
]

-- ---- what is there stays
-- the first list is a front of the second
pub record IsFront (old new : List And) : Type 0 where
  pub few : length old ≤ length new
  pub same : (k : ℕ) (d : And) → k < length old → get_or new k d ≡ get_or old k d

pub front_refl : (ands : List And) → IsFront ands ands
front_refl ands = record { few = omega arith; same = λ k d h. refl }

pub front_both : (a b c : List And) → IsFront a b → IsFront b c → IsFront a c
front_both a b c f g = record {
  few = omega (arith, f.few, g.few);
  same = λ k d h. g.same k d (omega (arith, f.few)) ∙ f.same k d h;
}

front_push : (xs : List And) (x : And) → IsFront xs (xs ++ x ∷ [])
front_push xs x = record { few = omega (arith, length-append xs (x ∷ [])); same = λ k d h. get_or_append_left xs (x ∷ []) d k h }

-- what one join gives: the nodes are there still, at most one is new, and the literal is what the two fold to, or that of a node
-- which reads the same
pub data Joins (inputs : ℕ) (ands : List And) (a : And) (new : List And) (l : Lit) : Type 0 where
  by_folding : folded a.x a.y ≡ Some l → new ≡ ands → Joins inputs ands a new l
  by_node : folded a.x a.y ≡ None → (p : ℕ) → p < length ands → new ≡ ands → ((d : And) → same_operands (get_or ands p d) a ≡ true) → l ≡ plain (1 + inputs + p) → Joins inputs ands a new l
  by_new : folded a.x a.y ≡ None → ((j : ℕ) (d : And) → j < length ands → same_operands (get_or ands j d) a ≡ false) → new ≡ ands ++ a ∷ [] → l ≡ plain (1 + inputs + length ands) → Joins inputs ands a new l

option_cases : (o : Option Lit) → (o ≡ None) ⊎ ((l : Lit) × (o ≡ Some l))
option_cases None = inl refl
option_cases (Some l) = inr (l, refl)

pub joins : (inputs : ℕ) (ands : List And) (a : And) → Joins inputs ands a (joined inputs ands a).ands (joined inputs ands a).lit
joins inputs ands a = elim (option_cases (folded a.x a.y)) [
  | inr s ↦
      let whole = ap (λ (o : Option Lit). joined_by o inputs ands a) s.1 in
      by_folding (s.1 ∙ ap Some (sym (ap (λ (j : Joined). j.lit) whole))) (ap (λ (j : Joined). j.ands) whole)
  | inl n ↦
      let whole = ap (λ (o : Option Lit). joined_by o inputs ands a) n in
      let p = place_of ands a in
      elim (eqb_tells p (length ands)) [
        | inl e ↦ by_new n (place_none ands a e.1)
            (ap (λ (j : Joined). j.ands) whole ∙ ap (λ (b : Bool). cond b (ands ++ a ∷ []) ands) e.0)
            (ap (λ (j : Joined). j.lit) whole ∙ ap (λ (k : ℕ). plain (1 + inputs + k)) e.1)
        | inr o ↦
            let some : p < length ands = let w = place_within ands a in omega (arith, o.1) in
            by_node n p some (ap (λ (j : Joined). j.ands) whole ∙ ap (λ (b : Bool). cond b (ands ++ a ∷ []) ands) o.0) (λ d. place_same ands a d some) (ap (λ (j : Joined). j.lit) whole)
      ]
]

pub joins_front : (inputs : ℕ) (ands : List And) (a : And) (new : List And) (l : Lit) → Joins inputs ands a new l → IsFront ands new
joins_front inputs ands a new l (by_folding f e) = subst (IsFront ands) (sym e) (front_refl ands)
joins_front inputs ands a new l (by_node f p h e s m) = subst (IsFront ands) (sym e) (front_refl ands)
joins_front inputs ands a new l (by_new f n e m) = subst (IsFront ands) (sym e) (front_push ands a)

pub joins_few : (inputs : ℕ) (ands : List And) (a : And) (new : List And) (l : Lit) → Joins inputs ands a new l → length new ≤ length ands + 1
joins_few inputs ands a new l (by_folding f e) = let c = ap (λ (xs : List And). length xs) e in omega arith
joins_few inputs ands a new l (by_node f p h e s m) = let c = ap (λ (xs : List And). length xs) e in omega arith
joins_few inputs ands a new l (by_new f n e m) = let c = ap (λ (xs : List And). length xs) e in omega (arith, length-append ands (a ∷ []))

-- the nodes after all of the rest begin with those so far, and are no more than these and the rest
pub rest_front : (inputs : ℕ) (st : Tidying) (rest : List And) → IsFront st.ands (tidied_from inputs st rest).ands
rest_front inputs st [] = front_refl st.ands
rest_front inputs st (a ∷ rest) =
    let b = moved_and st.lits a in
    let now = joined inputs st.ands b in
    front_both st.ands now.ands (tidied_from inputs (after inputs st a) rest).ands (joins_front inputs st.ands b now.ands now.lit (joins inputs st.ands b)) (rest_front inputs (after inputs st a) rest)

pub rest_few : (inputs : ℕ) (st : Tidying) (rest : List And) → length (tidied_from inputs st rest).ands ≤ length st.ands + length rest
rest_few inputs st [] = omega arith
rest_few inputs st (a ∷ rest) =
    let b = moved_and st.lits a in
    let now = joined inputs st.ands b in
    omega (arith, joins_few inputs st.ands b now.ands now.lit (joins inputs st.ands b), rest_few inputs (after inputs st a) rest)

-- ---- the loop over the nodes
pub step_whole : (inputs later : ℕ) (ands new before rest : List And) (lits grown : List Lit) (a : And) (x y l : Lit) (whole : Tidying) → before ≡ a ∷ rest → tidied_from inputs (record { ands = ands; lits = lits }) before ≡ whole → x ≡ moved lits a.x → y ≡ moved lits a.y → l ≡ (joined inputs ands (record { x = x; y = y })).lit → new ≡ (joined inputs ands (record { x = x; y = y })).ands → grown ≡ lits ++ l ∷ [] → later ≡ inputs → tidied_from later (record { ands = new; lits = grown }) rest ≡ whole
step_whole inputs later ands new before rest lits grown a x y l whole cut so_far is_x is_y is_l is_new is_grown same =
    let here : And = record { x = x; y = y } in
    let there : here ≡ moved_and lits a = ap (λ (p : Lit). let r : And = record { x = p; y = y } in r) is_x ∙ ap (λ (p : Lit). let r : And = record { x = moved lits a.x; y = p } in r) is_y in
    let j = joined inputs ands (moved_and lits a) in
    let e : new ≡ j.ands = is_new ∙ ap (λ (b : And). (joined inputs ands b).ands) there in
    let f : l ≡ j.lit = is_l ∙ ap (λ (b : And). (joined inputs ands b).lit) there in
    let h : grown ≡ lits ++ j.lit ∷ [] = is_grown ∙ ap (λ (k : Lit). lits ++ k ∷ []) f in
    ap (λ (i : ℕ). tidied_from i (record { ands = new; lits = grown }) rest) same
    ∙ ap (λ (xs : List And). tidied_from inputs (record { ands = xs; lits = grown }) rest) e
    ∙ ap (λ (xs : List Lit). tidied_from inputs (record { ands = j.ands; lits = xs }) rest) h
    ∙ sym (ap (tidied_from inputs (record { ands = ands; lits = lits })) cut) ∙ so_far

-- a graph by its parts
pub graph_is : (g : AigView) (inputs : ℕ) (outputs : List Lit) → g.inputs ≡ inputs → g.outputs ≡ outputs → g ≡ record { inputs = inputs; ands = g.ands; outputs = outputs }
graph_is g inputs outputs e f =
    ap (λ (k : ℕ). let r : AigView = record { inputs = k; ands = g.ands; outputs = g.outputs } in r) e
    ∙ ap (λ (os : List Lit). let r : AigView = record { inputs = inputs; ands = g.ands; outputs = os } in r) f

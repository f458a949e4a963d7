-- Gates that cells hold, and the program's own order of its gates.
use Rattle.std.proofs.Common.{◌≡◌, ℕ, zero, suc, ◌+◌, ◌<◌, ◌≤◌, Bool, true, false, ◌||◌, cond, List, [], ◌∷◌, ◌++◌, length, set, take, get_or, Option, Some, None, inl, inr, refl, sym, ap, subst, ◌∙◌, arith, get_or-set_other}
use Rattle.std.specs.Prelude.{All}
use Rattle.std.specs.List.{range_with_len}
use Rattle.std.proofs.lemmas.Bool.{cases_eq, eq-eqb, ne_eqb}
use Rattle.std.proofs.lemmas.List.Elements.{All-nil, All-push, All-weaker}
use Rattle.std.proofs.lemmas.List.FromFn.{length-range_with_len, get_or-range_with_len}
use Rattle.pim_graph.specs.Graphs.{GraphView, IsGraph, has, kids_of}
use Rattle.pim_graph.specs.Peaks.{IsPlaced}
use Rattle.pim_life.specs.NorGraphs.{with_gate}
use Rattle.pim_life.specs.inner.Drawing.{Holds, emptied, gate_in, gates_held}

pub none_there : (held : List (Option ℕ)) (d : ℕ) → gate_in (set held d None) d ≡ None
none_there [] d = refl
none_there (x ∷ xs) zero = refl
none_there (x ∷ xs) (suc d) = none_there xs d

some_there : (held : List (Option ℕ)) (t n gate : ℕ) → gate_in (set held t (Some n)) t ≡ Some gate → n ≡ gate
some_there [] t n gate is = cc
some_there (x ∷ xs) zero n gate is = cc
some_there (x ∷ xs) (suc t) n gate is = some_there xs t n gate is

-- a cell that is emptied
set_none : (held : List (Option ℕ)) (d c gate : ℕ) → gate_in (set held d None) c ≡ Some gate → gate_in held c ≡ Some gate
set_none held d c gate is =
    elim (cases_eq d c) [
      | inl same ↦
          let none : gate_in (set held d None) c ≡ None = subst (λ (x : ℕ). gate_in (set held d None) x ≡ None) same (none_there held d) in
          let wrong : None ≡ Some gate = sym none ∙ is in cc
      | inr other ↦ sym (get_or-set_other held d c None None (λ same. other (sym same))) ∙ is
    ]

pub holds_emptied : (kids : List (List ℕ)) (cs : List ℕ) (held : List (Option ℕ)) → Holds kids held → Holds kids (emptied cs held)
holds_emptied kids [] held holds = holds
holds_emptied kids (c ∷ cs) held holds = holds_emptied kids cs (set held c None) (λ d gate is. holds d gate (set_none held c d gate is))

with_gate_within : (n : ℕ) (gates : List ℕ) (o : Option ℕ) → ((gate : ℕ) → o ≡ Some gate → gate < n) → All (λ x. x < n) gates →
    All (λ x. x < n) (with_gate gates o)
with_gate_within n gates None small all = all
with_gate_within n gates (Some gate) small all =
    either (has gates gate) (All-push (λ x. x < n) gates gate all (small gate refl))
  where
    either : (b : Bool) → All (λ x. x < n) (gates ++ gate ∷ []) → All (λ x. x < n) (cond b gates (gates ++ gate ∷ []))
    either true more = all
    either false more = more

gates_within_from : (kids : List (List ℕ)) (held : List (Option ℕ)) (gates cs : List ℕ) → Holds kids held → All (λ x. x < length kids) gates →
    All (λ x. x < length kids) (gates_held held gates cs)
gates_within_from kids held gates [] holds all = all
gates_within_from kids held gates (c ∷ cs) holds all =
    gates_within_from kids held (with_gate gates (gate_in held c)) cs holds (with_gate_within (length kids) gates (gate_in held c) (holds c) all)

pub gates_within : (kids : List (List ℕ)) (held : List (Option ℕ)) (cs gates : List ℕ) → Holds kids held → gates ≡ gates_held held [] cs →
    All (λ x. x < length kids) gates
gates_within kids held cs gates holds is =
    subst (λ (gs : List ℕ). All (λ x. x < length kids) gs) (sym is)
    (gates_within_from kids held [] cs holds (All-nil (λ x. x < length kids)))

-- ---- the program's own order

pub range_push : (a n j : ℕ) → a + n ≡ j → range_with_len a (n + 1) ≡ range_with_len a n ++ j ∷ []
range_push a zero j at =
    let same : a ≡ j = omega arith in
    ap (λ (x : ℕ). x ∷ []) same
range_push a (suc n) j at =
    let next : suc n + 1 ≡ suc (n + 1) = omega arith in
    rw next (ap (λ (xs : List ℕ). a ∷ xs) (range_push (a + 1) n j (omega arith)))

take-range : (a n p : ℕ) → p ≤ n → take p (range_with_len a n) ≡ range_with_len a p
take-range a n zero small = refl
take-range a zero (suc p) small = absurd (omega arith)
take-range a (suc n) (suc p) small = ap (λ xs. a ∷ xs) (take-range (a + 1) n p (omega arith))

has-range : (a n x : ℕ) → a ≤ x → x < a + n → has (range_with_len a n) x ≡ true
has-range a zero x low high = absurd (omega arith)
has-range a (suc n) x low high =
    elim (cases_eq a x) [
      | inl same ↦ ap (λ (b : Bool). b || has (range_with_len (a + 1) n) x) (eq-eqb a x same)
      | inr other ↦
          ap (λ (b : Bool). b || has (range_with_len (a + 1) n) x) (ne_eqb a x other) ∙ has-range (a + 1) n x (omega arith) (omega arith)
    ]

has-range-past : (a n x : ℕ) → a + n ≤ x → has (range_with_len a n) x ≡ false
has-range-past a zero x past = refl
has-range-past a (suc n) x past =
    ap (λ (b : Bool). b || has (range_with_len (a + 1) n) x) (ne_eqb a x (λ same. omega arith)) ∙ has-range-past (a + 1) n x (omega arith)

pub own_placed : (g : GraphView) → IsGraph g → IsPlaced g (range_with_len 0 (length g.kids))
own_placed g sound =
    let n = length g.kids in
    record {
      there = λ k d lt.
          let small : k < n = omega (arith, length-range_with_len 0 n) in
          let is : get_or (range_with_len 0 n) k d ≡ 0 + k = get_or-range_with_len 0 n k d small in
          omega (arith, is);
      once = λ p lt.
          let small : p < n = omega (arith, length-range_with_len 0 n) in
          let is : get_or (range_with_len 0 n) p 0 ≡ 0 + p = get_or-range_with_len 0 n p 0 small in
          ap (λ xs. has xs (get_or (range_with_len 0 n) p 0)) (take-range 0 n p (omega arith))
          ∙ has-range-past 0 p (get_or (range_with_len 0 n) p 0) (omega (arith, is));
      after = λ p lt.
          let small : p < n = omega (arith, length-range_with_len 0 n) in
          let is : p ≡ get_or (range_with_len 0 n) p 0 = omega (arith, get_or-range_with_len 0 n p 0 small) in
          let kids : All (λ c. has (take p (range_with_len 0 n)) c ≡ true) (kids_of g p) =
          All-weaker (λ c. c < p) (λ c. has (take p (range_with_len 0 n)) c ≡ true)
          (λ c below. ap (λ xs. has xs c) (take-range 0 n p (omega arith)) ∙ has-range 0 p c (omega arith) (omega arith))
          (kids_of g p) (sound.before p small) in
          subst (λ (x : ℕ). All (λ c. has (take p (range_with_len 0 n)) c ≡ true) (kids_of g x)) is kids;
    }

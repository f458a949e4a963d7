-- The order with temporaries is sound: each gate once and after what it reads, needed after its place; what is taken over is needed no
-- longer; and it holds one value more at once, at most, than the order without.
use Rattle.std.proofs.Common.{◌≡◌, ℕ, ◌+◌, ◌*◌, ◌/◌, ◌%◌, ◌<◌, ◌≤◌, Bool, true, false, cond, eqb, ◌||◌, List, [], ◌∷◌, ◌++◌, length, get_or, take, drop, All, Option, Some, None, refl, sym, ◌∙◌, ap, subst, arith, inl, inr, length-append}
use Rattle.std.proofs.lemmas.Bool.{false≢true}
use Rattle.pim_aig.specs.declared.literal.Lit.{Lit}
use Rattle.pim_graph.specs.Allotments.{IsOver, taken_at}
use Rattle.pim_graph.specs.Graphs.{has, kids_of}
use Rattle.pim_graph.specs.Peaks.{IsPlaced, needed, read_by}
use Rattle.pim_mig.specs.Graph.{MigView, size}
use Rattle.pim_rm3.specs.Steps.{maj_at, mig_gates, mig_graph, step_of}
use Rattle.pim_rm3.specs.Taking.{can_be_taken}
use Rattle.pim_rm3.specs.Temporaries.{full_graph, full_order, full_over, gate_number, own_temporary, step_takes, temporary_of, with_temporary}
use Rattle.pim_rm3.specs.declared.step.Step.TheVariants as step
use Rattle.pim_rm3.proofs.Lists.{all_has, or_true, split, has_whole, has_here, one_has, has_front, has_back, has_either, in_drop}
use Rattle.pim_rm3.proofs.Bounds.{get_or_same}
use Rattle.pim_rm3.proofs.FullKids.{FullKid, full_kid, temporary_kid, ReadsNode, reads_gate, reads_own, vote_third}
use Rattle.pim_rm3.proofs.FullKids.FullKid.{node_kid, own_kid}
use Rattle.pim_rm3.proofs.FullOrders.{flat, AtGate, AtTemporary, place, here_is, after_is, own_only, has_flat, flat_has, needed_alone, needed_with}
use Rattle.pim_rm3.proofs.RoleLaws.{least_in}
use Rattle.pim_rm3.proofs.Rows.{bool_cases}
use Rattle.pim_rm3.proofs.StepLaws.{StepKind, step_kind, role_at, full_count, order_there}
use Rattle.pim_rm3.proofs.StepLaws.StepKind.{constant, inverse, input, vote}
use Rattle.pim_rm3.proofs.Stepping.{read_before}
use Rattle.pim_rm3.proofs.TakenCells.{IsTakeable, spent, takeable}

-- what is known of the order without temporaries
pub record IsOrdered (g : MigView) : Type 0 where
  pub placed : IsPlaced (mig_graph g) (mig_gates g)
  pub there : All (λ l. l < 2 * size g) (mig_gates g)
  pub needs : (p : ℕ) → p < length (mig_gates g) → needed (mig_graph g) (drop (p + 1) (mig_gates g)) (get_or (mig_gates g) p 0) ≡ true

-- what the orders of graphs give
pub ordered : (g : MigView) → IsPlaced (mig_graph g) (mig_gates g) → ((p : ℕ) → p < length (mig_gates g) → needed (mig_graph g) (drop (p + 1) (mig_gates g)) (get_or (mig_gates g) p 0) ≡ true) → IsOrdered g
ordered g placed needs = record { placed = placed; there = order_there g placed; needs = needs }

-- all of a list is so where each that the list has is so
pub all_from : (P : ℕ → Type 0) (xs : List ℕ) → ((x : ℕ) → has xs x ≡ true → P x) → All P xs
all_from P xs h = λ k d b. subst P (get_or_same xs k 0 d b) (h (get_or xs k 0) (has_whole xs k b))

-- the gates of the order are literals of the graph
pub below : (g : MigView) (l : ℕ) → IsOrdered g → has (mig_gates g) l ≡ true → l < 2 * size g
below g l s h = all_has (λ k. k < 2 * size g) (mig_gates g) l s.there h

pub no_true : (b : Bool) → (b ≡ true → ⊥) → b ≡ false
no_true true h = absurd (h refl)
no_true false h = refl

-- ---- each gate once, and after what it reads
flat_there : (g : MigView) (xs : List ℕ) (n : ℕ) → ((l : ℕ) → has xs l ≡ true → l < 2 * size g) → has (flat g xs) n ≡ true → n < 2 * (2 * size g)
flat_there g [] n there h = absurd (false≢true h)
flat_there g (x ∷ xs) n there h =
    let b : x < 2 * size g = there x (has_here x x xs refl) in
    elim (has_either (with_temporary g x) (flat g xs) n h) [
      | inl a ↦ elim (split (own_temporary x (temporary_of (step_of g x))) (gate_number x) n a) [
        | inl o ↦ let e = own_only x n (temporary_of (step_of g x)) o in omega arith
        | inr s ↦ omega arith
      ]
      | inr r ↦ flat_there g xs n (λ l q. there l (or_true (eqb x l) (has xs l) q)) r
    ]

once_gate : (g : MigView) (p : ℕ) → IsOrdered g → p < length (full_order g) → AtGate g (mig_gates g) (full_order g) (full_over g) p → has (take p (full_order g)) (get_or (full_order g) p 0) ≡ true → ⊥
once_gate g p s h t there =
    let xs = mig_gates g in
    let x = get_or xs t.i 0 in
    let o = temporary_of (step_of g x) in
    let here = here_is (full_order g) (flat g (drop (t.i + 1) xs)) p (gate_number x) h t.back in
    let again : has (flat g (take t.i xs) ++ own_temporary x o) (gate_number x) ≡ true = sym (ap (λ (ys : List ℕ). has ys (gate_number x)) t.front) ∙ (sym (ap (has (take p (full_order g))) here) ∙ there) in
    elim (has_either (flat g (take t.i xs)) (own_temporary x o) (gate_number x) again) [
      | inl a ↦ false≢true (sym (s.placed.once t.i t.within) ∙ has_flat g (take t.i xs) x (gate_number x) (inl refl) a)
      | inr b ↦ let e = own_only x (gate_number x) o b in absurd (omega arith)
    ]

once_temporary : (g : MigView) (p : ℕ) → IsOrdered g → p < length (full_order g) → AtTemporary g (mig_gates g) (full_order g) (full_over g) p → has (take p (full_order g)) (get_or (full_order g) p 0) ≡ true → ⊥
once_temporary g p s h t there =
    let xs = mig_gates g in
    let x = get_or xs t.i 0 in
    let here = here_is (full_order g) (gate_number x ∷ flat g (drop (t.i + 1) xs)) p (2 * x) h t.back in
    let again : has (flat g (take t.i xs)) (2 * x) ≡ true = sym (ap (λ (ys : List ℕ). has ys (2 * x)) t.front) ∙ (sym (ap (has (take p (full_order g))) here) ∙ there) in
    false≢true (sym (s.placed.once t.i t.within) ∙ has_flat g (take t.i xs) x (2 * x) (inr refl) again)

-- a node that a gate reads stands before it, with temporaries too
node_before : (g : MigView) (i k : ℕ) → IsOrdered g → i < length (mig_gates g) → ReadsNode g (get_or (mig_gates g) i 0) k → has (flat g (take i (mig_gates g))) (gate_number k) ≡ true
node_before g i k s h r = flat_has g (take i (mig_gates g)) k (read_before (mig_graph g) (mig_gates g) i k s.placed h r)

kid_before : (g : MigView) (i n : ℕ) → IsOrdered g → i < length (mig_gates g) → FullKid g (get_or (mig_gates g) i 0) n → has (flat g (take i (mig_gates g)) ++ own_temporary (get_or (mig_gates g) i 0) (temporary_of (step_of g (get_or (mig_gates g) i 0)))) n ≡ true
kid_before g i n s h (node_kid k e r) =
    let xs = mig_gates g in
    let x = get_or xs i 0 in
    let own = own_temporary x (temporary_of (step_of g x)) in
    has_front (flat g (take i xs)) own n (ap (has (flat g (take i xs))) e ∙ node_before g i k s h r)
kid_before g i n s h (own_kid w e is) =
    let xs = mig_gates g in
    let x = get_or xs i 0 in
    has_back (flat g (take i xs)) (own_temporary x (temporary_of (step_of g x))) n
    (ap (λ (o : Option Lit). has (own_temporary x o) n) is ∙ one_has (2 * x) n (sym e))

pub full_placed : (g : MigView) → IsOrdered g → IsPlaced (full_graph g) (full_order g)
full_placed g s =
    let xs = mig_gates g in
    let fl = full_order g in
    let v = full_graph g in
    record {
      there = all_from (λ n. n < length v.kids) fl (λ n h. let b = flat_there g xs n (λ l q. below g l s q) h in omega (arith, full_count g));
      once = λ p h. no_true (has (take p fl) (get_or fl p 0)) (λ t. elim (place g xs p h) [ inl a ↦ once_gate g p s h a t | inr b ↦ once_temporary g p s h b t ]);
      after = λ p h. all_from (λ c. has (take p fl) c ≡ true) (kids_of v (get_or fl p 0)) (λ n kid. elim (place g xs p h) [
        | inl a ↦
            let x = get_or xs a.i 0 in
            let b = below g x s (has_whole xs a.i a.within) in
            let here = here_is fl (flat g (drop (a.i + 1) xs)) p (gate_number x) h a.back in
            ap (λ (ys : List ℕ). has ys n) a.front ∙ kid_before g a.i n s a.within (full_kid g x n b (sym (ap (λ (k : ℕ). has (kids_of v k) n) here) ∙ kid))
        | inr t ↦
            let x = get_or xs t.i 0 in
            let b = below g x s (has_whole xs t.i t.within) in
            let here = here_is fl (gate_number x ∷ flat g (drop (t.i + 1) xs)) p (2 * x) h t.back in
            let q = temporary_kid g x n b (sym (ap (λ (k : ℕ). has (kids_of v k) n) here) ∙ kid) in
            ap (λ (ys : List ℕ). has ys n) t.front ∙ ap (has (flat g (take t.i xs))) q.same ∙ node_before g t.i q.node s t.within q.reads
      ]);
    }

-- ---- each gate is needed after its place
pub full_needed : (g : MigView) → IsOrdered g → (p : ℕ) → p < length (full_order g) → needed (full_graph g) (drop (p + 1) (full_order g)) (get_or (full_order g) p 0) ≡ true
full_needed g s p h =
    let xs = mig_gates g in
    let fl = full_order g in
    let v = full_graph g in
    elim (place g xs p h) [
      | inl a ↦
          let x = get_or xs a.i 0 in
          let rest = flat g (drop (a.i + 1) xs) in
          let here = here_is fl rest p (gate_number x) h a.back in
          let after = after_is fl rest p (gate_number x) h a.back in
          ap (λ (ys : List ℕ). needed v ys (get_or fl p 0)) after ∙ ap (needed v rest) here
          ∙ needed_with g (drop (a.i + 1) xs) x (λ l q. below g l s (in_drop xs (a.i + 1) l q)) (s.needs a.i a.within)
      | inr t ↦
          let x = get_or xs t.i 0 in
          let b = below g x s (has_whole xs t.i t.within) in
          let rest = gate_number x ∷ flat g (drop (t.i + 1) xs) in
          let here = here_is fl rest p (2 * x) h t.back in
          let after = after_is fl rest p (2 * x) h t.back in
          ap (λ (ys : List ℕ). needed v ys (get_or fl p 0)) after ∙ ap (needed v rest) here
          ∙ ap (λ (r : Bool). (r || read_by v (flat g (drop (t.i + 1) xs)) (2 * x)) || has v.roots (2 * x)) (reads_own g x t.wanted b t.wants)
    ]

-- ---- what is taken over
pub over_is : (g : MigView) (l : ℕ) → (role_at g l).over ≡ can_be_taken g.inputs (mig_graph g) (role_at g l).z.0
over_is g l =
    let m = maj_at g l in
    least_in (λ r. r.over ≡ can_be_taken g.inputs (mig_graph g) r.z.0) m (can_be_taken g.inputs (mig_graph g) m.x.0) (can_be_taken g.inputs (mig_graph g) m.y.0) (can_be_taken g.inputs (mig_graph g) m.z.0) refl refl refl refl refl refl

-- a gate that takes a cell over is a majority node, and takes that of its third operand
pub record IsTaker (g : MigView) (l c : ℕ) : Type 0 where
  pub even : l % 2 ≡ 0
  pub above : g.inputs < l / 2
  pub is : step_of g l ≡ step.Vote (role_at g l)
  pub over : (role_at g l).over ≡ true
  pub same : c ≡ gate_number (role_at g l).z.0
  pub third : IsTakeable g.inputs (mig_graph g) (role_at g l).z.0

some_is : (a c : ℕ) → Some a ≡ Some c → c ≡ a
some_is a c e = cc

none_takes : (c : ℕ) → None ≡ Some c → ⊥
none_takes c e = cc

taker_by : (g : MigView) (l c : ℕ) → StepKind g l → step_takes (step_of g l) ≡ Some c → IsTaker g l c
taker_by g l c (constant z is) e = absurd (none_takes c (sym (ap step_takes is) ∙ e))
taker_by g l c (input s even few is) e = absurd (none_takes c (sym (ap step_takes is) ∙ e))
taker_by g l c (inverse some odd is) e = absurd (none_takes c (sym (ap step_takes is) ∙ e))
taker_by g l c (vote even above is) e =
    let r = role_at g l in
    let open_step = ap step_takes is in
    elim (bool_cases r.over) [
      | inl t ↦ record {
        even = even;
        above = above;
        is = is;
        over = t;
        same = some_is (gate_number r.z.0) c (sym (open_step ∙ ap (λ (b : Bool). cond b (Some (gate_number r.z.0)) None) t) ∙ e);
        third = takeable g.inputs (mig_graph g) r.z.0 (sym (over_is g l) ∙ t);
      }
      | inr f ↦ absurd (none_takes c (sym (open_step ∙ ap (λ (b : Bool). cond b (Some (gate_number r.z.0)) None) f) ∙ e))
    ]

pub taker : (g : MigView) (l c : ℕ) → step_takes (step_of g l) ≡ Some c → IsTaker g l c
taker g l c e = taker_by g l c (step_kind g l) e

-- a literal that can be taken over is the plain one of a node that the gate reads
pub third_read : (g : MigView) (l c : ℕ) → l < 2 * size g → IsTaker g l c → ReadsNode g l (role_at g l).z.0
third_read g l c b t =
    let r = role_at g l in
    let same : 2 * (r.z.0 / 2) ≡ r.z.0 = omega (arith, t.third.even) in
    vote_third g l r.z.0 b t.even t.above (record { above = t.third.above; same = same })

taker_spent : (g : MigView) (i c : ℕ) → IsOrdered g → i < length (mig_gates g) → IsTaker g (get_or (mig_gates g) i 0) c → needed (mig_graph g) (drop (i + 1) (mig_gates g)) (role_at g (get_or (mig_gates g) i 0)).z.0 ≡ false
taker_spent g i c s h t =
    let l = get_or (mig_gates g) i 0 in
    spent g.inputs (mig_graph g) i (role_at g l).z.0 t.third h (third_read g l c (below g l s (has_whole (mig_gates g) i h)) t)

none_some : (o : Option ℕ) (c : ℕ) → o ≡ None → o ≡ Some c → ⊥
none_some o c n e = cc

pub full_sound : (g : MigView) → IsOrdered g → IsOver (full_graph g) (full_order g) (full_over g)
full_sound g s =
    let xs = mig_gates g in
    let fl = full_order g in
    let v = full_graph g in
    record {
      child = λ p c h e. elim (place g xs p h) [
        | inl a ↦
            let x = get_or xs a.i 0 in
            let b = below g x s (has_whole xs a.i a.within) in
            let here = here_is fl (flat g (drop (a.i + 1) xs)) p (gate_number x) h a.back in
            let t = taker g x c (sym a.takes ∙ e) in
            ap (λ (k : ℕ). has (kids_of v k) c) here ∙ ap (has (kids_of v (gate_number x))) t.same ∙ reads_gate g x (role_at g x).z.0 b (third_read g x c b t)
        | inr t ↦ absurd (none_some (taken_at (full_over g) p) c t.takes e)
      ];
      last = λ p c h e. elim (place g xs p h) [
        | inl a ↦
            let x = get_or xs a.i 0 in
            let rest = flat g (drop (a.i + 1) xs) in
            let after = after_is fl rest p (gate_number x) h a.back in
            let t = taker g x c (sym a.takes ∙ e) in
            let z = (role_at g x).z.0 in
            no_true (needed v (drop (p + 1) fl) c) (λ n.
            let again : needed v rest (gate_number z) ≡ true = sym (ap (λ (ys : List ℕ). needed v ys c) after ∙ ap (needed v rest) t.same) ∙ n in
            false≢true (sym (taker_spent g a.i c s a.within t) ∙ needed_alone g (drop (a.i + 1) xs) z (λ l q. below g l s (in_drop xs (a.i + 1) l q)) again))
        | inr t ↦ absurd (none_some (taken_at (full_over g) p) c t.takes e)
      ];
    }

-- ---- how long the order is
own_length : (l : ℕ) (o : Option Lit) → length (own_temporary l o) ≤ 1
own_length l None = omega arith
own_length l (Some e) = omega arith

pub flat_length : (g : MigView) (xs : List ℕ) → length (flat g xs) ≤ 2 * length xs
flat_length g [] = omega arith
flat_length g (x ∷ xs) =
    let own = own_temporary x (temporary_of (step_of g x)) in
    let a = length-append (with_temporary g x) (flat g xs) in
    let b = length-append own (gate_number x ∷ []) in
    let d = own_length x (temporary_of (step_of g x)) in
    let e = flat_length g xs in
    omega arith

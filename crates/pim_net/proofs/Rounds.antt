-- The way back along a trail that comes round is a cycle.
use Rattle.std.proofs.Common.{◌≡◌, ◌≢◌, ℕ, zero, suc, ◌+◌, ◌-◌, ◌<◌, true, false, cond, eqb, List, [], ◌∷◌, length, get_or, refl, ap, sym, ◌∙◌, subst, ⊎_elim, arith}
use Rattle.std.specs.Prelude.{reverse}
use Rattle.std.proofs.lemmas.Bool.Decides.{eqb_tells}
use Rattle.std.proofs.lemmas.List.{get_or-reverse, get_or_default, length-reverse}
use Rattle.pim_net.specs.Cycles.{Reads, IsCycle}
use Rattle.pim_net.specs.Faults.{back_to}
use Rattle.pim_net.specs.inner.DepthFirst.{ins, sig, IsOnTrail, IsTrail, column_of, trail_sigs}
use Rattle.pim_net.specs.declared.parts.Equation.{Equation}
use Rattle.pim_net.specs.declared.driver.Driver.{Driver}
use Rattle.pim_net.specs.declared.search.Frame.{Frame}
use Rattle.pim_net.proofs.Trails.{head_frame}

-- an equation reads each of its columns
reads_column : (es : List Equation) (k j : ℕ) → k < length es → j < length (ins es k) → Reads es (sig es k) (get_or (ins es k) j 0)
reads_column [] k j known inside = absurd (omega arith)
reads_column (e ∷ es) zero j known inside =
    let c = get_or e.cover.ins j 0 in (e, (zero, known, refl), refl, (j, inside, get_or_default e.cover.ins j c 0 inside))
reads_column (e ∷ es) (suc k) j known inside =
    let r = reads_column es k j (omega arith) inside in (r.0, (suc (r.1).0, (let more : suc (r.1).0 < suc (length es) = omega (arith, (r.1).1) in more), (r.1).2), r.2, r.3)

-- a way back from one signal to another: each of its signals is read by the equation of the next
record IsWayBack (es : List Equation) (from to : ℕ) (way : List ℕ) : Type 0 where
  some : 0 < length way
  first : get_or way 0 0 ≡ from
  last : get_or way (length way - 1) 0 ≡ to
  reads : (i : ℕ) → i + 1 < length way → Reads es (get_or way (i + 1) 0) (get_or way i 0)

way_of_one : (es : List Equation) (s t : ℕ) → s ≡ t → IsWayBack es s t (s ∷ [])
way_of_one es s t same = record {
  some = omega arith;
  first = refl;
  last = same;
  reads = λ i h. absurd (omega arith);
}

way_more : (es : List Equation) (x s t : ℕ) (way : List ℕ) → Reads es s x → IsWayBack es s t way → IsWayBack es x t (x ∷ way)
way_more es x s t way reads w = record {
  some = omega arith;
  first = refl;
  last = last_of way w.some ∙ w.last;
  reads = reads_of;
}
  where
    last_of : (way : List ℕ) → 0 < length way → get_or (x ∷ way) (length (x ∷ way) - 1) 0 ≡ get_or way (length way - 1) 0
    last_of [] h = absurd (omega arith)
    last_of (y ∷ way) h = let e : length (x ∷ y ∷ way) - 1 ≡ suc (length (y ∷ way) - 1) = omega arith in ap (λ m. get_or (x ∷ y ∷ way) m 0) e

    reads_of : (i : ℕ) → i + 1 < length (x ∷ way) → Reads es (get_or (x ∷ way) (i + 1) 0) (get_or (x ∷ way) i 0)
    reads_of zero h = subst (λ y. Reads es y x) (sym w.first) reads
    reads_of (suc i) h = let e : suc (i + 1) ≡ suc i + 1 = omega arith in subst (λ m. Reads es (get_or (x ∷ way) m 0) (get_or way i 0)) e (w.reads i (omega arith))

-- back from the latest signal of a trail to a signal of it
way_back : (es : List Equation) (table : ℕ → Driver) (root k : ℕ) (f : Frame) (trail : List Frame) → IsTrail es table root (f ∷ trail) → IsOnTrail k (f ∷ trail) → IsWayBack es (sig es f.equation) (sig es k) (back_to (sig es k) (trail_sigs es (f ∷ trail)))
way_back es table root k f [] t among =
    ⊎_elim
    (λ (h : (eqb (sig es f.equation) (sig es k) ≡ true) × (sig es f.equation ≡ sig es k)).
    subst (IsWayBack es (sig es f.equation) (sig es k)) (sym (ap (λ b. cond b (sig es f.equation ∷ []) (sig es f.equation ∷ [])) h.0)) (way_of_one es (sig es f.equation) (sig es k) h.1))
    (λ (h : (eqb (sig es f.equation) (sig es k) ≡ false) × (sig es f.equation ≢ sig es k)).
    ⊎_elim (λ (e : f.equation ≡ k). absurd (h.1 (ap (sig es) e))) (λ none. absurd none) among)
    (eqb_tells (sig es f.equation) (sig es k))
way_back es table root k f (g ∷ trail) t among =
    let rest = back_to (sig es k) (trail_sigs es (g ∷ trail)) in
    ⊎_elim
    (λ (h : (eqb (sig es f.equation) (sig es k) ≡ true) × (sig es f.equation ≡ sig es k)).
    subst (IsWayBack es (sig es f.equation) (sig es k)) (sym (ap (λ b. cond b (sig es f.equation ∷ []) (sig es f.equation ∷ rest)) h.0)) (way_of_one es (sig es f.equation) (sig es k) h.1))
    (λ (h : (eqb (sig es f.equation) (sig es k) ≡ false) × (sig es f.equation ≢ sig es k)).
    ⊎_elim
    (λ (e : f.equation ≡ k). absurd (h.1 (ap (sig es) e)))
    (λ (a : IsOnTrail k (g ∷ trail)).
    let reads = subst (Reads es (sig es g.equation)) t.2 (reads_column es g.equation g.column (head_frame es table root g trail t.4).known t.1) in
    subst (IsWayBack es (sig es f.equation) (sig es k)) (sym (ap (λ b. cond b (sig es f.equation ∷ []) (sig es f.equation ∷ rest)) h.0))
    (way_more es (sig es f.equation) (sig es g.equation) (sig es k) rest reads (way_back es table root k g trail t.4 a)))
    among)
    (eqb_tells (sig es f.equation) (sig es k))

-- a way back to what its first signal reads is a cycle, read the other way round
way_round : (es : List Equation) (s t : ℕ) (way : List ℕ) → Reads es s t → IsWayBack es s t way → IsCycle es (reverse way)
way_round es s t way reads w =
    let long : length (reverse way) ≡ length way = length-reverse way in
    record {
      some = omega (arith, long, w.some);
      next = λ i h.
          let n = length way - 1 - (i + 1) in
          let near : n + 1 < length way = omega (arith, long, h) in
          let e : length way - 1 - i ≡ n + 1 = omega (arith, long, h) in
          let here : get_or (reverse way) i 0 ≡ get_or way (n + 1) 0 = get_or-reverse way i 0 (omega (arith, long, h)) ∙ ap (λ m. get_or way m 0) e in
          let there : get_or (reverse way) (i + 1) 0 ≡ get_or way n 0 = get_or-reverse way (i + 1) 0 (omega (arith, long, h)) in
          subst (Reads es (get_or (reverse way) i 0)) (sym there) (subst (λ y. Reads es y (get_or way n 0)) (sym here) (w.reads n near));
      round =
          let e : length way - 1 - (length (reverse way) - 1) ≡ 0 = omega (arith, long) in
          let final : get_or (reverse way) (length (reverse way) - 1) 0 ≡ s =
          get_or-reverse way (length (reverse way) - 1) 0 (omega (arith, long, w.some)) ∙ ap (λ m. get_or way m 0) e ∙ w.first in
          let e0 : length way - 1 - 0 ≡ length way - 1 = omega arith in
          let start : get_or (reverse way) 0 0 ≡ t = get_or-reverse way 0 0 w.some ∙ ap (λ m. get_or way m 0) e0 ∙ w.last in
          subst (Reads es (get_or (reverse way) (length (reverse way) - 1) 0)) (sym start) (subst (λ y. Reads es y t) (sym final) reads);
    }

-- what a trail that comes round to its own equation k gives is a cycle
pub round_is_cycle : (es : List Equation) (table : ℕ → Driver) (root k : ℕ) (f : Frame) (trail : List Frame) → IsTrail es table root (f ∷ trail) → IsOnTrail k (f ∷ trail) → f.column < length (ins es f.equation) → column_of es f ≡ sig es k
    → IsCycle es (reverse (back_to (sig es k) (trail_sigs es (f ∷ trail))))
round_is_cycle es table root k f trail t among inside reads =
    way_round es (sig es f.equation) (sig es k) (back_to (sig es k) (trail_sigs es (f ∷ trail)))
    (subst (Reads es (sig es f.equation)) reads (reads_column es f.equation f.column (head_frame es table root f trail t).known inside))
    (way_back es table root k f trail t among)

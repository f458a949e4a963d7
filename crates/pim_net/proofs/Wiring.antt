-- Parts that were judged: their table, their depths and their order.
use Rattle.std.proofs.Common.{◌≡◌, ℕ, zero, suc, ◌+◌, ◌-◌, ◌^◌, ◌<◌, ◌≤◌, ◌++◌, ◌⊎◌, Bool, true, false, List, [], ◌∷◌, Option, Some, None, All, length, get_or, map, refl, ap, sym, ◌∙◌, subst, inl, inr, ⊎_elim, arith}
use Rattle.std.specs.Prelude.{is_some, find, unwrap_or, Contains, IsPermutation, option_map}
use Rattle.std.specs.Option.{option_or}
use Rattle.std.specs.List.{flat_map, range_with_len}
use Rattle.std.proofs.lemmas.List.{append_assoc, get_or-map, length-map, get_or_default}
use Rattle.std.proofs.lemmas.List.Elements.{Contains-append_left, Contains-append_right}
use Rattle.std.proofs.lemmas.List.Folds.{find-append}
use Rattle.std.proofs.lemmas.List.FromFn.{get_or-range_with_len, length-range_with_len}
use Rattle.std.proofs.lemmas.List.Sorted.{All-permutation, Contains-permutation}
use Rattle.std.proofs.lemmas.Option.{slice_get_past}
use Rattle.std.proofs.lemmas.Bool.{cases_lt}
use Rattle.pim_net.specs.Drivers.{place, sigs, driven, read}
use Rattle.pim_net.specs.inner.Drivers.{driver, driver_by, is_nobody, depth_by, cycle_by}
use Rattle.pim_net.specs.Depths.{depth}
use Rattle.pim_net.specs.Faults.{first_repeat, undriven, cycle, fault_of}
use Rattle.pim_net.specs.inner.Judged.{IsRefusal}
use Rattle.pim_net.specs.Order.{equation_level, IsByDepth}
use Rattle.pim_net.specs.WellFormed.{IsWellFormed, IsReady, IsReadyOrder, columns}
use Rattle.pim_net.specs.inner.DepthFirst.{ins, sig, IsWired, deep, mark, is_deep, depth_mark, level, IsLevelled, IsBefore, IsCycleFault}
use Rattle.pim_net.specs.declared.parts.Equation.{Equation}
use Rattle.pim_net.specs.declared.parts.OutRef.{OutRef}
use Rattle.pim_net.specs.declared.driver.Driver.{Driver}
use Rattle.pim_net.specs.declared.driver.Driver.TheVariants.{Cover}
use Rattle.pim_net.specs.declared.search.Mark.{Mark}
use Rattle.pim_net.specs.declared.search.Mark.TheVariants.{New, Open, Deep}
use Rattle.pim_net.specs.declared.fault.NetFault.{NetFault}
use Rattle.pim_net.specs.declared.fault.NetFault.TheVariants.{Twice, Undriven, Cycle, NoMemory}
use Rattle.pim_net.proofs.ByDrivers.{depth_is, undriven_is, cycle_is}
use Rattle.pim_net.proofs.Equations.{ins_read}
use Rattle.pim_net.proofs.Repeats.{places, place_is, all_apart, find_none}
use Rattle.pim_net.proofs.Trails.{equation_within, step_down}
use Rattle.pim_net.proofs.Marking.{levelled_is}

or_none : (p q : Option ℕ) → option_or p q ≡ None → (p ≡ None) × (q ≡ None)
or_none None q h = (refl, h)
or_none (Some k) q h = cc

-- a column of an equation is read
column_read : (p : ℕ → Bool) (es : List Equation) (outputs : List OutRef) (k j : ℕ) → find p (read es outputs) ≡ None → k < length es → j < length (ins es k) → p (get_or (ins es k) j 0) ≡ false
column_read p [] outputs k j h within inside = absurd (omega arith)
column_read p (e ∷ es) outputs zero j h within inside =
    let split = sym (find-append p e.cover.ins (read es outputs)) ∙ ap (find p) (sym (append_assoc e.cover.ins (flat_map (λ (x : Equation). x.cover.ins) es) (map (λ (o : OutRef). o.sig) outputs))) ∙ h in
    find_none p e.cover.ins (or_none (find p e.cover.ins) (find p (read es outputs)) split).0 j inside
column_read p (e ∷ es) outputs (suc k) j h within inside =
    let split = sym (find-append p e.cover.ins (read es outputs)) ∙ ap (find p) (sym (append_assoc e.cover.ins (flat_map (λ (x : Equation). x.cover.ins) es) (map (λ (o : OutRef). o.sig) outputs))) ∙ h in
    column_read p es outputs k j (or_none (find p e.cover.ins) (find p (read es outputs)) split).1 (omega arith) inside

cover_by : (p q : Option ℕ) (k : ℕ) → driver_by p q ≡ Cover k → q ≡ Some k
cover_by (Some j) q k h = cc
cover_by None None k h = cc
cover_by None (Some i) k h = let same : i ≡ k = cc in ap Some same

some_by : (p q : Option ℕ) → is_nobody (driver_by p q) ≡ false → ((j : ℕ) × (p ≡ Some j)) ⊎ ((k : ℕ) × (driver_by p q ≡ Cover k))
some_by (Some j) q h = inl (j, refl)
some_by None (Some k) h = inr (k, refl)
some_by None None h = cc

pub wired : (inputs : List ℕ) (es : List Equation) (outputs : List OutRef) (table : ℕ → Driver) → first_repeat [] (driven inputs es) ≡ None → table ≡ driver inputs es
    → find (λ s. is_nobody (table s)) (read es outputs) ≡ None → length es < 2 ^ 28 → All (λ (e : Equation). length e.cover.ins < 2 ^ 28) es → IsWired es table
wired inputs es outputs table once same all few narrow = record {
  named = λ k within.
      let w = places inputs (sigs es) k once (omega (arith, length-map es (λ (x : Equation). x.sig))) in
      ap (λ f. f (sig es k)) same ∙ ap (λ p. driver_by p (place (sig es k) (sigs es))) w.0 ∙ ap (driver_by None) w.1;
  driven = λ k j within inside. column_read (λ s. is_nobody (table s)) es outputs k j all within inside;
  covers = λ s k h.
      let w = place_is s (sigs es) k (cover_by (place s inputs) (place s (sigs es)) k (sym (ap (λ f. f s) same) ∙ h)) in
      (omega (arith, w.0, length-map es (λ (x : Equation). x.sig)), w.1);
  few = few;
  narrow = λ k. ⊎_elim
      (λ (within : k < length es).
      let w = equation_within es k within in
      let one : length (get_or es k w.0).cover.ins < 2 ^ 28 = narrow k w.0 within in
      omega (arith, one, ap length (ins_read es k w.0 within)))
      (λ (past : length es ≤ k). let none = ap (λ o. length (columns o)) (slice_get_past es k past) in omega (arith, none))
      (cases_lt k (length es));
}

-- what has a place is in the list
contains_place : (s : ℕ) (xs : List ℕ) (k : ℕ) → place s xs ≡ Some k → Contains xs s
contains_place s xs k h = let w = place_is s xs k h in (k, w.0, get_or_default xs k s 0 w.0 ∙ w.1)

-- a signal that is driven is among those that are
contains_driven : (inputs signals : List ℕ) (s : ℕ) → is_nobody (driver_by (place s inputs) (place s signals)) ≡ false → Contains (inputs ++ signals) s
contains_driven inputs signals s h =
    ⊎_elim
    (λ (w : (j : ℕ) × (place s inputs ≡ Some j)). Contains-append_left inputs signals s (contains_place s inputs w.0 w.1))
    (λ (w : (k : ℕ) × (driver_by (place s inputs) (place s signals) ≡ Cover k)). Contains-append_right inputs signals s (contains_place s signals w.0 (cover_by (place s inputs) (place s signals) w.0 w.1)))
    (some_by (place s inputs) (place s signals) h)

is_some_deep : (m : Mark) → is_deep m ≡ true → is_some (depth_mark m) ≡ true
is_some_deep New h = cc
is_some_deep Open h = cc
is_some_deep (Deep l) h = refl

-- the depth of equation k is that of its mark
marked_depth_is : (inputs : List ℕ) (es : List Equation) (table : ℕ → Driver) (marks : List Mark) (k : ℕ) → table ≡ driver inputs es → IsLevelled es table marks → k < length es → depth inputs es (sig es k) ≡ depth_mark (mark marks k)
marked_depth_is inputs es table marks k same levelled within = depth_is inputs es (sig es k) ∙ ap (λ f. depth_by f es (suc (length es)) (sig es k)) (sym same) ∙ levelled.depths k within

pub well_formed : (inputs : List ℕ) (es : List Equation) (outputs : List OutRef) (table : ℕ → Driver) (marks : List Mark) → first_repeat [] (driven inputs es) ≡ None → table ≡ driver inputs es
    → find (λ s. is_nobody (table s)) (read es outputs) ≡ None → IsLevelled es table marks → IsWellFormed inputs es outputs
well_formed inputs es outputs table marks once same all levelled = record {
  once = all_apart (driven inputs es) once;
  driven = λ j d within.
      let s = get_or (read es outputs) j 0 in
      let some : is_nobody (driver inputs es s) ≡ false = ap (λ f. is_nobody (f s)) (sym same) ∙ find_none (λ s. is_nobody (table s)) (read es outputs) all j within in
      subst (Contains (driven inputs es)) (get_or_default (read es outputs) j 0 d within) (contains_driven inputs (sigs es) s some);
  deep = λ k d within.
      ap (λ s. is_some (depth inputs es s)) (sym (get_or-map (λ (x : Equation). x.sig) es k d 0 within))
      ∙ ap is_some (marked_depth_is inputs es table marks k same levelled within) ∙ is_some_deep (mark marks k) (levelled.all k within);
}

pub sound : (inputs : List ℕ) (es : List Equation) (outputs : List OutRef) (table : ℕ → Driver) (marks : List Mark) → first_repeat [] (driven inputs es) ≡ None → table ≡ driver inputs es
    → find (λ s. is_nobody (table s)) (read es outputs) ≡ None → IsLevelled es table marks → fault_of inputs es outputs ≡ None
sound inputs es outputs table marks once same all levelled =
    let lack = undriven_is inputs es outputs ∙ ap (λ (f : ℕ → Driver). find (λ s. is_nobody (f s)) (read es outputs)) (sym same) ∙ all in
    let round = cycle_is inputs es once ∙ ap (λ (f : ℕ → Driver). cycle_by f (λ s. depth_by f es (suc (length es)) s) es) (sym same) ∙ levelled_is es table marks levelled in
    ap (λ o. option_or (option_map Twice o) (option_or (option_map Undriven (undriven inputs es outputs)) (option_map Cycle (cycle inputs es)))) once
    ∙ ap (λ o. option_or (option_map Undriven o) (option_map Cycle (cycle inputs es))) lack
    ∙ ap (option_map Cycle) round

-- the faults of the other kinds
pub lacking : (inputs : List ℕ) (es : List Equation) (outputs : List OutRef) (table : ℕ → Driver) (s : ℕ) → first_repeat [] (driven inputs es) ≡ None → table ≡ driver inputs es
    → find (λ s. is_nobody (table s)) (read es outputs) ≡ Some s → fault_of inputs es outputs ≡ Some (Undriven s)
lacking inputs es outputs table s once same found =
    let lack = undriven_is inputs es outputs ∙ ap (λ (f : ℕ → Driver). find (λ s. is_nobody (f s)) (read es outputs)) (sym same) ∙ found in
    ap (λ o. option_or (option_map Twice o) (option_or (option_map Undriven (undriven inputs es outputs)) (option_map Cycle (cycle inputs es)))) once
    ∙ ap (λ o. option_or (option_map Undriven o) (option_map Cycle (cycle inputs es))) lack

pub round : (inputs : List ℕ) (es : List Equation) (outputs : List OutRef) (table : ℕ → Driver) (signals : List ℕ) → first_repeat [] (driven inputs es) ≡ None → table ≡ driver inputs es
    → find (λ s. is_nobody (table s)) (read es outputs) ≡ None → cycle_by table (deep es table) es ≡ Some signals → fault_of inputs es outputs ≡ Some (Cycle signals)
round inputs es outputs table signals once same all found =
    let lack = undriven_is inputs es outputs ∙ ap (λ (f : ℕ → Driver). find (λ s. is_nobody (f s)) (read es outputs)) (sym same) ∙ all in
    let round = cycle_is inputs es once ∙ ap (λ (f : ℕ → Driver). cycle_by f (λ s. depth_by f es (suc (length es)) s) es) (sym same) ∙ found in
    ap (λ o. option_or (option_map Twice o) (option_or (option_map Undriven (undriven inputs es outputs)) (option_map Cycle (cycle inputs es)))) once
    ∙ ap (λ o. option_or (option_map Undriven o) (option_map Cycle (cycle inputs es))) lack
    ∙ ap (option_map Cycle) round

-- the order holds equation numbers
pub topo_within : (n : ℕ) (topo : List ℕ) → IsPermutation (range_with_len 0 n) topo → All (λ k. k < n) topo
topo_within n topo once = All-permutation (λ k. k < n) (range_with_len 0 n) topo once
    (λ i d within. let inside : i < n = omega (arith, length-range_with_len 0 n) in let is = get_or-range_with_len 0 n i d inside in omega (arith, is))

pub by_depth : (inputs : List ℕ) (es : List Equation) (table : ℕ → Driver) (marks : List Mark) (topo : List ℕ) → table ≡ driver inputs es → IsLevelled es table marks → IsPermutation (range_with_len 0 (length marks)) topo
    → ((i : ℕ) → i + 1 < length topo → IsBefore marks (get_or topo i 0) (get_or topo (i + 1) 0)) → IsByDepth inputs es topo
by_depth inputs es table marks topo same levelled once rising =
    let whole : IsPermutation (range_with_len 0 (length es)) topo = subst (λ n. IsPermutation (range_with_len 0 n) topo) levelled.sized once in
    let within = topo_within (length es) topo whole in
    record {
      once = whole;
      rising = λ i h.
          let a = get_or topo i 0 in
          let b = get_or topo (i + 1) 0 in
          let la : equation_level inputs es a ≡ level marks a = ap (λ o. unwrap_or o 0) (marked_depth_is inputs es table marks a same levelled (within i 0 (omega arith))) in
          let lb : equation_level inputs es b ≡ level marks b = ap (λ o. unwrap_or o 0) (marked_depth_is inputs es table marks b same levelled (within (i + 1) 0 h)) in
          ⊎_elim
          (λ (lt : level marks a < level marks b). inl (omega (arith, la, lb)))
          (λ (le : (level marks a ≡ level marks b) × (a ≤ b)). inr (la ∙ le.0 ∙ sym lb, le.1))
          (rising i h);
    }

-- later in the order is as deep or deeper
level_rises : (marks : List Mark) (topo : List ℕ) → ((i : ℕ) → i + 1 < length topo → IsBefore marks (get_or topo i 0) (get_or topo (i + 1) 0)) → (i m : ℕ) → i + m < length topo → level marks (get_or topo i 0) ≤ level marks (get_or topo (i + m) 0)
level_rises marks topo rising i zero h = let e = ap (λ n. level marks (get_or topo n 0)) (let e : i ≡ i + 0 = omega arith in e) in omega (arith, e)
level_rises marks topo rising i (suc m) h =
    let before = level_rises marks topo rising i m (omega arith) in
    let e = ap (λ n. level marks (get_or topo n 0)) (let e : (i + m) + 1 ≡ i + suc m = omega arith in e) in
    ⊎_elim
    (λ (lt : level marks (get_or topo (i + m) 0) < level marks (get_or topo (i + m + 1) 0)). omega (arith, before, e))
    (λ (le : (level marks (get_or topo (i + m) 0) ≡ level marks (get_or topo (i + m + 1) 0)) × (get_or topo (i + m) 0 ≤ get_or topo (i + m + 1) 0)). omega (arith, before, e, le.0))
    (rising (i + m) (omega arith))

deep_level : (m : Mark) → is_deep m ≡ true → (l : ℕ) × (depth_mark m ≡ Some l)
deep_level New h = cc
deep_level Open h = cc
deep_level (Deep l) h = (l, refl)

pub ready : (inputs : List ℕ) (es : List Equation) (table : ℕ → Driver) (marks : List Mark) (topo : List ℕ) → IsWired es table → table ≡ driver inputs es → IsLevelled es table marks → IsPermutation (range_with_len 0 (length marks)) topo
    → ((i : ℕ) → i + 1 < length topo → IsBefore marks (get_or topo i 0) (get_or topo (i + 1) 0)) → IsReadyOrder inputs es topo
ready inputs es table marks topo wired same levelled once rising = λ i h.
    let whole : IsPermutation (range_with_len 0 (length es)) topo = subst (λ n. IsPermutation (range_with_len 0 n) topo) levelled.sized once in
    let t = get_or topo i 0 in
    let within : t < length es = topo_within (length es) topo whole i 0 h in
    λ j d inside.
    let c = get_or (ins es t) j 0 in
    let some : is_nobody (driver inputs es c) ≡ false = ap (λ f. is_nobody (f c)) (sym same) ∙ wired.driven t j within inside in
    subst (IsReady inputs es topo i) (get_or_default (ins es t) j 0 d inside)
    (⊎_elim
    (λ (w : (n : ℕ) × (place c inputs ≡ Some n)). inl (contains_place c inputs w.0 w.1))
    (λ (w : (k : ℕ) × (driver_by (place c inputs) (place c (sigs es)) ≡ Cover k)).
    let k = w.0 in
    let cover = wired.covers c k (ap (λ f. f c) same ∙ w.1) in
    let lt = deep_level (mark marks t) (levelled.all t within) in
    let lk = deep_level (mark marks k) (levelled.all k cover.0) in
    let down = step_down es table t j lt.0 wired within (levelled.depths t within ∙ lt.1) inside in
    let here : Some down.0 ≡ Some lk.0 = sym down.2 ∙ ap (deep es table) (sym cover.1) ∙ levelled.depths k cover.0 ∙ lk.1 in
    let less : down.0 ≡ lk.0 = cc in
    let lower : level marks k < level marks t = omega (arith, down.1, less, ap (λ o. unwrap_or o 0) lt.1, ap (λ o. unwrap_or o 0) lk.1) in
    let ranged : k < length (range_with_len 0 (length es)) = omega (arith, cover.0, length-range_with_len 0 (length es)) in
    let at = Contains-permutation (range_with_len 0 (length es)) topo k whole (k, ranged, get_or-range_with_len 0 (length es) k k cover.0 ∙ (let e : 0 + k ≡ k = omega arith in e)) in
    let place' : get_or topo at.0 0 ≡ k = get_or_default topo at.0 0 k at.1 ∙ at.2 in
    ⊎_elim
    (λ (earlier : at.0 < i). inr (at.0, earlier, ap (sig es) place' ∙ cover.1))
    (λ (later : i ≤ at.0).
    let rises = level_rises marks topo rising i (at.0 - i) (omega (arith, at.1)) in
    let e = ap (λ n. level marks (get_or topo n 0)) (let e : i + (at.0 - i) ≡ at.0 = omega arith in e) in
    absurd (let no : ⊥ = omega (arith, rises, e, ap (level marks) place', lower) in no))
    (cases_lt at.0 i))
    (some_by (place c inputs) (place c (sigs es)) some))

-- a cycle by the table is the cycle of the parts
pub refused : (inputs : List ℕ) (es : List Equation) (outputs : List OutRef) (table : ℕ → Driver) (fault : NetFault) → first_repeat [] (driven inputs es) ≡ None → table ≡ driver inputs es
    → find (λ s. is_nobody (table s)) (read es outputs) ≡ None → IsCycleFault es table fault → IsRefusal inputs es outputs fault
refused inputs es outputs table (Twice s) once same all h = absurd h
refused inputs es outputs table (Undriven s) once same all h = absurd h
refused inputs es outputs table (Cycle cycle) once same all h = inr (round inputs es outputs table cycle once same all h.0)
refused inputs es outputs table NoMemory once same all h = inl refl

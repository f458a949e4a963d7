-- What a trail of the search tells of depths, and of the walk to a cycle.
use Rattle.std.proofs.Common.{◌≡◌, ◌≢◌, ℕ, zero, suc, ◌+◌, ◌-◌, ◌<◌, ◌≤◌, ◌⊎◌, true, false, cond, eqb, List, [], ◌∷◌, Option, Some, None, map, take, length, get_or, refl, ap, sym, ◌∙◌, inl, inr, ⊎_elim, arith}
use Rattle.std.specs.Prelude.{option_map, slice_get, is_some, is_none, find, reverse}
use Rattle.std.proofs.lemmas.Bool.Decides.{eqb_tells}
use Rattle.pim_net.specs.Drivers.{place}
use Rattle.pim_net.specs.Depths.{deepest, equation_depth}
use Rattle.pim_net.specs.inner.Drivers.{driver_depth, depth_by, equation_by, next_by}
use Rattle.pim_net.specs.Faults.{walk, back_to, column_without}
use Rattle.pim_net.specs.WellFormed.{columns}
use Rattle.pim_net.specs.inner.DepthFirst.{ins, sig, IsWired, deep, IsOnTrail, IsOffTrail, IsFrame, IsTrail, column_of, trail_sigs, EachKnown}
use Rattle.pim_net.specs.declared.parts.Equation.{Equation}
use Rattle.pim_net.specs.declared.driver.Driver.{Driver}
use Rattle.pim_net.specs.declared.driver.Driver.TheVariants.{Cover}
use Rattle.pim_net.specs.declared.search.Frame.{Frame}
use Rattle.pim_net.proofs.DepthLemmas.{some_inj, deepest_cons, deepest_same, deepest_at, equation_from, depth_more, depth_to, depth_low}

pub equation_within : (es : List Equation) (k : ℕ) → k < length es → (e : Equation) × (slice_get es k ≡ Some e)
equation_within [] k within = absurd (omega arith)
equation_within (e ∷ es) zero within = (e, refl)
equation_within (e ∷ es) (suc k) within = equation_within es k (omega arith)

-- an equation whose columns all have a depth is one deeper than they
pub step_up : (es : List Equation) (table : ℕ → Driver) (k m : ℕ) → IsWired es table → k < length es → deepest (map (deep es table) (ins es k)) ≡ Some m → suc m ≤ length es → deep es table (sig es k) ≡ Some (suc m)
step_up es table k m wired within columns_deep low =
    let below = λ (c : ℕ). depth_by table es (length es) c in
    let w = equation_within es k within in
    let same = deepest_same (deep es table) below m (λ c l h e. depth_to table es (suc l) (length es) c l (omega arith) (depth_low table es (suc (length es)) c l e)) (ins es k) m (omega arith) columns_deep in
    let there : deepest (map below w.0.cover.ins) ≡ Some m = ap (λ o. deepest (map below (columns o))) (sym w.1) ∙ same in
    ap (driver_depth below es) (wired.named k within) ∙ ap (equation_depth below) w.1 ∙ ap (option_map suc) there

-- a column of an equation with a depth is less deep
pub step_down : (es : List Equation) (table : ℕ → Driver) (k j l : ℕ) → IsWired es table → k < length es → deep es table (sig es k) ≡ Some l → j < length (ins es k) → (d : ℕ) × (d < l) × (deep es table (get_or (ins es k) j 0) ≡ Some d)
step_down es table k j l wired within h inside =
    let below = λ (c : ℕ). depth_by table es (length es) c in
    let w = equation_from below (slice_get es k) l (ap (driver_depth below es) (sym (wired.named k within)) ∙ h) in
    let same : ins es k ≡ w.0.cover.ins = ap columns w.2 in
    let r = deepest_at below w.0.cover.ins w.1 j w.3 (omega (arith, ap length same)) in
    (r.0, omega (arith, w.4, r.1), ap (λ cs. deep es table (get_or cs j 0)) same ∙ depth_more table es (length es) (get_or w.0.cover.ins j 0) r.0 r.2)

none_or : (o : Option ℕ) → (o ≡ None) ⊎ ((l : ℕ) × (o ≡ Some l))
none_or None = inl refl
none_or (Some l) = inr (l, refl)

pub head_frame : (es : List Equation) (table : ℕ → Driver) (root : ℕ) (f : Frame) (trail : List Frame) → IsTrail es table root (f ∷ trail) → IsFrame es table f
head_frame es table root f [] t = t.0
head_frame es table root f (g ∷ trail) t = t.0

-- along a trail depths fall, from a frame up to the latest
chain : (es : List Equation) (table : ℕ → Driver) (root k l : ℕ) (f : Frame) (trail : List Frame) → IsWired es table → IsTrail es table root (f ∷ trail) → IsOnTrail k (f ∷ trail) → deep es table (sig es k) ≡ Some l → (d : ℕ) × (d ≤ l) × (deep es table (sig es f.equation) ≡ Some d)
chain es table root k l f [] wired t among h =
    ⊎_elim (λ (e : f.equation ≡ k). (l, (let le : l ≤ l = omega arith in le), ap (λ n. deep es table (sig es n)) e ∙ h)) (λ none. absurd none) among
chain es table root k l f (g ∷ trail) wired t among h =
    ⊎_elim
    (λ (e : f.equation ≡ k). (l, (let le : l ≤ l = omega arith in le), ap (λ n. deep es table (sig es n)) e ∙ h))
    (λ (a : IsOnTrail k (g ∷ trail)).
    let w = chain es table root k l g trail wired t.4 a h in
    let known = (head_frame es table root g trail t.4).known in
    let r = step_down es table g.equation g.column w.0 wired known w.2 t.1 in
    (r.0, (let le : r.0 ≤ l = omega (arith, w.1, r.1) in le), ap (deep es table) (sym t.2) ∙ r.2))
    among

-- no frame's equation has a depth
abbrev pub EachNone : List Equation → (ℕ → Driver) → List Frame → Type 0
EachNone es table [] = Unit {0}
EachNone es table (f ∷ trail) = (deep es table (sig es f.equation) ≡ None) × EachNone es table trail

-- what reads a signal without a depth has none
pub climb : (es : List Equation) (table : ℕ → Driver) (root : ℕ) (f : Frame) (trail : List Frame) → IsWired es table → IsTrail es table root (f ∷ trail) → deep es table (sig es f.equation) ≡ None → EachNone es table (f ∷ trail)
climb es table root f [] wired t h = (h, tt)
climb es table root f (g ∷ trail) wired t h =
    let known = (head_frame es table root g trail t.4).known in (
      h,
      ⊎_elim
          (λ (none : deep es table (sig es g.equation) ≡ None). climb es table root g trail wired t.4 none)
          (λ (some : (l : ℕ) × (deep es table (sig es g.equation) ≡ Some l)).
          let r = step_down es table g.equation g.column some.0 wired known some.1 t.1 in
          let both : Some r.0 ≡ None = sym r.2 ∙ ap (deep es table) t.2 ∙ h in
          absurd (let no : ⊥ = cc in no))
          (none_or (deep es table (sig es g.equation))),
    )

pub none_among : (es : List Equation) (table : ℕ → Driver) (k : ℕ) (trail : List Frame) → EachNone es table trail → IsOnTrail k trail → deep es table (sig es k) ≡ None
none_among es table k [] none among = absurd among
none_among es table k (f ∷ trail) none among =
    ⊎_elim (λ (e : f.equation ≡ k). ap (λ n. deep es table (sig es n)) (sym e) ∙ none.0) (λ (a : IsOnTrail k trail). none_among es table k trail none.1 a) among

pub root_none : (es : List Equation) (table : ℕ → Driver) (root : ℕ) (trail : List Frame) → IsTrail es table root trail → EachNone es table trail → deep es table (sig es root) ≡ None
root_none es table root [] t none = absurd t
root_none es table root (f ∷ []) t none = ap (λ n. deep es table (sig es n)) (sym t.1) ∙ none.0
root_none es table root (f ∷ g ∷ trail) t none = root_none es table root (g ∷ trail) t.4 none.1

-- an equation that reads one of its own trail has no depth
pub turn : (es : List Equation) (table : ℕ → Driver) (root k : ℕ) (f : Frame) (trail : List Frame) → IsWired es table → IsTrail es table root (f ∷ trail) → IsOnTrail k (f ∷ trail) → f.column < length (ins es f.equation) → column_of es f ≡ sig es k → deep es table (sig es f.equation) ≡ None
turn es table root k f trail wired t among inside reads =
    let known = (head_frame es table root f trail t).known in
    ⊎_elim
    (λ (none : deep es table (sig es f.equation) ≡ None). none)
    (λ (some : (l : ℕ) × (deep es table (sig es f.equation) ≡ Some l)).
    let r = step_down es table f.equation f.column some.0 wired known some.1 inside in
    let w = chain es table root k r.0 f trail wired t among (ap (deep es table) (sym reads) ∙ r.2) in
    let same : some.0 ≡ w.0 = some_inj some.0 w.0 (sym some.1 ∙ w.2) in
    absurd (let no : ⊥ = omega (arith, same, r.1, w.1) in no))
    (none_or (deep es table (sig es f.equation)))

pub known_all : (es : List Equation) (table : ℕ → Driver) (root : ℕ) (trail : List Frame) → IsTrail es table root trail → EachKnown es trail
known_all es table root [] t = tt
known_all es table root (f ∷ []) t = (t.0.known, tt)
known_all es table root (f ∷ g ∷ trail) t = (t.0.known, known_all es table root (g ∷ trail) t.4)

place_apart : (es : List Equation) (table : ℕ → Driver) (k : ℕ) (trail : List Frame) → IsWired es table → k < length es → EachKnown es trail → IsOffTrail k trail → place (sig es k) (trail_sigs es trail) ≡ None
place_apart es table k [] wired within known apart = refl
place_apart es table k (f ∷ trail) wired within known apart =
    ⊎_elim
    (λ (h : (eqb (sig es f.equation) (sig es k) ≡ true) × (sig es f.equation ≡ sig es k)).
    let both : Cover f.equation ≡ Cover k = sym (wired.named f.equation known.0) ∙ ap table h.1 ∙ wired.named k within in
    let same : f.equation ≡ k = cc in
    absurd (apart.0 same))
    (λ (h : (eqb (sig es f.equation) (sig es k) ≡ false) × (sig es f.equation ≢ sig es k)).
    ap (λ b. cond b (Some 0) (option_map suc (place (sig es k) (trail_sigs es trail)))) h.0 ∙ ap (option_map suc) (place_apart es table k trail wired within known.1 apart.1))
    (eqb_tells (sig es f.equation) (sig es k))

place_among : (es : List Equation) (k : ℕ) (trail : List Frame) → IsOnTrail k trail → is_some (place (sig es k) (trail_sigs es trail)) ≡ true
place_among es k [] among = absurd among
place_among es k (f ∷ trail) among =
    ⊎_elim
    (λ (h : (eqb (sig es f.equation) (sig es k) ≡ true) × (sig es f.equation ≡ sig es k)).
    ap (λ b. is_some (cond b (Some 0) (option_map suc (place (sig es k) (trail_sigs es trail))))) h.0)
    (λ (h : (eqb (sig es f.equation) (sig es k) ≡ false) × (sig es f.equation ≢ sig es k)).
    ⊎_elim
    (λ (e : f.equation ≡ k). absurd (h.1 (ap (sig es) e)))
    (λ (a : IsOnTrail k trail).
    ap (λ b. is_some (cond b (Some 0) (option_map suc (place (sig es k) (trail_sigs es trail))))) h.0 ∙ is_some-map (place (sig es k) (trail_sigs es trail)) ∙ place_among es k trail a)
    among)
    (eqb_tells (sig es f.equation) (sig es k))
  where
    is_some-map : (p : Option ℕ) → is_some (option_map suc p) ≡ is_some p
    is_some-map None = refl
    is_some-map (Some n) = refl

-- the first of the columns that has no depth, after ones that have
find_without : (f : ℕ → Option ℕ) (cs : List ℕ) (j m : ℕ) → deepest (map f (take j cs)) ≡ Some m → j < length cs → f (get_or cs j 0) ≡ None → find (λ c. is_none (f c)) cs ≡ Some (get_or cs j 0)
find_without f [] j m h within none = absurd (omega arith)
find_without f (c ∷ cs) zero m h within none = ap (λ o. cond (is_none o) (Some c) (find (λ x. is_none (f x)) cs)) none
find_without f (c ∷ cs) (suc j) m h within none =
    let w = deepest_cons (f c) (map f (take j cs)) m h in
    ap (λ o. cond (is_none o) (Some c) (find (λ x. is_none (f x)) cs)) w.2 ∙ find_without f cs j w.1 w.3 (omega arith) none

column_find : (f : ℕ → Option ℕ) (o : Option Equation) → column_without f o ≡ find (λ c. is_none (f c)) (columns o)
column_find f None = refl
column_find f (Some e) = refl

walk_on : (es : List Equation) (table : ℕ → Driver) (m s : ℕ) (walked : List ℕ) → place s walked ≡ None → walk (next_by table (deep es table) es) (suc m) walked (Some s) ≡ walk (next_by table (deep es table) es) m (s ∷ walked) (column_without (deep es table) (equation_by es (table s)))
walk_on es table m s walked h = ap (λ p. cond (is_some p) (reverse (back_to s walked)) (walk (next_by table (deep es table) es) m (s ∷ walked) (column_without (deep es table) (equation_by es (table s))))) h

-- the column where a walk goes on from a frame
goes_on : (es : List Equation) (table : ℕ → Driver) (f : Frame) → IsWired es table → IsFrame es table f → f.column < length (ins es f.equation) → deep es table (column_of es f) ≡ None → column_without (deep es table) (equation_by es (table (sig es f.equation))) ≡ Some (column_of es f)
goes_on es table f wired frame inside none =
    ap (λ d. column_without (deep es table) (equation_by es d)) (wired.named f.equation frame.known)
    ∙ column_find (deep es table) (slice_get es f.equation)
    ∙ find_without (deep es table) (ins es f.equation) f.column f.depth frame.depth inside none

-- where nothing on the trail has a depth, the walk from its root is the trail
walk_to : (es : List Equation) (table : ℕ → Driver) (root m : ℕ) (f : Frame) (trail : List Frame) → IsWired es table → IsTrail es table root (f ∷ trail) → EachNone es table (f ∷ trail) → m + length trail ≡ suc (length es)
    → walk (next_by table (deep es table) es) (suc (length es)) [] (Some (sig es root)) ≡ walk (next_by table (deep es table) es) m (trail_sigs es trail) (Some (sig es f.equation))
walk_to es table root m f [] wired t none fuel =
    let e : suc (length es) ≡ m = omega arith in
    ap (λ n. walk (next_by table (deep es table) es) n [] (Some (sig es root))) e ∙ ap (λ n. walk (next_by table (deep es table) es) m [] (Some (sig es n))) (sym t.1)
walk_to es table root m f (g ∷ trail) wired t none fuel =
    let frame = head_frame es table root g trail t.4 in
    let more : suc m + length trail ≡ suc (length es) = omega arith in
    let here = walk_to es table root (suc m) g trail wired t.4 none.1 more in
    let apart = trail_apart g trail t.4 in
    let fresh = place_apart es table g.equation trail wired frame.known (known_rest g trail (known_all es table root (g ∷ trail) t.4)) apart in
    let on = goes_on es table g wired frame t.1 (ap (deep es table) t.2 ∙ none.0) in
    here ∙ walk_on es table m (sig es g.equation) (trail_sigs es trail) fresh
    ∙ ap (walk (next_by table (deep es table) es) m (sig es g.equation ∷ trail_sigs es trail)) (on ∙ ap Some t.2)
  where
    trail_apart : (g : Frame) (trail : List Frame) → IsTrail es table root (g ∷ trail) → IsOffTrail g.equation trail
    trail_apart g [] t = tt
    trail_apart g (h ∷ trail) t = t.3

    known_rest : (g : Frame) (trail : List Frame) → EachKnown es (g ∷ trail) → EachKnown es trail
    known_rest g trail k = k.1

-- the walk of a trail that comes round to its own equation k
pub walk_round : (es : List Equation) (table : ℕ → Driver) (root k : ℕ) (f : Frame) (trail : List Frame) → IsWired es table → IsTrail es table root (f ∷ trail) → IsOnTrail k (f ∷ trail) → f.column < length (ins es f.equation) → column_of es f ≡ sig es k → suc (length trail) ≤ length es
    → (deep es table (sig es root) ≡ None) × (walk (next_by table (deep es table) es) (suc (length es)) [] (Some (sig es root)) ≡ reverse (back_to (sig es k) (trail_sigs es (f ∷ trail))))
walk_round es table root k f trail wired t among inside reads short =
    let frame = head_frame es table root f trail t in
    let none = climb es table root f trail wired t (turn es table root k f trail wired t among inside reads) in
    let m = length es - suc (length trail) in
    let fuel : suc (suc m) + length trail ≡ suc (length es) = omega arith in
    let here = walk_to es table root (suc (suc m)) f trail wired t none fuel in
    let fresh = place_apart es table f.equation trail wired frame.known (known_rest f trail (known_all es table root (f ∷ trail) t)) (trail_apart f trail t) in
    let on = goes_on es table f wired frame inside (ap (deep es table) reads ∙ none_among es table k (f ∷ trail) none among) in
    let again = place_among es k (f ∷ trail) among in (
      root_none es table root (f ∷ trail) t none,
      here ∙ walk_on es table (suc m) (sig es f.equation) (trail_sigs es trail) fresh
          ∙ ap (walk (next_by table (deep es table) es) (suc m) (trail_sigs es (f ∷ trail))) (on ∙ ap Some reads)
          ∙ ap (λ b. cond b (reverse (back_to (sig es k) (trail_sigs es (f ∷ trail)))) (walk (next_by table (deep es table) es) m (sig es k ∷ trail_sigs es (f ∷ trail)) (column_without (deep es table) (equation_by es (table (sig es k)))))) again,
    )
  where
    trail_apart : (g : Frame) (trail : List Frame) → IsTrail es table root (g ∷ trail) → IsOffTrail g.equation trail
    trail_apart g [] t = tt
    trail_apart g (h ∷ trail) t = t.3

    known_rest : (g : Frame) (trail : List Frame) → EachKnown es (g ∷ trail) → EachKnown es trail
    known_rest g trail k = k.1

-- the signals that a walk back to s still comes to after this one
abbrev pub rest_back : ℕ → ℕ → List ℕ → List ℕ
rest_back s last walked = cond (eqb last s) [] (back_to s walked)

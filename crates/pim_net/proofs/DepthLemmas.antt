-- Depths do not hang on how far they are followed.
use Rattle.std.proofs.Common.{◌≡◌, ℕ, zero, suc, ◌+◌, ◌-◌, ◌<◌, ◌≤◌, max, List, [], ◌∷◌, Option, Some, None, map, length, get_or, refl, ap, sym, ◌∙◌, subst, arith}
use Rattle.std.specs.Prelude.{option_map, slice_get}
use Rattle.pim_net.specs.Depths.{deepest, equation_depth}
use Rattle.pim_net.specs.inner.Drivers.{driver_depth, depth_by}
use Rattle.pim_net.specs.declared.parts.Equation.{Equation}
use Rattle.pim_net.specs.declared.driver.Driver.{Driver}
use Rattle.pim_net.specs.declared.driver.Driver.TheVariants.{Nobody, Input, Cover}

pub some_inj : (a b : ℕ) → Some a ≡ Some b → a ≡ b
some_inj a b h = cc

-- the greatest depth is one of some depth and the rest
pub deepest_cons : (first : Option ℕ) (rest : List (Option ℕ)) (m : ℕ) → deepest (first ∷ rest) ≡ Some m → (d : ℕ) × (r : ℕ) × (first ≡ Some d) × (deepest rest ≡ Some r) × (m ≡ max d r)
deepest_cons None rest m h = cc
deepest_cons (Some d) rest m h = split (deepest rest) refl h
  where
    split : (o : Option ℕ) → deepest rest ≡ o → option_map (max d) o ≡ Some m → (d' : ℕ) × (r : ℕ) × (Some d ≡ Some d') × (deepest rest ≡ Some r) × (m ≡ max d' r)
    split None e h = cc
    split (Some r) e h = (d, r, refl, e, sym (some_inj (max d r) m h))

-- where each depth up to the greatest is the same, so is the greatest
pub deepest_same : (f g : ℕ → Option ℕ) (top : ℕ) → ((c l : ℕ) → l ≤ top → f c ≡ Some l → g c ≡ Some l) → (cs : List ℕ) (m : ℕ) → m ≤ top → deepest (map f cs) ≡ Some m → deepest (map g cs) ≡ Some m
deepest_same f g top same [] m low h = h
deepest_same f g top same (c ∷ cs) m low h =
    let w = deepest_cons (f c) (map f cs) m h in
    let here : g c ≡ Some w.0 = same c w.0 (omega (arith, w.4)) w.2 in
    let rest : deepest (map g cs) ≡ Some w.1 = deepest_same f g top same cs w.1 (omega (arith, w.4)) w.3 in
    ap (λ o. deepest (o ∷ map g cs)) here ∙ ap (option_map (max w.0)) rest ∙ ap Some (sym w.4)

-- each of the depths is there, and at most the greatest
pub deepest_at : (f : ℕ → Option ℕ) (cs : List ℕ) (m j : ℕ) → deepest (map f cs) ≡ Some m → j < length cs → (l : ℕ) × (l ≤ m) × (f (get_or cs j 0) ≡ Some l)
deepest_at f [] m j h within = absurd (omega arith)
deepest_at f (c ∷ cs) m zero h within =
    let w = deepest_cons (f c) (map f cs) m h in (w.0, omega (arith, w.4), w.2)
deepest_at f (c ∷ cs) m (suc j) h within =
    let w = deepest_cons (f c) (map f cs) m h in
    let r = deepest_at f cs w.1 j w.3 (omega arith) in
    (r.0, omega (arith, w.4, r.1), r.2)

-- the depth of an equation comes from its columns
pub equation_from : (below : ℕ → Option ℕ) (o : Option Equation) (l : ℕ) → equation_depth below o ≡ Some l → (e : Equation) × (m : ℕ) × (o ≡ Some e) × (deepest (map below e.cover.ins) ≡ Some m) × (l ≡ suc m)
equation_from below None l h = cc
equation_from below (Some e) l h = split (deepest (map below e.cover.ins)) refl h
  where
    split : (d : Option ℕ) → deepest (map below e.cover.ins) ≡ d → option_map suc d ≡ Some l → (e' : Equation) × (m : ℕ) × (Some e ≡ Some e') × (deepest (map below e'.cover.ins) ≡ Some m) × (l ≡ suc m)
    split None q h = cc
    split (Some m) q h = (e, m, refl, q, sym (some_inj (suc m) l h))

equation_to : (f g : ℕ → Option ℕ) (o : Option Equation) (l : ℕ) → ((c d : ℕ) → suc d ≤ l → f c ≡ Some d → g c ≡ Some d) → equation_depth f o ≡ Some l → equation_depth g o ≡ Some l
equation_to f g o l same h =
    let w = equation_from f o l h in
    let deep = deepest_same f g w.1 (λ c d low e. same c d (omega (arith, w.4)) e) w.0.cover.ins w.1 (omega arith) w.3 in
    ap (equation_depth g) w.2 ∙ ap (option_map suc) deep ∙ ap Some (sym w.4)

-- a driver's depth, by depths that are the same below it
driver_to : (f g : ℕ → Option ℕ) (equations : List Equation) (d : Driver) (l : ℕ) → ((c m : ℕ) → suc m ≤ l → f c ≡ Some m → g c ≡ Some m) → driver_depth f equations d ≡ Some l → driver_depth g equations d ≡ Some l
driver_to f g equations Nobody l same h = h
driver_to f g equations (Input j) l same h = h
driver_to f g equations (Cover j) l same h = equation_to f g (slice_get equations j) l same h

-- one more step keeps a depth
pub depth_more : (drivers : ℕ → Driver) (equations : List Equation) (k s l : ℕ) → depth_by drivers equations k s ≡ Some l → depth_by drivers equations (suc k) s ≡ Some l
depth_more drivers equations zero s l h = cc
depth_more drivers equations (suc k) s l h =
    driver_to (λ c. depth_by drivers equations k c) (λ c. depth_by drivers equations (suc k) c) equations (drivers s) l (λ c d low e. depth_more drivers equations k c d e) h

-- so do any number of them
pub depth_on : (drivers : ℕ → Driver) (equations : List Equation) (k m s l : ℕ) → depth_by drivers equations k s ≡ Some l → depth_by drivers equations (m + k) s ≡ Some l
depth_on drivers equations k zero s l h = subst (λ n. depth_by drivers equations n s ≡ Some l) (let e : k ≡ 0 + k = omega arith in e) h
depth_on drivers equations k (suc m) s l h =
    let more = depth_more drivers equations (m + k) s l (depth_on drivers equations k m s l h) in
    subst (λ n. depth_by drivers equations n s ≡ Some l) (let e : suc (m + k) ≡ suc m + k = omega arith in e) more

pub depth_to : (drivers : ℕ → Driver) (equations : List Equation) (k n s l : ℕ) → k ≤ n → depth_by drivers equations k s ≡ Some l → depth_by drivers equations n s ≡ Some l
depth_to drivers equations k n s l low h =
    subst (λ x. depth_by drivers equations x s ≡ Some l) (let e : (n - k) + k ≡ n = omega arith in e) (depth_on drivers equations k (n - k) s l h)

-- a depth of l is found within l + 1 steps
pub depth_low : (drivers : ℕ → Driver) (equations : List Equation) (k s l : ℕ) → depth_by drivers equations k s ≡ Some l → depth_by drivers equations (suc l) s ≡ Some l
depth_low drivers equations zero s l h = cc
depth_low drivers equations (suc k) s l h =
    driver_to (λ c. depth_by drivers equations k c) (λ c. depth_by drivers equations l c) equations (drivers s) l (λ c d low e. depth_to drivers equations (suc d) l c d low (depth_low drivers equations k c d e)) h

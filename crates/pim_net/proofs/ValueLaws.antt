-- Where a signal has a depth, it has a value.
use Rattle.std.proofs.Common.{◌≡◌, ◌≢◌, ℕ, zero, suc, ◌<◌, ◌≤◌, ◌++◌, Bool, true, false, List, [], ◌∷◌, Option, Some, None, length, get_or, map, refl, ap, sym, ◌∙◌, ⊎_elim, arith}
use Rattle.std.specs.Prelude.{is_some, option_map, slice_get, Contains, AllPairs}
use Rattle.std.proofs.lemmas.List.{get_or-map, length-map, length-append, get_or_append_left, get_or_default}
use Rattle.std.proofs.lemmas.List.Elements.{Contains-append_cases}
use Rattle.std.proofs.lemmas.Option.{slice_get-get_or}
use Rattle.std.proofs.lemmas.Bool.{cases_lt}
use Rattle.pim_net.specs.Drivers.{place, sigs, driven, equation_of}
use Rattle.pim_net.specs.Depths.{deepest, depth, depth_below, signal_depth}
use Rattle.pim_net.specs.Values.{val, value, all_values, signal_value, equation_value, cover_value}
use Rattle.pim_net.specs.Netlist.{NetView}
use Rattle.pim_net.specs.WellFormed.{IsNet, IsWellFormed}
use Rattle.pim_net.specs.Laws.{HasValues, HasInputValues, HasCoverValues}
use Rattle.pim_net.specs.declared.parts.Equation.{Equation}
use Rattle.pim_net.specs.declared.parts.OutRef.{OutRef}
use Rattle.pim_net.proofs.DepthLemmas.{deepest_cons, equation_from}
use Rattle.pim_net.proofs.ByDrivers.{equation_at, equation_is}
use Rattle.pim_net.proofs.Exact.{apart_once}
use Rattle.pim_net.proofs.Repeats.{place_is, place_has, places}
use Rattle.pim_net.proofs.Trails.{equation_within}

is_some_map : {A : Type 0} {B : Type 0} (f : A → B) (o : Option A) → is_some o ≡ true → is_some (option_map f o) ≡ true
is_some_map f None h = cc
is_some_map f (Some x) h = refl

first_some : (o : Option Bool) (rest : List (Option Bool)) → is_some o ≡ true → is_some (all_values rest) ≡ true → is_some (all_values (o ∷ rest)) ≡ true
first_some None rest h r = cc
first_some (Some b) rest h r = is_some_map (λ (bs : List Bool). b ∷ bs) (all_values rest) r

-- columns that all have a depth all have a value
all_some : (f : ℕ → Option ℕ) (g : ℕ → Option Bool) (cs : List ℕ) (m : ℕ) → deepest (map f cs) ≡ Some m → ((c l : ℕ) → f c ≡ Some l → is_some (g c) ≡ true) → is_some (all_values (map g cs)) ≡ true
all_some f g [] m h some = refl
all_some f g (c ∷ cs) m h some =
    let w = deepest_cons (f c) (map f cs) m h in
    first_some (g c) (map g cs) (some c w.0 w.2) (all_some f g cs w.1 w.3 some)

-- a signal with a depth has a value
signal_some : (bits : List Bool) (below : ℕ → Option ℕ) (vals : ℕ → Option Bool) (p : Option ℕ) (o : Option Equation) (l : ℕ) → ((c m : ℕ) → below c ≡ Some m → is_some (vals c) ≡ true) → ((j : ℕ) → p ≡ Some j → j < length bits) → signal_depth below p o ≡ Some l → is_some (signal_value vals bits p o) ≡ true
signal_some bits below vals (Some j) o l some within h = ap is_some (slice_get-get_or bits j false (within j refl))
signal_some bits below vals None o l some within h =
    let w = equation_from below o l h in
    ap (λ e. is_some (equation_value vals e)) w.2 ∙ is_some_map (cover_value w.0.cover) (all_values (map vals w.0.cover.ins)) (all_some below vals w.0.cover.ins w.1 w.3 some)

pub has_value : (inputs : List ℕ) (es : List Equation) (bits : List Bool) (k s l : ℕ) → length bits ≡ length inputs → depth_below inputs es k s ≡ Some l → is_some (val inputs es bits k s) ≡ true
has_value inputs es bits zero s l whole h = cc
has_value inputs es bits (suc k) s l whole h =
    signal_some bits (λ c. depth_below inputs es k c) (λ c. val inputs es bits k c) (place s inputs) (equation_of es s) l
    (λ c m e. has_value inputs es bits k c m whole e)
    (λ j e. let w = place_is s inputs j e in omega (arith, w.0, whole))
    h

-- an input has depth 0
input_deep : (inputs : List ℕ) (es : List Equation) (s : ℕ) → is_some (place s inputs) ≡ true → depth inputs es s ≡ Some 0
input_deep inputs es s h = by (place s inputs) h
  where
    by : (p : Option ℕ) → is_some p ≡ true → signal_depth (λ c. depth_below inputs es (length es) c) p (equation_of es s) ≡ Some 0
    by None h = cc
    by (Some j) h = refl

some_of : (o : Option ℕ) → is_some o ≡ true → (l : ℕ) × (o ≡ Some l)
some_of None h = cc
some_of (Some l) h = (l, refl)

-- what is driven in a well-formed draft has a depth
driven_deep : (inputs : List ℕ) (es : List Equation) (outputs : List OutRef) (s : ℕ) → IsWellFormed inputs es outputs → Contains (driven inputs es) s → (l : ℕ) × (depth inputs es s ≡ Some l)
driven_deep inputs es outputs s formed contains =
    ⊎_elim
    (λ (w : Contains inputs s).
    let at : get_or inputs w.0 0 ≡ s = get_or_default inputs w.0 0 s w.1 ∙ w.2 in
    (0, input_deep inputs es s (ap (λ n. is_some (place n inputs)) (sym at) ∙ place_has inputs w.0 w.1)))
    (λ (w : Contains (sigs es) s).
    let within : w.0 < length es = omega (arith, w.1, length-map es (λ (x : Equation). x.sig)) in
    let e = equation_within es w.0 within in
    let at : (get_or es w.0 e.0).sig ≡ s = sym (get_or-map (λ (x : Equation). x.sig) es w.0 e.0 s within) ∙ w.2 in
    some_of (depth inputs es s) (ap (λ n. is_some (depth inputs es n)) (sym at) ∙ formed.deep w.0 e.0 within))
    (Contains-append_cases inputs (sigs es) s contains)

pub has_values : (net : NetView) → IsNet net → HasValues net
has_values net checked = λ bits s whole contains.
    let w = driven_deep net.inputs net.equations net.outputs s checked.well_formed contains in
    has_value net.inputs net.equations bits (suc (length net.equations)) s w.0 whole w.1

all_parts : (o : Option Bool) (rest : List (Option Bool)) (bs : List Bool) → all_values (o ∷ rest) ≡ Some bs → (b : Bool) × (later : List Bool) × (o ≡ Some b) × (all_values rest ≡ Some later) × (b ∷ later ≡ bs)
all_parts None rest bs h = cc
all_parts (Some b) rest bs h = by (all_values rest) refl h
  where
    by : (r : Option (List Bool)) → all_values rest ≡ r → option_map (λ later. b ∷ later) r ≡ Some bs → (b' : Bool) × (later : List Bool) × (Some b ≡ Some b') × (all_values rest ≡ Some later) × (b' ∷ later ≡ bs)
    by None is h = cc
    by (Some later) is h = (b, later, refl, is, (let e : b ∷ later ≡ bs = cc in e))

-- values that stay the same all together stay the same
all_same : (f g : ℕ → Option Bool) (cs : List ℕ) (bs : List Bool) → ((c : ℕ) (b : Bool) → f c ≡ Some b → g c ≡ Some b) → all_values (map f cs) ≡ Some bs → all_values (map g cs) ≡ Some bs
all_same f g [] bs same h = h
all_same f g (c ∷ cs) bs same h =
    let w = all_parts (f c) (map f cs) bs h in
    ap (λ o. all_values (o ∷ map g cs)) (same c w.0 w.2) ∙ ap (option_map (λ (later : List Bool). w.0 ∷ later)) (all_same f g cs w.1 same w.3) ∙ ap Some w.4

equation_same : (f g : ℕ → Option Bool) (o : Option Equation) (b : Bool) → ((c : ℕ) (x : Bool) → f c ≡ Some x → g c ≡ Some x) → equation_value f o ≡ Some b → equation_value g o ≡ Some b
equation_same f g None b same h = cc
equation_same f g (Some e) b same h = by (all_values (map f e.cover.ins)) refl h
  where
    by : (r : Option (List Bool)) → all_values (map f e.cover.ins) ≡ r → option_map (cover_value e.cover) r ≡ Some b → equation_value g (Some e) ≡ Some b
    by None is h = cc
    by (Some bs) is h = ap (option_map (cover_value e.cover)) (all_same f g e.cover.ins bs same is) ∙ h

signal_same : (bits : List Bool) (f g : ℕ → Option Bool) (p : Option ℕ) (o : Option Equation) (b : Bool) → ((c : ℕ) (x : Bool) → f c ≡ Some x → g c ≡ Some x) → signal_value f bits p o ≡ Some b → signal_value g bits p o ≡ Some b
signal_same bits f g (Some j) o b same h = h
signal_same bits f g None o b same h = equation_same f g o b same h

-- one more step keeps a value
value_more : (inputs : List ℕ) (es : List Equation) (bits : List Bool) (k s : ℕ) (b : Bool) → val inputs es bits k s ≡ Some b → val inputs es bits (suc k) s ≡ Some b
value_more inputs es bits zero s b h = cc
value_more inputs es bits (suc k) s b h =
    signal_same bits (λ c. val inputs es bits k c) (λ c. val inputs es bits (suc k) c) (place s inputs) (equation_of es s) b (λ c x e. value_more inputs es bits k c x e) h

bool_of : (o : Option Bool) → is_some o ≡ true → (b : Bool) × (o ≡ Some b)
bool_of None h = cc
bool_of (Some b) h = (b, refl)

pub has_cover_values : (net : NetView) → IsNet net → HasCoverValues net
has_cover_values net checked = λ bits k whole within.
    let inputs = net.inputs in
    let es = net.equations in
    let s = get_or (sigs es) k 0 in
    let inside : k < length (sigs es) = omega (arith, length-map es (λ (x : Equation). x.sig)) in
    let n = length es in
    let below = λ (c : ℕ). val inputs es bits n c in
    let e = equation_within es k within in
    let w = places inputs (sigs es) k (apart_once [] (driven inputs es) checked.well_formed.once) inside in
    let is : value net bits s ≡ equation_value below (slice_get es k) =
    ap (λ p. signal_value below bits p (equation_of es s)) w.0 ∙ ap (signal_value below bits None) (equation_is es s ∙ ap (equation_at es) w.1) in
    let same_sig = get_or-map (λ (x : Equation). x.sig) es k e.0 0 within in
    let l = some_of (depth inputs es s) (ap (λ x. is_some (depth inputs es x)) same_sig ∙ checked.well_formed.deep k e.0 within) in
    let b = bool_of (value net bits s) (has_value inputs es bits (suc n) s l.0 whole l.1) in
    let more = equation_same below (λ c. val inputs es bits (suc n) c) (slice_get es k) b.0 (λ c x h. value_more inputs es bits n c x h) (sym is ∙ b.1) in
    b.1 ∙ sym more

-- where all drivers are different, an input stands at its signal's first place
input_place : (inputs : List ℕ) (es : List Equation) (j : ℕ) → AllPairs ◌≢◌ (driven inputs es) → j < length inputs → place (get_or inputs j 0) inputs ≡ Some j
input_place inputs es j apart within =
    let s = get_or inputs j 0 in
    let long = length-append inputs (sigs es) in
    let at : (i : ℕ) → i < length inputs → get_or (inputs ++ sigs es) i 0 ≡ get_or inputs i 0 = λ i h. get_or_append_left inputs (sigs es) 0 i h in
    let only : (i : ℕ) → place s inputs ≡ Some i → i ≡ j = λ i h.
    let w = place_is s inputs i h in
    ⊎_elim
    (λ (before : i < j). absurd (apart i j 0 before (omega (arith, long)) (at i w.0 ∙ (w.1 ∙ sym (at j within)))))
    (λ (from : j ≤ i). ⊎_elim
    (λ (after : j < i). absurd (apart j i 0 after (omega (arith, long, w.0)) (at j within ∙ (sym w.1 ∙ sym (at i w.0)))))
    (λ (back : i ≤ j). let e : i ≡ j = omega arith in e)
    (cases_lt j i))
    (cases_lt i j) in
    by (place s inputs) only (place_has inputs j within)
  where
    by : (p : Option ℕ) → ((i : ℕ) → p ≡ Some i → i ≡ j) → is_some p ≡ true → p ≡ Some j
    by None only has = cc
    by (Some i) only has = ap Some (only i refl)

pub has_input_values : (net : NetView) → IsNet net → HasInputValues net
has_input_values net checked = λ bits j whole within.
    let s = get_or net.inputs j 0 in
    let below = λ (c : ℕ). val net.inputs net.equations bits (length net.equations) c in
    ap (λ p. signal_value below bits p (equation_of net.equations s)) (input_place net.inputs net.equations j checked.well_formed.once within)

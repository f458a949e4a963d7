-- The values of a netlist's signals: those of the inputs are the bits, and those of equations are their covers'.
use Rattle.std.proofs.Common.{◌≡◌, ℕ, zero, suc, ◌<◌, Bool, true, false, List, [], ◌∷◌, length, get_or, map, Option, Some, None, Contains, slice_get, is_some, option_map, refl, sym, ◌∙◌, ap, arith}
use Rattle.std.specs.Prelude.{unwrap_or}
use Rattle.std.proofs.lemmas.List.{length-map}
use Rattle.std.proofs.lemmas.List.Elements.{Contains-append_right}
use Rattle.std.proofs.lemmas.Option.{slice_get-get_or}
use Rattle.pim_net.specs.Drivers.{sigs}
use Rattle.pim_net.specs.Laws.{HasValues, HasInputValues, HasCoverValues}
use Rattle.pim_net.specs.Netlist.{NetView}
use Rattle.pim_net.specs.Values.{value, all_values, cover_value, equation_value}
use Rattle.pim_net.specs.declared.parts.Equation.{Equation}

-- the value of a signal, and false where it has none
abbrev pub bit : NetView → List Bool → ℕ → Bool
bit net bits s = unwrap_or (value net bits s) false

-- the value of an input's signal is the input's bit
pub input-bit : (net : NetView) (bits : List Bool) (j : ℕ) → HasInputValues net → length bits ≡ length net.inputs → j < length net.inputs → bit net bits (get_or net.inputs j 0) ≡ get_or bits j false
input-bit net bits j inputs whole within =
    ap (λ (o : Option Bool). unwrap_or o false) (inputs bits j whole within) ∙ ap (λ (o : Option Bool). unwrap_or o false) (slice_get-get_or bits j false (omega arith))

-- values that are all there are the list of the values
all_there : (f : ℕ → Option Bool) (cs : List ℕ) → is_some (all_values (map f cs)) ≡ true → all_values (map f cs) ≡ Some (map (λ c. unwrap_or (f c) false) cs)
all_there f [] h = refl
all_there f (c ∷ cs) h = by (f c) (λ some. all_there f cs some) h
  where
    later : (b : Bool) (r : Option (List Bool)) → is_some (option_map (λ (rest : List Bool). b ∷ rest) r) ≡ true → is_some r ≡ true
    later b None h = h
    later b (Some rest) h = refl

    by : (o : Option Bool) → (is_some (all_values (map f cs)) ≡ true → all_values (map f cs) ≡ Some (map (λ c. unwrap_or (f c) false) cs)) → is_some (all_values (o ∷ map f cs)) ≡ true → all_values (o ∷ map f cs) ≡ Some (unwrap_or o false ∷ map (λ c. unwrap_or (f c) false) cs)
    by None rest h = cc
    by (Some b) rest h = ap (option_map (λ (vs : List Bool). b ∷ vs)) (rest (later b (all_values (map f cs)) h))

some_below : (cover : List Bool → Bool) (o : Option (List Bool)) → is_some (option_map cover o) ≡ true → is_some o ≡ true
some_below cover None h = h
some_below cover (Some values) h = refl

-- the value of an equation's signal is its cover's at its columns' values
pub equation-bit : (net : NetView) (bits : List Bool) (k : ℕ) (e : Equation) → HasValues net → HasCoverValues net → length bits ≡ length net.inputs → k < length net.equations → slice_get net.equations k ≡ Some e → bit net bits (get_or (sigs net.equations) k 0) ≡ cover_value e.cover (map (bit net bits) e.cover.ins)
equation-bit net bits k e driven_ones covers whole within at =
    let s = get_or (sigs net.equations) k 0 in
    let f = λ (c : ℕ). value net bits c in
    let inside : k < length (sigs net.equations) = omega (arith, length-map net.equations (λ (x : Equation). x.sig)) in
    let there : Contains (sigs net.equations) s = (k, inside, get_or_same (sigs net.equations) k inside) in
    let has : is_some (value net bits s) ≡ true = driven_ones bits s whole (Contains-append_right net.inputs (sigs net.equations) s there) in
    let law : value net bits s ≡ option_map (cover_value e.cover) (all_values (map f e.cover.ins)) = covers bits k whole within ∙ ap (equation_value f) at in
    let some = some_below (cover_value e.cover) (all_values (map f e.cover.ins)) (ap is_some (sym law) ∙ has) in
    ap (λ (o : Option Bool). unwrap_or o false) (law ∙ ap (option_map (cover_value e.cover)) (all_there f e.cover.ins some))
  where
    get_or_same : (xs : List ℕ) (i : ℕ) → i < length xs → get_or xs i (get_or xs i 0) ≡ get_or xs i 0
    get_or_same [] i h = absurd (omega arith)
    get_or_same (x ∷ xs) zero h = refl
    get_or_same (x ∷ xs) (suc i) h = get_or_same xs i (omega arith)

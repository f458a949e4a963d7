-- Keeping the gates that are reached keeps their values.
use Rattle.std.proofs.Common.{◌≡◌, ℕ, ◌+◌, ◌<◌, zero, suc, Bool, true, false, cond, not, ◌&&◌, List, [], ◌∷◌, ◌++◌, length, get_or, take, drop, map, refl, sym, ◌∙◌, ap, arith, append-nil}
use Rattle.std.proofs.lemmas.Bool.{false≢true}
use Rattle.std.proofs.lemmas.List.{drop_more, take_all, get_or-drop}
use Rattle.pim_nor.specs.declared.network.Pin.{Pin}
use Rattle.pim_nor.specs.declared.network.Pin.TheVariants.{Input, Gate as Place}
use Rattle.pim_nor.specs.declared.network.Gate.{Gate}
use Rattle.pim_nor.specs.Network.{pins, IsInputOrFirst, AreInputsOrFirst}
use Rattle.pim_nor.specs.Reached.{number, numbered, numbered_gate, kept}
use Rattle.pim_nor.specs.Values.{pin_value, none_true, gate_value, gate_values_from}
use Rattle.pim_nor.proofs.Closure.{IsMarked, AreMarked, ReadBefore}
use Rattle.pim_nor.proofs.Numbering.{number-suc, pins-numbered_gate}

-- the values of the marked slots from one on
abbrev pub kept_values : (ℕ → Bool) → ℕ → List Bool → List Bool
kept_values value s [] = []
kept_values value s (true ∷ ms) = value s ∷ kept_values value (suc s) ms
kept_values value s (false ∷ ms) = kept_values value (suc s) ms

-- a marked slot's value stands at its number
pub get_or-kept_values : (value : ℕ → Bool) (from : ℕ) (ms : List Bool) (t : ℕ) → get_or ms t false ≡ true → get_or (kept_values value from ms) (number ms t) false ≡ value (from + t)
get_or-kept_values value from [] t h = absurd (false≢true h)
get_or-kept_values value from (true ∷ ms) zero h = ap value (omega arith)
get_or-kept_values value from (false ∷ ms) zero h = absurd (false≢true h)
get_or-kept_values value from (true ∷ ms) (suc t) h =
    let e : number (true ∷ ms) (suc t) ≡ suc (number ms t) = omega (arith, number-suc true ms t) in
    ap (λ (n : ℕ). get_or (kept_values value from (true ∷ ms)) n false) e ∙ (get_or-kept_values value (suc from) ms t h ∙ ap value (omega arith))
get_or-kept_values value from (false ∷ ms) (suc t) h =
    let e : number (false ∷ ms) (suc t) ≡ number ms t = omega (arith, number-suc false ms t) in
    ap (λ (n : ℕ). get_or (kept_values value from (false ∷ ms)) n false) e ∙ (get_or-kept_values value (suc from) ms t h ∙ ap value (omega arith))

-- the value of a pin among all gates
abbrev pub full_value : List Bool → (ℕ → Bool) → Pin → Bool
full_value bits value (Input j) = get_or bits j false
full_value bits value (Place t) = value t

number-take : (ms : List Bool) (n t : ℕ) → t < n → number (take n ms) t ≡ number ms t
number-take ms zero t l = absurd (omega arith)
number-take [] (suc n) t l = refl
number-take (b ∷ ms) (suc n) zero l = refl
number-take (b ∷ ms) (suc n) (suc t) l =
    omega (arith, number-take ms n t (omega arith), number-suc b ms t, number-suc b (take n ms) t)

get_or-take_lt : (ms : List Bool) (n t : ℕ) → t < n → get_or (take n ms) t false ≡ get_or ms t false
get_or-take_lt ms zero t l = absurd (omega arith)
get_or-take_lt [] (suc n) t l = refl
get_or-take_lt (b ∷ ms) (suc n) zero l = refl
get_or-take_lt (b ∷ ms) (suc n) (suc t) l = get_or-take_lt ms n t (omega arith)

-- a numbered pin has the value of its slot, where the slots before a place have theirs
pub pin_value-numbered : (bits : List Bool) (value : ℕ → Bool) (ms : List Bool) (n : ℕ) (p : Pin) → IsInputOrFirst n p → IsMarked ms p → pin_value bits (kept_values value 0 (take n ms)) (numbered ms p) ≡ full_value bits value p
pin_value-numbered bits value ms n (Input j) h m = refl
pin_value-numbered bits value ms n (Place t) h m =
    ap (λ (k : ℕ). get_or (kept_values value 0 (take n ms)) k false) (sym (number-take ms n t h)) ∙ (get_or-kept_values value 0 (take n ms) t (get_or-take_lt ms n t h ∙ m) ∙ ap value (omega arith))

none_true-numbered : (bits : List Bool) (value : ℕ → Bool) (ms : List Bool) (n : ℕ) (ps : List Pin) → AreInputsOrFirst n ps → AreMarked ms ps → none_true (pin_value bits (kept_values value 0 (take n ms))) (map (numbered ms) ps) ≡ none_true (full_value bits value) ps
none_true-numbered bits value ms n [] h m = refl
none_true-numbered bits value ms n (p ∷ ps) h m =
    ap (λ (b : Bool). not b && none_true (pin_value bits (kept_values value 0 (take n ms))) (map (numbered ms) ps)) (pin_value-numbered bits value ms n p h.0 m.0) ∙ ap (λ (b : Bool). not (full_value bits value p) && b) (none_true-numbered bits value ms n ps h.1 m.1)

gate_value-numbered : (bits : List Bool) (value : ℕ → Bool) (ms : List Bool) (n : ℕ) (gate : Gate) → AreInputsOrFirst n (pins gate) → AreMarked ms (pins gate) → gate_value (pin_value bits (kept_values value 0 (take n ms))) (numbered_gate ms gate) ≡ none_true (full_value bits value) (pins gate)
gate_value-numbered bits value ms n gate h m =
    ap (λ (ps : List Pin). none_true (pin_value bits (kept_values value 0 (take n ms))) ps) (pins-numbered_gate ms gate) ∙ none_true-numbered bits value ms n (pins gate) h m

-- one more slot
kept_values-take : (value : ℕ → Bool) (from : ℕ) (ms : List Bool) (n : ℕ) → n < length ms → kept_values value from (take (suc n) ms) ≡ kept_values value from (take n ms) ++ cond (get_or ms n false) (value (from + n) ∷ []) []
kept_values-take value from [] n l = absurd (omega arith)
kept_values-take value from (true ∷ ms) zero l = ap (λ (k : ℕ). value k ∷ []) (omega arith)
kept_values-take value from (false ∷ ms) zero l = refl
kept_values-take value from (true ∷ ms) (suc n) l =
    let e : suc from + n ≡ from + suc n = omega arith in
    ap (λ (xs : List Bool). value from ∷ xs) (kept_values-take value (suc from) ms n (omega arith) ∙ ap (λ (k : ℕ). kept_values value (suc from) (take n ms) ++ cond (get_or ms n false) (value k ∷ []) []) e)
kept_values-take value from (false ∷ ms) (suc n) l =
    let e : suc from + n ≡ from + suc n = omega arith in
    kept_values-take value (suc from) ms n (omega arith) ∙ ap (λ (k : ℕ). kept_values value (suc from) (take n ms) ++ cond (get_or ms n false) (value k ∷ []) []) e

-- the gates among all slots have these values, each as the NOR of what it reads
pub record IsValued (gate : ℕ → Gate) (n : ℕ) (bits : List Bool) (value : ℕ → Bool) : Type 0 where
  pub at : (s : ℕ) → s < n → none_true (full_value bits value) (pins (gate s)) ≡ value s

at_front : (ms : List Bool) (from : ℕ) (b : Bool) (rest : List Bool) → drop from ms ≡ b ∷ rest → get_or ms from false ≡ b
at_front ms from b rest e =
    let z : from ≡ from + 0 = omega arith in
    ap (λ (k : ℕ). get_or ms k false) z ∙ (sym (get_or-drop from ms 0 false) ∙ ap (λ (xs : List Bool). get_or xs 0 false) e)

after_front : (ms : List Bool) (from : ℕ) (b : Bool) (rest : List Bool) → from < length ms → drop from ms ≡ b ∷ rest → drop (suc from) ms ≡ rest
after_front ms from b rest l e =
    let d = drop_more ms from false l in
    let k : suc from ≡ from + 1 = omega arith in
    let same : get_or ms from false ∷ drop (from + 1) ms ≡ b ∷ rest = sym d ∙ e in
    ap (λ (n : ℕ). drop n ms) k ∙ cc

-- the values of the kept gates are those of their slots
rest_values : (gate : ℕ → Gate) (ms : List Bool) (bits : List Bool) (value : ℕ → Bool) → ReadBefore gate (length ms) → ((s : ℕ) → s < length ms → get_or ms s false ≡ true → AreMarked ms (pins (gate s))) → IsValued gate (length ms) bits value → (rest : List Bool) (from : ℕ) → drop from ms ≡ rest → from + length rest ≡ length ms → gate_values_from bits (kept_values value 0 (take from ms)) (kept (λ s. numbered_gate ms (gate s)) from rest) ≡ kept_values value 0 ms
rest_values gate ms bits value before closed valued [] from e l =
    ap (λ (xs : List Bool). kept_values value 0 xs) (take_all from ms (omega arith))
rest_values gate ms bits value before closed valued (true ∷ rest) from e l =
    let f : ℕ → Gate = λ s. numbered_gate ms (gate s) in
    let vals = kept_values value 0 (take from ms) in
    let there : from < length ms = omega arith in
    let from_zero : from ≡ 0 + from = omega arith in
    let here : get_or ms from false ≡ true = at_front ms from true rest e in
    let next : drop (suc from) ms ≡ rest = after_front ms from true rest there e in
    let gv : gate_value (pin_value bits vals) (f from) ≡ value from = gate_value-numbered bits value ms from (gate from) (before from there) (closed from there here) ∙ valued.at from there in
    let more : vals ++ gate_value (pin_value bits vals) (f from) ∷ [] ≡ kept_values value 0 (take (suc from) ms) = ap (λ (b : Bool). vals ++ b ∷ []) gv ∙ (ap (λ (k : ℕ). vals ++ value k ∷ []) from_zero ∙ (ap (λ (b : Bool). vals ++ cond b (value (0 + from) ∷ []) []) (sym here) ∙ sym (kept_values-take value 0 ms from there))) in
    ap (λ (vs : List Bool). gate_values_from bits vs (kept f (suc from) rest)) more ∙ rest_values gate ms bits value before closed valued rest (suc from) next (omega arith)
rest_values gate ms bits value before closed valued (false ∷ rest) from e l =
    let f : ℕ → Gate = λ s. numbered_gate ms (gate s) in
    let vals = kept_values value 0 (take from ms) in
    let there : from < length ms = omega arith in
    let here : get_or ms from false ≡ false = at_front ms from false rest e in
    let next : drop (suc from) ms ≡ rest = after_front ms from false rest there e in
    let more : vals ≡ kept_values value 0 (take (suc from) ms) = sym (append-nil vals) ∙ (ap (λ (b : Bool). vals ++ cond b (value (0 + from) ∷ []) []) (sym here) ∙ sym (kept_values-take value 0 ms from there)) in
    ap (λ (vs : List Bool). gate_values_from bits vs (kept f (suc from) rest)) more ∙ rest_values gate ms bits value before closed valued rest (suc from) next (omega arith)

-- the values of all kept gates
pub gate_values-kept : (gate : ℕ → Gate) (ms : List Bool) (bits : List Bool) (value : ℕ → Bool) → ReadBefore gate (length ms) → ((s : ℕ) → s < length ms → get_or ms s false ≡ true → AreMarked ms (pins (gate s))) → IsValued gate (length ms) bits value → gate_values_from bits [] (kept (λ s. numbered_gate ms (gate s)) 0 ms) ≡ kept_values value 0 ms
gate_values-kept gate ms bits value before closed valued = rest_values gate ms bits value before closed valued ms 0 refl (omega arith)

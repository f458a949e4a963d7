-- How many instructions there are, and the ports.
use Rattle.std.proofs.Common.{◌≡◌, ℕ, suc, ◌*◌, ◌<◌, ◌≤◌, Bool, true, false, cond, List, [], ◌∷◌, length, get_or, map, sum_by, Option, Some, None, refl, ◌∙◌, ap, arith}
use Rattle.std.proofs.lemmas.List.{length-append}
use Rattle.std.proofs.lemmas.List.Concat.{length-flat_map}
use Rattle.std.proofs.lemmas.List.Sums.{sum_by-cons}
use Rattle.pim_aig.specs.Graph.{AigView}
use Rattle.pim_aig.specs.declared.literal.Lit.{Lit}
use Rattle.pim_isa.specs.PortLists.{labels_of}
use Rattle.pim_isa.specs.Steps.{bit}
use Rattle.pim_isa.specs.declared.instr.Instr.{Instr}
use Rattle.pim_rm3.specs.Costs.{cost_of, rm3_cost}
use Rattle.pim_rm3.specs.Gates.{gate_of, gates, taken}
use Rattle.pim_rm3.specs.Schedules.{gate_instrs, instrs_at, is_inverted, load, narrow, output_cell, output_ports, schedule}
use Rattle.pim_rm3.specs.declared.gate.Gate.{Gate}
use Rattle.pim_rm3.specs.declared.gate.Gate.TheVariants as gate

two : (b : Bool) (i j k h : Instr) → length (cond b (i ∷ j ∷ []) (k ∷ h ∷ [])) ≡ 2
two true i j k h = refl
two false i j k h = refl

pub load_length : (ins : ℕ) (cells : List ℕ) (z : ℕ) (e : Lit) → length (load ins cells z e) ≡ 2
load_length ins cells z e = two (is_inverted e) _ _ _ _

gate_length : (g : AigView) (cells : List ℕ) (z l : ℕ) (over : Option ℕ) (t : Gate) → length (gate_instrs g cells z over l t) ≡ cost_of over t
gate_length g cells z l over (gate.Constant b) = refl
gate_length g cells z l over gate.Input = refl
gate_length g cells z l over (gate.Not m) = load_length g.inputs cells z (record { 0 = l })
gate_length g cells z l None (gate.And x y) =
    let a = length-append (load g.inputs cells z x) (narrow g.inputs cells z y ∷ []) in
    let b = load_length g.inputs cells z x in
    omega arith
gate_length g cells z l (Some c) (gate.And x y) = refl

pub sum_same : (f h : ℕ → ℕ) → ((x : ℕ) → f x ≡ h x) → (xs : List ℕ) → sum_by f xs ≡ sum_by h xs
sum_same f h e [] = refl
sum_same f h e (x ∷ xs) =
    let a = sum_by-cons f x xs in
    let b = sum_by-cons h x xs in
    let d = e x in
    let r = sum_same f h e xs in
    omega arith

-- the cycles are those of the gates
pub schedule_length : (g : AigView) (cells : List ℕ) → length (schedule g cells) ≡ rm3_cost g
schedule_length g cells =
    length-flat_map (instrs_at g cells) (gates g)
    ∙ sum_same (λ l. length (instrs_at g cells l)) (λ l. cost_of (taken g l) (gate_of g l)) (λ l. gate_length g cells (get_or cells l 0) l (taken g l) (gate_of g l)) (gates g)

cost_few : (over : Option ℕ) (t : Gate) → cost_of over t ≤ 3
cost_few over (gate.Constant b) = omega arith
cost_few over gate.Input = omega arith
cost_few over (gate.Not m) = omega arith
cost_few None (gate.And x y) = omega arith
cost_few (Some c) (gate.And x y) = omega arith

sum_few : (f : ℕ → ℕ) → ((x : ℕ) → f x ≤ 3) → (xs : List ℕ) → sum_by f xs ≤ 3 * length xs
sum_few f few [] = omega arith
sum_few f few (x ∷ xs) = let a = sum_by-cons f x xs in let b = few x in let r = sum_few f few xs in omega arith

pub cost_within : (g : AigView) → rm3_cost g ≤ 3 * length (gates g)
cost_within g = sum_few (λ l. cost_of (taken g l) (gate_of g l)) (λ l. cost_few (taken g l) (gate_of g l)) (gates g)

pub labels_kept : (ins : ℕ) (cells : List ℕ) (os : List Lit) (labels : List (List ℕ)) → length labels ≡ length os → labels_of (output_ports ins cells os labels) ≡ labels
labels_kept ins cells [] [] h = refl
labels_kept ins cells [] (x ∷ labels) h = absurd (omega arith)
labels_kept ins cells (o ∷ os) [] h = absurd (omega arith)
labels_kept ins cells (o ∷ os) (x ∷ labels) h = ap (λ (xs : List (List ℕ)). x ∷ xs) (labels_kept ins cells os labels (omega arith))

-- the output ports read what the outputs are
pub ports_hold : (ins : ℕ) (cells : List ℕ) (val : Lit → Bool) (r : List Bool) (os : List Lit) (labels : List (List ℕ)) → length labels ≡ length os → ((k : ℕ) (d : Lit) → k < length os → bit r (output_cell ins cells (get_or os k d)) ≡ val (get_or os k d)) → map (λ p. bit r p.cell) (output_ports ins cells os labels) ≡ map (val) os
ports_hold ins cells val r [] labels h all = refl
ports_hold ins cells val r (o ∷ os) [] h all = absurd (omega arith)
ports_hold ins cells val r (o ∷ os) (x ∷ labels) h all =
    let here : bit r (output_cell ins cells o) ≡ val o = all 0 o (omega arith) in
    let rest = ports_hold ins cells val r os labels (omega arith) (λ k d l. all (suc k) d (omega arith)) in
    ap (λ (b : Bool). b ∷ map (λ p. bit r p.cell) (output_ports ins cells os labels)) here ∙ ap (λ (bs : List Bool). val o ∷ bs) rest

pub ports_count : (ins : ℕ) (cells : List ℕ) (os : List Lit) (labels : List (List ℕ)) → length labels ≡ length os → length (output_ports ins cells os labels) ≡ length os
ports_count ins cells [] labels h = refl
ports_count ins cells (o ∷ os) [] h = absurd (omega arith)
ports_count ins cells (o ∷ os) (x ∷ labels) h = let r = ports_count ins cells os labels (omega arith) in omega arith

-- A netlist with few parts needs few cells.
use Rattle.std.proofs.Common.{◌≡◌, ◌∙◌, ◌+◌, ◌*◌, ◌≤◌, ◌≡◌, ℕ, zero, suc, Bool, true, false, List, [], ◌∷◌, ◌++◌, length, fold, refl, arith, replicate}
use Rattle.std.specs.Prelude.{if◌then◌else◌, slice_index_or}
use Rattle.std.proofs.lemmas.List.{length-append, length-map, length-replicate, length-set}
use Rattle.std.proofs.lemmas.List.Sums.{count_by-le-length}
use Rattle.pim_aig.specs.Flat.{ands, flat, flattened, output_literal}
use Rattle.pim_aig.specs.Graph.{AigView}
use Rattle.pim_aig.specs.declared.literal.Lit.{Lit}
use Rattle.pim_compile.specs.Networks.{coarse_need}
use Rattle.pim_graph.specs.Graphs.{has}
use Rattle.pim_isa.specs.declared.target.Target.{Target}
use Rattle.pim_isa.specs.declared.target.Target.TheVariants.{Magic, Plim}
use Rattle.pim_net.specs.Netlist.{NetView}
use Rattle.pim_nor.specs.Leaves.{leaves}
use Rattle.pim_nor.specs.Lowered.{marks_of, nors, roots}
use Rattle.pim_nor.specs.Named.{gate_at, slots}
use Rattle.pim_nor.specs.Network.{is_nor, nor_count, pins}
use Rattle.pim_nor.specs.Reached.{kept, mark, mark_all, numbered_gate, reached}
use Rattle.pim_nor.specs.declared.lowering.Width.TheVariants.{Two}
use Rattle.pim_nor.specs.declared.network.Gate.{Gate}
use Rattle.pim_nor.specs.declared.network.Pin.{Pin}
use Rattle.pim_nor.specs.declared.network.Pin.TheVariants.{Input, Gate as Place}
use Rattle.pim_rm3.specs.Costs.{is_made, made_outputs}
use Rattle.pim_rm3.specs.Gates.{gate_graph, is_input, with_root}

-- ---- MAGIC: a mark for each slot, and a gate for each mark

length-mark : (marks : List Bool) (p : Pin) → length (mark marks p) ≡ length marks
length-mark marks (Input j) = refl
length-mark marks (Place s) = length-set marks s true

length-mark_all : (marks : List Bool) (ps : List Pin) → length (mark_all marks ps) ≡ length marks
length-mark_all marks [] = refl
length-mark_all marks (p ∷ ps) = length-mark_all (mark marks p) ps ∙ length-mark marks p

length-marked : (b : Bool) (marks : List Bool) (ps : List Pin) → length (if b then mark_all marks ps else marks) ≡ length marks
length-marked true marks ps = length-mark_all marks ps
length-marked false marks ps = refl

length-reached : (gate : ℕ → Gate) (n : ℕ) (marks : List Bool) → length (reached gate n marks) ≡ length marks
length-reached gate zero marks = refl
length-reached gate (suc s) marks =
    length-reached gate s (if slice_index_or marks s false then mark_all marks (pins (gate s)) else marks) ∙ length-marked (slice_index_or marks s false) marks (pins (gate s))

kept_few : (gate : ℕ → Gate) (s : ℕ) (marks : List Bool) → length (kept gate s marks) ≤ length marks
kept_few gate s [] = omega arith
kept_few gate s (true ∷ ms) = omega (arith, kept_few gate (suc s) ms)
kept_few gate s (false ∷ ms) = omega (arith, kept_few gate (suc s) ms)

nors_few : (g : AigView) → nor_count (nors g Two).gates ≤ slots g
nors_few g =
    let lists = leaves g Two in
    let marks = marks_of g lists in
    let long : length marks ≡ slots g = length-reached (gate_at g lists) (slots g) (mark_all (replicate (slots g) false) (roots g))
    ∙ length-mark_all (replicate (slots g) false) (roots g) ∙ length-replicate (slots g) false in
    omega (arith, long, kept_few (λ s. numbered_gate marks (gate_at g lists s)) 0 marks, count_by-le-length is_nor (nors g Two).gates)

-- ---- PLiM: at most a root for each output

root_more : (b c : Bool) (rs : List ℕ) (r : ℕ) → length (if b then rs else (if c then rs else rs ++ r ∷ [])) ≤ length rs + 1
root_more true c rs r = omega arith
root_more false true rs r = omega arith
root_more false false rs r = omega (arith, length-append rs (r ∷ []))

roots_few : (inputs : ℕ) (rs : List ℕ) (os : List Lit) → length (fold (with_root inputs) rs os) ≤ length rs + length os
roots_few inputs rs [] = omega arith
roots_few inputs rs (o ∷ os) = omega (arith, roots_few inputs (with_root inputs rs o) os, root_more (is_input inputs o) (has rs o.0) rs o.0)

made_few : (g : AigView) → made_outputs g ≤ length g.outputs
made_few g = omega (arith, roots_few g.inputs [] g.outputs, count_by-le-length is_made (gate_graph g).roots)

-- ---- both

pub coarse_small : (n : NetView) (target : Target) → length (flat n).ands ≡ ands n → coarse_need n target ≤ 2 * (length n.inputs + ands n) + length n.outputs + 4
coarse_small n Magic counted = omega (arith, counted, nors_few (flat n))
coarse_small n Plim counted = omega (arith, made_few (flat n), length-map n.outputs (output_literal (flattened n).lits))

-- What comes of comparing a clean program with the flat graph of a netlist.
use Rattle.std.proofs.Common.{◌≡◌, ℕ, ◌+◌, ◌-◌, ◌^◌, ◌<◌, ◌≤◌, Bool, false, List, length, map, take, get_or, Option, Some, None, inl, inr, sym, ap, subst, ◌∙◌, arith}
use Rattle.std.proofs.lemmas.Bool.{cases_lt}
use Rattle.std.proofs.lemmas.List.{length-map}
use Rattle.pim_aig.specs.Flat.{flat}
use Rattle.pim_aig.specs.Graph.{AigView}
use Rattle.pim_aig.specs.Values.{aval}
use Rattle.pim_isa.specs.declared.target.Fill.TheVariants.{Zeros}
use Rattle.pim_isa.specs.Programs.{ProgramView}
use Rattle.pim_isa.specs.Results.{load}
use Rattle.pim_isa.specs.Sound.{cells_of, IsProgram}
use Rattle.pim_isa.specs.Steps.{bit, exec}
use Rattle.pim_net.specs.Netlist.{NetView}
use Rattle.pim_net.specs.Values.{outs}
use Rattle.pim_prove.specs.declared.comparing.Difference.{Difference}
use Rattle.pim_prove.specs.Proving.{AgreesOn, DiffersAt, IsEqual, IsFirstDifference, IsVerdict}
use Rattle.pim_prove.specs.Steady.{HoldsInputs, IsSteady, outputs_of}
use Rattle.pim_prove.specs.Vectors.{digits}
use Rattle.pim_prove.specs.inner.Comparing.{Agrees, IsFound, row_at, verdict_of}
use Rattle.pim_prove.proofs.Numbers.{digits-number, digits_again, length-digits, number, number_small, positive}
use Rattle.pim_prove.proofs.Starts.{loaded_holds}
use Rattle.pim_prove.proofs.Unlike.{UnlikeAt, first_is, outputs_same}

-- a steady program, and the flat graph of a netlist with as many ports
pub record Compared (p : ProgramView) (n : NetView) (g : AigView) : Type 0 where
  pub inputs : length p.inputs ≡ length n.inputs
  pub outputs : length p.outputs ≡ length n.outputs
  pub graph : g ≡ flat n
  pub values : (bits : List Bool) → length bits ≡ length n.inputs → map (aval g bits) g.outputs ≡ outs n bits
  pub steady : IsSteady p
  pub valid : IsProgram p

graph_inputs : (p : ProgramView) (n : NetView) (g : AigView) → Compared p n g → g.inputs ≡ length n.inputs
graph_inputs p n g c = ap (λ (h : AigView). h.inputs) c.graph

graph_outputs : (p : ProgramView) (n : NetView) (g : AigView) → Compared p n g → length g.outputs ≡ length n.outputs
graph_outputs p n g c = ap (λ (h : AigView). length h.outputs) c.graph ∙ length-map n.outputs _

-- the outputs that the program gives for vector x from any row
program_gives : (p : ProgramView) (n : NetView) (g : AigView) → Compared p n g → (x : ℕ) (m : List Bool) → HoldsInputs p (digits (length n.inputs) x) m →
    outputs_of p m ≡ map (bit (row_at p x)) (cells_of p.outputs)
program_gives p n g c x m held =
    let bits = digits (length n.inputs) x in
    let loaded : HoldsInputs p bits (load p Zeros bits) =
    loaded_holds p bits c.valid (length-digits (length n.inputs) x ∙ sym c.inputs) in
    c.steady bits m (load p Zeros bits) held loaded
    ∙ ap (λ (k : ℕ). map (bit (exec p.instrs (load p Zeros (digits k x)))) (cells_of p.outputs)) (sym c.inputs)

-- the outputs that the graph gives for it
graph_gives : (p : ProgramView) (n : NetView) (g : AigView) → Compared p n g → (x : ℕ) →
    map (aval g (digits g.inputs x)) g.outputs ≡ outs n (digits (length n.inputs) x)
graph_gives p n g c x =
    ap (λ (k : ℕ). map (aval g (digits k x)) g.outputs) (graph_inputs p n g c)
    ∙ c.values (digits (length n.inputs) x) (length-digits (length n.inputs) x)

agreed : (p : ProgramView) (n : NetView) (g : AigView) → Compared p n g → (x : ℕ) → Agrees p g x → AgreesOn p n (digits (length n.inputs) x)
agreed p n g c x agrees = λ m held.
    program_gives p n g c x m held
    ∙ outputs_same (bit (row_at p x)) (aval g (digits g.inputs x)) p.outputs g.outputs (c.outputs ∙ sym (graph_outputs p n g c)) agrees
    ∙ graph_gives p n g c x

equal : (p : ProgramView) (n : NetView) (g : AigView) → Compared p n g → IsFound p g 0 (2 ^ g.inputs) None → IsEqual p n
equal p n g c found = λ bits long.
    let x = number bits in
    let vector : digits (length n.inputs) x ≡ bits = ap (λ (k : ℕ). digits k x) (sym long) ∙ digits-number bits in
    let small : x < 2 ^ g.inputs =
    subst (λ (k : ℕ). x < 2 ^ k) (long ∙ sym (graph_inputs p n g c)) (number_small bits) in
    subst (AgreesOn p n) vector (agreed p n g c x (found x (omega arith) small))

differs_at : (p : ProgramView) (n : NetView) (g : AigView) → Compared p n g → (x k : ℕ) →
    UnlikeAt (map (bit (row_at p x)) (cells_of p.outputs)) (map (aval g (digits g.inputs x)) g.outputs) k →
    (m : List Bool) → HoldsInputs p (digits (length n.inputs) x) m → DiffersAt p n x k m
differs_at p n g c x k there m held =
    let left = program_gives p n g c x m held in
    let right = graph_gives p n g c x in
    record {
      differs = λ same. there.apart
          (ap (λ (bs : List Bool). get_or bs k false) (sym left) ∙ same ∙ ap (λ (bs : List Bool). get_or bs k false) (sym right));
      before = ap (take k) left ∙ there.before ∙ ap (take k) right;
    }

first_difference : (p : ProgramView) (n : NetView) (g : AigView) → Compared p n g → (x k : ℕ) → ((y : ℕ) → 0 ≤ y → y < x → Agrees p g y) →
    UnlikeAt (map (bit (row_at p x)) (cells_of p.outputs)) (map (aval g (digits g.inputs x)) g.outputs) k → IsFirstDifference p n x k
first_difference p n g c x k before there =
    let bits = digits (length n.inputs) x in
    let long : length bits ≡ length n.inputs = length-digits (length n.inputs) x in
    let row = load p Zeros bits in
    let held : HoldsInputs p bits row = loaded_holds p bits c.valid (long ∙ sym c.inputs) in
    let never : AgreesOn p n bits → ⊥ =
    λ agrees. (differs_at p n g c x k there row held).differs (ap (λ (bs : List Bool). get_or bs k false) (agrees row held)) in
    record {
      vector = elim (cases_lt x (2 ^ length n.inputs)) [
        | inl small ↦ small
        | inr large ↦
            let y = x - 2 ^ length n.inputs in
            let below : y < x = omega (arith, positive (length n.inputs)) in
            let sum : 2 ^ length n.inputs + y ≡ x = omega arith in
            let vector : digits (length n.inputs) y ≡ bits = sym (digits_again (length n.inputs) y) ∙ ap (digits (length n.inputs)) sum in
            absurd (never (subst (AgreesOn p n) vector (agreed p n g c y (before y (omega arith) below))))
      ];
      output = omega (arith, there.within, length-map g.outputs (aval g (digits g.inputs x)), graph_outputs p n g c);
      differs = differs_at p n g c x k there;
      least = λ y below. agreed p n g c y (before y (omega arith) below);
      unequal = λ all. never (all bits long);
    }

from_first : (p : ProgramView) (n : NetView) (g : AigView) → Compared p n g → (x k : ℕ) → ((y : ℕ) → 0 ≤ y → y < x → Agrees p g y) →
    (j : ℕ) × (0 + j ≡ k) × UnlikeAt (map (bit (row_at p x)) (cells_of p.outputs)) (map (aval g (digits g.inputs x)) g.outputs) j →
    IsFirstDifference p n x k
from_first p n g c x k before (j, at, there) =
    let same : j ≡ k = omega arith in
    first_difference p n g c x k before
    (subst (UnlikeAt (map (bit (row_at p x)) (cells_of p.outputs)) (map (aval g (digits g.inputs x)) g.outputs)) same there)

different : (p : ProgramView) (n : NetView) (g : AigView) → Compared p n g → (d : Difference) → IsFound p g 0 (2 ^ g.inputs) (Some d) →
    IsFirstDifference p n d.vector d.output
different p n g c d found =
    from_first p n g c d.vector d.output found.0 (first_is (bit (row_at p d.vector)) (aval g (digits g.inputs d.vector)) 0 p.outputs g.outputs d.output found.1)

-- what is told of what was found is right
pub found_verdict : (p : ProgramView) (n : NetView) (g : AigView) → Compared p n g → (found : Option Difference) → IsFound p g 0 (2 ^ g.inputs) found →
    IsVerdict p n (verdict_of found)
found_verdict p n g c None found = equal p n g c found
found_verdict p n g c (Some d) found = different p n g c d found

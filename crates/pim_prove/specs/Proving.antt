-- What it is for a program to give a netlist's outputs, and where it first doesn't.
use Rattle.std.specs.Prelude.{◌≡◌, ◌≢◌, ℕ, ◌^◌, ◌<◌, ◌==◌, ◌||◌, not, nat_lt, if◌then◌else◌, Bool, false, List, length, take, Option, Some, option_map, slice_index_or}
use Rattle.pim_aig.specs.Flat.{ands}
use Rattle.pim_aig.specs.declared.graph.TheConstants.{MAX_ANDS}
use Rattle.pim_isa.specs.Programs.{ProgramView}
use Rattle.pim_net.specs.Netlist.{NetView}
use Rattle.pim_net.specs.Values.{outs}
use Rattle.pim_prove.specs.declared.fault.ProveFault.{ProveFault}
use Rattle.pim_prove.specs.declared.fault.ProveFault.TheVariants.{Ports, Inputs, Nodes, NotClean}
use Rattle.pim_prove.specs.declared.proving.TheConstants.{MAX_PROVE_INPUTS}
use Rattle.pim_prove.specs.declared.verdict.Verdict.{Verdict}
use Rattle.pim_prove.specs.declared.verdict.Verdict.TheVariants.{Equal, Differs}
use Rattle.pim_prove.specs.Clean.{unset_of}
use Rattle.pim_prove.specs.Steady.{HoldsInputs, outputs_of}
use Rattle.pim_prove.specs.Vectors.{digits}

-- from every row with these bits in the input cells, whatever the other cells hold, the output cells end with the netlist's outputs
abbrev pub AgreesOn : ProgramView → NetView → List Bool → Type 0
AgreesOn p n bits = (m : List Bool) → HoldsInputs p bits m → outputs_of p m ≡ outs n bits

-- so it is for all vectors
abbrev pub IsEqual : ProgramView → NetView → Type 0
IsEqual p n = (bits : List Bool) → length bits ≡ length n.inputs → AgreesOn p n bits

-- from every row with the bits of vector x in the input cells the first output that isn't the netlist's is output k
pub record DiffersAt (p : ProgramView) (n : NetView) (x k : ℕ) (m : List Bool) : Type 0 where
  pub differs : slice_index_or (outputs_of p m) k false ≢ slice_index_or (outs n (digits (length n.inputs) x)) k false
  pub before : take k (outputs_of p m) ≡ take k (outs n (digits (length n.inputs) x))

-- x is the number of the least vector for which the outputs aren't the netlist's, and k the first output that differs there, whatever
-- the other cells hold; some row has that vector in its input cells, so not all vectors agree
pub record IsFirstDifference (p : ProgramView) (n : NetView) (x k : ℕ) : Type 0 where
  pub vector : x < 2 ^ length n.inputs
  pub output : k < length n.outputs
  pub differs : (m : List Bool) → HoldsInputs p (digits (length n.inputs) x) m → DiffersAt p n x k m
  pub least : (y : ℕ) → y < x → AgreesOn p n (digits (length n.inputs) y)
  pub unequal : IsEqual p n → ⊥

-- what a verdict says
abbrev pub IsVerdict : ProgramView → NetView → Verdict → Type 0
IsVerdict p n Equal = IsEqual p n
IsVerdict p n (Differs x k) = IsFirstDifference p n x k

-- the numbers of inputs or of outputs are not the same
abbrev pub ports_differ : ProgramView → NetView → Bool
ports_differ p n =
    not (length p.inputs == length n.inputs) || not (length p.outputs == length n.outputs)

-- why a program isn't compared with a netlist: the first of these that applies
abbrev pub refusal_of : ProgramView → NetView → Option ProveFault
refusal_of p n =
    if ports_differ p n then Some Ports
    else (if nat_lt MAX_PROVE_INPUTS (length n.inputs) then Some Inputs
    else (if nat_lt MAX_ANDS (ands n) then Some Nodes
    else option_map (λ unset. NotClean unset) (unset_of p)))

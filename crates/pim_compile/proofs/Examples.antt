-- Small netlists, with what they need by computation.
use Rattle.std.specs.Prelude.{◌≡◌, true, false, List, [], ◌∷◌, refl}
use Rattle.pim_net.specs.Netlist.{NetView}
use Rattle.pim_net.specs.declared.cover.Bit3.{Bit3}
use Rattle.pim_net.specs.declared.cover.Bit3.TheVariants.{Zero, One}
use Rattle.pim_mig.specs.Majs.{majs}
use Rattle.pim_nor.specs.Leaves.{leaves}
use Rattle.pim_nor.specs.Lowered.{nors}
use Rattle.pim_nor.specs.Network.{nor_count}
use Rattle.pim_nor.specs.declared.lowering.Width.TheVariants.{Two}
use Rattle.pim_aig.specs.Flat.{flat}
use Rattle.pim_rewrite.specs.Rewritten.{rewritten}
use Rattle.pim_rm3.specs.Costs.{rm3_cost}
use Rattle.pim_rm3.specs.Steps.{smart_cost}
use Rattle.pim_tidy.specs.Tidied.{tidied}
use Rattle.pim_compile.specs.Networks.{need, coarse_need, nors_of_two}
use Rattle.pim_isa.specs.declared.target.Target.TheVariants.{Magic, Plim}

-- two inputs without labels, and a cover of them that is put out
abbrev of_two : List (List Bit3) → NetView
of_two rows = record {
  inputs = 0 ∷ 1 ∷ [];
  input_labels = [];
  equations = record { sig = 2; cover = record { ins = 0 ∷ 1 ∷ []; rows = rows; phase = true } } ∷ [];
  outputs = record { sig = 2; neg = false } ∷ [];
  output_labels = [];
  topo = 0 ∷ [];
}

-- an AND takes a cell for each input, each complement and the NOR
and-need : need (of_two ((One ∷ One ∷ []) ∷ [])) Magic ≡ 5
unfolding leaves
and-need = refl

and-coarse : coarse_need (of_two ((One ∷ One ∷ []) ∷ [])) Magic ≡ 7
unfolding leaves
and-coarse = refl

-- an exclusive or has six NORs, of which three are held at once
exclusive_or-nors : nors_of_two (of_two ((One ∷ Zero ∷ []) ∷ (Zero ∷ One ∷ []) ∷ [])) ≡ 6
unfolding leaves
exclusive_or-nors = refl

exclusive_or-need : need (of_two ((One ∷ Zero ∷ []) ∷ (Zero ∷ One ∷ []) ∷ [])) Magic ≡ 5
unfolding leaves
exclusive_or-need = refl

-- an input that is put out needs its own cell alone
input_out-need : need (record { inputs = 0 ∷ []; input_labels = []; equations = []; outputs = record { sig = 0; neg = false } ∷ []; output_labels = []; topo = [] }) Magic ≡ 1
unfolding leaves
input_out-need = refl

-- ---- for PLiM
-- an AND takes a cell for each input and its own, and no more
and-plim : need (of_two ((One ∷ One ∷ []) ∷ [])) Plim ≡ 3
and-plim = refl

and-plim_coarse : coarse_need (of_two ((One ∷ One ∷ []) ∷ [])) Plim ≡ 3
and-plim_coarse = refl

-- an exclusive or has three ANDs, of which two are held with the third, and the complement of the third is the output
exclusive_or-plim : need (of_two ((One ∷ Zero ∷ []) ∷ (Zero ∷ One ∷ []) ∷ [])) Plim ≡ 5
exclusive_or-plim = refl

exclusive_or-plim_coarse : coarse_need (of_two ((One ∷ Zero ∷ []) ∷ (Zero ∷ One ∷ []) ∷ [])) Plim ≡ 6
exclusive_or-plim_coarse = refl

-- none of the ANDs takes a cell over, since each is read complemented: three cycles for each, and two for the complement
exclusive_or-cycles : rm3_cost (flat (of_two ((One ∷ Zero ∷ []) ∷ (Zero ∷ One ∷ []) ∷ []))) ≡ 11
exclusive_or-cycles = refl

input_out-plim : need (record { inputs = 0 ∷ []; input_labels = []; equations = []; outputs = record { sig = 0; neg = false } ∷ []; output_labels = []; topo = [] }) Plim ≡ 1
input_out-plim = refl

-- ---- above level 0
-- a cover of an input and of its complement
abbrev tautology : NetView
tautology = record {
  inputs = 0 ∷ [];
  input_labels = [];
  equations = record { sig = 1; cover = record { ins = 0 ∷ []; rows = (One ∷ []) ∷ (Zero ∷ []) ∷ []; phase = true } } ∷ [];
  outputs = record { sig = 1; neg = false } ∷ [];
  output_labels = [];
  topo = 0 ∷ [];
}

-- as it is it takes three NORs
tautology-nors : nors_of_two tautology ≡ 3
unfolding leaves
tautology-nors = refl

-- tidied it takes none: its networks, which are the constant one, come first
tautology-tidied : nor_count (nors (tidied (flat tautology)) Two).gates ≡ 0
unfolding leaves
tautology-tidied = refl

-- as majorities the exclusive or takes nine cycles, and rewritten five
exclusive_or-majorities : smart_cost (majs (tidied (flat (of_two ((One ∷ Zero ∷ []) ∷ (Zero ∷ One ∷ []) ∷ []))))) ≡ 9
exclusive_or-majorities = refl

exclusive_or-rewritten : smart_cost (rewritten (majs (tidied (flat (of_two ((One ∷ Zero ∷ []) ∷ (Zero ∷ One ∷ []) ∷ [])))))) ≡ 5
exclusive_or-rewritten = refl

-- A NOR network as lists: its inputs, its gates with what they read, and what its outputs read.
use Rattle.std.specs.Prelude.{ℕ, ◌<◌, ◌≤◌, ◌⊎◌, Bool, true, false, not, List, [], ◌∷◌, length, count_by, slice_index_or, Contains}
use Rattle.pim_aig.specs.declared.graph.TheConstants.{MAX_INPUTS, MAX_OUTPUTS}
use Rattle.pim_nor.specs.declared.network.Pin.{Pin}
use Rattle.pim_nor.specs.declared.network.Pin.TheVariants.{Input, Gate as Place}
use Rattle.pim_nor.specs.declared.network.Gate.{Gate}
use Rattle.pim_nor.specs.declared.network.Gate.TheVariants.{One, Not, Nor, Nor3, Nor4}
use Rattle.pim_nor.specs.declared.network.TheConstants.{MAX_GATES}

-- what contracts see of a `NorNet`
pub record NorView : Type 0 where
  pub inputs : ℕ
  pub gates : List Gate
  pub outs : List Pin

-- what a gate reads, in its order
abbrev pub pins : Gate → List Pin
pins One = []
pins (Not a) = a ∷ []
pins (Nor a b) = a ∷ b ∷ []
pins (Nor3 a b c) = a ∷ b ∷ c ∷ []
pins (Nor4 a b c d) = a ∷ b ∷ c ∷ d ∷ []

-- whether a gate is a NOR or a NOT
abbrev pub is_nor : Gate → Bool
is_nor One = false
is_nor (Not a) = true
is_nor (Nor a b) = true
is_nor (Nor3 a b c) = true
is_nor (Nor4 a b c d) = true

-- how many of the gates are a NOR or a NOT
abbrev pub nor_count : List Gate → ℕ
nor_count gates = count_by is_nor gates

-- the pin is one of the inputs or one of the first gates
abbrev pub IsOfFirst : ℕ → ℕ → Pin → Type 0
IsOfFirst inputs gates (Input j) = j < inputs
IsOfFirst inputs gates (Place i) = i < gates

-- each of the pins is one of the inputs or one of the first gates
abbrev pub AreOfFirst : ℕ → ℕ → List Pin → Type 0
AreOfFirst inputs gates [] = Unit {0}
AreOfFirst inputs gates (p ∷ ps) = IsOfFirst inputs gates p × AreOfFirst inputs gates ps

-- the pin is an input or one of the first gates
abbrev pub IsInputOrFirst : ℕ → Pin → Type 0
IsInputOrFirst gates (Input j) = Unit {0}
IsInputOrFirst gates (Place i) = i < gates

-- each of the pins is an input or one of the first gates
abbrev pub AreInputsOrFirst : ℕ → List Pin → Type 0
AreInputsOrFirst gates [] = Unit {0}
AreInputsOrFirst gates (p ∷ ps) = IsInputOrFirst gates p × AreInputsOrFirst gates ps

-- the gate reads inputs and some of the first gates alone
abbrev pub ReadsFirst : ℕ → ℕ → Gate → Type 0
ReadsFirst inputs gates gate = AreOfFirst inputs gates (pins gate)

-- one of the gates reads the gate of this number
abbrev pub SomeReads : List Gate → ℕ → Type 0
SomeReads gates k = (j : ℕ) × (j < length gates) × Contains (pins (slice_index_or gates j One)) (Place k)

-- an output of the network or one of its gates reads the gate of this number
abbrev pub IsRead : NorView → ℕ → Type 0
IsRead n k = Contains n.outs (Place k) ⊎ SomeReads n.gates k

-- each gate stands after those that it reads and is read itself, the outputs read what is there, there is at most one
-- constant one, and the counts keep their limits
pub record IsNetwork (n : NorView) : Type 0 where
  pub inputs_fit : n.inputs ≤ MAX_INPUTS
  pub gates_fit : length n.gates ≤ MAX_GATES
  pub outs_fit : length n.outs ≤ MAX_OUTPUTS
  pub gates_after : (k : ℕ) (d : Gate) → k < length n.gates → ReadsFirst n.inputs k (slice_index_or n.gates k d)
  pub outs_there : (k : ℕ) (d : Pin) → k < length n.outs → IsOfFirst n.inputs (length n.gates) (slice_index_or n.outs k d)
  pub read : (k : ℕ) → k < length n.gates → IsRead n k
  pub one_constant : count_by (λ gate. not (is_nor gate)) n.gates ≤ 1

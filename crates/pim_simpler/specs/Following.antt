-- What it is for a program to execute the gates of a network in an order, each from the cells that hold what it reads.
use Rattle.std.specs.Prelude.{◌≡◌, ℕ, ◌==◌, false, if◌then◌else◌, List, [], ◌∷◌, filter, length, slice_index, slice_index_or, slice_get, take, Option, Some, None, IsSomeAnd, IsTrue, MatchBool}
use Rattle.pim_isa.specs.declared.instr.Ins.{Ins}
use Rattle.pim_isa.specs.declared.instr.Instr.{Instr}
use Rattle.pim_isa.specs.declared.instr.Instr.TheVariants as instr
use Rattle.pim_isa.specs.Primed.{last_write_is_init}
use Rattle.pim_isa.specs.Programs.{ProgramView}
use Rattle.pim_isa.specs.Sound.{cells_of}
use Rattle.pim_isa.specs.Touches.{operands}
use Rattle.pim_isa.specs.Writes.{last_write, nor_places}
use Rattle.pim_nor.specs.Network.{NorView, pins, is_nor}
use Rattle.pim_nor.specs.declared.network.Pin.{Pin}
use Rattle.pim_nor.specs.declared.network.Pin.TheVariants.{Input, Gate as Place}
use Rattle.pim_nor.specs.declared.network.Gate.{Gate}
use Rattle.pim_nor.specs.declared.network.Gate.TheVariants.{One}

-- the gate of a number
abbrev pub gate_at : NorView → ℕ → Gate
gate_at n g = slice_index_or n.gates g One

-- the gates of an order that take an instruction: all but the constant one
abbrev pub nors_of : NorView → List ℕ → List ℕ
nors_of n order = filter (λ g. is_nor (gate_at n g)) order

-- where the NOR of a gate stands, if the NORs of these gates stand at these places in order
abbrev pub place_of : List ℕ → List ℕ → ℕ → Option ℕ
place_of [] places g = None
place_of (x ∷ xs) [] g = None
place_of (x ∷ xs) (q ∷ qs) g = if x == g then Some q else place_of xs qs g

-- as the instruction at place q comes, the cell holds what a pin reads, where the NORs are those of these gates in order:
-- an input stands in the cell of its number; a gate stands where its NOR wrote and nothing wrote since; and the constant
-- one stands in a cell that was last written by an Init
abbrev pub Stands : NorView → List ℕ → List Instr → ℕ → ℕ → Pin → Type 0
Stands n gates is q c (Input k) = c ≡ k
Stands n gates is q c (Place g) =
    MatchBool (is_nor (gate_at n g))
    (IsSomeAnd (place_of gates (nor_places is) g) (λ p. last_write (take q is) c ≡ Some p))
    (IsTrue (last_write_is_init false (take q is) c))

-- there are as many cells as pins, and each holds what its pin reads
abbrev pub AllStand : NorView → List ℕ → List Instr → ℕ → List ℕ → List Pin → Type 0
AllStand n gates is q [] [] = Unit {0}
AllStand n gates is q [] (p ∷ ps) = ⊥
AllStand n gates is q (c ∷ cs) [] = ⊥
AllStand n gates is q (c ∷ cs) (p ∷ ps) = Stands n gates is q c p × AllStand n gates is q cs ps

-- the program has a NOR for each gate of the order that takes one, in that order; the operands of each NOR are the cells
-- of what its gate reads, in the gate's order; and at the end the output cells are those of what the outputs read
pub record Follows (p : ProgramView) (n : NorView) (order : List ℕ) : Type 0 where
  pub count : length (nor_places p.instrs) ≡ length (nors_of n order)
  pub reads : (j q t : ℕ) (ins : Ins) → slice_get (nor_places p.instrs) j ≡ Some q → slice_get p.instrs q ≡ Some (instr.Nor t ins) →
      AllStand n (nors_of n order) p.instrs q (operands ins) (pins (gate_at n (slice_index (nors_of n order) j)))
  pub outs : AllStand n (nors_of n order) p.instrs (length p.instrs) (cells_of p.outputs) n.outs

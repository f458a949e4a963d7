-- Worked examples of the definitions, by computation: the exclusive or in five cells.
use Rattle.std.proofs.Common.{◌≡◌, ℕ, true, false, List, [], ◌∷◌, Some, None, refl}
use Rattle.pim_isa.specs.declared.target.Target.TheVariants.{Magic}
use Rattle.pim_isa.specs.declared.port.Port.{Port}
use Rattle.pim_isa.specs.declared.instr.Ins.TheVariants as ins
use Rattle.pim_isa.specs.declared.instr.Instr.{Instr}
use Rattle.pim_isa.specs.declared.instr.Instr.TheVariants as instr
use Rattle.pim_isa.specs.Live.{is_live}
use Rattle.pim_isa.specs.Programs.{ProgramView}
use Rattle.pim_nor.specs.Network.{NorView}
use Rattle.pim_nor.specs.declared.network.Pin.TheVariants.{Input, Gate as Place}
use Rattle.pim_nor.specs.declared.network.Gate.TheVariants.{One, Not, Nor}
use Rattle.pim_simpler.specs.Following.{nors_of, place_of, Stands, AllStand}
use Rattle.pim_simpler.specs.Batching.{is_work, is_free}
use Rattle.pim_simpler.specs.Needs.{order_of, needed_of}

-- the exclusive or of two inputs
abbrev xor : NorView
xor = record {
  inputs = 2;
  gates = Not (Input 0) ∷ Nor (Place 0) (Input 1) ∷ Not (Input 1) ∷ Nor (Input 0) (Place 2) ∷ Nor (Place 1) (Place 3) ∷ Not (Place 4) ∷ [];
  outs = Place 5 ∷ [];
}

abbrev xor_instrs : List Instr
xor_instrs =
    instr.Init (2 ∷ 3 ∷ 4 ∷ []) ∷ instr.Nor 2 (ins.One 0) ∷ instr.Nor 3 (ins.Two 2 1) ∷ instr.Nor 4 (ins.One 1)
    ∷ instr.Init (2 ∷ []) ∷ instr.Nor 2 (ins.Two 0 4) ∷ instr.Init (4 ∷ []) ∷ instr.Nor 4 (ins.Two 3 2)
    ∷ instr.Init (2 ∷ 3 ∷ []) ∷ instr.Nor 2 (ins.One 4) ∷ []

abbrev port : ℕ → Port
port c = record { cell = c; label = 105 ∷ [] }

abbrev xor_program : ProgramView
xor_program = record { target = Magic; cells = 5; inputs = port 0 ∷ port 1 ∷ []; outputs = port 2 ∷ []; instrs = xor_instrs }

-- ---- the order and the need
xor_order : order_of xor ≡ 0 ∷ 1 ∷ 2 ∷ 3 ∷ 4 ∷ 5 ∷ []
xor_order = refl

xor_needs : needed_of xor ≡ 5
xor_needs = refl

-- a network that is one input, and one that is the constant one
wire_needs : needed_of (record { inputs = 1; gates = []; outs = Input 0 ∷ [] }) ≡ 1
wire_needs = refl

one_needs : needed_of (record { inputs = 0; gates = One ∷ []; outs = Place 0 ∷ [] }) ≡ 1
one_needs = refl

-- ---- what stands where
third_place : place_of (order_of xor) (1 ∷ 2 ∷ 3 ∷ 5 ∷ 7 ∷ 9 ∷ []) 3 ≡ Some 5
third_place = refl

no_place : place_of (order_of xor) (1 ∷ 2 ∷ 3 ∷ []) 3 ≡ None
no_place = refl

-- the constant one takes no instruction
nors_without_one : nors_of (record { inputs = 0; gates = One ∷ Not (Place 0) ∷ []; outs = Place 1 ∷ [] }) (0 ∷ 1 ∷ []) ≡ 1 ∷ []
nors_without_one = refl

fifth_reads : AllStand xor (order_of xor) xor_instrs 7 (3 ∷ 2 ∷ []) (Place 1 ∷ Place 3 ∷ [])
fifth_reads = (refl, (refl, tt))

third_reads : AllStand xor (order_of xor) xor_instrs 5 (0 ∷ 4 ∷ []) (Input 0 ∷ Place 2 ∷ [])
third_reads = (refl, (refl, tt))

output_stands : AllStand xor (order_of xor) xor_instrs 10 (2 ∷ []) (Place 5 ∷ [])
output_stands = (refl, tt)

-- the cell of the first gate was initialised again
first_is_gone : Stands xor (order_of xor) xor_instrs 5 2 (Place 0) → ⊥
first_is_gone stands = cc

-- ---- what is free
input_is_no_work : is_work xor_program 1 ≡ false
input_is_no_work = refl

primed_is_free : is_free xor_program 1 4 ≡ true
primed_is_free = refl

held_is_not : is_free xor_program 5 3 ≡ false
held_is_not = refl

-- dead, but last written by a NOR
expired_is_not : is_free xor_program 8 3 ≡ false
expired_is_not = refl

dead_after_its_reader : is_live xor_program 8 3 ≡ false
dead_after_its_reader = refl

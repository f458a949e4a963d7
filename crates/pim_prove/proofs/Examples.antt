-- Worked examples of uses, unset cells and vectors, by computation.
use Rattle.std.proofs.Common.{◌≡◌, [], ◌∷◌, true, false, None, Some, codes, refl}
use Rattle.pim_isa.specs.Programs.{ProgramView}
use Rattle.pim_isa.specs.declared.target.Target.TheVariants.{Magic}
use Rattle.pim_isa.specs.declared.instr.Ins.TheVariants as ins
use Rattle.pim_isa.specs.declared.instr.Operand.TheVariants as operand
use Rattle.pim_isa.specs.declared.instr.Instr.TheVariants.{Init, Nor, Rm3}
use Rattle.pim_prove.specs.declared.unset.Unset.TheVariants.{Used, Output}
use Rattle.pim_prove.specs.Clean.{unset_of, uses}
use Rattle.pim_prove.specs.Vectors.{digits}

-- an Init uses nothing, a NOR its operands and its target
init_uses : uses (Init (2 ∷ 3 ∷ [])) ≡ []
init_uses = refl

nor_uses : uses (Nor 4 (ins.Two 2 3)) ≡ 2 ∷ 3 ∷ 4 ∷ []
nor_uses = refl

-- an RM3 uses its target, unless its operands are the two constants
rm3_uses : uses (Rm3 (operand.Cell 3) operand.Zero 1) ≡ 3 ∷ 1 ∷ []
rm3_uses = refl

equal_constants_use : uses (Rm3 operand.Zero operand.Zero 1) ≡ 1 ∷ []
equal_constants_use = refl

reset_uses : uses (Rm3 operand.Zero operand.One 1) ≡ []
reset_uses = refl

-- the program of a two-input AND is clean
and_program : ProgramView
and_program = record {
  target = Magic;
  cells = 5;
  inputs = record { cell = 0; label = codes "i0" } ∷ record { cell = 1; label = codes "i1" } ∷ [];
  outputs = record { cell = 4; label = codes "o0" } ∷ [];
  instrs = Init (2 ∷ 3 ∷ 4 ∷ []) ∷ Nor 2 (ins.One 1) ∷ Nor 3 (ins.One 0) ∷ Nor 4 (ins.Two 2 3) ∷ [];
}

and_is_clean : unset_of and_program ≡ None
unfolding and_program
and_is_clean = refl

-- without the Init the target of the first NOR is not set; an operand comes before the target
unset_target : unset_of (record { target = Magic; cells = 3; inputs = record { cell = 0; label = codes "a" } ∷ []; outputs = []; instrs = Nor 2 (ins.One 0) ∷ [] }) ≡ Some (Used 0 2)
unset_target = refl

unset_operand : unset_of (record { target = Magic; cells = 3; inputs = record { cell = 0; label = codes "a" } ∷ []; outputs = []; instrs = Init (0 ∷ []) ∷ Nor 2 (ins.Two 0 1) ∷ [] }) ≡ Some (Used 1 1)
unset_operand = refl

-- an output that is never written
unset_output : unset_of (record { target = Magic; cells = 3; inputs = record { cell = 0; label = codes "a" } ∷ []; outputs = record { cell = 0; label = codes "a" } ∷ record { cell = 1; label = codes "f" } ∷ []; instrs = [] }) ≡ Some (Output 1)
unset_output = refl

-- vector 4 of three inputs has a one in the first
fourth : digits 3 4 ≡ true ∷ false ∷ false ∷ []
fourth = refl

-- without inputs there is one vector
empty : digits 0 0 ≡ []
empty = refl

-- Instructions without a fault name cells of the program, and have lines.
use Rattle.std.proofs.Common.{◌≡◌, ◌≢◌, ℕ, suc, zero, ◌+◌, ◌<◌, ◌≤◌, Bool, true, false, cond, eqb, ◌||◌, List, [], ◌∷◌, Option, Some, None, refl, arith}
use Rattle.std.specs.Prelude.{All, nat_le}
use Rattle.std.specs.List.{AllByRecursion}
use Rattle.std.specs.Option.{option_or, option_map}
use Rattle.std.proofs.lemmas.Bool.{eqb-false}
use Rattle.std.proofs.lemmas.Bool.Decides.{nat_tests}
use Rattle.pim_isa.specs.Validity.{bad_port}
use Rattle.pim_isa.specs.declared.draft.TheConstants.{MAX_CELLS}
use Rattle.pim_imply.specs.Programs.{ImplyView, body_of}
use Rattle.pim_imply.specs.Spelled.{HasLine}
use Rattle.pim_imply.specs.Validity.{IsFit, fault_of, first_instr_fault, instr_fault}
use Rattle.pim_imply.specs.declared.instr.ImplyInstr.{ImplyInstr}
use Rattle.pim_imply.specs.declared.instr.ImplyInstr.TheVariants.{False, Imp}
use Rattle.pim_imply.specs.declared.invalid.ImplyInvalid.{ImplyInvalid}
use Rattle.pim_imply.specs.declared.invalid.ImplyInvalid.TheVariants as invalid

or_none : {A : Type 0} (a b : Option A) → option_or a b ≡ None → (a ≡ None) × (b ≡ None)
or_none None b e = (refl, e)
or_none (Some x) b e = absurd cc

false_fits : (cells q : ℕ) (t : Bool) (x : ImplyInvalid) → nat_le cells q ≡ t → cond t (Some x) None ≡ None → q < cells
false_fits cells q true x e h = absurd cc
false_fits cells q false x e h = grind (arith, nat_tests)

imp_fits : (cells p q : ℕ) (s t u : Bool) (x y : ImplyInvalid) → nat_le cells p ≡ s → nat_le cells q ≡ t → eqb p q ≡ u → cond (s || t) (Some x) (cond u (Some y) None) ≡ None → (p < cells) × (q < cells) × (p ≢ q)
imp_fits cells p q true t u x y a b c h = absurd cc
imp_fits cells p q false true u x y a b c h = absurd cc
imp_fits cells p q false false true x y a b c h = absurd cc
imp_fits cells p q false false false x y a b c h = (grind (arith, nat_tests), grind (arith, nat_tests), eqb-false p q c)

instr_fits : (cells k : ℕ) (i : ImplyInstr) → instr_fault cells k i ≡ None → IsFit cells i
instr_fits cells k (False q) h = false_fits cells q (nat_le cells q) (invalid.CellRange k) refl h
instr_fits cells k (Imp p q) h = imp_fits cells p q (nat_le cells p) (nat_le cells q) (eqb p q) (invalid.CellRange k) (invalid.SameCell k) refl refl refl h

instrs_fit : (cells k : ℕ) (is : List ImplyInstr) → first_instr_fault cells k is ≡ None → All (IsFit cells) is
instrs_fit cells k [] h n d l = absurd (omega arith)
instrs_fit cells k (i ∷ is) h zero d l = instr_fits cells k i (or_none (instr_fault cells k i) (first_instr_fault cells (k + 1) is) h).0
instrs_fit cells k (i ∷ is) h (suc n) d l = instrs_fit cells (k + 1) is (or_none (instr_fault cells k i) (first_instr_fault cells (k + 1) is) h).1 n d (omega arith)

-- those of a draft that has no fault
pub all_fit : (d : ImplyView) → fault_of d ≡ None → All (IsFit d.cells) d.instrs
all_fit d h = instrs_fit d.cells 0 d.instrs (or_none (option_map (λ k. invalid.Port k) (bad_port (body_of d))) (first_instr_fault d.cells 0 d.instrs) h).1

line_of_fit : (cells : ℕ) (i : ImplyInstr) → cells ≤ MAX_CELLS → IsFit cells i → HasLine i
line_of_fit cells (False q) small h = omega arith
line_of_fit cells (Imp p q) small h = (let below = h.0 in omega arith, let below = h.1 in omega arith)

pub lines_of_fit : (cells : ℕ) (is : List ImplyInstr) → cells ≤ MAX_CELLS → All (IsFit cells) is → AllByRecursion HasLine is
lines_of_fit cells [] small h = tt
lines_of_fit cells (i ∷ is) small h = (line_of_fit cells i small (h 0 i (omega arith)), lines_of_fit cells is small (λ k d l. h (suc k) d (omega arith)))

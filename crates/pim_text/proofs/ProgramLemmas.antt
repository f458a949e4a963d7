-- The ports and instructions of a program have lines.
use Rattle.std.proofs.Common.{ℕ, ◌^◌, ◌<◌, ◌≤◌, List, [], ◌∷◌, ◌++◌, length, arith}
use Rattle.std.specs.List.{AllByRecursion}
use Rattle.std.proofs.lemmas.List.Elements.{recursion_from_All}
use Rattle.pim_isa.specs.declared.target.Target.{Target}
use Rattle.pim_isa.specs.declared.port.Port.{Port}
use Rattle.pim_isa.specs.declared.instr.Ins.{Ins}
use Rattle.pim_isa.specs.declared.instr.Ins.TheVariants.{Two, Three, Four, One as Single}
use Rattle.pim_isa.specs.declared.instr.Operand.{Operand}
use Rattle.pim_isa.specs.declared.instr.Operand.TheVariants.{Zero, One, Cell}
use Rattle.pim_isa.specs.declared.instr.Instr.{Instr}
use Rattle.pim_isa.specs.declared.instr.Instr.TheVariants.{Init, Nor, Rm3}
use Rattle.pim_isa.specs.declared.draft.TheConstants.{MAX_CELLS}
use Rattle.pim_isa.specs.Programs.{ProgramView}
use Rattle.pim_isa.specs.Sound.{cells_of, IsValid, HasLabel, IsProgram}
use Rattle.pim_isa.specs.Touches.{operand_cells, names}
use Rattle.pim_text.specs.Text.{nor_text, instr_text}
use Rattle.pim_text.specs.Spelled.{IsSpelledOperand, HasLine, HasPortLine, HasLines}

all_weaker : {X : Type 0} (P Q : X → Type 0) (xs : List X) → ((x : X) → P x → Q x) → AllByRecursion P xs → AllByRecursion Q xs
all_weaker P Q [] f h = tt
all_weaker P Q (x ∷ xs) f h = (f x h.0, all_weaker P Q xs f h.1)

all_front : (P : ℕ → Type 0) (xs ys : List ℕ) → AllByRecursion P (xs ++ ys) → AllByRecursion P xs
all_front P [] ys h = tt
all_front P (x ∷ xs) ys h = (h.0, all_front P xs ys h.1)

all_back : (P : ℕ → Type 0) (xs ys : List ℕ) → AllByRecursion P (xs ++ ys) → AllByRecursion P ys
all_back P [] ys h = h
all_back P (x ∷ xs) ys h = all_back P xs ys h.1

spelled_operand : (operand : Operand) → AllByRecursion (λ n. n < 2 ^ 32) (operand_cells operand) → IsSpelledOperand operand
spelled_operand Zero h = tt
spelled_operand One h = tt
spelled_operand (Cell c) h = h.0

line_from_names : (i : Instr) → AllByRecursion (λ n. n < 2 ^ 32) (names i) → HasLine i
line_from_names (Init cells) h = all_front (λ n. n < 2 ^ 32) cells [] h
line_from_names (Nor t ins) h = h
line_from_names (Rm3 p q z) h = (spelled_operand p (all_front (λ n. n < 2 ^ 32) (operand_cells p) (operand_cells q) h.1.1), spelled_operand q (all_back (λ n. n < 2 ^ 32) (operand_cells p) (operand_cells q) h.1.1), h.0)

valid_line : (target : Target) (cells : ℕ) (i : Instr) → cells ≤ MAX_CELLS → IsValid target cells i → HasLine i
valid_line target cells i small h =
    line_from_names i (all_weaker (λ c. c < cells) (λ n. n < 2 ^ 32) (names i) (λ c below. omega arith) (recursion_from_All (λ c. c < cells) (names i) h.within))

port_lines : (cells : ℕ) (ports : List Port) → cells ≤ MAX_CELLS → AllByRecursion (λ c. c < cells) (cells_of ports) → AllByRecursion HasLabel ports → AllByRecursion HasPortLine ports
port_lines cells [] small h k = tt
port_lines cells (p ∷ ports) small h k = (record { cell = omega arith; label = k.0 }, port_lines cells ports small h.1 k.1)

pub program_lines : (p : ProgramView) → IsProgram p → HasLines p
program_lines p h = record {
  cells = let small = h.small in omega arith;
  inputs = port_lines p.cells p.inputs h.small (recursion_from_All (λ c. c < p.cells) (cells_of p.inputs) h.sound.inputs) (recursion_from_All HasLabel p.inputs h.input_labels);
  outputs = port_lines p.cells p.outputs h.small (recursion_from_All (λ c. c < p.cells) (cells_of p.outputs) h.sound.outputs) (recursion_from_All HasLabel p.outputs h.output_labels);
  instrs = all_weaker (IsValid p.target p.cells) HasLine p.instrs (λ i valid. valid_line p.target p.cells i h.small valid) (recursion_from_All (IsValid p.target p.cells) p.instrs h.sound.instrs);
}

-- the line of an instruction isn't empty

nor_is_some : (t : ℕ) (ins : Ins) → 1 ≤ length (nor_text t ins)
nor_is_some t (Single a) = omega arith
nor_is_some t (Two a b) = omega arith
nor_is_some t (Three a b c) = omega arith
nor_is_some t (Four a b c d) = omega arith

pub line_is_some : (i : Instr) → 1 ≤ length (instr_text i)
line_is_some (Init cells) = omega arith
line_is_some (Nor t ins) = nor_is_some t ins
line_is_some (Rm3 p q z) = omega arith

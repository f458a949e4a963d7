-- The text of a program of any kind: its first line, its target where the kind has several, its cells, its ports, the number of
-- cycles, as many instructions, and `end`.
use Rattle.std.specs.Prelude.{◌≡◌, ℕ, ◌+◌, ◌^◌, ◌<◌, ◌≤◌, true, List, [], ◌∷◌, ◌++◌, length, codes, Option, Some, None}
use Rattle.std.specs.List.{AllByRecursion}
use Rattle.pim_isa.specs.declared.draft.TheConstants.{MAX_PORTS, MAX_INSTRS}
use Rattle.pim_isa.specs.declared.port.Port.{Port}
use Rattle.pim_isa.specs.declared.target.Target.{Target}
use Rattle.pim_text.specs.Fields.{lacks}
use Rattle.pim_text.specs.Spelled.{HasPortLine}
use Rattle.pim_text.specs.Text.{target_line, counted_text, ports_text}

-- a kind of text: its first line, the target of all its programs unless a line tells it, and the line of an instruction, as it is
-- spelled and as it is read
pub record Kind (I : Type 0) : Type 0 where
  pub first : List ℕ
  pub target : Option Target
  pub instr_text : I → List ℕ
  pub instr_of : List ℕ → Option I

-- a kind whose instructions are read from no other line than theirs, which isn't empty, and has no newline in it
pub record IsKind {I : Type 0} (kind : Kind I) : Type 0 where
  pub first : lacks 10 kind.first ≡ true
  pub one : (line : List ℕ) (instr : I) → kind.instr_of line ≡ Some instr → line ≡ kind.instr_text instr
  pub lack : (line : List ℕ) (instr : I) → kind.instr_of line ≡ Some instr → lacks 10 line ≡ true
  pub some : (instr : I) → 1 ≤ length (kind.instr_text instr)

-- what a text tells: the parts of a program
pub record Parts (I : Type 0) : Type 0 where
  pub target : Target
  pub cells : ℕ
  pub inputs : List Port
  pub outputs : List Port
  pub instrs : List I

-- the line of each instruction
abbrev pub instrs_text : {I : Type 0} → (I → List ℕ) → List I → List ℕ
instrs_text instr_text [] = []
instrs_text instr_text (instr ∷ instrs) = (instr_text instr ++ codes "\n") ++ instrs_text instr_text instrs

-- the line of the target, where it is told
abbrev pub told_target : Option Target → Target → List ℕ
told_target None target = target_line target ++ codes "\n"
told_target (Some only) target = []

-- the lines before the ports
abbrev pub head_text : {I : Type 0} → Kind I → Target → ℕ → List ℕ
head_text kind target cells = (kind.first ++ codes "\n") ++ told_target kind.target target ++ counted_text (codes "cells ") cells

-- the whole text; the number of cycles is the number of instructions
abbrev pub text : {I : Type 0} → Kind I → Parts I → List ℕ
text kind p =
    head_text kind p.target p.cells ++ ports_text (codes "input ") p.inputs ++ ports_text (codes "output ") p.outputs
    ++ counted_text (codes "cycles ") (length p.instrs) ++ instrs_text kind.instr_text p.instrs ++ codes "end\n"

-- a target that the text of a kind tells
abbrev pub IsTold : Option Target → Target → Type 0
IsTold None target = Unit {0}
IsTold (Some only) target = target ≡ only

-- parts that have a text
pub record HasText {I : Type 0} (kind : Kind I) (p : Parts I) : Type 0 where
  pub target : IsTold kind.target p.target
  pub cells : p.cells < 2 ^ 32
  pub inputs : AllByRecursion HasPortLine p.inputs
  pub outputs : AllByRecursion HasPortLine p.outputs
  pub cycles : length p.instrs < 2 ^ 32
  pub instrs : AllByRecursion (λ instr. kind.instr_of (kind.instr_text instr) ≡ Some instr) p.instrs

-- no more ports and instructions than a program may have
pub record HasFewParts {I : Type 0} (p : Parts I) : Type 0 where
  pub ports : length p.inputs + length p.outputs ≤ MAX_PORTS
  pub instrs : length p.instrs ≤ MAX_INSTRS

-- Inner: graphs of NORs as they are drawn, going through the instructions once.
use Rattle.std.specs.Prelude.{◌≡◌, ℕ, ◌<◌, List, [], ◌∷◌, ◌++◌, length, replicate, slice_index_or, slice_set, Option, Some, None}
use Rattle.pim_isa.specs.declared.instr.Instr.{Instr}
use Rattle.pim_isa.specs.declared.instr.Instr.TheVariants.{Init, Nor, Rm3}
use Rattle.pim_isa.specs.Programs.{ProgramView}
use Rattle.pim_isa.specs.Touches.{operands}
use Rattle.pim_life.specs.NorGraphs.{with_gate}

-- what each gate reads, in order, and for each cell the gate that wrote it last, if its last write is a NOR
pub record Drawn : Type 0 where
  pub kids : List (List ℕ)
  pub held : List (Option ℕ)

-- the gate that a cell holds
abbrev pub gate_in : List (Option ℕ) → ℕ → Option ℕ
gate_in held c = slice_index_or held c None

-- the gates that the cells hold, in the cells' order and each once, behind these
abbrev pub gates_held : List (Option ℕ) → List ℕ → List ℕ → List ℕ
gates_held held gates [] = gates
gates_held held gates (c ∷ cs) = gates_held held (with_gate gates (gate_in held c)) cs

-- the cells hold no gate
abbrev pub emptied : List ℕ → List (Option ℕ) → List (Option ℕ)
emptied [] held = held
emptied (c ∷ cs) held = emptied cs (slice_set held c None)

-- one more instruction: a NOR is the next gate, reads the gates that its operands hold, and is what its target holds; the cells that
-- others write hold no gate
abbrev pub drawn_after : Drawn → Instr → Drawn
drawn_after d (Init cells) = record d { held = emptied cells d.held }
drawn_after d (Nor t ins) =
    record { kids = d.kids ++ gates_held d.held [] (operands ins) ∷ []; held = slice_set d.held t (Some (length d.kids)) }
drawn_after d (Rm3 p q z) = record d { held = emptied (z ∷ []) d.held }

-- further instructions
abbrev pub drawn_from : Drawn → List Instr → Drawn
drawn_from d [] = d
drawn_from d (i ∷ is) = drawn_from (drawn_after d i) is

-- all instructions of a program; no cell holds a gate before them
abbrev pub drawn : ProgramView → Drawn
drawn p = drawn_from (record { kids = []; held = replicate p.cells None }) p.instrs

-- the gates that cells hold are gates
abbrev pub Holds : List (List ℕ) → List (Option ℕ) → Type 0
Holds kids held = (c gate : ℕ) → gate_in held c ≡ Some gate → gate < length kids

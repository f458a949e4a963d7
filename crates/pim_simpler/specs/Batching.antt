-- When the cells of a program are initialised and taken.
use Rattle.std.specs.Prelude.{◌≡◌, ℕ, ◌+◌, ◌<◌, Bool, true, false, ◌&&◌, not, nat_le, nat_lt, List, length, slice_get, take, Some}
use Rattle.std.specs.List.{list_any}
use Rattle.pim_isa.specs.declared.instr.Ins.{Ins}
use Rattle.pim_isa.specs.declared.instr.Instr.TheVariants.{Init, Nor}
use Rattle.pim_isa.specs.Live.{is_live}
use Rattle.pim_isa.specs.Primed.{last_write_is_init}
use Rattle.pim_isa.specs.Programs.{ProgramView}
use Rattle.pim_isa.specs.Sound.{cells_of}
use Rattle.pim_isa.specs.Validity.{has}

-- a work cell: one of the program's cells that comes after the inputs
abbrev pub is_work : ProgramView → ℕ → Bool
is_work p c = nat_le (length p.inputs) c && nat_lt c p.cells

-- a work cell is free at a place where it isn't live and was last written by an Init
abbrev pub is_free : ProgramView → ℕ → ℕ → Bool
is_free p k c = is_work p c && (not (is_live p k c) && last_write_is_init false (take k p.instrs) c)

-- each Init names exactly the work cells that aren't live where it stands, and none that was last written by an Init; the
-- target of each NOR is the least cell that is free there; and an Init comes last only where an output cell is one that
-- was last written by an Init
pub record Batched (p : ProgramView) : Type 0 where
  pub named : (k : ℕ) (cells : List ℕ) (c : ℕ) → slice_get p.instrs k ≡ Some (Init cells) →
      has c cells ≡ (is_work p c && not (is_live p k c))
  pub not_again : (k : ℕ) (cells : List ℕ) (c : ℕ) → slice_get p.instrs k ≡ Some (Init cells) → has c cells ≡ true →
      last_write_is_init false (take k p.instrs) c ≡ false
  pub target : (k t : ℕ) (ins : Ins) → slice_get p.instrs k ≡ Some (Nor t ins) → is_free p k t ≡ true
  pub least : (k t : ℕ) (ins : Ins) (c : ℕ) → slice_get p.instrs k ≡ Some (Nor t ins) → c < t → is_free p k c ≡ false
  pub last : (k : ℕ) (cells : List ℕ) → slice_get p.instrs k ≡ Some (Init cells) → k + 1 ≡ length p.instrs →
      list_any (last_write_is_init false p.instrs) (cells_of p.outputs) ≡ true

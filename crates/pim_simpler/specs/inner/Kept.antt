-- Inner: what a schedule in the making keeps, and what each step of it changes.
use Rattle.std.specs.Prelude.{◌≡◌, ℕ, ◌-◌, ◌==◌, Bool, true, false, nat_lt, if◌then◌else◌, List, [], ◌∷◌, ◌++◌, drop, fold, length, slice_index, slice_set, IsPermutation, IsSorted, MatchBool}
use Rattle.std.specs.Ordering.{nat_cmp}
use Rattle.pim_graph.specs.Graphs.{kids_of}
use Rattle.pim_graph.specs.Readers.{still_needed}
use Rattle.pim_isa.specs.Programs.{ProgramView}
use Rattle.pim_isa.specs.declared.instr.Ins.TheVariants as ins
use Rattle.pim_isa.specs.declared.instr.Instr.{Instr}
use Rattle.pim_isa.specs.declared.instr.Instr.TheVariants as instr
use Rattle.pim_isa.specs.declared.port.Port.{Port}
use Rattle.pim_nor.specs.GateGraphs.{graph_of}
use Rattle.pim_nor.specs.Network.{NorView, is_nor}
use Rattle.pim_nor.specs.declared.network.Pin.{Pin}
use Rattle.pim_nor.specs.declared.network.Pin.TheVariants.{Input, Gate as Place}
use Rattle.pim_nor.specs.declared.network.Gate.{Gate}
use Rattle.pim_nor.specs.declared.network.Gate.TheVariants.{One, Not, Nor, Nor3, Nor4}
use Rattle.pim_simpler.specs.Following.{gate_at}

-- the primed cells that hold nothing, rising, and the expired ones
pub record FreeView : Type 0 where
  pub primed : List ℕ
  pub expired : List ℕ

-- a number put into a rising list before the first one that isn't below it
abbrev pub insert_rising : ℕ → List ℕ → List ℕ
insert_rising c [] = c ∷ []
insert_rising c (d ∷ ds) = if nat_lt d c then d ∷ insert_rising c ds else c ∷ d ∷ ds

-- the network, the program so far, the free cells, the cell that each gate took, and how many reads of each are to come
pub record ScheduleView : Type 0 where
  pub net : NorView
  pub draft : ProgramView
  pub free : FreeView
  pub cells : List ℕ
  pub left : List ℕ

-- the cell of a pin
abbrev pub cell_of : List ℕ → Pin → ℕ
cell_of cells (Input k) = k
cell_of cells (Place g) = slice_index cells g

-- the instruction that executes a gate into cell t from these cells; the constant one takes none
abbrev pub instrs_of : (Pin → ℕ) → ℕ → Gate → List Instr
instrs_of cell t One = []
instrs_of cell t (Not a) = instr.Nor t (ins.One (cell a)) ∷ []
instrs_of cell t (Nor a b) = instr.Nor t (ins.Two (cell a) (cell b)) ∷ []
instrs_of cell t (Nor3 a b c) = instr.Nor t (ins.Three (cell a) (cell b) (cell c)) ∷ []
instrs_of cell t (Nor4 a b c d) = instr.Nor t (ins.Four (cell a) (cell b) (cell c) (cell d)) ∷ []

-- a draft with more instructions
abbrev pub with_instrs : ProgramView → List Instr → ProgramView
with_instrs d is = record d { instrs = d.instrs ++ is }

-- the expired cells were initialised together, by one Init that names them rising
pub record IsRefilled (old new : ScheduleView) : Type 0 where
  pub changes : new ≡ record old {
    draft = with_instrs old.draft (instr.Init new.free.primed ∷ []);
    free = record { primed = new.free.primed; expired = [] };
  }
  pub same_cells : IsPermutation old.free.expired new.free.primed
  pub sorted : IsSorted nat_cmp new.free.primed

-- the expired cells were initialised if no cell was primed; else nothing was done
abbrev pub Refills : ScheduleView → ScheduleView → Type 0
Refills old new = MatchBool (length old.free.primed == 0) (IsRefilled old new) (new ≡ old)

-- a gate takes the least primed cell
abbrev pub placed : ℕ → ScheduleView → ScheduleView
placed g s = record s {
  draft = with_instrs s.draft (instrs_of (cell_of s.cells) (slice_index s.free.primed 0) (gate_at s.net g));
  free = record s.free { primed = drop 1 s.free.primed };
  cells = slice_set s.cells g (slice_index s.free.primed 0);
}

-- a cell whose gate is needed no longer: that of a NOR is expired, and that of the constant one is still primed
abbrev pub freed : Bool → ℕ → FreeView → FreeView
freed true c f = record f { expired = f.expired ++ c ∷ [] }
freed false c f = record f { primed = insert_rising c f.primed }

-- one read of a gate is done
abbrev pub after_read : ScheduleView → ℕ → ScheduleView
after_read s g =
    let left = slice_set s.left g (slice_index s.left g - 1) in
    record s {
      left = left;
      free = if still_needed (graph_of s.net) left g then s.free else freed (is_nor (gate_at s.net g)) (slice_index s.cells g) s.free;
    }

-- all reads of a gate are done
abbrev pub after_reads : ScheduleView → ℕ → ScheduleView
after_reads s g = fold after_read s (kids_of (graph_of s.net) g)

-- a port for each output, in the cell of what it reads
abbrev pub output_ports : (Pin → ℕ) → List Pin → List (List ℕ) → List Port
output_ports cell [] labels = []
output_ports cell (pin ∷ pins) [] = []
output_ports cell (pin ∷ pins) (label ∷ labels) = record { cell = cell pin; label = label } ∷ output_ports cell pins labels

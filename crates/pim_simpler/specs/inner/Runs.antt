-- Inner: what a schedule may emit for the gates that are left, one after another, and what a whole run is.
use Rattle.std.specs.Prelude.{◌≡◌, ℕ, ◌+◌, ◌-◌, ◌<◌, ◌≤◌, true, false, List, [], ◌∷◌, ◌++◌, count_by, drop, length, min, slice_index, take}
use Rattle.std.specs.List.{range_with_len}
use Rattle.pim_graph.specs.Graphs.{has as among}
use Rattle.pim_graph.specs.Peaks.{IsPlaced, needed}
use Rattle.pim_graph.specs.Readers.{CountsReads}
use Rattle.pim_isa.specs.declared.instr.Ins.{Ins}
use Rattle.pim_isa.specs.declared.instr.Instr.{Instr}
use Rattle.pim_isa.specs.declared.instr.Instr.TheVariants as instr
use Rattle.pim_isa.specs.PortLists.{input_ports, labels_of}
use Rattle.pim_isa.specs.Programs.{ProgramView, PortsView}
use Rattle.pim_isa.specs.Sound.{cells_of}
use Rattle.pim_isa.specs.declared.target.Target.TheVariants.{Magic}
use Rattle.pim_isa.specs.Touches.{operands}
use Rattle.pim_isa.specs.Validity.{has, is_rising}
use Rattle.pim_nor.specs.GateGraphs.{graph_of}
use Rattle.pim_nor.specs.Network.{NorView, IsNetwork, is_nor, pins, ReadsFirst}
use Rattle.pim_simpler.specs.Following.{gate_at}
use Rattle.pim_simpler.specs.inner.Slots.{Slot, held, AllHold, IsLeast, is_primed, is_expired, start, put, refilled, settled}
use Rattle.pim_simpler.specs.inner.Kept.{ScheduleView}

-- a gate whose turn it is, after these gates and before the later ones: it wasn't placed before, it reads inputs and gates
-- before it, and it is still needed afterwards
pub record IsNext (n : NorView) (placed : List ℕ) (g : ℕ) (later : List ℕ) : Type 0 where
  pub there : g < length n.gates
  pub fresh : among placed g ≡ false
  pub reads : ReadsFirst n.inputs g (gate_at n g)
  pub needed_later : needed (graph_of n) later g ≡ true

-- from what the cells are, where these gates were placed and those are left, these instructions lead to what the cells are
-- at the end. An Init comes only where no cell is primed and a gate is left; it names the expired cells. A gate takes the
-- least primed cell, by a NOR of the cells that hold what it reads; the constant one takes no instruction. Then the cells
-- of all gates that are needed no longer are free.
pub data Run (n : NorView) : (ℕ → Slot) → List ℕ → List ℕ → List Instr → (ℕ → Slot) → Type 0 where
  done : {slots : ℕ → Slot} {placed : List ℕ} → Run n slots placed [] [] slots
  refill : {slots last : ℕ → Slot} {placed later cells : List ℕ} {g : ℕ} {is : List Instr} →
      ((c : ℕ) → is_primed (slots c) ≡ false) → is_rising cells ≡ true → ((c : ℕ) → has c cells ≡ is_expired (slots c)) →
      Run n (refilled slots) placed (g ∷ later) is last → Run n slots placed (g ∷ later) (instr.Init cells ∷ is) last
  nor : {slots last : ℕ → Slot} {placed later : List ℕ} {g t : ℕ} {ins : Ins} {is : List Instr} →
      IsNext n placed g later → is_nor (gate_at n g) ≡ true → IsLeast slots t → AllHold slots (operands ins) (pins (gate_at n g)) →
      Run n (settled n (needed (graph_of n) later) (put t g slots)) (placed ++ g ∷ []) later is last →
      Run n slots placed (g ∷ later) (instr.Nor t ins ∷ is) last
  one : {slots last : ℕ → Slot} {placed later : List ℕ} {g t : ℕ} {is : List Instr} →
      IsNext n placed g later → is_nor (gate_at n g) ≡ false → IsLeast slots t →
      Run n (settled n (needed (graph_of n) later) (put t g slots)) (placed ++ g ∷ []) later is last →
      Run n slots placed (g ∷ later) is last

-- the cells that a schedule has of a budget: one for each input, and one for each gate as far as they go
abbrev pub cells_within : NorView → ℕ → ℕ
cells_within n budget = n.inputs + min (budget - n.inputs) (length n.gates)

-- what a run rests on: the order holds gates of the network, each after those that it reads and needed behind its place,
-- the roots among them, and the cells are enough for what it holds at once
pub record Plan (n : NorView) (order : List ℕ) (end : ℕ) : Type 0 where
  pub network : IsNetwork n
  pub inputs_within : n.inputs ≤ end
  pub placed : IsPlaced (graph_of n) order
  pub roots_there : (g : ℕ) → among (graph_of n).roots g ≡ true → among order g ≡ true
  pub needed_later : (p : ℕ) → p < length order → needed (graph_of n) (drop (p + 1) order) (slice_index order p) ≡ true
  pub enough : (p : ℕ) → p < length order → n.inputs + (count_by (needed (graph_of n) (drop p order)) (take p order) + 1) ≤ end

-- at the start all work cells are expired, all reads of the order are to come, and nothing was emitted
pub record Begins (order : List ℕ) (s : ScheduleView) : Type 0 where
  pub free : s.free ≡ record { primed = []; expired = range_with_len s.net.inputs (s.draft.cells - s.net.inputs) }
  pub left : CountsReads (graph_of s.net) order s.left
  pub none : s.draft.instrs ≡ []

-- at the end the instructions are those of a run over the whole order, and each root is held in the cell that it took
pub record Ran (order : List ℕ) (old new : ScheduleView) : Type 0 where
  pub last : ℕ → Slot
  pub run : Run old.net (start old.net.inputs old.draft.cells) [] order new.draft.instrs last
  pub holds : (g : ℕ) → among order g ≡ true → among (graph_of old.net).roots g ≡ true → last (slice_index new.cells g) ≡ held g
  pub draft : new.draft ≡ record old.draft { instrs = new.draft.instrs }
  pub net : new.net ≡ old.net

-- the draft of a run over the whole order: its inputs stand in the first cells, and its outputs are held at the end
pub record Drafted (n : NorView) (ports : PortsView) (order : List ℕ) (end : ℕ) (d : ProgramView) : Type 0 where
  pub last : ℕ → Slot
  pub run : Run n (start n.inputs end) [] order d.instrs last
  pub outs : AllHold last (cells_of d.outputs) n.outs
  pub labels : labels_of d.outputs ≡ ports.outputs
  pub inputs : d.inputs ≡ input_ports 0 ports.inputs
  pub cells : d.cells ≡ end
  pub target : d.target ≡ Magic

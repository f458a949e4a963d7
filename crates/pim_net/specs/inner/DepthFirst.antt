-- Inner: a search through the equations of a draft, depth first, which gives each equation its depth.
use Rattle.std.specs.Prelude.{◌≡◌, ◌≢◌, ◌<◌, ◌≤◌, ◌+◌, ◌⊎◌, ℕ, suc, Bool, true, false, List, [], ◌∷◌, map, take, length, Option, Some, None, slice_get, slice_index, slice_index_or, count_by, unwrap_or}
use Rattle.pim_net.specs.Drivers.{sigs}
use Rattle.pim_net.specs.Depths.{deepest}
use Rattle.pim_net.specs.Cycles.{IsCycle}
use Rattle.pim_net.specs.Faults.{walk}
use Rattle.pim_net.specs.WellFormed.{columns}
use Rattle.pim_net.specs.inner.Drivers.{is_nobody, depth_by, next_by, cycle_by}
use Rattle.pim_net.specs.declared.limits.TheConstants.{MAX_COLUMNS, MAX_EQUATIONS}
use Rattle.pim_net.specs.declared.fault.NetFault.{NetFault}
use Rattle.pim_net.specs.declared.fault.NetFault.TheVariants.{Twice, Undriven, Cycle, NoMemory}
use Rattle.pim_net.specs.declared.parts.Equation.{Equation}
use Rattle.pim_net.specs.declared.driver.Driver.{Driver}
use Rattle.pim_net.specs.declared.driver.Driver.TheVariants.{Nobody, Input, Cover}
use Rattle.pim_net.specs.declared.search.Mark.{Mark}
use Rattle.pim_net.specs.declared.search.Mark.TheVariants.{New, Open, Deep}
use Rattle.pim_net.specs.declared.search.Frame.{Frame}
use Rattle.pim_net.specs.declared.search.Step.{Step}
use Rattle.pim_net.specs.declared.search.Step.TheVariants.{Done, Past, Into, Round}

-- the columns of equation k
abbrev pub ins : List Equation → ℕ → List ℕ
ins equations k = columns (slice_get equations k)

-- the signal of equation k
abbrev pub sig : List Equation → ℕ → ℕ
sig equations k = slice_index (sigs equations) k

-- the table has each equation as the driver of its signal, and a driver for each column
pub record IsWired (equations : List Equation) (table : ℕ → Driver) : Type 0 where
  pub named : (k : ℕ) → k < length equations → table (sig equations k) ≡ Cover k
  pub driven : (k j : ℕ) → k < length equations → j < length (ins equations k) → is_nobody (table (slice_index (ins equations k) j)) ≡ false
  pub covers : (s k : ℕ) → table s ≡ Cover k → (k < length equations) × (sig equations k ≡ s)
  pub few : length equations < MAX_EQUATIONS
  pub narrow : (k : ℕ) → length (ins equations k) < MAX_COLUMNS

-- the depth of a signal by the table
abbrev pub deep : List Equation → (ℕ → Driver) → ℕ → Option ℕ
deep equations table s = depth_by table equations (suc (length equations)) s

-- the mark of equation k
abbrev pub mark : List Mark → ℕ → Mark
mark marks k = slice_index_or marks k New

-- an equation has no mark yet
abbrev pub is_new : Mark → Bool
is_new New = true
is_new Open = false
is_new (Deep depth) = false

-- an equation has its depth
abbrev pub is_deep : Mark → Bool
is_deep New = false
is_deep Open = false
is_deep (Deep depth) = true

-- equation k is on the trail
abbrev pub IsOnTrail : ℕ → List Frame → Type 0
IsOnTrail k [] = ⊥
IsOnTrail k (f ∷ trail) = (f.equation ≡ k) ⊎ IsOnTrail k trail

-- equation k is not on the trail
abbrev pub IsOffTrail : ℕ → List Frame → Type 0
IsOffTrail k [] = Unit {0}
IsOffTrail k (f ∷ trail) = (f.equation ≢ k) × IsOffTrail k trail

-- each equation on the trail is one of these
abbrev pub EachKnown : List Equation → List Frame → Type 0
EachKnown equations [] = Unit {0}
EachKnown equations (f ∷ trail) = (f.equation < length equations) × EachKnown equations trail

-- each equation on the trail is marked so
abbrev pub EachOpen : List Mark → List Frame → Type 0
EachOpen marks [] = Unit {0}
EachOpen marks (f ∷ trail) = (mark marks f.equation ≡ Open) × EachOpen marks trail

-- no frame on the trail has come deeper than this
abbrev pub EachBelow : ℕ → List Frame → Type 0
EachBelow depth [] = Unit {0}
EachBelow depth (f ∷ trail) = (f.depth ≤ depth) × EachBelow depth trail

-- a frame knows the greatest depth of the columns before its own
pub record IsFrame (equations : List Equation) (table : ℕ → Driver) (f : Frame) : Type 0 where
  pub known : f.equation < length equations
  pub within : f.column ≤ length (ins equations f.equation)
  pub depth : deepest (map (deep equations table) (take f.column (ins equations f.equation))) ≡ Some f.depth

-- a trail, latest frame first: each frame's equation drives the column of the frame before it, and no equation comes twice
abbrev pub IsTrail : List Equation → (ℕ → Driver) → ℕ → List Frame → Type 0
IsTrail equations table root [] = ⊥
IsTrail equations table root (f ∷ []) = IsFrame equations table f × (f.equation ≡ root)
IsTrail equations table root (f ∷ g ∷ trail) =
    IsFrame equations table f
    × (g.column < length (ins equations g.equation))
    × (slice_index (ins equations g.equation) g.column ≡ sig equations f.equation)
    × IsOffTrail f.equation (g ∷ trail)
    × IsTrail equations table root (g ∷ trail)

-- the marks: what is deep has its depth, what is open is the trail
pub record IsMarked (equations : List Equation) (table : ℕ → Driver) (marks : List Mark) (trail : List Frame) : Type 0 where
  pub sized : length marks ≡ length equations
  pub depths : (k depth : ℕ) → mark marks k ≡ Deep depth → (deep equations table (sig equations k) ≡ Some depth) × (depth ≤ count_by is_deep marks)
  pub opens : (k : ℕ) → mark marks k ≡ Open → IsOnTrail k trail
  pub opened : EachOpen marks trail
  pub below : EachBelow (count_by is_deep marks) trail
  pub counted : count_by is_new marks + count_by is_deep marks + length trail ≡ length equations

-- the depth that a mark tells
abbrev pub depth_mark : Mark → Option ℕ
depth_mark New = None
depth_mark Open = None
depth_mark (Deep depth) = Some depth

-- what a driver's depth is by the marks, so far
abbrev pub marked_depth : List Mark → Driver → Option ℕ
marked_depth marks Nobody = None
marked_depth marks (Input j) = Some 0
marked_depth marks (Cover k) = depth_mark (mark marks k)

-- the next column of a frame
abbrev pub column_of : List Equation → Frame → ℕ
column_of equations f = slice_index (ins equations f.equation) f.column

-- what the search meets at a frame
abbrev pub IsStep : List Equation → (ℕ → Driver) → List Mark → Frame → Step → Type 0
IsStep equations table marks f Done = f.column ≡ length (ins equations f.equation)
IsStep equations table marks f (Past depth) =
    (f.column < length (ins equations f.equation))
    × (marked_depth marks (table (column_of equations f)) ≡ Some depth)
IsStep equations table marks f (Into k) =
    (f.column < length (ins equations f.equation))
    × (table (column_of equations f) ≡ Cover k)
    × (mark marks k ≡ New)
IsStep equations table marks f (Round k) =
    (f.column < length (ins equations f.equation))
    × (table (column_of equations f) ≡ Cover k)
    × (mark marks k ≡ Open)

-- the search from equation root was done: the marks are whole again, and nothing that was come to is new again
pub record IsVisited (equations : List Equation) (table : ℕ → Driver) (root : ℕ) (before now : List Mark) : Type 0 where
  pub marked : IsMarked equations table now []
  pub kept : (k : ℕ) → is_new (mark before k) ≡ false → is_new (mark now k) ≡ false
  pub came : is_new (mark now root) ≡ false

-- the search from equation root came round: its signal has no depth, and the walk to the first columns without one gives
-- this list, which is a cycle; or out of memory
abbrev pub IsRound : List Equation → (ℕ → Driver) → ℕ → NetFault → Type 0
IsRound equations table root (Twice s) = ⊥
IsRound equations table root (Undriven s) = ⊥
IsRound equations table root (Cycle cycle) =
    (deep equations table (sig equations root) ≡ None)
    × (walk (next_by table (deep equations table) equations) (suc (length equations)) [] (Some (sig equations root)) ≡ cycle)
    × IsCycle equations cycle
IsRound equations table root NoMemory = Unit {0}

-- the signals of a trail
abbrev pub trail_sigs : List Equation → List Frame → List ℕ
trail_sigs equations trail = map (λ (f : Frame). sig equations f.equation) trail

-- each equation has the depth of its mark
pub record IsLevelled (equations : List Equation) (table : ℕ → Driver) (marks : List Mark) : Type 0 where
  pub sized : length marks ≡ length equations
  pub all : (k : ℕ) → k < length equations → is_deep (mark marks k) ≡ true
  pub depths : (k : ℕ) → k < length equations → deep equations table (sig equations k) ≡ depth_mark (mark marks k)

-- the list that a walk by the table comes to, which is a cycle; or out of memory
abbrev pub IsCycleFault : List Equation → (ℕ → Driver) → NetFault → Type 0
IsCycleFault equations table (Twice s) = ⊥
IsCycleFault equations table (Undriven s) = ⊥
IsCycleFault equations table (Cycle cycle) =
    (cycle_by table (deep equations table) equations ≡ Some cycle) × IsCycle equations cycle
IsCycleFault equations table NoMemory = Unit {0}

-- the depth of a mark, 0 where it has none
abbrev pub level : List Mark → ℕ → ℕ
level marks k = unwrap_or (depth_mark (mark marks k)) 0

-- equation j is less deep than k by the marks, or as deep and not after it
abbrev pub IsBefore : List Mark → ℕ → ℕ → Type 0
IsBefore marks j k = (level marks j < level marks k) ⊎ ((level marks j ≡ level marks k) × (j ≤ k))

-- Inner: what each cell of a row is while gates are scheduled.
use Rattle.std.specs.Prelude.{◌≡◌, ℕ, ◌<◌, Bool, true, false, ◌==◌, ◌&&◌, not, nat_le, nat_lt, if◌then◌else◌, List, [], ◌∷◌}
use Rattle.pim_nor.specs.Network.{NorView, is_nor}
use Rattle.pim_nor.specs.declared.network.Pin.{Pin}
use Rattle.pim_nor.specs.declared.network.Pin.TheVariants.{Input, Gate as Place}
use Rattle.pim_simpler.specs.Following.{gate_at}

-- a cell is initialised and free, or it holds the value of a gate, or its value is needed no longer; or it is no work cell
pub data Slot : Type 0 where
  primed : Slot
  held : ℕ → Slot
  expired : Slot
  outside : Slot

abbrev pub is_primed : Slot → Bool
is_primed primed = true
is_primed (held g) = false
is_primed expired = false
is_primed outside = false

abbrev pub is_expired : Slot → Bool
is_expired primed = false
is_expired (held g) = false
is_expired expired = true
is_expired outside = false

abbrev pub is_outside : Slot → Bool
is_outside primed = false
is_outside (held g) = false
is_outside expired = false
is_outside outside = true

-- at the start the cells from `first` on and before `end` are expired
abbrev pub start : ℕ → ℕ → ℕ → Slot
start first end c = if nat_le first c && nat_lt c end then expired else outside

-- a cell after an Init of the expired ones
abbrev pub anew : Slot → Slot
anew primed = primed
anew (held g) = held g
anew expired = primed
anew outside = outside

-- all cells after it
abbrev pub refilled : (ℕ → Slot) → ℕ → Slot
refilled slots c = anew (slots c)

-- gate g put into cell t
abbrev pub put : ℕ → ℕ → (ℕ → Slot) → ℕ → Slot
put t g slots c = if t == c then held g else slots c

-- a cell where these gates alone are still needed: that of another NOR is expired, and that of the constant one is primed
abbrev pub kept : NorView → (ℕ → Bool) → Slot → Slot
kept n wanted primed = primed
kept n wanted (held g) = if wanted g then held g else (if is_nor (gate_at n g) then expired else primed)
kept n wanted expired = expired
kept n wanted outside = outside

-- all cells then
abbrev pub settled : NorView → (ℕ → Bool) → (ℕ → Slot) → ℕ → Slot
settled n wanted slots c = kept n wanted (slots c)

-- the cell holds what a pin reads
abbrev pub Holds : (ℕ → Slot) → ℕ → Pin → Type 0
Holds slots c (Input k) = c ≡ k
Holds slots c (Place g) = slots c ≡ held g

-- there are as many cells as pins, and each holds what its pin reads
abbrev pub AllHold : (ℕ → Slot) → List ℕ → List Pin → Type 0
AllHold slots [] [] = Unit {0}
AllHold slots [] (p ∷ ps) = ⊥
AllHold slots (c ∷ cs) [] = ⊥
AllHold slots (c ∷ cs) (p ∷ ps) = Holds slots c p × AllHold slots cs ps

-- the cell is the least one that is primed
pub record IsLeast (slots : ℕ → Slot) (t : ℕ) : Type 0 where
  pub is : slots t ≡ primed
  pub least : (c : ℕ) → c < t → is_primed (slots c) ≡ false

-- the work cells are those that are not outside
abbrev pub Works : (ℕ → Bool) → (ℕ → Slot) → Type 0
Works work slots = (c : ℕ) → is_outside (slots c) ≡ not (work c)

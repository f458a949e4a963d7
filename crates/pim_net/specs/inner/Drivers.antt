-- Inner: what drives a signal, as a table of drivers tells it, and depths and cycles by such drivers.
use Rattle.std.specs.Prelude.{ℕ, zero, suc, Bool, true, false, List, [], length, Option, Some, None, is_none, option_map, find, slice_get}
use Rattle.pim_net.specs.Drivers.{place, sigs}
use Rattle.pim_net.specs.Depths.{equation_depth}
use Rattle.pim_net.specs.Faults.{column_without, walk}
use Rattle.pim_net.specs.declared.parts.Equation.{Equation}
use Rattle.pim_net.specs.declared.driver.Driver.{Driver}
use Rattle.pim_net.specs.declared.driver.Driver.TheVariants.{Nobody, Input, Cover}

-- the input at a place, or else the equation at a place, or else nobody
abbrev pub driver_by : Option ℕ → Option ℕ → Driver
driver_by (Some j) _ = Input j
driver_by None (Some k) = Cover k
driver_by None None = Nobody

-- what drives a signal: the first input of it, or else the first equation of it
abbrev pub driver : List ℕ → List Equation → ℕ → Driver
driver inputs equations s = driver_by (place s inputs) (place s (sigs equations))

-- nothing drives it
abbrev pub is_nobody : Driver → Bool
is_nobody Nobody = true
is_nobody (Input j) = false
is_nobody (Cover k) = false

-- the depth that a driver gives: 0 where it is an input
abbrev pub driver_depth : (ℕ → Option ℕ) → List Equation → Driver → Option ℕ
driver_depth below equations Nobody = None
driver_depth below equations (Input j) = Some 0
driver_depth below equations (Cover k) = equation_depth below (slice_get equations k)

-- the depth of a signal by these drivers, if it is below k
abbrev pub depth_by : (ℕ → Driver) → List Equation → ℕ → ℕ → Option ℕ
depth_by drivers equations zero s = None
depth_by drivers equations (suc k) s =
    driver_depth (λ c. depth_by drivers equations k c) equations (drivers s)

-- the equation that a driver is, if it is one
abbrev pub equation_by : List Equation → Driver → Option Equation
equation_by equations Nobody = None
equation_by equations (Input j) = None
equation_by equations (Cover k) = slice_get equations k

-- the signal that a walk goes on to by these drivers and these depths
abbrev pub next_by : (ℕ → Driver) → (ℕ → Option ℕ) → List Equation → ℕ → Option ℕ
next_by drivers depths equations s = column_without depths (equation_by equations (drivers s))

-- the cycle by these drivers and these depths
abbrev pub cycle_by : (ℕ → Driver) → (ℕ → Option ℕ) → List Equation → Option (List ℕ)
cycle_by drivers depths equations =
    option_map (λ e. walk (next_by drivers depths equations) (suc (length equations)) [] (Some e.sig)) (find (λ e. is_none (depths e.sig)) equations)

-- What a cycle of equations is.
use Rattle.std.specs.Prelude.{◌≡◌, ◌<◌, ◌+◌, ◌-◌, ℕ, List, Contains, length, slice_index}
use Rattle.pim_net.specs.declared.parts.Equation.{Equation}

-- an equation of the first signal has the second among its columns
abbrev pub Reads : List Equation → ℕ → ℕ → Type 0
Reads equations s c = (e : Equation) × Contains equations e × (e.sig ≡ s) × Contains e.cover.ins c

-- a list of signals is a cycle of these equations: it is not empty, each signal's equation reads the next one, and the last
-- one's reads the first
pub record IsCycle (equations : List Equation) (signals : List ℕ) : Type 0 where
  pub some : 0 < length signals
  pub next : (i : ℕ) → i + 1 < length signals → Reads equations (slice_index signals i) (slice_index signals (i + 1))
  pub round : Reads equations (slice_index signals (length signals - 1)) (slice_index signals 0)

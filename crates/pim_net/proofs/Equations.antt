-- Equations by their numbers.
use Rattle.std.proofs.Common.{◌≡◌, ◌<◌, ℕ, List, length, get_or, ap}
use Rattle.std.proofs.lemmas.Option.{slice_get-get_or}
use Rattle.pim_net.specs.WellFormed.{columns}
use Rattle.pim_net.specs.inner.DepthFirst.{ins}
use Rattle.pim_net.specs.declared.parts.Equation.{Equation}

-- the columns of an equation that was read
pub ins_read : (equations : List Equation) (k : ℕ) (e : Equation) → k < length equations → ins equations k ≡ (get_or equations k e).cover.ins
ins_read equations k e within = ap columns (slice_get-get_or equations k e within)

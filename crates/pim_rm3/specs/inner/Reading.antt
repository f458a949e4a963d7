-- Inner. Where the literals that a gate reads stand.
use Rattle.std.specs.Prelude.{ℕ, ◌<◌}
use Rattle.pim_rm3.specs.declared.gate.Gate.{Gate}
use Rattle.pim_rm3.specs.declared.gate.Gate.TheVariants as gate

-- the literals that the gate reads have lower numbers than this
abbrev pub ReadsBelow : ℕ → Gate → Type 0
ReadsBelow l (gate.Constant b) = Unit {0}
ReadsBelow l gate.Input = Unit {0}
ReadsBelow l (gate.Not m) = m.0 < l
ReadsBelow l (gate.And x y) = (x.0 < l) × (y.0 < l)

-- Inner. Where the literals that a step reads stand.
use Rattle.std.specs.Prelude.{◌≡◌, ℕ, ◌%◌, ◌<◌}
use Rattle.pim_rm3.specs.declared.role.Role.{Role}
use Rattle.pim_rm3.specs.declared.step.Step.{Step}
use Rattle.pim_rm3.specs.declared.step.Step.TheVariants as step

-- the literals in the roles have lower numbers than this
abbrev pub IsBelow : ℕ → Role → Type 0
IsBelow l r = (r.p.0 < l) × (r.q.0 < l) × (r.z.0 < l)

-- a complement is the literal itself, and a node reads literals of lower numbers
abbrev pub StepsBelow : ℕ → Step → Type 0
StepsBelow l (step.Constant b) = Unit {0}
StepsBelow l step.Input = Unit {0}
StepsBelow l (step.Complement e) = (e.0 ≡ l) × (l % 2 ≡ 1)
StepsBelow l (step.Vote r) = IsBelow l r

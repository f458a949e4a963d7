-- Inner. The program that a graph is compiled to.
use Rattle.std.specs.Prelude.{ℕ}
use Rattle.pim_aig.specs.Graph.{AigView}
use Rattle.pim_isa.specs.Programs.{PortsView, ProgramView}
use Rattle.pim_isa.specs.declared.target.Target.{Target}
use Rattle.pim_isa.specs.declared.target.Target.TheVariants.{Magic, Plim}
use Rattle.pim_compile.specs.declared.compiling.Level.{Level}
use Rattle.pim_compile.specs.inner.Candidates.{IsMagic}
use Rattle.pim_compile.specs.inner.Smart.{IsPlim}

-- for the target's machine, at a level
abbrev pub IsScheduled : AigView → PortsView → Target → Level → ℕ → ProgramView → Type 0
IsScheduled g ports Magic effort budget p = IsMagic effort g ports budget p
IsScheduled g ports Plim effort budget p = IsPlim effort g ports budget p

-- Inner. What a budget gives: a program, or how many cells are needed for one.
use Rattle.std.specs.Prelude.{ℕ, min, Option, Some, None}
use Rattle.pim_isa.specs.Programs.{ProgramView}
use Rattle.pim_compile.specs.declared.fit.Fit.{Fit}
use Rattle.pim_compile.specs.declared.fit.Fit.TheVariants as fit
use Rattle.pim_compile.specs.inner.Candidates.{IsShortBy, shorter_of}

-- the program, if there is one
abbrev pub program_of : Fit → Option ProgramView
program_of (fit.Program p) = Some p
program_of (fit.Needs told) = None

-- where there is none, so many cells are told, which is the need, at most this bound, and more than the budget
abbrev pub TellsNeed : ℕ → ℕ → ℕ → Fit → Type 0
TellsNeed needed most budget (fit.Program p) = Unit {0}
TellsNeed needed most budget (fit.Needs told) = IsShortBy needed most budget told

-- the shorter one of a program, if it is there, and of this
abbrev pub beside : Option ProgramView → Fit → Fit
beside None f = f
beside (Some p) (fit.Needs told) = fit.Program p
beside (Some p) (fit.Program q) = fit.Program (shorter_of p q)

-- of two the shorter program, or the lesser need
abbrev pub joined : Fit → Fit → Fit
joined (fit.Program p) second = beside (Some p) second
joined (fit.Needs told) (fit.Program q) = fit.Program q
joined (fit.Needs told) (fit.Needs other) = fit.Needs (min told other)

-- What a refusal says.
use Rattle.std.specs.Prelude.{◌≡◌, ℕ, ◌<◌, ◌≤◌}
use Rattle.pim_rm3.specs.declared.refusal.Refusal.{Refusal}
use Rattle.pim_rm3.specs.declared.refusal.Refusal.TheVariants.{TooFewCells, NoMemory}
use Rattle.pim_rm3.specs.declared.refusal.SmartFault.{SmartFault}
use Rattle.pim_rm3.specs.declared.refusal.SmartFault.TheVariants as fault

-- a refusal for too few cells names the number that is needed, and comes only where the budget is below it
abbrev pub IsRefusalFor : ℕ → ℕ → Refusal → Type 0
IsRefusalFor needed budget (TooFewCells told) = (told ≡ needed) × (budget < needed)
IsRefusalFor needed budget NoMemory = Unit {0}

-- a refusal for too few cells asks for so many at most
abbrev pub AsksAtMost : ℕ → Refusal → Type 0
AsksAtMost most (TooFewCells told) = told ≤ most
AsksAtMost most NoMemory = Unit {0}

-- a schedule that does not fit has more cells than the budget, which it names, and no more than this number
abbrev pub IsUnfitFor : ℕ → ℕ → SmartFault → Type 0
IsUnfitFor most budget (fault.Unfit cells told) = (told ≡ budget) × (budget < cells) × (cells ≤ most)
IsUnfitFor most budget fault.NoMemory = Unit {0}

-- a refusal for too few cells comes only where the budget is below the schedule's own cells
abbrev pub IsTooWideFor : ℕ → ℕ → Refusal → Type 0
IsTooWideFor cells budget (TooFewCells told) = budget < cells
IsTooWideFor cells budget NoMemory = Unit {0}

-- a schedule that does not fit is told with its own cells
abbrev pub TellsCells : ℕ → SmartFault → Type 0
TellsCells cells (fault.Unfit told budget) = told ≡ cells
TellsCells cells fault.NoMemory = Unit {0}

-- Inner: what the refusal of a graph says.
use Rattle.std.specs.Prelude.{◌≡◌, ℕ, ◌<◌}
use Rattle.pim_imply.specs.declared.refusal.ImplyRefusal.{ImplyRefusal}
use Rattle.pim_imply.specs.declared.refusal.ImplyRefusal.TheVariants.{TooFewCells, TooLarge, NoMemory}

-- a graph is refused for too few cells alone, with the number that is needed, and the budget is below it; out of memory says nothing
abbrev pub IsRefusalFor : ℕ → ℕ → ImplyRefusal → Type 0
IsRefusalFor needed budget (TooFewCells told) = (told ≡ needed) × (budget < needed)
IsRefusalFor needed budget TooLarge = ⊥
IsRefusalFor needed budget NoMemory = Unit {0}

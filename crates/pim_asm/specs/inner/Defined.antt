-- Inner: the names that a map holds.
use Rattle.std.specs.Prelude.{ℕ, List, map}
use Rattle.std.specs.Borrow.{Bor}

-- each name with its cell, without where the name lies in memory
abbrev pub defined : List (Bor (List ℕ) × ℕ) → List (List ℕ × ℕ)
defined entries = map (λ (entry : Bor (List ℕ) × ℕ). (entry.0.now, entry.1)) entries

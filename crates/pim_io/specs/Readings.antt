-- Readings that may fail, one after another, and what a function that reads returns of them.
use Rattle.std.specs.Prelude.{◌≡◌, ◌⊎◌, Result, Ok, Err}

-- one reading after another: the first fault stands
infixl 10 ◌>>=◌
abbrev pub ◌>>=◌ : {A B E : Type 0} → Result A E → (A → Result B E) → Result B E
(Ok x) >>= f = f x
(Err e) >>= f = Err e

-- what failed with this fault fails so by the reading, unless it is the fault that memory ran out
abbrev pub Fails : {Y E : Type 0} → E → E → Result Y E → Type 0
Fails none fault reading = (fault ≡ none) ⊎ (reading ≡ Err fault)

-- what a function returned, seen by view, is what the reading gives, unless memory ran out
abbrev pub Gives : {X Y E : Type 0} → E → (X → Y) → Result X E → Result Y E → Type 0
Gives none view (Ok x) reading = reading ≡ Ok (view x)
Gives none view (Err fault) reading = Fails none fault reading

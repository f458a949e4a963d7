-- The names of signals, and their numbers: a name has the place at which it first came.
use Rattle.std.specs.Prelude.{ℕ, suc, List, [], ◌∷◌, ◌++◌, Bool, if◌then◌else◌, length, nat_lt, codes, slice_get, unwrap_or}
use Rattle.std.specs.Str.{bytes_eq}

-- the number of a name: its place among the names, and for a new one the place behind them
abbrev pub signal_number : List (List ℕ) → List ℕ → ℕ
signal_number [] name = 0
signal_number (known ∷ names) name = if bytes_eq known name then 0 else suc (signal_number names name)

-- the name of a number; each signal of a netlist has one, and what has none would be called by a question mark
abbrev pub name_of : List (List ℕ) → ℕ → List ℕ
name_of names number = unwrap_or (slice_get names number) (codes "?")

-- whether a name is among the names
abbrev pub is_known : List (List ℕ) → List ℕ → Bool
is_known names name = nat_lt (signal_number names name) (length names)

-- the names, with one that is appended where it is new
abbrev pub with_name : List (List ℕ) → List ℕ → List (List ℕ)
with_name names name = if is_known names name then names else names ++ name ∷ []

-- the names, with each of these words that is new appended in turn
abbrev pub with_names : List (List ℕ) → List (List ℕ) → List (List ℕ)
with_names names [] = names
with_names names (word ∷ words) = with_names (with_name names word) words

-- the distinct words, in the order of their first coming
abbrev pub distinct : List (List ℕ) → List (List ℕ)
distinct words = with_names [] words

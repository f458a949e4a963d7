-- Which gates the outputs reach, and what number each of them gets.
use Rattle.std.specs.Prelude.{ℕ, zero, suc, Bool, true, false, if◌then◌else◌, List, [], ◌∷◌, take, count_by, slice_index_or, slice_set}
use Rattle.pim_nor.specs.declared.network.Pin.{Pin}
use Rattle.pim_nor.specs.declared.network.Pin.TheVariants.{Input, Gate as Place}
use Rattle.pim_nor.specs.declared.network.Gate.{Gate}
use Rattle.pim_nor.specs.declared.network.Gate.TheVariants.{One, Not, Nor, Nor3, Nor4}
use Rattle.pim_nor.specs.Network.{pins}

-- the marks, with the gate of a pin marked
abbrev pub mark : List Bool → Pin → List Bool
mark marks (Input j) = marks
mark marks (Place s) = slice_set marks s true

-- the marks, with the gates of all these pins marked
abbrev pub mark_all : List Bool → List Pin → List Bool
mark_all marks [] = marks
mark_all marks (p ∷ ps) = mark_all (mark marks p) ps

-- from the last of the first n gates down to the first, each marked gate marks those that it reads
abbrev pub reached : (ℕ → Gate) → ℕ → List Bool → List Bool
reached gate zero marks = marks
reached gate (suc s) marks =
    reached gate s (if slice_index_or marks s false then mark_all marks (pins (gate s)) else marks)

-- how many of the gates before this one are marked: its number, if it is marked itself
abbrev pub number : List Bool → ℕ → ℕ
number marks s = count_by (λ b. b) (take s marks)

-- a pin with its gate's number in place of its slot
abbrev pub numbered : List Bool → Pin → Pin
numbered marks (Input j) = Input j
numbered marks (Place s) = Place (number marks s)

-- a gate that reads the numbered pins
abbrev pub numbered_gate : List Bool → Gate → Gate
numbered_gate marks One = One
numbered_gate marks (Not a) = Not (numbered marks a)
numbered_gate marks (Nor a b) = Nor (numbered marks a) (numbered marks b)
numbered_gate marks (Nor3 a b c) = Nor3 (numbered marks a) (numbered marks b) (numbered marks c)
numbered_gate marks (Nor4 a b c d) =
    Nor4 (numbered marks a) (numbered marks b) (numbered marks c) (numbered marks d)

-- the gates from slot s on that are marked
abbrev pub kept : (ℕ → Gate) → ℕ → List Bool → List Gate
kept gate s [] = []
kept gate s (true ∷ ms) = gate s ∷ kept gate (suc s) ms
kept gate s (false ∷ ms) = kept gate (suc s) ms

-- Lists of ports and their labels.
use Rattle.std.specs.Prelude.{ℕ, ◌+◌, List, [], ◌∷◌}
use Rattle.pim_isa.specs.declared.port.Port.{Port}

-- ports with these labels in the cells from c on
abbrev pub input_ports : ℕ → List (List ℕ) → List Port
input_ports c [] = []
input_ports c (label ∷ labels) = record { cell = c; label = label } ∷ input_ports (c + 1) labels

-- the labels of ports
abbrev pub labels_of : List Port → List (List ℕ)
labels_of [] = []
labels_of (port ∷ ports) = port.label ∷ labels_of ports

-- What a NOR network computes.
use Rattle.std.specs.Prelude.{◌&&◌, Bool, true, false, not, List, [], ◌∷◌, ◌++◌, map, slice_index_or}
use Rattle.pim_nor.specs.declared.network.Pin.{Pin}
use Rattle.pim_nor.specs.declared.network.Pin.TheVariants.{Input, Gate as Place}
use Rattle.pim_nor.specs.declared.network.Gate.{Gate}
use Rattle.pim_nor.specs.Network.{NorView, pins}

-- the value of a pin, where the inputs have these bits and the gates these values
abbrev pub pin_value : List Bool → List Bool → Pin → Bool
pin_value bits values (Input j) = slice_index_or bits j false
pin_value bits values (Place i) = slice_index_or values i false

-- none of the pins is true
abbrev pub none_true : (Pin → Bool) → List Pin → Bool
none_true value [] = true
none_true value (p ∷ ps) = not (value p) && none_true value ps

-- a gate is true where nothing that it reads is
abbrev pub gate_value : (Pin → Bool) → Gate → Bool
gate_value value gate = none_true value (pins gate)

-- the values of more gates, one after another
abbrev pub gate_values_from : List Bool → List Bool → List Gate → List Bool
gate_values_from bits values [] = values
gate_values_from bits values (g ∷ gs) =
    gate_values_from bits (values ++ gate_value (pin_value bits values) g ∷ []) gs

-- the values of all gates, where the inputs have these bits
abbrev pub gate_values : NorView → List Bool → List Bool
gate_values n bits = gate_values_from bits [] n.gates

-- the values of the outputs
abbrev pub out_values : NorView → List Bool → List Bool
out_values n bits = map (pin_value bits (gate_values n bits)) n.outs

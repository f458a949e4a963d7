-- The law of a network's values.
use Rattle.std.specs.Prelude.{◌≡◌, ℕ, ◌<◌, Bool, false, List, length, slice_index_or}
use Rattle.pim_nor.specs.Network.{NorView}
use Rattle.pim_nor.specs.Values.{pin_value, gate_value, gate_values}
use Rattle.pim_nor.specs.declared.network.Gate.{Gate}

-- where the inputs have bits, each gate is true where nothing that it reads is
abbrev pub HasGateValues : NorView → Type 0
HasGateValues n =
    (bits : List Bool) (k : ℕ) (d : Gate) → k < length n.gates →
    slice_index_or (gate_values n bits) k false ≡ gate_value (pin_value bits (gate_values n bits)) (slice_index_or n.gates k d)

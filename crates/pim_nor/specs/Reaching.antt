-- Which gates the outputs of a graph reach.
use Rattle.std.specs.Prelude.{ℕ, false, slice_index_or, Bool, Contains}
use Rattle.pim_aig.specs.Graph.{AigView}
use Rattle.pim_nor.specs.Leaves.{leaves}
use Rattle.pim_nor.specs.Lowered.{marks_of, roots}
use Rattle.pim_nor.specs.Named.{gate_at}
use Rattle.pim_nor.specs.Network.{pins}
use Rattle.pim_nor.specs.declared.lowering.Width.{Width}
use Rattle.pim_nor.specs.declared.network.Pin.TheVariants.{Gate as Place}

-- the outputs reach the gate of a slot where one of them reads it, or a gate that they reach reads it
pub data IsSlotReached (g : AigView) (width : Width) : ℕ → Type 0 where
  by_output : {slot : ℕ} → Contains (roots g) (Place slot) → IsSlotReached g width slot
  by_gate : {reader slot : ℕ} → IsSlotReached g width reader →
      Contains (pins (gate_at g (leaves g width) reader)) (Place slot) → IsSlotReached g width slot

-- whether the network has the gate of a slot
abbrev pub is_kept : AigView → Width → ℕ → Bool
is_kept g width slot = slice_index_or (marks_of g (leaves g width)) slot false

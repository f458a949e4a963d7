-- Inner: why a source was not read whole.
use Rattle.std.specs.Prelude.{◌≡◌, ℕ, Option}
use Rattle.pim_top.specs.Reads.{OfLimit}
use Rattle.pim_top.specs.Streams.{HasFailed, IsOverrun, Stream}
use Rattle.pim_top.specs.declared.refusal.Origin.{Origin}
use Rattle.pim_top.specs.declared.refusal.Refusal.{Refusal}
use Rattle.pim_top.specs.declared.refusal.Refusal.TheVariants as refusal

-- the source of this origin failed, or has more bytes than the limit allows, or memory ran out
abbrev pub IsNotWhole : Origin → Option ℕ → Stream → Refusal → Type 0
IsNotWhole origin limit s refusal.NoMemory = Unit {0}
IsNotWhole origin limit s (refusal.ReadFault o) = (o ≡ origin) × OfLimit limit (HasFailed s)
IsNotWhole origin limit s (refusal.TooLong o) = (o ≡ origin) × OfLimit limit (IsOverrun s)
IsNotWhole origin limit s r = ⊥

use Rattle.std.proofs.Common.{◌≡◌, ◌≤◌, ◌<◌, ◌+◌, ◌*◌, ℕ, drop, slice_index_or}
use Rattle.pim_isa.specs.Programs.{ProgramView}
use Rattle.pim_isa.specs.Sound.{IsProgram}
use Rattle.pim_share.specs.Windows.{needed}
use Rattle.pim_share.proofs.merging.needed.Given as goal

-- the cells so far and those of the parts that are left
abbrev pub invariant-loop-part : goal.invariant-loop-part
invariant-loop-part l =
    (l.cells + needed (drop l.part-index l.parts) ≡ needed l.parts) × (l.cells ≤ 1048576 * l.part-index)
    × ((k : ℕ) (d : ProgramView) → k < l.part-index → IsProgram (slice_index_or l.parts k d))

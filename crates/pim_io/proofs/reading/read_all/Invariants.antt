use Rattle.std.proofs.Common.{◌≡◌, ◌-◌, ◌≤◌, vec_len}
use Rattle.pim_io.specs.Outside.{Gave}
use Rattle.pim_io.proofs.reading.read_all.Given as goal

abbrev pub invariant-loop-chunk : goal.invariant-loop-chunk
invariant-loop-chunk g l =
    (vec_len l.bytes ≤ l.too_many) × (g.S.Source.faults l.source ≡ g.S.Source.faults l.initial.source) × Gave (g.S.Source.left l.initial.source) (g.S.Source.left l.source) l.bytes.items

abbrev pub decreases-loop-chunk : goal.decreases-loop-chunk
decreases-loop-chunk g l = l.too_many - vec_len l.bytes

use Rattle.std.proofs.Common.{◌≡◌, ◌+◌, ◌-◌, ◌≤◌, ◌⊎◌, length, take}
use Rattle.pim_io.specs.declared.limits.TheConstants.{MAX_INPUT}
use Rattle.pim_vectors.specs.Lines.{line_len}
use Rattle.pim_vectors.specs.Next.{within_limit}
use Rattle.pim_vectors.specs.inner.Found.{NoNewline}
use Rattle.pim_vectors.specs.inner.Taken.{Took}
use Rattle.pim_vectors.proofs.lines.Lines.find.Given as goal

-- bytes were taken behind those that were held, no newline stands among those that were seen, and none were taken where there
-- was one at first
abbrev pub invariant-reading : goal.invariant-reading
invariant-reading g l =
    Took l.initial.self (g.S.Source.left l.initial.source) (g.S.Source.left l.source) l.self
    × (l.seen ≤ length (within_limit l.self l.self.held))
    × NoNewline l.self.held l.seen
    × (g.S.Source.faults l.source ≡ g.S.Source.faults l.initial.source)
    × (take (length l.initial.self.held) l.self.held ≡ l.initial.self.held)
    × (length l.initial.self.held ≤ length l.self.held)
    × ((l.source ≡ l.initial.source) ⊎ (line_len l.initial.self.held ≡ length l.initial.self.held))

abbrev pub decreases-reading : goal.decreases-reading
decreases-reading g l = MAX_INPUT + 1 - (l.self.place + length l.self.held)

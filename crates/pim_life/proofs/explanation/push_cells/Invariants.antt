use Rattle.std.proofs.Common.{◌≡◌, ◌++◌, drop}
use Rattle.pim_life.specs.inner.Tracks.{tracks_text}
use Rattle.pim_life.proofs.explanation.push_cells.Given as goal

-- the text so far, with the lines of the cells that are left, is the whole
abbrev pub invariant-loop-cell : goal.invariant-loop-cell
invariant-loop-cell l =
    l.text.items ++ tracks_text l.cell (drop l.cell l.tracks) ≡ l.initial.text.items ++ tracks_text 0 l.tracks

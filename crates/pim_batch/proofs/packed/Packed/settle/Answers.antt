use Rattle.std.proofs.Common.{◌≡◌, length, map, subst, ap, ◌∙◌}
use Rattle.std.specs.List.{range_with_len}
use Rattle.pim_vectors.specs.Tiles.{vector_of}
use Rattle.pim_batch.specs.inner.Packing.{PackedView}
use Rattle.pim_batch.proofs.PackingLemmas.{rows_in_tile, row_in_tile, moved_row, moved_rows}
use Rattle.pim_batch.proofs.packed.Packed.settle.Goals as goal

pub returns-then-self-eq0-clause-tiled : goal.returns-then-self-eq0-clause-tiled
returns-then-self-eq0-clause-tiled c =
    let inside = c.self.inside in
    let P : PackedView → Type 0 = λ p. p.rows ≡ map (vector_of p.tile) (range_with_len 0 (length p.rows)) in
    subst P c.self.view_is
    (rows_in_tile inside.tile inside.stage inside.count (row_in_tile inside.tile inside.stage inside.count c.if-self-eq0.true))

pub returns-clause-tiled : goal.returns-clause-tiled
returns-clause-tiled c =
    let inside = c.self.inside in
    rows_in_tile c.put_block.new.self inside.stage inside.count
    (moved_row inside.tile inside.stage c.put_block.new.self inside.count c.put_block.ensures.vectors c.self.invariant.within)

pub returns-clause-same : goal.returns-clause-same
returns-clause-same c =
    let inside = c.self.inside in
    moved_rows inside.tile inside.stage c.put_block.new.self inside.count c.put_block.ensures.vectors c.self.invariant.within
    ∙ ap (λ (p : PackedView). p.rows) c.self.view_is

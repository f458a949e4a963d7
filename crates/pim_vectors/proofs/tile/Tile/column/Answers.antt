use Rattle.std.proofs.Common.{ℕ, List, refl, ap, ◌∙◌}
use Rattle.pim_io.specs.Lanes.{lane, column_in}
use Rattle.pim_vectors.specs.Tiles.{TileView, column_of}
use Rattle.pim_vectors.proofs.TileLemmas.{column_in_slice, column_lanes}
use Rattle.pim_vectors.proofs.tile.Tile.column.Goals as goal

pub returns-clause-value : goal.returns-clause-value
returns-clause-value c =
    column_in_slice c.self.inside.words c.deref.result.now c.args.k _ refl
    ∙ ap (λ (l : List ℕ). column_in c.self.inside.words l c.args.k) c.deref.ensures.value
    ∙ ap (λ (t : TileView). column_of t c.args.k) c.self.view_is

pub returns-clause-lanes : goal.returns-clause-lanes
returns-clause-lanes c = λ r row.
    ap (λ (ws : List ℕ). lane ws r) (returns-clause-value c) ∙ column_lanes c.args.self.now r c.args.k row c.requires

use Rattle.std.proofs.Common.{ℕ, ◌*◌, ◌<◌, List, length, refl, sym, subst, ap, ◌∙◌}
use Rattle.pim_vectors.specs.Tiles.{TileView, column_of, with_column}
use Rattle.pim_vectors.specs.inner.Kept.{IsTile}
use Rattle.pim_vectors.proofs.TileLemmas.{column_in_slice, words_written, length-column_of, column_start, with_column_rows}
use Rattle.pim_vectors.proofs.tile.Tile.column_mut.Goals as goal

pub returns : goal.returns
returns c =
    let inside = c.self.inside in
    let start : ℕ = c.args.k * inside.words in
    let items : List ℕ = inside.buffer.items in
    let is = c.self.view_is in
    let small : c.args.k < inside.columns = subst (λ (t : TileView). c.args.k < t.columns) (sym is) c.requires in
    let tile : IsTile c.args.self.now = subst IsTile is c.self.invariant in
    let value = c.slice_mut.ensures.value ∙ column_in_slice inside.words items c.args.k start refl ∙ ap (λ (t : TileView). column_of t c.args.k) is in (
      (
        refl,
        λ w.
            words_written inside.columns inside.words inside.buffer.len start items w inside.buffer.ok.0 (column_start _ c.args.k c.self.invariant small)
            ∙ ap (λ (t : TileView). with_column t c.args.k w) is,
      ),
      record {
        lends = tt;
        value = value;
        long = ap length value ∙ length-column_of c.args.self.now c.args.k tile c.requires;
        vectors = λ column. with_column_rows c.args.self.now c.args.k column tile c.requires;
      },
    )

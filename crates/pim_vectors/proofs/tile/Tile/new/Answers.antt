use Rattle.pim_vectors.proofs.TileLemmas.{new_rows}
use Rattle.pim_vectors.proofs.tile.Tile.new.Goals as goal

pub returns-clause-vectors : goal.returns-clause-vectors
returns-clause-vectors c = new_rows c.args.columns c.args.words _ (c.in_ok-vec.ensures.items_if_clones_equal (λ y same. same))

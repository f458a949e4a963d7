-- Inner: what the types of this crate keep.
use Rattle.std.specs.Prelude.{◌≡◌, ℕ, ◌+◌, ◌*◌, ◌<◌, ◌≤◌, List, length}
use Rattle.pim_isa.specs.Programs.{ProgramView}
use Rattle.pim_imply.specs.Programs.{ImplyView}
use Rattle.pim_lanes.specs.Banks.{BankView}
use Rattle.pim_vectors.specs.Stages.{StageView}
use Rattle.pim_vectors.specs.Tiles.{TileView}
use Rattle.pim_batch.specs.declared.passes.Room.{Room}
use Rattle.pim_batch.specs.Tables.{tile_rows, tile_words}
use Rattle.pim_batch.specs.ImplyTables.{imply_rows}
use Rattle.pim_batch.specs.inner.Packing.{PackedView}

-- what a batch keeps: the sizes that its program asks for, room for a line with its newline, and how many rows are
-- executed together
pub record IsBatch (p : ProgramView) (bank : BankView) (vectors : PackedView) (results : TileView) (stage : StageView) (chunk : List ℕ) (limit : ℕ) : Type 0 where
  pub cells : bank.cells ≡ p.cells
  pub words : bank.words ≡ tile_words p
  pub vector_columns : vectors.tile.columns ≡ length p.inputs
  pub vector_words : vectors.tile.words ≡ tile_words p
  pub result_columns : results.columns ≡ length p.outputs
  pub result_words : results.words ≡ tile_words p
  pub stage_columns : stage.columns ≡ length p.outputs
  pub line_room : length p.outputs + 1 ≤ length chunk
  pub most : limit ≡ tile_rows p

-- the words are those of so many passes
abbrev pub AreOfPasses : ℕ → ℕ → Type 0
AreOfPasses all words = (passes : ℕ) × (all ≡ passes * words)

-- the room for a pass: the sizes that the program asks for, and room for a line with its newline
pub record IsRoom (p : ImplyView) (room : Room) : Type 0 where
  pub some : 0 < room.words
  pub few : room.words ≤ 64
  pub cells : room.bank.cells ≡ p.cells
  pub words : room.bank.words ≡ room.words
  pub columns : room.results.columns ≡ length p.outputs
  pub result_words : room.results.words ≡ room.words
  pub stage_columns : room.stage.columns ≡ room.results.columns
  pub line : length p.outputs + 1 ≤ length room.chunk.items

-- what a batch of the IMPLY machine keeps: room for a pass, vectors for whole passes, and at most so many rows as are packed together
pub record IsImplyBatch (p : ImplyView) (vectors : PackedView) (space : Room) (limit : ℕ) : Type 0 where
  pub room : IsRoom p space
  pub columns : vectors.tile.columns ≡ length p.inputs
  pub passes : AreOfPasses vectors.tile.words space.words
  pub few : vectors.tile.words ≤ 64
  pub fits : length vectors.rows ≤ limit
  pub most_fits : limit ≤ 64 * vectors.tile.words
  pub most : limit ≡ imply_rows (length p.inputs)

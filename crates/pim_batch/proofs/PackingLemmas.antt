-- Rows of a tile and of a stage, one after another.
use Rattle.std.proofs.Common.{◌≡◌, ◌≢◌, ℕ, zero, suc, ◌+◌, ◌*◌, ◌/◌, ◌%◌, ◌<◌, ◌≤◌, Bool, cond, eqb, List, [], ◌∷◌, ◌++◌, length, map, inl, inr, refl, sym, ap, ◌∙◌, arith}
use Rattle.std.specs.List.{range_with_len}
use Rattle.std.proofs.lemmas.Bool.{cases_eq, eq-eqb, ne_eqb}
use Rattle.std.proofs.lemmas.List.FromFn.{length-map-range_with_len, map-range_with_len_more}
use Rattle.pim_vectors.specs.Stages.{StageView, staged}
use Rattle.pim_vectors.specs.Tiles.{TileView, IsLane, vector_of}
use Rattle.pim_batch.specs.inner.Packing.{PackedView, packed_row, packed_rows}

-- ---- lists of rows
pub maps_same : {A : Type 0} (f g : ℕ → A) (a n : ℕ) → ((r : ℕ) → a ≤ r → r < a + n → f r ≡ g r) → map f (range_with_len a n) ≡ map g (range_with_len a n)
maps_same f g a zero same = refl
maps_same {A} f g a (suc n) same =
    ap (λ (l : A). l ∷ map f (range_with_len (a + 1) n)) (same a (omega arith) (omega arith))
    ∙ ap (λ (l : List A). g a ∷ l) (maps_same f g (a + 1) n (λ r above below. same r (omega arith) (omega arith)))

rows_more : (f g : ℕ → List Bool) (n : ℕ) (bits : List Bool) → ((r : ℕ) → r < n → g r ≡ f r) → g n ≡ bits →
    map g (range_with_len 0 (n + 1)) ≡ map f (range_with_len 0 n) ++ bits ∷ []
rows_more f g n bits same last =
    map-range_with_len_more g 0 n n (omega arith)
    ∙ ap (λ (l : List (List Bool)). l ++ g n ∷ []) (maps_same g f 0 n (λ r above below. same r (omega arith)))
    ∙ ap (λ (l : List Bool). map f (range_with_len 0 n) ++ l ∷ []) last

pub length-packed_rows : (tile : TileView) (stage : StageView) (count : ℕ) → length (packed_rows tile stage count) ≡ count
length-packed_rows tile stage count = length-map-range_with_len (packed_row tile stage count) 0 count

-- ---- one more row in the stage
-- a lane of the stage was written
abbrev Written : StageView → StageView → ℕ → List Bool → Type 0
Written stage new count bits = (r : ℕ) → r < 64 → staged new r ≡ cond (eqb r (count % 64)) bits (staged stage r)

-- the rows before it stand where they stood
next_row : (tile : TileView) (stage new : StageView) (count : ℕ) (bits : List Bool) → Written stage new count bits →
    (r : ℕ) → r < count → cond (eqb (r / 64) (count / 64)) (staged new (r % 64)) (vector_of tile r) ≡ packed_row tile stage count r
next_row tile stage new count bits written r small =
    elim (cases_eq (r / 64) (count / 64)) [
      | inl same ↦
          let apart : r % 64 ≢ count % 64 = λ e. omega arith in
          rw (eq-eqb (r / 64) (count / 64) same)
          (written (r % 64) (omega arith) ∙ ap (λ (x : Bool). cond x bits (staged stage (r % 64))) (ne_eqb (r % 64) (count % 64) apart))
      | inr apart ↦ rw (ne_eqb (r / 64) (count / 64) apart) refl
    ]

-- it is the last one
last_row : (tile : TileView) (stage new : StageView) (count : ℕ) (bits : List Bool) → Written stage new count bits →
    cond (eqb (count / 64) (count / 64)) (staged new (count % 64)) (vector_of tile count) ≡ bits
last_row tile stage new count bits written =
    rw (eq-eqb (count / 64) (count / 64) refl)
    (written (count % 64) (omega arith)
    ∙ ap (λ (x : Bool). cond x bits (staged stage (count % 64))) (eq-eqb (count % 64) (count % 64) refl))

-- the word of the stage isn't full by it
pub pushed_open : (tile : TileView) (stage new : StageView) (count : ℕ) (bits : List Bool) → Written stage new count bits → (count + 1) % 64 ≢ 0 →
    packed_rows tile new (count + 1) ≡ packed_rows tile stage count ++ bits ∷ []
pushed_open tile stage new count bits written not_full =
    let word : (count + 1) / 64 ≡ count / 64 = omega arith in
    let here : (r : ℕ) → packed_row tile new (count + 1) r ≡ cond (eqb (r / 64) (count / 64)) (staged new (r % 64)) (vector_of tile r) =
    λ (r : ℕ). ap (λ (n : ℕ). cond (eqb (r / 64) n) (staged new (r % 64)) (vector_of tile r)) word in
    rows_more (packed_row tile stage count) (packed_row tile new (count + 1)) count bits
    (λ r small. here r ∙ next_row tile stage new count bits written r small)
    (here count ∙ last_row tile stage new count bits written)

-- the word of the stage is full by it, and was moved into the tile
pub pushed_full : (tile : TileView) (stage new : StageView) (moved : TileView) (count : ℕ) (bits : List Bool) → Written stage new count bits → (count + 1) % 64 ≡ 0 →
    count < 64 * tile.words →
    ((r : ℕ) → IsLane tile r → vector_of moved r ≡ cond (eqb (r / 64) (count / 64)) (staged new (r % 64)) (vector_of tile r)) →
    packed_rows moved new (count + 1) ≡ packed_rows tile stage count ++ bits ∷ []
pushed_full tile stage new moved count bits written full room rows =
    let here : (r : ℕ) → r ≤ count → packed_row moved new (count + 1) r ≡ cond (eqb (r / 64) (count / 64)) (staged new (r % 64)) (vector_of tile r) =
    λ (r : ℕ) (small : r ≤ count).
    let apart : r / 64 ≢ (count + 1) / 64 = λ e. omega arith in
    ap (λ (x : Bool). cond x (staged new (r % 64)) (vector_of moved r)) (ne_eqb (r / 64) ((count + 1) / 64) apart)
    ∙ rows r (omega arith) in
    rows_more (packed_row tile stage count) (packed_row moved new (count + 1)) count bits
    (λ r small. here r (omega arith) ∙ next_row tile stage new count bits written r small)
    (here count (omega arith) ∙ last_row tile stage new count bits written)

-- ---- all rows in the tile
pub rows_in_tile : (tile : TileView) (stage : StageView) (count : ℕ) → ((r : ℕ) → r < count → packed_row tile stage count r ≡ vector_of tile r) →
    packed_rows tile stage count ≡ map (vector_of tile) (range_with_len 0 (length (packed_rows tile stage count)))
rows_in_tile tile stage count rows =
    maps_same (packed_row tile stage count) (vector_of tile) 0 count (λ r above below. rows r (omega arith))
    ∙ ap (λ (n : ℕ). map (vector_of tile) (range_with_len 0 n)) (sym (length-packed_rows tile stage count))

-- the stage has none of them
pub row_in_tile : (tile : TileView) (stage : StageView) (count : ℕ) → count % 64 ≡ 0 → (r : ℕ) → r < count → packed_row tile stage count r ≡ vector_of tile r
row_in_tile tile stage count whole r small =
    let apart : r / 64 ≢ count / 64 = λ e. omega arith in
    ap (λ (x : Bool). cond x (staged stage (r % 64)) (vector_of tile r)) (ne_eqb (r / 64) (count / 64) apart)

-- those of the stage were moved
abbrev Moved : TileView → StageView → TileView → ℕ → Type 0
Moved tile stage moved count = (r : ℕ) → IsLane tile r → vector_of moved r ≡ packed_row tile stage count r

pub moved_row : (tile : TileView) (stage : StageView) (moved : TileView) (count : ℕ) → Moved tile stage moved count → count ≤ 64 * tile.words →
    (r : ℕ) → r < count → packed_row moved stage count r ≡ vector_of moved r
moved_row tile stage moved count rows within r small =
    elim (cases_eq (r / 64) (count / 64)) [
      | inl same ↦
          ap (λ (x : Bool). cond x (staged stage (r % 64)) (vector_of moved r)) (eq-eqb (r / 64) (count / 64) same)
          ∙ sym (rows r (omega arith) ∙ ap (λ (x : Bool). cond x (staged stage (r % 64)) (vector_of tile r)) (eq-eqb (r / 64) (count / 64) same))
      | inr apart ↦ ap (λ (x : Bool). cond x (staged stage (r % 64)) (vector_of moved r)) (ne_eqb (r / 64) (count / 64) apart)
    ]

pub moved_rows : (tile : TileView) (stage : StageView) (moved : TileView) (count : ℕ) → Moved tile stage moved count → count ≤ 64 * tile.words →
    packed_rows moved stage count ≡ packed_rows tile stage count
moved_rows tile stage moved count rows within =
    maps_same (packed_row moved stage count) (packed_row tile stage count) 0 count
    (λ r above below. moved_row tile stage moved count rows within r (omega arith) ∙ rows r (omega arith))

-- ---- room for one more row
pub has_room : (tile : TileView) (stage : StageView) (count : ℕ) (p : PackedView) → record { tile = tile; rows = packed_rows tile stage count } ≡ p →
    length p.rows < 64 * p.tile.words → count < 64 * tile.words
has_room tile stage count p is room =
    let many : count ≡ length p.rows = sym (length-packed_rows tile stage count) ∙ ap (λ (v : PackedView). length v.rows) is in
    let words : tile.words ≡ p.tile.words = ap (λ (v : PackedView). v.tile.words) is in
    omega (arith, many, words)

-- the rows that were moved into the tile are its rows
pub rows_settled : (before settled : PackedView) (tile : TileView) (n : ℕ) → n ≡ length before.rows → settled.rows ≡ before.rows →
    settled.rows ≡ map (vector_of settled.tile) (range_with_len 0 (length settled.rows)) → tile ≡ settled.tile →
    before.rows ≡ map (vector_of tile) (range_with_len 0 n)
rows_settled before settled tile n count same tiled tile_is =
    sym same ∙ tiled
    ∙ ap (λ (k : ℕ). map (vector_of settled.tile) (range_with_len 0 k)) (ap length same ∙ sym count)
    ∙ ap (λ (t : TileView). map (vector_of t) (range_with_len 0 n)) (sym tile_is)

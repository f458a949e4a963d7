-- Passes over the rows of a tile.
use Rattle.std.proofs.Common.{◌≡◌, ℕ, zero, suc, ◌+◌, ◌-◌, ◌*◌, ◌/◌, ◌%◌, ◌<◌, ◌≤◌, inl, inr, min, Bool, List, [], ◌∷◌, ◌++◌, length, take, drop, get_or, map, refl, sym, ap, subst, ◌∙◌, arith}
use Rattle.std.specs.List.{flat_map, range_with_len}
use Rattle.std.proofs.lemmas.Bool.{cases_lt}
use Rattle.std.proofs.lemmas.List.{append-nil, get_or-take, get_or-drop}
use Rattle.std.proofs.lemmas.Grind.{flat_map-append}
use Rattle.std.proofs.Math.Nat.{suc-mul}
use Rattle.pim_io.specs.Bits.{line_of}
use Rattle.pim_io.specs.Lanes.{is_set, lane}
use Rattle.pim_isa.specs.Results.{load as plain_load}
use Rattle.pim_isa.specs.Steps.{bit}
use Rattle.pim_isa.specs.declared.target.Fill.{Fill}
use Rattle.pim_lanes.specs.Banks.{BankView, row_of}
use Rattle.pim_vectors.specs.Tiles.{TileView, vector_of}
use Rattle.pim_imply.specs.Machines.{iexec}
use Rattle.pim_imply.specs.Programs.{ImplyView, body_of}
use Rattle.pim_batch.specs.ImplyBatches.{ImplyBatchView}
use Rattle.pim_batch.specs.ImplyTables.{imply_line, imply_runner}
use Rattle.pim_batch.specs.Runners.{results}
use Rattle.pim_batch.specs.inner.ImplyLines.{imply_lines}
use Rattle.pim_batch.specs.inner.TileLines.{row_line, row_lines}
use Rattle.pim_batch.proofs.RowLemmas.{lines_same, range-add}

-- a lane of some words of a column
pub lane_part : (column : List ℕ) (first w r : ℕ) → r < 64 * w → lane (take w (drop first column)) r ≡ lane column (64 * first + r)
unfolding lane
lane_part column first w r small =
    let word : (64 * first + r) / 64 ≡ first + r / 64 = omega arith in
    let place : (64 * first + r) % 64 ≡ r % 64 = omega arith in
    let same : get_or (take w (drop first column)) (r / 64) 0 ≡ get_or column ((64 * first + r) / 64) 0 =
    get_or-take w (drop first column) (r / 64) 0 (omega arith) ∙ get_or-drop first column (r / 64) 0 ∙ ap (λ (n : ℕ). get_or column n 0) (sym word) in
    ap (λ (n : ℕ). is_set n (r % 64)) same ∙ ap (λ (n : ℕ). is_set (get_or column ((64 * first + r) / 64) 0) n) (sym place)

-- lines of which each is another one's, from other places on
lines_moved : (f h : ℕ → List ℕ) (a b n : ℕ) → ((r : ℕ) → r < n → f (a + r) ≡ h (b + r)) → flat_map f (range_with_len a n) ≡ flat_map h (range_with_len b n)
lines_moved f h a b zero same = refl
lines_moved f h a b (suc n) same =
    let here : f a ≡ h b = let no_a : a + 0 ≡ a = omega arith in let no_b : b + 0 ≡ b = omega arith in sym (ap f no_a) ∙ same 0 (omega arith) ∙ ap h no_b in
    let others : (r : ℕ) → r < n → f (a + 1 + r) ≡ h (b + 1 + r) =
    λ r small.
    let one_a : a + (r + 1) ≡ a + 1 + r = omega arith in
    let one_b : b + (r + 1) ≡ b + 1 + r = omega arith in
    sym (ap f one_a) ∙ same (r + 1) (omega arith) ∙ ap h one_b in
    ap (λ (l : List ℕ). l ++ flat_map f (range_with_len (a + 1) n)) here
    ∙ ap (λ (l : List ℕ). h b ++ l) (lines_moved f h (a + 1) (b + 1) n others)

-- the lines of a pass
pub pass_lines : (p : ImplyView) (fill : Fill) (start done : BankView) (vectors results : TileView) (from lanes w : ℕ) → lanes ≤ 64 * w →
    ((r : ℕ) → r < 64 * w → row_of start r ≡ plain_load (body_of p) fill (vector_of vectors (from + r))) →
    ((r : ℕ) → r < 64 * w → row_of done r ≡ iexec p.instrs (row_of start r)) →
    ((r : ℕ) → r < 64 * w → vector_of results r ≡ map (λ o. bit (row_of done r) o.cell) p.outputs) →
    row_lines results lanes ≡ imply_lines p fill vectors from lanes
pass_lines p fill start done vectors results from lanes w within loaded ran gathered =
    lines_moved (row_line results) (λ r. imply_line p fill (vector_of vectors r)) 0 from lanes
    (λ r small.
    let row : r < 64 * w = omega arith in
    let front : 0 + r ≡ r = omega arith in
    ap (row_line results) front
    ∙ ap (λ (l : List Bool). line_of l ++ 10 ∷ []) (gathered r row)
    ∙ ap (λ (m : List Bool). line_of (map (λ o. bit m o.cell) p.outputs) ++ 10 ∷ []) (ran r row)
    ∙ ap (λ (m : List Bool). line_of (map (λ o. bit (iexec p.instrs m) o.cell) p.outputs) ++ 10 ∷ []) (loaded r row))

lines-add : (p : ImplyView) (fill : Fill) (t : TileView) (a n m : ℕ) → imply_lines p fill t a (n + m) ≡ imply_lines p fill t a n ++ imply_lines p fill t (a + n) m
lines-add p fill t a n m =
    ap (flat_map (λ r. imply_line p fill (vector_of t r))) (range-add a n m)
    ∙ flat_map-append (λ r. imply_line p fill (vector_of t r)) (range_with_len a n) (range_with_len (a + n) m)

-- the lines that are left are those of the next pass and those behind it
pub lines-cut : (p : ImplyView) (fill : Fill) (t : TileView) (first words rows : ℕ) → 64 * first < rows →
    imply_lines p fill t (64 * first) (rows - 64 * first)
    ≡ imply_lines p fill t (64 * first) (min (rows - 64 * first) (64 * words)) ++ imply_lines p fill t (64 * (first + words)) (rows - 64 * (first + words))
lines-cut p fill t first words rows some =
    elim (cases_lt (rows - 64 * first) (64 * words)) [
      | inl last ↦
          let all : min (rows - 64 * first) (64 * words) ≡ rows - 64 * first = omega arith in
          let none : rows - 64 * (first + words) ≡ 0 = omega arith in
          rw (all, none) (sym (append-nil (imply_lines p fill t (64 * first) (rows - 64 * first))))
      | inr more ↦
          let full : min (rows - 64 * first) (64 * words) ≡ 64 * words = omega arith in
          let split : rows - 64 * first ≡ 64 * words + (rows - 64 * (first + words)) = omega arith in
          let next : 64 * first + 64 * words ≡ 64 * (first + words) = omega arith in
          ap (imply_lines p fill t (64 * first)) split
          ∙ lines-add p fill t (64 * first) (64 * words) (rows - 64 * (first + words))
          ∙ ap (λ (n : ℕ). imply_lines p fill t (64 * first) n ++ imply_lines p fill t (64 * first + 64 * words) (rows - 64 * (first + words))) (sym full)
          ∙ ap (λ (n : ℕ). imply_lines p fill t (64 * first) (min (rows - 64 * first) (64 * words)) ++ imply_lines p fill t n (rows - 64 * (first + words))) next
    ]

-- where rows are left a whole pass is
pub pass_left : (first rows words all passes : ℕ) → 64 * first < rows → rows ≤ 64 * all → all ≡ first + passes * words → (n : ℕ) × (all ≡ first + words + n * words)
pass_left first rows words all zero some within is = absurd (omega arith)
pass_left first rows words all (suc n) some within is = (n, omega (arith, suc-mul n words))

-- the lines of rows that stand in a tile
pub lines_of_rows : (p : ImplyView) (fill : Fill) (t : TileView) (rows : List (List Bool)) (n : ℕ) → n ≡ length rows → rows ≡ map (vector_of t) (range_with_len 0 (length rows)) →
    imply_lines p fill t 0 n ≡ flat_map (imply_line p fill) rows
lines_of_rows p fill t rows n count are =
    ap (imply_lines p fill t 0) count
    ∙ sym (ap (flat_map (imply_line p fill)) are
    ∙ lines_same (imply_line p fill) (vector_of t) (λ r. imply_line p fill (vector_of t r)) 0 (length rows) (λ r above below. refl))

-- those of a batch: `view` is what its fields are seen as, and `b` the value that clauses speak of
pub batch_lines : (view b : ImplyBatchView) (t tile : TileView) (rows : List (List Bool)) (n : ℕ) → view ≡ b → t ≡ tile → n ≡ length view.vectors → rows ≡ view.vectors →
    rows ≡ map (vector_of tile) (range_with_len 0 (length rows)) → imply_lines view.program view.fill t 0 n ≡ results (imply_runner b.program b.fill) b.vectors
batch_lines view b t tile rows n is same_tile count same tiled =
    subst (λ (b : ImplyBatchView). imply_lines view.program view.fill t 0 n ≡ results (imply_runner b.program b.fill) b.vectors) is
    (ap (λ (x : TileView). imply_lines view.program view.fill x 0 n) same_tile
    ∙ lines_of_rows view.program view.fill tile rows n (count ∙ ap length (sym same)) tiled
    ∙ ap (flat_map (imply_line view.program view.fill)) same)

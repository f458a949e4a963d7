-- Lanes of columns that stand one after another, and one bit written.
use Rattle.std.proofs.Common.{◌≡◌, ◌≢◌, ℕ, ◌+◌, ◌-◌, ◌*◌, ◌/◌, ◌%◌, ◌<◌, ◌≤◌, ◌⊎◌, inl, inr, Bool, false, ◌&&◌, cond, eqb, ltb, List, ◌++◌, length, take, drop, set, get_or, map, replicate, refl, sym, ap, subst, ◌∙◌, arith}
use Rattle.std.specs.List.{range_with_len}
use mir.Val.{bits}
use Rattle.std.proofs.lemmas.Bool.{cases_eq, cases_lt, eq-eqb, ne_eqb, lt-ltb}
use Rattle.std.proofs.lemmas.List.{get_or-set_same, get_or-set_other, get_or-take, get_or-drop, get_or-map, get_or-replicate, get_or-append-add, get_or_append_left, length-map, length-replicate, length-append, length-drop, length-set, length-take-le, take-append-le, take_all, ext_get_or}
use Rattle.std.proofs.lemmas.List.FromFn.{length-map-range_with_len, get_or-map-range_with_len}
use Rattle.pim_io.specs.Lanes.{is_set, lane, column_in, with_words}
use Rattle.pim_io.specs.Bits.{bits_of, digit_of, line_of}
use Rattle.pim_vectors.specs.Tiles.{TileView, column_of, with_column, vector_of, IsLane}
use Rattle.pim_vectors.specs.Stages.{StageView, staged}
use Rattle.pim_vectors.specs.inner.Cells.{lane_at, staged_at}
use Rattle.pim_vectors.specs.inner.Kept.{IsTile}
use Rattle.pim_vectors.proofs.BitLemmas.{is_set-zero, low_within, same_column}
use Rattle.pim_vectors.proofs.StageLemmas.{length-staged, get_or-staged}

-- a lane of a column's words
pub lane-column : (w : ℕ) (buffer : List ℕ) (c r : ℕ) → r < 64 * w → lane (column_in w buffer c) r ≡ lane_at w buffer c r
unfolding lane lane_at column_in
lane-column w buffer c r small =
    ap (λ (n : ℕ). is_set n (r % 64)) (get_or-take w (drop (c * w) buffer) (r / 64) 0 (omega arith) ∙ get_or-drop (c * w) buffer (r / 64) 0)

-- one bit was written
pub lane_at-set : (w : ℕ) (buffer : List ℕ) (k row word : ℕ) (b : Bool) → row < 64 * w → k * w + w ≤ length buffer →
    ((i : ℕ) → i < 64 → is_set word i ≡ cond (eqb i (row % 64)) b (is_set (get_or buffer (k * w + row / 64) 0) i)) →
    (c r : ℕ) → r < 64 * w → lane_at w (set buffer (k * w + row / 64) word) c r ≡ cond (eqb c k && eqb r row) b (lane_at w buffer c r)
unfolding lane_at
lane_at-set w buffer k row word b row_small within bits c r small = by_cases (cases_eq (c * w + r / 64) (k * w + row / 64))
  where
    at : ℕ
    at = k * w + row / 64

    by_cases : (c * w + r / 64 ≡ k * w + row / 64) ⊎ (c * w + r / 64 ≢ k * w + row / 64) →
        lane_at w (set buffer (k * w + row / 64) word) c r ≡ cond (eqb c k && eqb r row) b (lane_at w buffer c r)
    by_cases (inl same) =
        let both = same_column w c k (r / 64) (row / 64) (omega arith) (omega arith) same in
        let place : eqb (r % 64) (row % 64) ≡ eqb r row =
        elim (cases_eq r row) [
          | inl one ↦ ap (λ (n : ℕ). eqb (n % 64) (row % 64)) one ∙ eq-eqb (row % 64) (row % 64) refl ∙ sym (eq-eqb r row one)
          | inr two ↦ ne_eqb (r % 64) (row % 64) (λ e. two (omega (arith, both.1))) ∙ sym (ne_eqb r row two)
        ] in
        ap (λ (n : ℕ). is_set (get_or (set buffer at word) n 0) (r % 64)) same
        ∙ ap (λ (n : ℕ). is_set n (r % 64)) (get_or-set_same buffer at word 0 (omega arith))
        ∙ bits (r % 64) (omega arith)
        ∙ ap (λ (x : Bool). cond x b (is_set (get_or buffer at 0) (r % 64))) place
        ∙ ap (λ (n : ℕ). cond (eqb r row) b (is_set (get_or buffer n 0) (r % 64))) (sym same)
        ∙ ap (λ (x : Bool). cond (x && eqb r row) b (is_set (get_or buffer (c * w + r / 64) 0) (r % 64))) (sym (eq-eqb c k both.0))
    by_cases (inr apart) =
        ap (λ (n : ℕ). is_set n (r % 64)) (get_or-set_other buffer at (c * w + r / 64) word 0 apart)
        ∙ elim (cases_eq c k) as (λ _. is_set (get_or buffer (c * w + r / 64) 0) (r % 64) ≡ cond (eqb c k && eqb r row) b (is_set (get_or buffer (c * w + r / 64) 0) (r % 64))) [
          | inl one ↦
              rw (eq-eqb c k one, ne_eqb r row (λ e. apart (ap (λ (n : ℕ). n * w + r / 64) one ∙ ap (λ (n : ℕ). k * w + n / 64) e))) refl
          | inr two ↦ rw (ne_eqb c k two) refl
        ]

-- ---- the rows of a tile
pub length-vector_of : (t : TileView) (r : ℕ) → length (vector_of t r) ≡ t.columns
unfolding vector_of
length-vector_of t r = length-map-range_with_len (λ (c : ℕ). lane (column_of t c) r) 0 t.columns

pub get_or-vector_of : (t : TileView) (r c : ℕ) → IsLane t r → c < t.columns → get_or (vector_of t r) c false ≡ lane_at t.words t.buffer c r
unfolding vector_of
get_or-vector_of t r c row small =
    get_or-map-range_with_len (λ (c : ℕ). lane (column_of t c) r) 0 t.columns c c false small (omega arith)
    ∙ lane-column t.words t.buffer c r row

-- a row is that list whose bits are its lanes
row_from_lanes : (t : TileView) (r : ℕ) (bits : List Bool) → IsLane t r → length bits ≡ t.columns →
    ((c : ℕ) → c < t.columns → lane_at t.words t.buffer c r ≡ get_or bits c false) → vector_of t r ≡ bits
row_from_lanes t r bits row long lanes =
    ext_get_or false (vector_of t r) bits (length-vector_of t r ∙ sym long)
    (λ c within.
    let small : c < t.columns = omega (arith, length-vector_of t r) in
    get_or-vector_of t r c row small ∙ lanes c small)

-- a line was packed into a row
pub packed_rows : (view t : TileView) (old new items : List ℕ) (row : ℕ) (line : List ℕ) → view ≡ t → items ≡ new → old ≡ view.buffer → length line ≡ t.columns →
    ((c r : ℕ) → r < 64 * view.words → lane_at view.words new c r ≡ cond (ltb c (length line) && eqb r row) (eqb (get_or line c 0) 49) (lane_at view.words old c r)) →
    (r : ℕ) → IsLane t r → vector_of (record view { buffer = items }) r ≡ cond (eqb r row) (bits_of line) (vector_of t r)
packed_rows view t old new items row line is items_are old_is long lanes =
    let P : TileView → Type 0 = λ t. length line ≡ t.columns → (r : ℕ) → IsLane t r → vector_of (record view { buffer = items }) r ≡ cond (eqb r row) (bits_of line) (vector_of t r) in
    subst P is (λ long r row_small.
    let after : TileView = record view { buffer = items } in
    let lane_is : (c : ℕ) → c < view.columns → lane_at view.words items c r ≡ cond (eqb r row) (eqb (get_or line c 0) 49) (lane_at view.words view.buffer c r) =
    λ (c : ℕ) (small : c < view.columns).
    ap (λ (l : List ℕ). lane_at view.words l c r) items_are ∙ lanes c r row_small
    ∙ ap (λ (x : Bool). cond (x && eqb r row) (eqb (get_or line c 0) 49) (lane_at view.words old c r)) (lt-ltb c (length line) (omega arith))
    ∙ ap (λ (l : List ℕ). cond (eqb r row) (eqb (get_or line c 0) 49) (lane_at view.words l c r)) old_is in
    elim (cases_eq r row) [
      | inl same ↦
          rw (eq-eqb r row same) (row_from_lanes after r (bits_of line) row_small (length-map line (λ (b : ℕ). eqb b 49) ∙ long)
          (λ c small.
          lane_is c small ∙ ap (λ (x : Bool). cond x (eqb (get_or line c 0) 49) (lane_at view.words view.buffer c r)) (eq-eqb r row same)
          ∙ sym (get_or-map (λ (b : ℕ). eqb b 49) line c 0 false (omega arith))))
      | inr other ↦
          rw (ne_eqb r row other) (row_from_lanes after r (vector_of view r) row_small (length-vector_of view r)
          (λ c small.
          lane_is c small ∙ ap (λ (x : Bool). cond x (eqb (get_or line c 0) 49) (lane_at view.words view.buffer c r)) (ne_eqb r row other)
          ∙ sym (get_or-vector_of view r c row_small small)))
    ]) long

-- the line that a row is unpacked to
pub unpacked : (view t : TileView) (buffer : List ℕ) (n row : ℕ) → view ≡ t → buffer ≡ view.buffer → n ≡ t.columns → IsLane t row →
    map (λ (c : ℕ). digit_of (lane_at view.words buffer c row)) (range_with_len 0 n) ≡ line_of (vector_of t row)
unpacked view t buffer n row is buffer_is =
    let f : ℕ → ℕ = λ (c : ℕ). digit_of (lane_at view.words buffer c row) in
    let P : TileView → Type 0 = λ t. n ≡ t.columns → IsLane t row → map f (range_with_len 0 n) ≡ line_of (vector_of t row) in
    subst P is (λ n_is small.
    ext_get_or 0 (map f (range_with_len 0 n)) (line_of (vector_of view row))
    (length-map-range_with_len f 0 n ∙ n_is ∙ sym (length-map (vector_of view row) digit_of ∙ length-vector_of view row))
    (λ c within.
    let below : c < n = omega (arith, length-map-range_with_len f 0 n) in
    get_or-map-range_with_len f 0 n c c 0 below (omega arith)
    ∙ ap (λ (l : List ℕ). digit_of (lane_at view.words l c row)) buffer_is
    ∙ ap digit_of (sym (get_or-vector_of view row c small (omega arith)))
    ∙ sym (get_or-map digit_of (vector_of view row) c false 0 (omega (arith, length-vector_of view row)))))

-- a new tile
pub new_rows : (columns w : ℕ) (items : List ℕ) → items ≡ replicate (columns * w) 0 → (r : ℕ) → r < 64 * w →
    vector_of (record { columns = columns; words = w; buffer = items }) r ≡ replicate columns false
unfolding lane_at
new_rows columns w items is r small =
    row_from_lanes (record { columns = columns; words = w; buffer = items }) r (replicate columns false) small (length-replicate columns false)
    (λ c within.
    let place : c * w + r / 64 < columns * w = omega (arith, low_within w c columns within) in
    ap (λ (l : List ℕ). is_set (get_or l (c * w + r / 64) 0) (r % 64)) is
    ∙ ap (λ (n : ℕ). is_set n (r % 64)) (get_or-replicate (columns * w) (c * w + r / 64) 0 0 place)
    ∙ is_set-zero (r % 64) ∙ sym (get_or-replicate columns c false false within))

-- the words of a slice that is a column
pub column_in_slice : (w : ℕ) (xs : List ℕ) (c start : ℕ) → start ≡ c * w → take (start + w - start) (drop start xs) ≡ column_in w xs c
unfolding column_in
column_in_slice w xs c start e =
    let n : start + w - start ≡ w = omega arith in
    rw n (ap (λ (k : ℕ). take w (drop k xs)) e)

-- a column was written
pub lane_at-put : (w k : ℕ) (buffer new : List ℕ) (start : ℕ) → start ≡ k * w → k * w + w ≤ length buffer → length new ≡ w →
    (c r : ℕ) → r < 64 * w → lane_at w (take start buffer ++ (new ++ drop w (drop start buffer))) c r ≡ cond (eqb c k) (lane new r) (lane_at w buffer c r)
unfolding lane lane_at
lane_at-put w k buffer new start e within long c r small = by_cases (cases_eq c k)
  where
    i : ℕ
    i = r / 64

    front : List ℕ
    front = take start buffer

    back : List ℕ
    back = drop w (drop start buffer)

    front_len : length front ≡ k * w
    front_len = length-take-le start buffer (omega arith) ∙ e

    word : (c : ℕ) → ℕ
    word c = get_or (front ++ (new ++ back)) (c * w + i) 0

    by_cases : (c ≡ k) ⊎ (c ≢ k) → is_set (get_or (take start buffer ++ (new ++ drop w (drop start buffer))) (c * w + r / 64) 0) (r % 64)
        ≡ cond (eqb c k) (is_set (get_or new (r / 64) 0) (r % 64)) (is_set (get_or buffer (c * w + r / 64) 0) (r % 64))
    by_cases (inl same) =
        rw (eq-eqb c k same)
        (ap (λ (n : ℕ). is_set n (r % 64))
        (ap (λ (n : ℕ). get_or (front ++ (new ++ back)) n 0) (ap (λ (n : ℕ). n * w + i) same ∙ ap (λ (n : ℕ). n + i) (sym front_len))
        ∙ get_or-append-add front (new ++ back) i 0
        ∙ get_or_append_left new back 0 i (omega arith)))
    by_cases (inr apart) =
        rw (ne_eqb c k apart)
        (ap (λ (n : ℕ). is_set n (r % 64))
        (elim (cases_lt c k) [
          | inl below ↦
              let low : c * w + i < k * w = omega (arith, low_within w c k below) in
              get_or_append_left front (new ++ back) 0 (c * w + i) (omega (arith, front_len)) ∙ get_or-take start buffer (c * w + i) 0 (omega arith)
          | inr above ↦
              let high : k * w + w ≤ c * w = low_within w k c (omega arith) in
              let j : ℕ = c * w + i - (k * w + w) in
              let place : c * w + i ≡ length front + (length new + j) = omega (arith, front_len) in
              ap (λ (n : ℕ). get_or (front ++ (new ++ back)) n 0) place
              ∙ get_or-append-add front (new ++ back) (length new + j) 0
              ∙ get_or-append-add new back j 0
              ∙ get_or-drop w (drop start buffer) j 0
              ∙ get_or-drop start buffer (w + j) 0
              ∙ ap (λ (n : ℕ). get_or buffer n 0) (omega arith)
        ]))

-- the rows after a column was written
pub put_rows : (view t : TileView) (old new items : List ℕ) (k : ℕ) (column : List ℕ) → view ≡ t → items ≡ new → old ≡ view.buffer → k < t.columns →
    ((c r : ℕ) → r < 64 * view.words → lane_at view.words new c r ≡ cond (eqb c k) (lane column r) (lane_at view.words old c r)) →
    (r : ℕ) → IsLane t r → vector_of (record view { buffer = items }) r ≡ set (vector_of t r) k (lane column r)
put_rows view t old new items k column is items_are old_is small lanes =
    let P : TileView → Type 0 = λ t. k < t.columns → (r : ℕ) → IsLane t r → vector_of (record view { buffer = items }) r ≡ set (vector_of t r) k (lane column r) in
    subst P is (λ small r row.
    let m : List Bool = vector_of view r in
    let x : Bool = lane column r in
    row_from_lanes (record view { buffer = items }) r (set m k x) row (length-set m k x ∙ length-vector_of view r)
    (λ c within.
    ap (λ (l : List ℕ). lane_at view.words l c r) items_are ∙ lanes c r row
    ∙ ap (λ (l : List ℕ). cond (eqb c k) x (lane_at view.words l c r)) old_is
    ∙ elim (cases_eq c k) as (λ _. cond (eqb c k) x (lane_at view.words view.buffer c r) ≡ get_or (set m k x) c false) [
      | inl same ↦
          rw (eq-eqb c k same) (sym (ap (λ (n : ℕ). get_or (set m k x) n false) same ∙ get_or-set_same m k x false (omega (arith, length-vector_of view r))))
      | inr apart ↦
          rw (ne_eqb c k apart) (sym (get_or-set_other m k c x false apart ∙ get_or-vector_of view r c row within))
    ])) small

-- a lane of a column is the bit of its row
pub column_lanes : (t : TileView) (r c : ℕ) → IsLane t r → c < t.columns → lane (column_of t c) r ≡ get_or (vector_of t r) c false
column_lanes t r c row small = lane-column t.words t.buffer c r row ∙ sym (get_or-vector_of t r c row small)

-- a tile of these parts
abbrev pub record_of : ℕ → ℕ → List ℕ → TileView
record_of columns words buffer = record { columns = columns; words = words; buffer = buffer }

-- words that were written from a place on, and the rest of the list behind them
pub words_written : (columns words n start : ℕ) (items new : List ℕ) → n ≡ length items → start ≤ length items →
    let x : List ℕ = take start items ++ (new ++ drop (length new) (drop start items)) in
    record_of columns words (take n (x ++ drop (length x) items)) ≡ record_of columns words (with_words items start new)
unfolding with_words
words_written columns words n start items new e within =
    let x : List ℕ = take start items ++ (new ++ drop (length new) (drop start items)) in
    let long : length items ≤ length x =
    omega (
      arith,
      within,
      length-append (take start items) (new ++ drop (length new) (drop start items)),
      length-take-le start items within,
      length-append new (drop (length new) (drop start items)),
      length-drop {A = ℕ} (length new) (drop start items),
      length-drop start items,
    ) in
    ap (record_of columns words)
    (ap (λ (k : ℕ). take k (x ++ drop (length x) items)) e ∙ take-append-le (length items) x (drop (length x) items) long)

-- the words of a column are as many as a column has
pub length-column_of : (t : TileView) (k : ℕ) → IsTile t → k < t.columns → length (column_of t k) ≡ t.words
unfolding column_in
length-column_of t k tile small =
    length-take-le t.words (drop (k * t.words) t.buffer)
    (omega (arith, length-drop (k * t.words) t.buffer, tile.whole, low_within t.words k t.columns small))

pub column_start : (t : TileView) (k : ℕ) → IsTile t → k < t.columns → k * t.words ≤ length t.buffer
column_start t k tile small = omega (arith, tile.whole, low_within t.words k t.columns small)

-- the rows with other words in a column
pub with_column_rows : (t : TileView) (k : ℕ) (column : List ℕ) → IsTile t → k < t.columns → length column ≡ t.words →
    (r : ℕ) → IsLane t r → vector_of (with_column t k column) r ≡ set (vector_of t r) k (lane column r)
unfolding with_words
with_column_rows t k column tile small long =
    let w : ℕ = t.words in
    let start : ℕ = k * w in
    let within : start + w ≤ length t.buffer = omega (arith, tile.whole, low_within w k t.columns small) in
    let new : List ℕ = take start t.buffer ++ (column ++ drop w (drop start t.buffer)) in
    let count : length new ≡ length t.buffer =
    omega (
      arith,
      within,
      long,
      length-append (take start t.buffer) (column ++ drop w (drop start t.buffer)),
      length-take-le start t.buffer (omega arith),
      length-append column (drop w (drop start t.buffer)),
      length-drop {A = ℕ} w (drop start t.buffer),
      length-drop start t.buffer,
    ) in
    let same : with_words t.buffer start column ≡ new =
    ap (λ (n : ℕ). take (length t.buffer) (take start t.buffer ++ (column ++ drop n (drop start t.buffer)))) long
    ∙ take_all (length t.buffer) new (omega arith) in
    put_rows t t t.buffer new (with_words t.buffer start column) k column refl same refl small
    (lane_at-put w k t.buffer column start refl within long)

-- ---- 64 rows that stand in the same word of each column
-- the rows after words were written
pub put_block_rows : (view t : TileView) (stage : StageView) (old new items bytes : List ℕ) (columns at : ℕ) → view ≡ t → items ≡ new → old ≡ view.buffer →
    bytes ≡ stage.bytes → columns ≡ view.columns → stage.columns ≡ t.columns →
    ((c r : ℕ) → c < columns → r < 64 → is_set (get_or new (c * view.words + at) 0) r ≡ staged_at columns bytes c r) →
    ((c v : ℕ) → v < view.words → v ≢ at → get_or new (c * view.words + v) 0 ≡ get_or old (c * view.words + v) 0) →
    (r : ℕ) → IsLane t r → vector_of (record view { buffer = items }) r ≡ cond (eqb (r / 64) at) (staged stage (r % 64)) (vector_of t r)
unfolding lane_at
put_block_rows view t stage old new items bytes columns at is items_are old_is bytes_are count same_count written others r row =
    let after : TileView = record view { buffer = items } in
    let same_words : view.words ≡ t.words = ap (λ (x : TileView). x.words) is in
    let same_columns : view.columns ≡ t.columns = ap (λ (x : TileView). x.columns) is in
    let stage_columns : columns ≡ stage.columns = count ∙ same_columns ∙ sym same_count in
    let place : r / 64 < view.words = omega (arith, same_words) in
    elim (cases_eq (r / 64) at) [
      | inl same ↦
          rw (eq-eqb (r / 64) at same)
          (row_from_lanes after r (staged stage (r % 64)) (omega (arith, same_words)) (length-staged stage (r % 64) ∙ same_count ∙ sym same_columns)
          (λ c small.
          ap (λ (l : List ℕ). is_set (get_or l (c * view.words + r / 64) 0) (r % 64)) items_are
          ∙ ap (λ (n : ℕ). is_set (get_or new (c * view.words + n) 0) (r % 64)) same
          ∙ written c (r % 64) (omega (arith, count)) (omega arith)
          ∙ ap (λ (l : List ℕ). staged_at columns l c (r % 64)) bytes_are
          ∙ ap (λ (n : ℕ). staged_at n stage.bytes c (r % 64)) stage_columns
          ∙ sym (get_or-staged stage (r % 64) c (omega (arith, stage_columns, count)))))
      | inr apart ↦
          rw (ne_eqb (r / 64) at apart)
          (row_from_lanes after r (vector_of t r) (omega (arith, same_words)) (length-vector_of t r ∙ sym same_columns)
          (λ c small.
          ap (λ (l : List ℕ). is_set (get_or l (c * view.words + r / 64) 0) (r % 64)) items_are
          ∙ ap (λ (n : ℕ). is_set n (r % 64)) (others c (r / 64) place apart)
          ∙ ap (λ (l : List ℕ). lane_at view.words l c r) old_is
          ∙ ap (λ (x : TileView). lane_at x.words x.buffer c r) is
          ∙ sym (get_or-vector_of t r c row (omega (arith, same_columns)))))
    ]

-- the lanes of a stage after the words at one place were taken
pub taken_lanes : (view t : TileView) (buffer new : List ℕ) (columns at : ℕ) → view ≡ t → buffer ≡ view.buffer → columns ≡ t.columns → at < t.words →
    ((c r : ℕ) → c < columns → r < 64 → staged_at columns new c r ≡ is_set (get_or buffer (c * view.words + at) 0) r) →
    (c r : ℕ) → c < columns → r < 64 → staged_at columns new c r ≡ get_or (vector_of t (64 * at + r)) c false
unfolding lane_at
taken_lanes view t buffer new columns at is buffer_is count within taken c r c_small small =
    let word : (64 * at + r) / 64 ≡ at = omega arith in
    let place : (64 * at + r) % 64 ≡ r = omega arith in
    taken c r c_small small
    ∙ ap (λ (l : List ℕ). is_set (get_or l (c * view.words + at) 0) r) buffer_is
    ∙ ap (λ (x : TileView). is_set (get_or x.buffer (c * x.words + at) 0) r) is
    ∙ ap (λ (n : ℕ). is_set (get_or t.buffer (c * t.words + n) 0) r) (sym word)
    ∙ ap (λ (n : ℕ). is_set (get_or t.buffer (c * t.words + (64 * at + r) / 64) 0) n) (sym place)
    ∙ sym (get_or-vector_of t (64 * at + r) c (omega arith) (omega (arith, count)))

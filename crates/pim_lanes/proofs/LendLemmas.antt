-- A bank of which a cell's column was written through what it lent.
use Rattle.std.proofs.Common.{◌≡◌, ℕ, ◌+◌, ◌-◌, ◌*◌, ◌<◌, ◌≤◌, List, ◌++◌, length, set, take, drop, refl, sym, ap, subst, ◌∙◌, arith}
use Rattle.std.proofs.lemmas.List.{length-append, length-drop, length-take-le, drop-append-le, take-append-le, take-append-drop, drop-take, drop-drop, take_all}
use borrow.Rule.Slice.PartMut.{put_mid}
use Rattle.pim_io.specs.Lanes.{lane, column_in, with_words}
use Rattle.pim_lanes.specs.inner.Columns.{Stored}
use Rattle.pim_lanes.specs.Banks.{BankView, with_column, row_of, IsRow, IsBuffer}
use Rattle.pim_lanes.proofs.ColumnLemmas.{low_within, column_in-low, column_before, length-column_in, put_target, put_others}
use Rattle.pim_lanes.proofs.BankLemmas.{row_stored}

-- the words from a place on, and the rest of the list behind them
abbrev wrote : List ℕ → ℕ → List ℕ → List ℕ
wrote items start new = take start items ++ (new ++ drop (length new) (drop start items))

wrote_long : (start : ℕ) (items new : List ℕ) → start ≤ length items → length items ≤ length (wrote items start new)
wrote_long start items new within =
    omega (
      arith,
      within,
      length-append (take start items) (new ++ drop (length new) (drop start items)),
      length-take-le start items within,
      length-append new (drop (length new) (drop start items)),
      length-drop {A = ℕ} (length new) (drop start items),
      length-drop start items,
    )

pub words_written : (n start : ℕ) (items new : List ℕ) → n ≡ length items → start ≤ length items →
    let x : List ℕ = take start items ++ (new ++ drop (length new) (drop start items)) in
    take n (x ++ drop (length x) items) ≡ with_words items start new
unfolding with_words
words_written n start items new e within =
    let x : List ℕ = take start items ++ (new ++ drop (length new) (drop start items)) in
    ap (λ (k : ℕ). take k (x ++ drop (length x) items)) e ∙ take-append-le (length items) x (drop (length x) items) (wrote_long start items new within)

-- the list stays as long
length-with_words : (start : ℕ) (items new : List ℕ) → start ≤ length items → length (with_words items start new) ≡ length items
unfolding with_words
length-with_words start items new within = length-take-le (length items) (wrote items start new) (wrote_long start items new within)

-- a column before them stays
column_kept : (w c start : ℕ) (items new : List ℕ) → c * w + w ≤ start → start ≤ length items →
    column_in w (with_words items start new) c ≡ column_in w items c
unfolding with_words
column_kept w c start items new low within =
    let x : List ℕ = wrote items start new in
    let n : ℕ = length items in
    sym (column_in-low w (take n x) (drop n x) c (omega (arith, within, low, length-take-le n x (wrote_long start items new within))))
    ∙ ap (λ (l : List ℕ). column_in w l c) (take-append-drop n x)
    ∙ column_before w c start items (new ++ drop (length new) (drop start items)) low within

cell_start : (cells words c : ℕ) (items : List ℕ) → IsBuffer cells words items → c < cells → (c + 2) * words + words ≤ length items
cell_start cells words c items whole small = omega (arith, whole.whole, low_within words (c + 2) (cells + 2) (omega arith))

-- whatever is written, the list keeps its length and its constant columns
pub buffer_lent : (cells words c : ℕ) (items new : List ℕ) → IsBuffer cells words items → c < cells →
    IsBuffer cells words (with_words items ((c + 2) * words) new)
buffer_lent cells words c items new whole small =
    let start : ℕ = (c + 2) * words in
    let within : start ≤ length items = omega (arith, cell_start cells words c items whole small) in
    let front : 2 * words ≤ start = omega (arith, low_within words 1 (c + 2) (omega arith)) in
    record {
      small = whole.small;
      short = whole.short;
      whole = length-with_words start items new within ∙ whole.whole;
      zeros = column_kept words 0 start items new (omega arith) within ∙ whole.zeros;
      ones = column_kept words 1 start items new (omega arith) within ∙ whole.ones;
    }

-- words written in a list are written in its last part
drop-with_words : (m s : ℕ) (items new : List ℕ) → m + s ≤ length items → drop m (with_words items (m + s) new) ≡ with_words (drop m items) s new
unfolding with_words
drop-with_words m s items new within =
    let n : ℕ = length items in
    let k : ℕ = n - m in
    let split : n ≡ m + k = omega arith in
    let rest : List ℕ = new ++ drop (length new) (drop (m + s) items) in
    ap (λ (i : ℕ). drop m (take i (take (m + s) items ++ rest))) split
    ∙ drop-take m k (take (m + s) items ++ rest)
    ∙ ap (take k) (drop-append-le m (take (m + s) items) rest (omega (arith, within, length-take-le (m + s) items within)))
    ∙ ap (λ (l : List ℕ). take k (l ++ rest)) (drop-take m s items)
    ∙ ap (λ (l : List ℕ). take k (take s (drop m items) ++ (new ++ drop (length new) l))) (sym (drop-drop s m items))
    ∙ ap (λ (i : ℕ). take i (take s (drop m items) ++ (new ++ drop (length new) (drop s (drop m items))))) (sym (length-drop m items))

pub cells_written : (words c : ℕ) (items new : List ℕ) → (c + 2) * words ≤ length items →
    drop (2 * words) (with_words items ((c + 2) * words) new) ≡ with_words (drop (2 * words) items) (c * words) new
cells_written words c items new within =
    let e : (c + 2) * words ≡ 2 * words + c * words = omega arith in
    ap (λ (i : ℕ). drop (2 * words) (with_words items i new)) e
    ∙ drop-with_words (2 * words) (c * words) items new (omega arith)

-- a bank's parts, once more
abbrev pub bank_of : ℕ → ℕ → List ℕ → BankView
bank_of cells words buffer = record { cells = cells; words = words; buffer = buffer }

pub lent_view : (cells words n c : ℕ) (items new : List ℕ) → n ≡ length items → IsBuffer cells words items → c < cells →
    let start : ℕ = (c + 2) * words in
    let x : List ℕ = take start items ++ (new ++ drop (length new) (drop start items)) in
    bank_of cells words (drop (2 * words) (take n (x ++ drop (length x) items))) ≡ with_column (bank_of cells words (drop (2 * words) items)) c new
lent_view cells words n c items new e whole small =
    let within : (c + 2) * words ≤ length items = omega (arith, cell_start cells words c items whole small) in
    ap (λ (l : List ℕ). bank_of cells words (drop (2 * words) l)) (words_written n ((c + 2) * words) items new e within)
    ∙ ap (bank_of cells words) (cells_written words c items new within)

pub lent_invariant : (cells words n c : ℕ) (items new : List ℕ) → n ≡ length items → IsBuffer cells words items → c < cells →
    let start : ℕ = (c + 2) * words in
    let x : List ℕ = take start items ++ (new ++ drop (length new) (drop start items)) in
    IsBuffer cells words (take n (x ++ drop (length x) items))
lent_invariant cells words n c items new e whole small =
    let within : (c + 2) * words ≤ length items = omega (arith, cell_start cells words c items whole small) in
    let P : List ℕ → Type 0 = λ (l : List ℕ). IsBuffer cells words l in
    subst P (sym (words_written n ((c + 2) * words) items new e within)) (buffer_lent cells words c items new whole small)

-- the words of a cell's column are as many as a column has
pub length-cell_column : (cells words c : ℕ) (items : List ℕ) → IsBuffer cells words items → c < cells → length (column_in words items (c + 2)) ≡ words
length-cell_column cells words c items whole small = length-column_in words items (c + 2) (cell_start cells words c items whole small)

-- the rows with other words in a cell's column
stored_words : (words c : ℕ) (buffer column : List ℕ) → c * words + words ≤ length buffer → length column ≡ words →
    Stored words c (lane column) buffer (with_words buffer (c * words) column)
unfolding with_words
stored_words words c buffer column within long =
    let start : ℕ = c * words in
    let new : List ℕ = put_mid start (start + words - start) buffer column in
    let n : start + words - start ≡ length column = omega (arith, long) in
    let count : length (wrote buffer start column) ≡ length buffer =
    omega (
      arith,
      within,
      long,
      length-append (take start buffer) (column ++ drop (length column) (drop start buffer)),
      length-take-le start buffer (omega arith),
      length-append column (drop (length column) (drop start buffer)),
      length-drop {A = ℕ} (length column) (drop start buffer),
      length-drop start buffer,
    ) in
    let same : with_words buffer start column ≡ new =
    take_all (length buffer) (wrote buffer start column) (omega (arith, count)) ∙ sym (ap (λ (i : ℕ). take start buffer ++ (column ++ drop i (drop start buffer))) n) in
    record {
      same = length-with_words start buffer column (omega arith);
      target = λ r row. ap (λ (l : List ℕ). lane (column_in words l c) r) same ∙ ap (λ (ws : List ℕ). lane ws r) (put_target words c start buffer column refl within long);
      others = λ k apart. ap (λ (l : List ℕ). column_in words l k) same ∙ put_others words c start buffer column refl within long k apart;
    }

pub with_column_rows : (view b : BankView) (items : List ℕ) (c : ℕ) (column : List ℕ) → view ≡ b → view.buffer ≡ drop (2 * view.words) items →
    IsBuffer view.cells view.words items → c < b.cells → length column ≡ b.words →
    (r : ℕ) → IsRow b r → row_of (with_column b c column) r ≡ set (row_of b r) c (lane column r)
with_column_rows view b items c column is buffer_is whole =
    let P : BankView → Type 0 = λ b. c < b.cells → length column ≡ b.words →
    (r : ℕ) → IsRow b r → row_of (with_column b c column) r ≡ set (row_of b r) c (lane column r) in
    subst P is (λ small long.
    let within : c * view.words + view.words ≤ length view.buffer =
    omega (arith, ap (λ (l : List ℕ). length l) buffer_is, length-drop (2 * view.words) items, whole.whole, low_within view.words c view.cells small) in
    row_stored view c (lane column) (with_words view.buffer (c * view.words) column) small (stored_words view.words c view.buffer column within long))

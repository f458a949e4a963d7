-- Rows one after another, and how many of them are answered wrongly.
use Rattle.std.proofs.Common.{◌≡◌, ◌∙◌, ◌+◌, ℕ, zero, suc, Bool, true, false, not, List, [], ◌∷◌, cond, refl, sym, ap, ap₂, arith, count_by}
use Rattle.std.specs.Prelude.{if◌then◌else◌}
use Rattle.std.specs.Str.{bytes_eq}
use Rattle.std.proofs.lemmas.List.Sums.{sum_by-cons}
use Rattle.pim_adder.specs.Drawn.{RowsView, after, row_line, row_sum}
use Rattle.pim_io.specs.Bits.{bits_of, line_of}
use Rattle.pim_isa.specs.Programs.{ProgramView}
use Rattle.pim_isa.specs.Results.{result_of}
use Rattle.pim_isa.specs.declared.target.Fill.TheVariants.{Zeros}
use Rattle.pim_bench.specs.Trials.{first_row, is_wrong, rows_from, wrong_of}
use Rattle.pim_bench.specs.inner.Executed.{later}

-- ---- later rows

pub later-none : (row : RowsView) → later 0 row ≡ row
unfolding later
later-none row = refl

pub later-more : (k : ℕ) (row : RowsView) → later (k + 1) row ≡ after (later k row)
unfolding later
later-more k row =
    let one : k + 1 ≡ suc k = omega arith in
    ap (λ n. later n row) one ∙ step k row
  where
    step : (k : ℕ) (row : RowsView) → later (suc k) row ≡ after (later k row)
    step k row = refl

later-front : (k : ℕ) (row : RowsView) → later (k + 1) row ≡ later k (after row)
later-front zero row = later-more 0 row ∙ ap after (later-none row) ∙ sym (later-none (after row))
later-front (suc k) row =
    let one : suc k ≡ k + 1 = omega arith in
    later-more (suc k) row ∙ ap after (ap (λ n. later n row) one ∙ later-front k row) ∙ sym (later-more k (after row)) ∙ ap (λ n. later n (after row)) (sym one)

pub later-bits : (k : ℕ) (row : RowsView) → (later k row).bits ≡ row.bits
later-bits zero row = ap (λ (r : RowsView). r.bits) (later-none row)
later-bits (suc k) row =
    let one : suc k ≡ k + 1 = omega arith in
    ap (λ (n : ℕ). (later n row).bits) one ∙ ap (λ (r : RowsView). r.bits) (later-more k row) ∙ later-bits k row

-- ---- lists of rows

rows-none : (row : RowsView) → rows_from 0 row ≡ []
unfolding rows_from
rows-none row = refl

rows-more : (k : ℕ) (row : RowsView) → rows_from (k + 1) row ≡ row ∷ rows_from k (after row)
unfolding rows_from
rows-more k row =
    let one : k + 1 ≡ suc k = omega arith in
    ap (λ n. rows_from n row) one ∙ step k row
  where
    step : (k : ℕ) (row : RowsView) → rows_from (suc k) row ≡ row ∷ rows_from k (after row)
    step k row = refl

module _ (p : ProgramView) where
  pub wrong_in : ℕ → RowsView → ℕ
  wrong_in count row = count_by (is_wrong p) (rows_from count row)

  pub none_wrong : (count : ℕ) (row : RowsView) → count ≡ 0 → wrong_in count row ≡ 0
  unfolding wrong_in
  none_wrong count row none = ap (λ n. wrong_in n row) none ∙ ap (count_by (is_wrong p)) (rows-none row)

  more_wrong : (count : ℕ) (row : RowsView) → wrong_in (count + 1) row ≡ cond (is_wrong p row) 1 0 + wrong_in count (after row)
  unfolding wrong_in
  more_wrong count row = ap (count_by (is_wrong p)) (rows-more count row) ∙ sum_by-cons (λ r. cond (is_wrong p r) 1 0) row (rows_from count (after row))

  -- the wrong ones of some rows and of those behind them
  pub together_wrong : (first rest : ℕ) (row : RowsView) → wrong_in (first + rest) row ≡ wrong_in first row + wrong_in rest (later first row)
  together_wrong zero rest row =
      let nothing : 0 + rest ≡ rest = omega arith in
      let none = none_wrong 0 row refl in
      let here : wrong_in rest (later 0 row) ≡ wrong_in rest row = ap (wrong_in rest) (later-none row) in
      let same : wrong_in (0 + rest) row ≡ wrong_in rest row = ap (λ n. wrong_in n row) nothing in
      omega (arith, none, here, same)
  together_wrong (suc first) rest row =
      let one : suc first ≡ first + 1 = omega arith in
      let moved : suc first + rest ≡ (first + rest) + 1 = omega arith in
      let whole : wrong_in (suc first + rest) row ≡ wrong_in ((first + rest) + 1) row = ap (λ n. wrong_in n row) moved in
      let front : wrong_in (suc first) row ≡ wrong_in (first + 1) row = ap (λ n. wrong_in n row) one in
      let behind : wrong_in rest (later (suc first) row) ≡ wrong_in rest (later first (after row)) =
      ap (wrong_in rest) (ap (λ n. later n row) one ∙ later-front first row) in
      omega (arith, whole, front, behind, more_wrong (first + rest) row, more_wrong first row, together_wrong first rest (after row))

  -- one more row is compared
  pub compared : (answer sum : List ℕ) (row next : RowsView) (marked wrong left whole : ℕ) → answer ≡ line_of (result_of p Zeros (bits_of (row_line row))) → sum ≡ row_sum row
      → next ≡ after row → marked ≡ (if bytes_eq answer sum then 0 else 1) → wrong + wrong_in (left + 1) row ≡ whole → (wrong + marked) + wrong_in left next ≡ whole
  compared answer sum row next marked wrong left whole is_answer is_sum is_next is_marked so_far =
      let one : marked ≡ cond (is_wrong p row) 1 0 = is_marked ∙ ap₂ (λ a s. if bytes_eq a s then 0 else 1) is_answer is_sum
      ∙ turned (bytes_eq (line_of (result_of p Zeros (bits_of (row_line row)))) (row_sum row)) in
      let rest : wrong_in left next ≡ wrong_in left (after row) = ap (wrong_in left) is_next in
      omega (arith, one, rest, more_wrong left row, so_far)
    where
      turned : (b : Bool) → cond {A = ℕ} b 0 1 ≡ cond {A = ℕ} (not b) 1 0
      turned true = refl
      turned false = refl

-- all rows
pub all_wrong : (p : ProgramView) (bits : ℕ) → 0 + wrong_in p 262144 (first_row bits) ≡ wrong_of p bits
unfolding wrong_in
all_wrong p bits =
    let same : wrong_in p 262144 (first_row bits) ≡ wrong_of p bits = refl in
    omega (arith, same)

-- the wrong ones of some rows, told of a program that is the same
pub wrong_is : (p q : ProgramView) (count : ℕ) (row : RowsView) (told : ℕ) → told ≡ count_by (is_wrong q) (rows_from count row) → q ≡ p → told ≡ wrong_in p count row
unfolding wrong_in
wrong_is p q count row told is same = is ∙ ap (λ (x : ProgramView). count_by (is_wrong x) (rows_from count row)) same

pub told_wrong : (p : ProgramView) (count : ℕ) (row : RowsView) → wrong_in p count row ≡ count_by (is_wrong p) (rows_from count row)
unfolding wrong_in
told_wrong p count row = refl

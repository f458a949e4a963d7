-- Two columns that are read beside one that is lent for writing.
use Rattle.std.proofs.Common.{◌≡◌, ℕ, ◌+◌, ◌-◌, ◌*◌, ◌<◌, ◌≤◌, inl, inr, List, ◌++◌, length, take, drop, sym, ap, subst, ◌∙◌, arith}
use Rattle.std.proofs.lemmas.Bool.{cases_lt}
use Rattle.std.proofs.lemmas.List.{length-drop, length-take-le, drop-drop, take-append-drop}
use Rattle.pim_io.specs.Lanes.{column_in}
use Rattle.pim_lanes.specs.Banks.{BankView, column_of, IsBuffer}
use Rattle.pim_lanes.proofs.ColumnLemmas.{low_within}
use Rattle.pim_lanes.proofs.BankLemmas.{cell_column, constant_column}

-- the column at the place of column c
pub placed_column : (view b : BankView) (items : List ℕ) (c place : ℕ) → view ≡ b → view.buffer ≡ drop (2 * view.words) items →
    IsBuffer view.cells view.words items → c < b.cells + 2 → (c < view.cells → place ≡ c + 2) → (view.cells ≤ c → place ≡ c - view.cells) →
    column_in view.words items place ≡ column_of b c
placed_column view b items c place is buffer_is whole within cell constant =
    let cells : view.cells ≡ b.cells = ap (λ (v : BankView). v.cells) is in
    elim (cases_lt c b.cells) [
      | inl small ↦
          ap (column_in view.words items) (cell (subst (λ (n : ℕ). c < n) (sym cells) small))
          ∙ cell_column view b items c is buffer_is small
      | inr high ↦
          ap (column_in view.words items) (constant (subst (λ (n : ℕ). n ≤ c) (sym cells) high) ∙ ap (λ (n : ℕ). c - n) cells)
          ∙ constant_column view b items c is whole high within
    ]

-- a place below that of the last column
pub place_below : (cells c place : ℕ) → c < cells + 2 → (c < cells → place ≡ c + 2) → (cells ≤ c → place ≡ c - cells) → place < cells + 2
place_below cells c place within cell constant =
    elim (cases_lt c cells) [
      | inl small ↦ let e : place ≡ c + 2 = cell small in omega arith
      | inr high ↦ let e : place ≡ c - cells = constant high in omega arith
    ]

-- the three parts of a list make it again
pub in_parts : (start w : ℕ) (items below part above : List ℕ) → below ≡ take start items → part ≡ take (start + w - start) (drop start items) →
    above ≡ drop (start + w) items → below ++ (part ++ above) ≡ items
in_parts start w items below part above low middle high =
    let n : start + w - start ≡ w = omega arith in
    ap (λ (l : List ℕ). l ++ (part ++ above)) low
    ∙ ap (λ (l : List ℕ). take start items ++ (l ++ above)) (middle ∙ ap (λ (k : ℕ). take k (drop start items)) n)
    ∙ ap (λ (l : List ℕ). take start items ++ (take w (drop start items) ++ l)) (high ∙ sym (drop-drop w start items))
    ∙ ap (λ (l : List ℕ). take start items ++ l) (take-append-drop w (drop start items))
    ∙ take-append-drop start items

-- a column beside one that is taken out begins among the rest
pub place_beside : (cells words t place : ℕ) (items below above : List ℕ) → IsBuffer cells words items → t < cells → place < cells + 2 →
    below ≡ take ((t + 2) * words) items → above ≡ drop ((t + 2) * words + words) items → place * words ≤ length below + length above
place_beside cells words t place items below above whole small inside low high =
    omega (
      arith,
      whole.whole,
      low_within words place (cells + 2) inside,
      low_within words (t + 2) (cells + 2) (omega arith),
      ap length low ∙ length-take-le ((t + 2) * words) items (omega (arith, whole.whole, low_within words (t + 2) (cells + 2) (omega arith))),
      ap length high ∙ length-drop ((t + 2) * words + words) items,
    )

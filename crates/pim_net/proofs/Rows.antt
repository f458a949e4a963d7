-- Rows that are cut from one list of cells.
use Rattle.std.proofs.Common.{◌≡◌, ℕ, zero, suc, ◌+◌, ◌*◌, ◌<◌, ◌≤◌, List, [], ◌∷◌, ◌++◌, Some, length, take, drop, refl, ap, ◌∙◌, arith, length-drop}
use Rattle.std.specs.Prelude.{slice_get}
use Rattle.std.proofs.lemmas.List.{take-append-le, drop-append-le, take_all, drop-drop}
use Rattle.std.proofs.Math.Nat.{mul-le-mul_left}
use Rattle.pim_net.specs.declared.cover.Bit3.{Bit3}
use Rattle.pim_net.specs.Covers.{rows_of}

pub length-rows_of : (width count : ℕ) (cells : List Bit3) → length (rows_of width count cells) ≡ count
length-rows_of width zero cells = refl
length-rows_of width (suc count) cells = ap suc (length-rows_of width count (drop width cells))

-- one more row after whole ones
pub rows_of-push : (width count : ℕ) (cells row : List Bit3) → length cells ≡ count * width → length row ≡ width → rows_of width (suc count) (cells ++ row) ≡ rows_of width count cells ++ row ∷ []
rows_of-push width zero [] row filled whole = rw (take_all width row (omega arith)) refl
rows_of-push width zero (c ∷ cells) row filled whole = absurd (omega arith)
rows_of-push width (suc count) cells row filled whole =
    let fits : width ≤ length cells = omega arith in
    let rest = rows_of-push width count (drop width cells) row (omega (arith, length-drop width cells)) whole in
    rw (take-append-le, drop-append-le) (ap (λ r. take width cells ∷ r) rest)

-- the row at a place
pub rows_of-at : (width count : ℕ) (cells : List Bit3) (k : ℕ) → k < count → slice_get (rows_of width count cells) k ≡ Some (take width (drop (k * width) cells))
rows_of-at width zero cells k within = absurd (omega arith)
rows_of-at width (suc count) cells zero within =
    let none : 0 * width ≡ 0 = omega arith in
    rw none refl
rows_of-at width (suc count) cells (suc k) within =
    let rest = rows_of-at width count (drop width cells) k (omega arith) in
    let e : width + k * width ≡ suc k * width = omega arith in
    rest ∙ ap (λ ds. Some (take width ds)) (drop-drop (k * width) width cells ∙ ap (λ n. drop n cells) e)

-- a row in range ends within the cells
pub row_fits : (k count width : ℕ) → k < count → k * width + width ≤ count * width
row_fits k count width within = omega (arith, mul-le-mul_left width (let h : suc k ≤ count = omega arith in h))

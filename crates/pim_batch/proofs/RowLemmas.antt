-- Rows of a bank and of a tile, and the lines of rows.
use borrow.Rule.Slice.PartMut.{put_mid}
use Rattle.std.proofs.Common.{◌≡◌, ℕ, zero, suc, ◌+◌, ◌-◌, ◌*◌, ◌<◌, ◌≤◌, Bool, false, List, [], ◌∷◌, ◌++◌, length, length-append, length-take-le, length-drop, take, drop, set, get_or, map, refl, sym, ap, subst, ◌∙◌, arith, below_more, get_or-set_same, get_or-set_other}
use Rattle.std.specs.Prelude.{All}
use Rattle.std.specs.List.{flat_map, range_with_len}
use Rattle.std.proofs.Math.Nat.{suc-mul}
use Rattle.std.proofs.lemmas.Slice.{take-put_mid}
use Rattle.std.proofs.lemmas.Grind.{flat_map-append}
use Rattle.std.proofs.lemmas.List.{append-nil, length-map, ext_get_or, get_or-map}
use Rattle.std.proofs.lemmas.List.FromFn.{length-map-range_with_len}
use Rattle.pim_io.specs.Lanes.{lane}
use Rattle.pim_isa.specs.declared.port.Port.{Port}
use Rattle.pim_isa.specs.Steps.{bit}
use Rattle.pim_isa.specs.Results.{with_inputs}
use Rattle.pim_isa.specs.Sound.{cells_of}
use Rattle.pim_lanes.specs.Banks.{BankView, row_of, SameFrame}
use Rattle.pim_vectors.specs.Tiles.{TileView, column_of as tile_column, vector_of}
use Rattle.pim_batch.specs.inner.TileLines.{row_line, row_lines_from}

-- ---- rows
pub length-vector_of : (t : TileView) (r : ℕ) → length (vector_of t r) ≡ t.columns
unfolding vector_of
length-vector_of t r = length-map-range_with_len (λ (c : ℕ). lane (tile_column t c) r) 0 t.columns

-- what stays in two steps
pub frame_then : (a b c : BankView) → SameFrame a b → SameFrame b c → SameFrame a c
frame_then a b c first second = record {
  cells = second.cells ∙ first.cells;
  words = second.words ∙ first.words;
}

-- ---- ports
get_or-cells_of : (ports : List Port) (k : ℕ) (p : Port) → k < length ports → p ≡ get_or ports k p → get_or (cells_of ports) k 0 ≡ p.cell
get_or-cells_of ports k p small is =
    get_or-map (λ (q : Port). q.cell) ports k p 0 small ∙ ap (λ (q : Port). q.cell) (sym is)

-- the cell of a port lies where the cells of all ports do
pub port_within : (ports all : List Port) (cells k : ℕ) (p : Port) → ports ≡ all → All (λ c. c < cells) (cells_of all) →
    k < length ports → p ≡ get_or ports k p → p.cell < cells
port_within ports all cells k p same within small is =
    let P : List Port → Type 0 = λ l. All (λ c. c < cells) (cells_of l) in
    let here : get_or (cells_of ports) k 0 < cells =
    subst P (sym same) within k 0 (omega (arith, length-map ports (λ (q : Port). q.cell))) in
    omega (arith, here, get_or-cells_of ports k p small is)

-- ---- inputs
-- the input at place k is put into its cell, and then those behind it are
with_inputs-drop : (ports : List Port) (bits m : List Bool) (k : ℕ) (d : Port) → k < length ports → length bits ≡ length ports →
    with_inputs (drop k ports) (drop k bits) m ≡ with_inputs (drop (k + 1) ports) (drop (k + 1) bits) (set m (get_or ports k d).cell (get_or bits k false))
with_inputs-drop [] bits m k d small long = absurd (omega arith)
with_inputs-drop (p ∷ ps) [] m k d small long = absurd (omega arith)
with_inputs-drop (p ∷ ps) (b ∷ bits) m zero d small long = refl
with_inputs-drop (p ∷ ps) (b ∷ bits) m (suc k) d small long =
    let next : suc k + 1 ≡ suc (k + 1) = omega arith in
    rw next (with_inputs-drop ps bits m k d (omega arith) (omega arith))

-- one more column of inputs was put into its cell
pub loaded_more : (ports : List Port) (t : TileView) (r k : ℕ) (p : Port) (value : Bool) (old new m : List Bool) →
    p ≡ get_or ports k p → k < length ports → t.columns ≡ length ports → value ≡ get_or (vector_of t r) k false → new ≡ set old p.cell value →
    with_inputs (drop k ports) (drop k (vector_of t r)) old ≡ m → with_inputs (drop (k + 1) ports) (drop (k + 1) (vector_of t r)) new ≡ m
loaded_more ports t r k p value old new m is small columns bit_is new_is before =
    let rest : List Bool → List Bool = λ l. with_inputs (drop (k + 1) ports) (drop (k + 1) (vector_of t r)) l in
    ap rest new_is
    ∙ ap (λ (b : Bool). rest (set old p.cell b)) bit_is
    ∙ ap (λ (q : Port). rest (set old q.cell (get_or (vector_of t r) k false))) is
    ∙ sym (with_inputs-drop ports (vector_of t r) old k p small (length-vector_of t r ∙ columns))
    ∙ before

-- ---- outputs
-- one more column of results was written
pub gathered_more : (ports : List Port) (b : BankView) (t : TileView) (r k : ℕ) (p : Port) (words : List ℕ) (new : List Bool) →
    p ≡ get_or ports k p → k < length ports → t.columns ≡ length ports → lane words r ≡ bit (row_of b r) p.cell → new ≡ set (vector_of t r) k (lane words r) →
    ((j : ℕ) → j < k → get_or (vector_of t r) j false ≡ bit (row_of b r) (get_or (cells_of ports) j 0)) →
    (j : ℕ) → j < k + 1 → get_or new j false ≡ bit (row_of b r) (get_or (cells_of ports) j 0)
gathered_more ports b t r k p words new is small columns bit_is new_is before =
    below_more (λ (j : ℕ). get_or new j false ≡ bit (row_of b r) (get_or (cells_of ports) j 0)) k
    (λ j below.
    ap (λ (l : List Bool). get_or l j false) new_is
    ∙ get_or-set_other (vector_of t r) k j (lane words r) false (λ e. omega arith)
    ∙ before j below)
    (ap (λ (l : List Bool). get_or l k false) new_is
    ∙ get_or-set_same (vector_of t r) k (lane words r) false (omega (arith, length-vector_of t r))
    ∙ bit_is
    ∙ ap (bit (row_of b r)) (sym (get_or-cells_of ports k p small is)))

map-cells_of : (f : ℕ → Bool) (ports : List Port) → map f (cells_of ports) ≡ map (λ o. f o.cell) ports
map-cells_of f [] = refl
map-cells_of f (p ∷ ps) = ap (λ (l : List Bool). f p.cell ∷ l) (map-cells_of f ps)

-- all columns of results were written
pub gathered : (ports all : List Port) (b : BankView) (t : TileView) (r k : ℕ) → ports ≡ all → t.columns ≡ length ports → length ports ≤ k →
    ((j : ℕ) → j < k → get_or (vector_of t r) j false ≡ bit (row_of b r) (get_or (cells_of ports) j 0)) →
    vector_of t r ≡ map (λ o. bit (row_of b r) o.cell) all
gathered ports all b t r k same columns past before =
    let P : List Port → Type 0 = λ l. vector_of t r ≡ map (λ o. bit (row_of b r) o.cell) l in
    let cells : ℕ = length (cells_of ports) in
    let many : length (cells_of ports) ≡ length ports = length-map ports (λ (q : Port). q.cell) in
    subst P same
    (ext_get_or false (vector_of t r) (map (bit (row_of b r)) (cells_of ports))
    (length-vector_of t r ∙ columns ∙ sym (length-map (cells_of ports) (bit (row_of b r)) ∙ many))
    (λ j within.
    let small : j < length ports = omega (arith, length-vector_of t r) in
    before j (omega arith) ∙ sym (get_or-map (bit (row_of b r)) (cells_of ports) j 0 false (omega arith)))
    ∙ map-cells_of (bit (row_of b r)) ports)

-- ---- lines
-- lines of which each is another one's
pub lines_same : (f : List Bool → List ℕ) (g : ℕ → List Bool) (h : ℕ → List ℕ) (a n : ℕ) → ((r : ℕ) → a ≤ r → r < a + n → f (g r) ≡ h r) →
    flat_map f (map g (range_with_len a n)) ≡ flat_map h (range_with_len a n)
lines_same f g h a zero same = refl
lines_same f g h a (suc n) same =
    ap (λ (l : List ℕ). l ++ flat_map f (map g (range_with_len (a + 1) n))) (same a (omega arith) (omega arith))
    ∙ ap (λ (l : List ℕ). h a ++ l) (lines_same f g h (a + 1) n (λ r above below. same r (omega arith) (omega arith)))

pub range-add : (a n m : ℕ) → range_with_len a (n + m) ≡ range_with_len a n ++ range_with_len (a + n) m
range-add a zero m =
    let start : zero + m ≡ m = omega arith in
    let same : a + zero ≡ a = omega arith in
    rw (start, same) refl
range-add a (suc n) m =
    let start : suc n + m ≡ suc (n + m) = omega arith in
    let same : a + suc n ≡ a + 1 + n = omega arith in
    rw (start, same) (ap (λ (l : List ℕ). a ∷ l) (range-add (a + 1) n m))

-- the lines of some rows, and those of the rows behind them
pub row_lines-add : (t : TileView) (a n m : ℕ) → row_lines_from t a (n + m) ≡ row_lines_from t a n ++ row_lines_from t (a + n) m
row_lines-add t a n m =
    ap (flat_map (row_line t)) (range-add a n m)
    ∙ flat_map-append (row_line t) (range_with_len a n) (range_with_len (a + n) m)

-- the lines that are left are the next ones and those behind them
pub row_lines-cut : (t : TileView) (from n lanes : ℕ) → from + n ≤ lanes →
    row_lines_from t from (lanes - from) ≡ row_lines_from t from n ++ row_lines_from t (from + n) (lanes - (from + n))
row_lines-cut t from n lanes within =
    let left : lanes - from ≡ n + (lanes - (from + n)) = omega arith in
    ap (row_lines_from t from) left ∙ row_lines-add t from n (lanes - (from + n))

-- one more row's line
pub row_lines-more : (t : TileView) (a n : ℕ) → row_lines_from t a (n + 1) ≡ row_lines_from t a n ++ row_line t (a + n)
row_lines-more t a n =
    row_lines-add t a n 1 ∙ ap (λ (l : List ℕ). row_lines_from t a n ++ l) (append-nil (row_line t (a + n)))

-- ---- lines in a list
-- the room that is left for rows is that for the next one and for those behind it
pub room_left : (at w count k : ℕ) → k < count → at + (count - k) * w ≡ at + w + (count - (k + 1)) * w
room_left at w count k small =
    let d : ℕ = count - (k + 1) in
    let next : count - k ≡ suc d = omega arith in
    rw next (omega (arith, suc-mul d w))

put_is : (at w : ℕ) (old new : List ℕ) → put_mid at (at + w - at) old new ≡ take at old ++ (new ++ drop w (drop at old))
put_is at w old new =
    let k : at + w - at ≡ w = omega arith in
    rw k refl

-- a line that is put between others leaves the list as long
pub length_put : (at w : ℕ) (old new : List ℕ) → at + w ≤ length old → length new ≡ w → length (put_mid at (at + w - at) old new) ≡ length old
length_put at w old new room long =
    ap length (put_is at w old new)
    ∙ omega (
      arith,
      length-append (take at old) (new ++ drop w (drop at old)),
      length-append new (drop w (drop at old)),
      length-take-le at old (omega arith),
      length-drop w (drop at old),
      length-drop at old,
    )

-- the part of a list that is lent has its length
pub length_part : (at w : ℕ) (l : List ℕ) → at + w ≤ length l → length (take (at + w - at) (drop at l)) ≡ w
length_part at w l room =
    let k : at + w - at ≡ w = omega arith in
    ap (λ (n : ℕ). length (take n (drop at l))) k ∙ length-take-le w (drop at l) (omega (arith, length-drop at l))

-- the line of the next row stands behind those of the rows before it
pub lines_put : (t : TileView) (from k at w : ℕ) (old new : List ℕ) → at + w ≤ length old → length new ≡ w →
    take at old ≡ row_lines_from t from k → new ≡ row_line t (from + k) →
    take (at + w) (put_mid at (at + w - at) old new) ≡ row_lines_from t from (k + 1)
lines_put t from k at w old new room long before line =
    take-put_mid at (at + w - at) old new (at + w) (omega arith) (omega arith)
    ∙ ap (λ (l : List ℕ). l ++ new) before
    ∙ ap (λ (l : List ℕ). row_lines_from t from k ++ l) line
    ∙ sym (row_lines-more t from k)

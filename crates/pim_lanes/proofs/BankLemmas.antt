-- The rows of a bank of which one column was written.
use Rattle.std.proofs.Common.{◌≡◌, ◌≢◌, ℕ, zero, suc, ◌+◌, ◌-◌, ◌*◌, ◌/◌, ◌%◌, ◌^◌, ◌<◌, ◌≤◌, Bool, false, ◌||◌, not, cond, eqb, List, [], ◌∷◌, ◌++◌, length, set, take, drop, replicate, inl, inr, refl, sym, ap, subst, ◌∙◌, arith}
use Rattle.std.specs.Prelude.{All}
use Rattle.std.proofs.lemmas.Bool.{cases_eq, cases_lt, eqb-false, lt-ltb, le-ltb, eq-eqb, ne_eqb}
use Rattle.std.proofs.lemmas.List.{length-set, length-replicate, ext_get_or, get_or-set_same, get_or-set_other, get_or-replicate, get_or_past, length-drop, drop-drop}
use Rattle.std.proofs.lemmas.List.Elements.{All-nil, All-cons, All-head, All-tail}
use Rattle.std.proofs.lemmas.List.FromFn.{length-map-range_with_len, get_or-map-range_with_len}
use Rattle.pim_isa.specs.declared.draft.TheConstants.{MAX_CELLS}
use Rattle.pim_isa.specs.declared.target.Fill.{Fill}
use Rattle.pim_isa.specs.declared.target.Fill.TheVariants.{Zeros, Ones}
use Rattle.pim_isa.specs.declared.instr.Ins.{Ins}
use Rattle.pim_isa.specs.declared.instr.Operand.{Operand}
use Rattle.pim_isa.specs.declared.instr.Operand.TheVariants as operand
use Rattle.pim_isa.specs.declared.instr.Instr.TheVariants.{Nor, Rm3}
use Rattle.pim_isa.specs.Touches.{operands, operand_cells}
use Rattle.pim_isa.specs.Validity.{has}
use Rattle.pim_isa.specs.Steps.{bit, value, majority}
use Rattle.pim_isa.specs.Results.{fill_bit}
use Rattle.pim_io.specs.Lanes.{is_set, lane, column_in}
use Rattle.pim_lanes.specs.inner.Columns.{Stored}
use Rattle.pim_lanes.specs.Banks.{BankView, column_of, column_at, row_of, IsRow, IsBuffer, SameFrame, FitsCells, place_of, fill_word}
use Rattle.pim_lanes.proofs.BitLemmas.{is_set-zero}
use Rattle.pim_lanes.proofs.RuleLemmas.{lane-ones}
use Rattle.pim_lanes.proofs.ColumnLemmas.{column_in-replicate}
use Rattle.pim_lanes.proofs.StepLemmas.{or_falses}

pub length-row_of : (b : BankView) (r : ℕ) → length (row_of b r) ≡ b.cells
unfolding row_of
length-row_of b r = length-map-range_with_len (λ (c : ℕ). lane (column_in b.words b.buffer c) r) 0 b.cells

-- a bit of a row is the lane of its cell's column
pub bit-row_of : (b : BankView) (r c : ℕ) → c < b.cells → bit (row_of b r) c ≡ lane (column_in b.words b.buffer c) r
unfolding row_of
bit-row_of b r c small = get_or-map-range_with_len (λ (c : ℕ). lane (column_in b.words b.buffer c) r) 0 b.cells c c false small (omega arith)

-- a cell's column among those of the cells
pub column_in-cells : (w : ℕ) (items : List ℕ) (c : ℕ) → column_in w (drop (2 * w) items) c ≡ column_in w items (c + 2)
unfolding column_in
column_in-cells w items c =
    let e : (c + 2) * w ≡ 2 * w + c * w = omega arith in
    ap (take w) (drop-drop (c * w) (2 * w) items ∙ ap (λ (n : ℕ). drop n items) (sym e))

-- a row has a new bit where a column was written
pub row_stored : (b : BankView) (t : ℕ) (v : ℕ → Bool) (new : List ℕ) → t < b.cells → Stored b.words t v b.buffer new →
    (r : ℕ) → IsRow b r → row_of (record b { buffer = new }) r ≡ set (row_of b r) t (v r)
row_stored b t v new small stored r row =
    let after : BankView = record b { buffer = new } in
    ext_get_or false (row_of after r) (set (row_of b r) t (v r))
    (length-row_of after r ∙ sym (length-row_of b r) ∙ sym (length-set (row_of b r) t (v r)))
    (λ c within.
    let below : c < b.cells = omega (arith, length-row_of after r) in
    bit-row_of after r c below ∙
    elim (cases_eq c t) as (λ _. lane (column_in b.words new c) r ≡ bit (set (row_of b r) t (v r)) c) [
      | inl same ↦
          ap (λ (n : ℕ). lane (column_in b.words new n) r) same ∙ stored.target r row
          ∙ sym (ap (λ (n : ℕ). bit (set (row_of b r) t (v r)) n) same
          ∙ get_or-set_same (row_of b r) t (v r) false (omega (arith, length-row_of b r)))
      | inr apart ↦
          ap (λ (ws : List ℕ). lane ws r) (stored.others c apart)
          ∙ sym (get_or-set_other (row_of b r) t c (v r) false apart ∙ bit-row_of b r c below)
    ])

-- a column that was written among all is written among those of the cells
stored_cells : (w t : ℕ) (v : ℕ → Bool) (old new : List ℕ) → Stored w (t + 2) v old new → Stored w t v (drop (2 * w) old) (drop (2 * w) new)
stored_cells w t v old new stored = record {
  same = length-drop (2 * w) new ∙ ap (λ (n : ℕ). n - 2 * w) stored.same ∙ sym (length-drop (2 * w) old);
  target = λ r small. ap (λ (ws : List ℕ). lane ws r) (column_in-cells w new t) ∙ stored.target r small;
  others = λ c apart. column_in-cells w new c ∙ stored.others (c + 2) (λ e. apart (omega arith)) ∙ sym (column_in-cells w old c);
}

-- the same of the fields of a bank: `view` is what they were, the column was written in `old`, and the list is `items` now
pub row_lanes : (v : List ℕ → ℕ → Bool) (view b : BankView) (t : ℕ) (before old new items : List ℕ) →
    view ≡ b → items ≡ new → old ≡ before → view.buffer ≡ drop (2 * view.words) before → t < b.cells → Stored view.words (t + 2) (v old) old new →
    (r : ℕ) → IsRow b r → row_of (record view { buffer = drop (2 * view.words) items }) r ≡ set (row_of b r) t (v before r)
row_lanes v view b t before old new items is items_are old_is buffer_is =
    let w : ℕ = view.words in
    let P : BankView → Type 0 = λ b. t < b.cells → Stored w (t + 2) (v old) old new →
    (r : ℕ) → IsRow b r → row_of (record view { buffer = drop (2 * w) items }) r ≡ set (row_of b r) t (v before r) in
    subst P is (λ small stored r row.
    let from : Stored w (t + 2) (v before) before new =
    let Q : List ℕ → Type 0 = λ o. Stored w (t + 2) (v o) o new in subst Q old_is stored in
    let cells : Stored w t (v before) view.buffer (drop (2 * w) new) =
    let Q : List ℕ → Type 0 = λ o. Stored w t (v before) o (drop (2 * w) new) in
    subst Q (sym buffer_is) (stored_cells w t (v before) before new from) in
    ap (λ (l : List ℕ). row_of (record view { buffer = drop (2 * w) l }) r) items_are
    ∙ row_stored view t (v before) (drop (2 * w) new) small cells r row)

-- the lane of a cell's column among all is a bit of a row
pub cell_lane : (view b : BankView) (before : List ℕ) (c r : ℕ) → view ≡ b → view.buffer ≡ drop (2 * view.words) before → c < b.cells →
    lane (column_in view.words before (c + 2)) r ≡ bit (row_of b r) c
cell_lane view b before c r is buffer_is =
    let P : BankView → Type 0 = λ b. c < b.cells → lane (column_in view.words before (c + 2)) r ≡ bit (row_of b r) c in
    subst P is (λ small.
    ap (λ (ws : List ℕ). lane ws r) (sym (column_in-cells view.words before c) ∙ ap (λ (l : List ℕ). column_in view.words l c) (sym buffer_is))
    ∙ sym (bit-row_of view r c small))

-- the same where the lanes of columns of cells made the new ones
pub row_by : (g : Bool → Bool → Bool → Bool) (view b : BankView) (t x y : ℕ) (before old new items : List ℕ) →
    view ≡ b → items ≡ new → old ≡ before → view.buffer ≡ drop (2 * view.words) before → t < b.cells → x < b.cells → y < b.cells →
    Stored view.words (t + 2) (λ r. g (lane (column_in view.words old (t + 2)) r) (lane (column_in view.words old (x + 2)) r) (lane (column_in view.words old (y + 2)) r)) old new →
    (r : ℕ) → IsRow b r →
    row_of (record view { buffer = drop (2 * view.words) items }) r ≡ set (row_of b r) t (g (bit (row_of b r) t) (bit (row_of b r) x) (bit (row_of b r) y))
row_by g view b t x y before old new items is items_are old_is buffer_is t_small x_small y_small stored r row =
    let w : ℕ = view.words in
    let m : List Bool = row_of b r in
    row_lanes (λ (o : List ℕ) (r : ℕ). g (lane (column_in w o (t + 2)) r) (lane (column_in w o (x + 2)) r) (lane (column_in w o (y + 2)) r))
    view b t before old new items is items_are old_is buffer_is t_small stored r row
    ∙ ap (λ (v : Bool). set m t (g v (lane (column_in w before (x + 2)) r) (lane (column_in w before (y + 2)) r))) (cell_lane view b before t r is buffer_is t_small)
    ∙ ap (λ (v : Bool). set m t (g (bit m t) v (lane (column_in w before (y + 2)) r))) (cell_lane view b before x r is buffer_is x_small)
    ∙ ap (λ (v : Bool). set m t (g (bit m t) (bit m x) v)) (cell_lane view b before y r is buffer_is y_small)

-- ---- what stays
pub row_later : (a b : BankView) (r : ℕ) → SameFrame a b → IsRow a r → IsRow b r
row_later a b r same row = rw same.words row

-- the target of a NOR lies in the row
pub nor_within : (b : BankView) (r t : ℕ) (i : Ins) → FitsCells b.cells (Nor t i) → t < length (row_of b r)
nor_within b r t i fits = rw (length-row_of b r) (All-head (λ (c : ℕ). c < b.cells) t (operands i) fits.within)

-- ---- rows of one bit over and over
lane-zeros : (w r : ℕ) → lane (replicate w 0) r ≡ false
unfolding lane
lane-zeros w r =
    elim (cases_lt (r / 64) w) [
      | inl within ↦ ap (λ (n : ℕ). is_set n (r % 64)) (get_or-replicate w (r / 64) 0 0 within) ∙ is_set-zero (r % 64)
      | inr past ↦ ap (λ (n : ℕ). is_set n (r % 64)) (get_or_past (replicate w 0) (r / 64) 0 (omega (arith, length-replicate {A = ℕ} w 0))) ∙ is_set-zero (r % 64)
    ]

-- every bit of a row is that of its cell's column
row_all : (b : BankView) (r : ℕ) (x : Bool) → ((c : ℕ) → c < b.cells → lane (column_in b.words b.buffer c) r ≡ x) → row_of b r ≡ replicate b.cells x
row_all b r x lanes =
    ext_get_or false (row_of b r) (replicate b.cells x) (length-row_of b r ∙ sym (length-replicate b.cells x))
    (λ c within.
    let small : c < b.cells = omega (arith, length-row_of b r) in
    bit-row_of b r c small ∙ lanes c small ∙ sym (get_or-replicate b.cells c x false small))

-- a list whose columns of cells are of one word
pub filled_rows : (cells w : ℕ) (items : List ℕ) (word : ℕ) (x : Bool) → ((r : ℕ) → r < 64 * w → lane (replicate w word) r ≡ x) →
    drop (2 * w) items ≡ replicate (cells * w) word → (r : ℕ) → r < 64 * w →
    row_of (record { cells = cells; words = w; buffer = drop (2 * w) items }) r ≡ replicate cells x
filled_rows cells w items word x lanes is r row =
    row_all (record { cells = cells; words = w; buffer = drop (2 * w) items }) r x
    (λ c small.
    ap (λ (l : List ℕ). lane (column_in w l c) r) is
    ∙ ap (λ (ws : List ℕ). lane ws r) (column_in-replicate w cells c word small)
    ∙ lanes r row)

pub fill_lanes : (fill : Fill) (w r : ℕ) → r < 64 * w → lane (replicate w (fill_word fill)) r ≡ fill_bit fill
fill_lanes Zeros w r row = lane-zeros w r
fill_lanes Ones w r row = lane-ones w r row

-- ---- operands of an RM3
-- the column of an operand lies in the bank and isn't the target's
pub record OperandFits (cells z : ℕ) (p : Operand) : Type 0 where
  pub within : All (λ c. c < cells) (operand_cells p)
  pub small : place_of p < cells + 2
  pub apart : place_of p ≢ z + 2

operand_fits : (cells z : ℕ) (p : Operand) → z < cells → All (λ (c : ℕ). c < cells) (operand_cells p) → has z (operand_cells p) ≡ false → OperandFits cells z p
operand_fits cells z operand.Zero small all none = record { within = all; small = omega arith; apart = λ e. omega arith }
operand_fits cells z operand.One small all none = record { within = all; small = omega arith; apart = λ e. omega arith }
operand_fits cells z (operand.Cell c) small all none =
    let below : c < cells = All-head (λ (d : ℕ). d < cells) c [] all in
    let other : c ≢ z = eqb-false c z (or_falses (eqb c z) false none).0 in
    record { within = all; small = omega arith; apart = λ e. other (omega arith) }

has-append : (z : ℕ) (cs ds : List ℕ) → has z (cs ++ ds) ≡ false → (has z cs ≡ false) × (has z ds ≡ false)
has-append z [] ds e = (refl, e)
has-append z (c ∷ cs) ds e =
    let both : (eqb c z ≡ false) × (has z (cs ++ ds) ≡ false) = or_falses (eqb c z) (has z (cs ++ ds)) e in
    let rest : (has z cs ≡ false) × (has z ds ≡ false) = has-append z cs ds both.1 in
    (ap (λ (x : Bool). x || has z cs) both.0 ∙ rest.0, rest.1)

All-parts : (cells : ℕ) (cs ds : List ℕ) → All (λ (c : ℕ). c < cells) (cs ++ ds) → All (λ (c : ℕ). c < cells) cs × All (λ (c : ℕ). c < cells) ds
All-parts cells [] ds all = (All-nil (λ (c : ℕ). c < cells), all)
All-parts cells (c ∷ cs) ds all =
    let rest : All (λ (c : ℕ). c < cells) cs × All (λ (c : ℕ). c < cells) ds = All-parts cells cs ds (All-tail (λ (c : ℕ). c < cells) c (cs ++ ds) all) in
    (All-cons (λ (c : ℕ). c < cells) c cs (All-head (λ (c : ℕ). c < cells) c (cs ++ ds) all) rest.0, rest.1)

pub record Rm3Fits (cells : ℕ) (p q : Operand) (z : ℕ) : Type 0 where
  pub target : z < cells
  pub first : OperandFits cells z p
  pub second : OperandFits cells z q

pub rm3_fits : (cells : ℕ) (p q : Operand) (z : ℕ) → FitsCells cells (Rm3 p q z) → Rm3Fits cells p q z
rm3_fits cells p q z fits =
    let P : ℕ → Type 0 = λ c. c < cells in
    let more : List ℕ = operand_cells p ++ operand_cells q in
    let target : z < cells = All-head P z (z ∷ more) fits.within in
    let all = All-parts cells (operand_cells p) (operand_cells q) (All-tail P z more (All-tail P z (z ∷ more) fits.within)) in
    let none = has-append z (operand_cells p) (operand_cells q) fits.apart in
    record { target = target; first = operand_fits cells z p target all.0 none.0; second = operand_fits cells z q target all.1 none.1 }

-- what the column of an operand has in a row
pub operand_value : (b : BankView) (r : ℕ) (p : Operand) → IsRow b r → All (λ (c : ℕ). c < b.cells) (operand_cells p) →
    lane (column_at b (place_of p)) r ≡ value (row_of b r) p
operand_value b r operand.Zero row all = lane-zeros b.words r
operand_value b r operand.One row all = lane-ones b.words r row
operand_value b r (operand.Cell c) row all =
    let e : c + 2 ≡ suc (suc c) = omega arith in
    ap (λ (n : ℕ). lane (column_at b n) r) e
    ∙ sym (bit-row_of b r c (All-head (λ (d : ℕ). d < b.cells) c [] all))

-- the column at a place of the list is the one that is told
place_column : (view b : BankView) (items : List ℕ) (p : ℕ) → view ≡ b → view.buffer ≡ drop (2 * view.words) items → IsBuffer view.cells view.words items →
    column_in view.words items p ≡ column_at b p
place_column view b items p is buffer_is whole =
    let P : BankView → Type 0 = λ b. column_in view.words items p ≡ column_at b p in
    subst P is (by_cases p)
  where
    by_cases : (p : ℕ) → column_in view.words items p ≡ column_at view p
    by_cases zero = whole.zeros
    by_cases (suc zero) = whole.ones
    by_cases (suc (suc c)) =
        let e : suc (suc c) ≡ c + 2 = omega arith in
        ap (column_in view.words items) e ∙ sym (column_in-cells view.words items c) ∙ ap (λ (l : List ℕ). column_in view.words l c) (sym buffer_is)

-- the rows after an RM3 of the columns at two places
pub rm3_rows : (view b : BankView) (z p q : ℕ) (before old new items : List ℕ) →
    view ≡ b → items ≡ new → old ≡ before → view.buffer ≡ drop (2 * view.words) before → IsBuffer view.cells view.words before → z < b.cells →
    Stored view.words (z + 2) (λ r. majority (lane (column_in view.words old p) r) (not (lane (column_in view.words old q) r)) (lane (column_in view.words old (z + 2)) r)) old new →
    (r : ℕ) → IsRow b r → row_of (record view { buffer = drop (2 * view.words) items }) r
    ≡ set (row_of b r) z (majority (lane (column_at b p) r) (not (lane (column_at b q) r)) (bit (row_of b r) z))
rm3_rows view b z p q before old new items is items_are old_is buffer_is whole small stored r row =
    let w : ℕ = view.words in
    let m : List Bool = row_of b r in
    row_lanes (λ (o : List ℕ) (r : ℕ). majority (lane (column_in w o p) r) (not (lane (column_in w o q) r)) (lane (column_in w o (z + 2)) r))
    view b z before old new items is items_are old_is buffer_is small stored r row
    ∙ ap (λ (ws : List ℕ). set m z (majority (lane ws r) (not (lane (column_in w before q) r)) (lane (column_in w before (z + 2)) r))) (place_column view b before p is buffer_is whole)
    ∙ ap (λ (ws : List ℕ). set m z (majority (lane (column_at b p) r) (not (lane ws r)) (lane (column_in w before (z + 2)) r))) (place_column view b before q is buffer_is whole)
    ∙ ap (λ (v : Bool). set m z (majority (lane (column_at b p) r) (not (lane (column_at b q) r)) v)) (cell_lane view b before z r is buffer_is small)

-- ---- a new bank
-- a list of zeros whose second column was filled with ones is that of a bank
pub new_buffer : (cells w : ℕ) (old new items : List ℕ) → cells ≤ MAX_CELLS → w ≤ 64 → items ≡ new → old ≡ replicate ((cells + 2) * w) 0 →
    length new ≡ length old → column_in w new 1 ≡ replicate w (2 ^ 64 - 1) → ((c : ℕ) → c ≢ 1 → column_in w new c ≡ column_in w old c) →
    IsBuffer cells w items
new_buffer cells w old new items small short items_are old_is same ones others =
    let P : List ℕ → Type 0 = λ l. IsBuffer cells w l in
    subst P (sym items_are) (record {
      small = small;
      short = short;
      whole = same ∙ ap length old_is ∙ length-replicate ((cells + 2) * w) 0;
      zeros = others 0 (λ e. omega arith) ∙ ap (λ (l : List ℕ). column_in w l 0) old_is ∙ column_in-replicate w (cells + 2) 0 0 (omega arith);
      ones = ones;
    })

pub new_rows : (cells w : ℕ) (old new items : List ℕ) → items ≡ new → old ≡ replicate ((cells + 2) * w) 0 →
    ((c : ℕ) → c ≢ 1 → column_in w new c ≡ column_in w old c) →
    (r : ℕ) → row_of (record { cells = cells; words = w; buffer = drop (2 * w) items }) r ≡ replicate cells false
new_rows cells w old new items items_are old_is others r =
    row_all (record { cells = cells; words = w; buffer = drop (2 * w) items }) r false
    (λ c small.
    ap (λ (l : List ℕ). lane (column_in w (drop (2 * w) l) c) r) items_are
    ∙ ap (λ (ws : List ℕ). lane ws r)
    (column_in-cells w new c ∙ others (c + 2) (λ e. omega arith) ∙ ap (λ (l : List ℕ). column_in w l (c + 2)) old_is ∙ column_in-replicate w (cells + 2) (c + 2) 0 (omega arith))
    ∙ lane-zeros w r)

-- ---- a bank that was filled
pub fill_rows : (view b : BankView) (old new items : List ℕ) (word : ℕ) (x : Bool) → view ≡ b → items ≡ new → length old ≡ (view.cells + 2) * view.words →
    ((r : ℕ) → r < 64 * view.words → lane (replicate view.words word) r ≡ x) →
    drop (2 * view.words) new ≡ replicate (length old - 2 * view.words) word →
    (r : ℕ) → IsRow b r → row_of (record view { buffer = drop (2 * view.words) items }) r ≡ replicate b.cells x
fill_rows view b old new items word x is items_are long lanes filled =
    let w : ℕ = view.words in
    let count : length old - 2 * w ≡ view.cells * w = omega (arith, long) in
    let P : BankView → Type 0 = λ b. (r : ℕ) → IsRow b r → row_of (record view { buffer = drop (2 * w) items }) r ≡ replicate b.cells x in
    subst P is (filled_rows view.cells w items word x lanes
    (ap (drop (2 * w)) items_are ∙ filled ∙ ap (λ (n : ℕ). replicate n word) count))

-- ---- a column that is lent
pub cell_column : (view b : BankView) (items : List ℕ) (c : ℕ) → view ≡ b → view.buffer ≡ drop (2 * view.words) items → c < b.cells →
    column_in view.words items (c + 2) ≡ column_of b c
cell_column view b items c is buffer_is =
    let P : BankView → Type 0 = λ b. c < b.cells → column_in view.words items (c + 2) ≡ column_of b c in
    subst P is (λ small.
    rw (lt-ltb c view.cells small)
    (sym (column_in-cells view.words items c) ∙ ap (λ (l : List ℕ). column_in view.words l c) (sym buffer_is)))

pub constant_column : (view b : BankView) (items : List ℕ) (c : ℕ) → view ≡ b → IsBuffer view.cells view.words items → b.cells ≤ c → c < b.cells + 2 →
    column_in view.words items (c - b.cells) ≡ column_of b c
constant_column view b items c is whole =
    let P : BankView → Type 0 = λ b. b.cells ≤ c → c < b.cells + 2 → column_in view.words items (c - b.cells) ≡ column_of b c in
    subst P is (λ high small.
    rw (le-ltb c view.cells high)
    (elim (cases_eq c view.cells) [
      | inl first ↦
          let e : c - view.cells ≡ 0 = omega arith in
          rw (eq-eqb c view.cells first) (ap (column_in view.words items) e ∙ whole.zeros)
      | inr second ↦
          let e : c - view.cells ≡ 1 = omega arith in
          rw (ne_eqb c view.cells second) (ap (column_in view.words items) e ∙ whole.ones)
    ]))

-- the lane of a cell's column is the bit of its row
pub column_bit : (b : BankView) (c r : ℕ) → c < b.cells → lane (column_of b c) r ≡ bit (row_of b r) c
column_bit b c r small =
    ap (λ (x : Bool). lane (cond x (column_in b.words b.buffer c) (cond (eqb c b.cells) (replicate b.words 0) (replicate b.words (2 ^ 64 - 1)))) r) (lt-ltb c b.cells small)
    ∙ sym (bit-row_of b r c small)

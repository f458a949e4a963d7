-- A batch by its fields: `view` is what they are seen as, and `b` the value that clauses speak of.
use Rattle.std.proofs.Common.{◌≡◌, ℕ, ◌*◌, ◌<◌, ◌≤◌, Bool, eqb, List, [], ◌∷◌, ◌++◌, Option, Some, None, length, map, refl, sym, ap, subst, ◌∙◌, arith, append-nil}
use Rattle.std.specs.Prelude.{IsTrue}
use Rattle.std.specs.List.{range_with_len}
use Rattle.std.proofs.lemmas.Bool.{eq-eqb, eqb-true}
use Rattle.pim_io.specs.Bits.{line_of}
use Rattle.pim_io.specs.Outside.{TookAll}
use Rattle.pim_isa.specs.Steps.{bit, exec}
use Rattle.pim_isa.specs.Results.{load}
use Rattle.pim_lanes.specs.Banks.{BankView, row_of}
use Rattle.pim_vectors.specs.Tiles.{TileView, vector_of}
use Rattle.pim_batch.specs.Tables.{result_line, table, tile_rows, tile_words}
use Rattle.pim_batch.specs.Batches.{BatchView}
use Rattle.pim_batch.specs.inner.TileLines.{row_line, row_lines}
use Rattle.pim_batch.proofs.RowLemmas.{lines_same}

-- ---- how many rows there are
pub is_full : (view b : BatchView) (n most : ℕ) → view ≡ b → n ≡ length view.vectors → most ≡ tile_rows view.program →
    (IsTrue (eqb n most) → length b.vectors ≡ tile_rows b.program) × (length b.vectors ≡ tile_rows b.program → IsTrue (eqb n most))
is_full view b n most is count most_is =
    let many : length b.vectors ≡ n = sym (count ∙ ap (λ (v : BatchView). length v.vectors) is) in
    let rows : most ≡ tile_rows b.program = most_is ∙ ap (λ (v : BatchView). tile_rows v.program) is in
    (λ full. many ∙ eqb-true n most full ∙ rows, λ full. eq-eqb n most (sym many ∙ full ∙ sym rows))

pub row_free : (view b : BatchView) (words : ℕ) → view ≡ b → words ≡ tile_words view.program →
    length b.vectors < tile_rows b.program → length view.vectors < 64 * words
row_free view b words is words_is free =
    let P : BatchView → Type 0 = λ v. length v.vectors < tile_rows v.program in
    let Q : ℕ → Type 0 = λ w. length view.vectors < 64 * w in
    subst Q (sym words_is) (subst P (sym is) free)

pub rows_within : (view b : BatchView) (n words : ℕ) → view ≡ b → n ≡ length view.vectors → words ≡ tile_words view.program → n ≤ 64 * words →
    length b.vectors ≤ tile_rows b.program
rows_within view b n words is count words_is within =
    let P : BatchView → Type 0 = λ v. length v.vectors ≤ tile_rows v.program in
    let Q : ℕ → Type 0 = λ m. m ≤ 64 * tile_words view.program in
    let R : ℕ → Type 0 = λ w. n ≤ 64 * w in
    subst P is (subst Q count (subst R words_is within))

-- ---- no vectors
none_of : {A : Type 0} (l : List A) → length l ≡ 0 → l ≡ []
none_of [] none = refl
none_of (x ∷ l) none = absurd (omega arith)

pub none_packed : (view b : BatchView) (n : ℕ) → view ≡ b → n ≡ length view.vectors → n ≡ 0 → b.vectors ≡ []
none_packed view b n is count none =
    ap (λ (v : BatchView). v.vectors) (sym is) ∙ none_of view.vectors (sym count ∙ none)

pub none_taken : (a : Option (List ℕ)) (b : BatchView) → b.vectors ≡ [] → TookAll a a (table b.program b.fill b.vectors)
none_taken None b none = tt
none_taken (Some taken) b none =
    sym (append-nil taken) ∙ ap (λ (vs : List (List Bool)). taken ++ table b.program b.fill vs) (sym none)

pub none_emptied : (b : BatchView) → b.vectors ≡ [] → b ≡ record b { vectors = [] }
none_emptied b none = ap (λ (vs : List (List Bool)). record b { vectors = vs }) none

-- ---- the lines of all rows
pub table_is : (view b : BatchView) (start done : BankView) (vectors results : TileView) (n w : ℕ) → view ≡ b → view.vectors ≡ map (vector_of vectors) (range_with_len 0 n) →
    n ≤ 64 * w →
    ((r : ℕ) → r < 64 * w → row_of start r ≡ load view.program view.fill (vector_of vectors r)) →
    ((r : ℕ) → r < 64 * w → row_of done r ≡ exec view.program.instrs (row_of start r)) →
    ((r : ℕ) → r < 64 * w → vector_of results r ≡ map (λ o. bit (row_of done r) o.cell) view.program.outputs) →
    row_lines results n ≡ table b.program b.fill b.vectors
table_is view b start done vectors results n w is vectors_are within loaded ran gathered =
    let P : BatchView → Type 0 = λ b. row_lines results n ≡ table b.program b.fill b.vectors in
    subst P is
    (sym (ap (table view.program view.fill) vectors_are
    ∙ lines_same (result_line view.program view.fill) (vector_of vectors) (row_line results) 0 n
    (λ r above below.
    let row : r < 64 * w = omega arith in
    ap (λ (m : List Bool). line_of (map (λ o. bit (exec view.program.instrs m) o.cell) view.program.outputs) ++ 10 ∷ []) (sym (loaded r row))
    ∙ ap (λ (m : List Bool). line_of (map (λ o. bit m o.cell) view.program.outputs) ++ 10 ∷ []) (sym (ran r row))
    ∙ ap (λ (l : List Bool). line_of l ++ 10 ∷ []) (sym (gathered r row)))))

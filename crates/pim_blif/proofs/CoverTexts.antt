-- The covers of a file, as they are begun, filled and ended in turn.
use Rattle.std.proofs.Common.{◌≡◌, ℕ, suc, ◌+◌, Bool, true, false, cond, List, [], ◌∷◌, ◌++◌, map, take, Option, Some, None, refl, sym, ap, ◌∙◌, arith, append_assoc}
use mathlib.Core.List.{reverse_aux}
use Rattle.std.specs.List.{prefix_len}
use Rattle.std.specs.Option.{option_to_list, is_none}
use Rattle.std.proofs.lemmas.List.{append-nil}
use Rattle.pim_blif.specs.inner.Judging.{ended_behind, ended_covers}
use Rattle.pim_blif.specs.Statements.{Statement}
use Rattle.pim_blif.specs.Directives.{Directive, Model, Inputs, Outputs, Names, End, PassedOver, Unsupported, directive}
use Rattle.pim_blif.specs.Covers.{CoverText, is_row, rows_before, begun, covers_of, open_behind, open_cover}

-- the covers of further statements, where this one is open before them
abbrev pub finished : Option CoverText → List Statement → List CoverText
finished None rest = covers_of rest
finished (Some c) rest = record c { rows = c.rows ++ rows_before rest } ∷ covers_of rest

rows_at : (t : Bool) (s : Statement) (rest : List Statement) → is_row s ≡ t → rows_before (s ∷ rest) ≡ cond t (s.words ∷ rows_before rest) []
rows_at true s rest e =
    let n : cond (is_row s) (1 + prefix_len is_row rest) 0 ≡ suc (prefix_len is_row rest) = ap (λ t. cond {A = ℕ} t (1 + prefix_len is_row rest) 0) e ∙ omega arith in
    ap (λ k. map (λ (s : Statement). s.words) (take k (s ∷ rest))) n
rows_at false s rest e =
    ap (λ t. map (λ (s : Statement). s.words) (take (cond {A = ℕ} t (1 + prefix_len is_row rest) 0) (s ∷ rest))) e

-- a directive ends the cover that is open
ends : (x : Directive) (s : Statement) (rest : List Statement) (cover : Option CoverText) (ended : List CoverText) → directive s ≡ Some x → ended ++ finished cover (s ∷ rest) ≡ (ended ++ option_to_list cover) ++ begun (Some x) s rest (covers_of rest)
ends x s rest None ended e =
    ap (λ d. ended ++ begun d s rest (covers_of rest)) e ∙ ap (λ xs. xs ++ begun (Some x) s rest (covers_of rest)) (sym (append-nil ended))
ends x s rest (Some c) ended e =
    let rows : rows_before (s ∷ rest) ≡ [] = rows_at false s rest (ap is_none e) in
    let same : c.rows ++ rows_before (s ∷ rest) ≡ c.rows = ap (λ rows. c.rows ++ rows) rows ∙ append-nil c.rows in
    ap (λ rows. ended ++ record c { rows = rows } ∷ begun (directive s) s rest (covers_of rest)) same
    ∙ (ap (λ d. ended ++ c ∷ begun d s rest (covers_of rest)) e ∙ sym (append_assoc ended (c ∷ []) (begun (Some x) s rest (covers_of rest))))

-- a statement that is no directive is a row of it
fills : (s : Statement) (rest : List Statement) (cover : Option CoverText) → directive s ≡ None → finished cover (s ∷ rest) ≡ finished (open_behind None s cover) rest
fills s rest None e = ap (λ d. begun d s rest (covers_of rest)) e
fills s rest (Some c) e =
    let rows : rows_before (s ∷ rest) ≡ s.words ∷ rows_before rest = rows_at true s rest (ap is_none e) in
    let same : c.rows ++ rows_before (s ∷ rest) ≡ (c.rows ++ s.words ∷ []) ++ rows_before rest = ap (λ rows. c.rows ++ rows) rows ∙ sym (append_assoc c.rows (s.words ∷ []) (rows_before rest)) in
    ap (λ rows. record c { rows = rows } ∷ begun (directive s) s rest (covers_of rest)) same
    ∙ ap (λ d. record c { rows = (c.rows ++ s.words ∷ []) ++ rows_before rest } ∷ begun d s rest (covers_of rest)) e

-- one more statement
step : (d : Option Directive) (s : Statement) (rest : List Statement) (cover : Option CoverText) (ended : List CoverText) → directive s ≡ d → ended ++ finished cover (s ∷ rest) ≡ ended_behind d cover ended ++ finished (open_behind d s cover) rest
step (Some Model) s rest cover ended e = ends Model s rest cover ended e
step (Some Inputs) s rest cover ended e = ends Inputs s rest cover ended e
step (Some Outputs) s rest cover ended e = ends Outputs s rest cover ended e
step (Some Names) s rest cover ended e = ends Names s rest cover ended e
step (Some End) s rest cover ended e = ends End s rest cover ended e
step (Some PassedOver) s rest cover ended e = ends PassedOver s rest cover ended e
step (Some Unsupported) s rest cover ended e = ends Unsupported s rest cover ended e
step None s rest cover ended e = ap (λ xs. ended ++ xs) (fills s rest cover e)

nothing_left : (cover : Option CoverText) → finished cover [] ≡ option_to_list cover
nothing_left None = refl
nothing_left (Some c) = ap (λ rows. record c { rows = rows } ∷ []) (append-nil c.rows)

-- the covers of further statements, and those before
pub covers_onto : (rest before : List Statement) → ended_covers before ++ finished (open_cover before) rest ≡ ended_covers (reverse_aux rest before) ++ option_to_list (open_cover (reverse_aux rest before))
covers_onto [] before = ap (λ xs. ended_covers before ++ xs) (nothing_left (open_cover before))
covers_onto (s ∷ rest) before = step (directive s) s rest (open_cover before) (ended_covers before) refl ∙ covers_onto rest (s ∷ before)

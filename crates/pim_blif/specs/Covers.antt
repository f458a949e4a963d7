-- The covers of a file: each `.names` statement begins one, and the statements up to the next that begins with a dot are its
-- rows (BLIF 1992, "Logic Gates").
use Rattle.std.specs.Prelude.{ℕ, ◌-◌, List, [], ◌∷◌, ◌++◌, Bool, true, length, take, take_while, map, slice_index_or, Option, Some, None, is_none, option_map}
use Rattle.std.specs.Str.{bytes_eq}
use Rattle.pim_net.specs.Covers.{CoverView}
use Rattle.pim_net.specs.declared.parts.Equation.{Equation}
use Rattle.pim_blif.specs.Statements.{Statement}
use Rattle.pim_blif.specs.Directives.{Directive, Names, directive, arguments}
use Rattle.pim_blif.specs.Signals.{signal_number}
use Rattle.pim_blif.specs.Rows.{cells_of, pattern_of, output_of}

-- a `.names` statement and its rows: the names of its columns, the name that it drives, and the words of each row
pub record CoverText : Type 0 where
  pub columns : List (List ℕ)
  pub driven : List ℕ
  pub rows : List (List (List ℕ))

-- all of these words but the last
abbrev pub all_but_last : {X : Type 0} → List X → List X
all_but_last words = take (length words - 1) words

-- the last of these words
abbrev pub last_word : List (List ℕ) → List ℕ
last_word words = slice_index_or words (length words - 1) []

-- the cover of these words, of which the last is driven, with these rows
abbrev pub cover_text : List (List ℕ) → List (List (List ℕ)) → CoverText
cover_text words rows = record { columns = all_but_last words; driven = last_word words; rows = rows }

-- whether a statement doesn't begin with a dot
abbrev pub is_row : Statement → Bool
is_row s = is_none (directive s)

-- the words of the rows that stand before the next directive
abbrev pub rows_before : List Statement → List (List (List ℕ))
rows_before rest = map (λ s. s.words) (take_while is_row rest)

-- a cover that a statement begins, with the rows behind it, before other covers
abbrev pub begun : Option Directive → Statement → List Statement → List CoverText → List CoverText
begun (Some Names) s rest covers = cover_text (arguments s) (rows_before rest) ∷ covers
begun d s rest covers = covers

-- the covers of these statements, in order
abbrev pub covers_of : List Statement → List CoverText
covers_of [] = []
covers_of (s ∷ rest) = begun (directive s) s rest (covers_of rest)

-- a cover with one more row
abbrev pub with_row_text : List (List ℕ) → CoverText → CoverText
with_row_text words cover = record cover { rows = cover.rows ++ words ∷ [] }

-- the cover that is open behind a statement, where this one is open before it
abbrev pub open_behind : Option Directive → Statement → Option CoverText → Option CoverText
open_behind (Some Names) s cover = Some (cover_text (arguments s) [])
open_behind (Some d) s cover = None
open_behind None s cover = option_map (with_row_text s.words) cover

-- the cover that is open behind these statements, the latest of which comes first: the latest directive is `.names`, and the
-- statements behind that one are its rows
abbrev pub open_cover : List Statement → Option CoverText
open_cover [] = None
open_cover (s ∷ before) = open_behind (directive s) s (open_cover before)

-- the output character of a row tells that the cover is true where the row holds
abbrev pub is_one : List (List ℕ) → Bool
is_one words = bytes_eq (output_of words) (49 ∷ [])

-- the value of a cover where one of these rows holds: that of its first row, and true for a cover without rows
abbrev pub phase_of : List (List (List ℕ)) → Bool
phase_of [] = true
phase_of (words ∷ rows) = is_one words

-- the cover of signals, where names have these numbers
abbrev pub cover_of : List (List ℕ) → CoverText → CoverView
cover_of names cover = record {
  ins = map (signal_number names) cover.columns;
  rows = map (λ words. cells_of (pattern_of words)) cover.rows;
  phase = phase_of cover.rows;
}

-- the equation of a cover
abbrev pub equation_of : List (List ℕ) → CoverText → Equation
equation_of names cover = record { sig = signal_number names cover.driven; cover = cover_of names cover }

-- What a statement begins with: a directive, or the words of a row. The directives are those of Berkeley Logic Interchange
-- Format (BLIF), University of California, Berkeley, 1992, "Models", "Logic Gates" and "Delay Constraints"; which of
-- them are read, passed over or unsupported is this project's profile.
use Rattle.std.specs.Prelude.{ℕ, ◌==◌, List, [], ◌∷◌, Bool, true, false, if◌then◌else◌, codes, drop, slice_index_or, Option, Some, None}
use Rattle.std.specs.List.{list_any}
use Rattle.std.specs.Str.{bytes_eq}
use Rattle.pim_blif.specs.Statements.{Statement}

-- the byte that a directive begins with
abbrev pub is_dot : ℕ → Bool
is_dot b = b == 46

-- what a statement that begins with a dot is: it begins or ends the model, names inputs or outputs, or begins a cover; or it
-- tells of area, delay or load, and is passed over; or it is not supported
pub data Directive : Type 0 where
  Model : Directive
  Inputs : Directive
  Outputs : Directive
  Names : Directive
  End : Directive
  PassedOver : Directive
  Unsupported : Directive

-- the names of the directives that are passed over: they tell nothing of what a netlist computes
abbrev pub passed_over : List (List ℕ)
passed_over =
    codes "area" ∷ codes "delay" ∷ codes "wire_load_slope" ∷ codes "wire"
    ∷ codes "input_arrival" ∷ codes "default_input_arrival" ∷ codes "output_required" ∷ codes "default_output_required"
    ∷ codes "input_drive" ∷ codes "default_input_drive" ∷ codes "output_load" ∷ codes "default_output_load"
    ∷ codes "max_input_load" ∷ codes "default_max_input_load" ∷ []

-- whether a directive of this name is passed over
abbrev pub is_passed_over : List ℕ → Bool
is_passed_over name = list_any (bytes_eq name) passed_over

-- the directive of a name, which stands behind the dot
unfoldable pub directive_named : List ℕ → Directive
directive_named name =
    if bytes_eq name (codes "names") then Names
    else (if bytes_eq name (codes "model") then Model
    else (if bytes_eq name (codes "inputs") then Inputs
    else (if bytes_eq name (codes "outputs") then Outputs
    else (if bytes_eq name (codes "end") then End
    else (if is_passed_over name then PassedOver
    else Unsupported)))))

-- the directive that a word is, if it begins with a dot
abbrev pub directive_of : List ℕ → Option Directive
directive_of [] = None
directive_of (b ∷ name) = if is_dot b then Some (directive_named name) else None

-- the first of these words
abbrev pub first_word : List (List ℕ) → List ℕ
first_word words = slice_index_or words 0 []

-- the directive that a statement is, if it is one
abbrev pub directive : Statement → Option Directive
directive s = directive_of (first_word s.words)

-- the words behind the first
abbrev pub arguments : Statement → List (List ℕ)
arguments s = drop 1 s.words

-- `.end` ends the model
abbrev pub is_end : Option Directive → Bool
is_end (Some End) = true
is_end d = false

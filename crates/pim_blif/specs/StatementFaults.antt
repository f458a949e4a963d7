-- The fault of a statement, from the statements before it alone (BLIF 1992, "Models" and "Logic Gates"; the limits and the
-- order of the faults are this project's profile).
use Rattle.std.specs.Prelude.{ℕ, ◌+◌, ◌&&◌, List, [], ◌∷◌, ◌++◌, Bool, not, if◌then◌else◌, length, reverse, take, nat_lt, nat_le, Option, Some, None}
use Rattle.std.specs.List.{list_any}
use Rattle.std.specs.Option.{option_or}
use Rattle.std.specs.Result.{result_err}
use Rattle.std.specs.Str.{bytes_eq}
use Rattle.pim_io.specs.Names.{label}
use Rattle.pim_io.specs.declared.limits.TheConstants.{MAX_NAME}
use Rattle.pim_net.specs.declared.limits.TheConstants.{MAX_OUTPUTS, MAX_SIGNALS}
use Rattle.pim_net.specs.declared.kind.Kind.TheVariants as kinds
use Rattle.pim_blif.specs.declared.fault.BlifFault.{BlifFault}
use Rattle.pim_blif.specs.declared.fault.BlifFault.TheVariants as faults
use Rattle.pim_blif.specs.Statements.{Statement}
use Rattle.pim_blif.specs.Directives.{Directive, Model, Inputs, Outputs, Names, End, PassedOver, Unsupported, directive, arguments, first_word, is_end}
use Rattle.pim_blif.specs.Signals.{is_known, with_name}
use Rattle.pim_blif.specs.Rows.{row_at}
use Rattle.pim_blif.specs.Covers.{CoverText, open_cover, is_one}
use Rattle.pim_blif.specs.Netlists.{names_of, inputs_of, outputs_of}

-- this fault, where a test passes
abbrev pub fault_if : Bool → BlifFault → Option BlifFault
fault_if test fault = if test then Some fault else None

-- a directive that is not supported, or not where it stands, told by the label of its first 4,096 bytes
abbrev pub unsupported : ℕ → List ℕ → BlifFault
unsupported line word = faults.Unsupported line (label (take MAX_NAME word))

-- a name has at most 4,096 bytes, and there are at most 1,048,576 signals
abbrev pub name_fault : List (List ℕ) → List ℕ → Option BlifFault
name_fault names name =
    option_or (fault_if (nat_lt MAX_NAME (length name)) (faults.TooLarge kinds.Name))
    (fault_if (not (is_known names name) && nat_le MAX_SIGNALS (length names)) (faults.TooLarge kinds.Signals))

-- whether a name is one of these
abbrev pub is_among : List (List ℕ) → List ℕ → Bool
is_among names name = list_any (λ n. bytes_eq n name) names

-- words from left to right as inputs, where these names and these inputs came before
abbrev pub inputs_fault : ℕ → List (List ℕ) → List (List ℕ) → List (List ℕ) → Option BlifFault
inputs_fault line names inputs [] = None
inputs_fault line names inputs (word ∷ words) =
    option_or (option_or (name_fault names word) (fault_if (is_among inputs word) (faults.TwiceInput line)))
    (inputs_fault line (with_name names word) (inputs ++ word ∷ []) words)

-- words from left to right as outputs, where these names and so many outputs came before; there are at most 1,048,576
abbrev pub outputs_fault : List (List ℕ) → ℕ → List (List ℕ) → Option BlifFault
outputs_fault names count [] = None
outputs_fault names count (word ∷ words) =
    option_or (option_or (name_fault names word) (fault_if (nat_le MAX_OUTPUTS count) (faults.TooLarge kinds.Outputs)))
    (outputs_fault (with_name names word) (count + 1) words)

-- words from left to right as names of a cover
abbrev pub names_fault : List (List ℕ) → List (List ℕ) → Option BlifFault
names_fault names [] = None
names_fault names (word ∷ words) = option_or (name_fault names word) (names_fault (with_name names word) words)

-- a cover has a name at least, that of the signal that it drives
abbrev pub cover_fault : ℕ → List (List ℕ) → List (List ℕ) → Option BlifFault
cover_fault line names [] = Some (faults.Syntax line)
cover_fault line names (word ∷ words) = names_fault names (word ∷ words)

-- the value of the first of these rows
abbrev pub first_of : List (List (List ℕ)) → Option Bool
first_of [] = None
first_of (words ∷ rows) = Some (is_one words)

-- a row of the cover that is open, if one is
abbrev pub row_fault : ℕ → Option CoverText → List (List ℕ) → Option BlifFault
row_fault line None words = Some (faults.Syntax line)
row_fault line (Some cover) words = result_err (row_at line (length cover.columns) (first_of cover.rows) words)

-- a statement that may stand where it stands
abbrev pub standing_fault : List Statement → Statement → Option Directive → Option BlifFault
standing_fault before s None = row_fault s.line (open_cover before) s.words
standing_fault before s (Some Inputs) = inputs_fault s.line (names_of (reverse before)) (inputs_of (reverse before)) (arguments s)
standing_fault before s (Some Outputs) = outputs_fault (names_of (reverse before)) (length (outputs_of (reverse before))) (arguments s)
standing_fault before s (Some Names) = cover_fault s.line (names_of (reverse before)) (arguments s)
standing_fault before s (Some Unsupported) = Some (unsupported s.line (first_word s.words))
standing_fault before s (Some Model) = None
standing_fault before s (Some End) = None
standing_fault before s (Some PassedOver) = None

-- `.model` stands before every other statement, and behind `.end` no other statement may stand
abbrev pub placed_fault : List Statement → Statement → Option Directive → Option BlifFault
placed_fault before s (Some Model) = fault_if (nat_lt 0 (length before)) (unsupported s.line (first_word s.words))
placed_fault before s d =
    option_or (fault_if (list_any (λ s. is_end (directive s)) before) (faults.Syntax s.line)) (standing_fault before s d)

-- the fault of a statement, where these stand before it, the latest of which comes first
abbrev pub fault_of : List Statement → Statement → Option BlifFault
fault_of before s = placed_fault before s (directive s)

-- Inner: what a reader knows behind each statement, or the fault that it meets there: the fault is that of the statement, and what
-- is known in the end is the netlist of the file (proofs/Faulty.antt and proofs/Whole.antt).
use Rattle.std.specs.Prelude.{ℕ, ◌-◌, ◌==◌, List, [], ◌∷◌, ◌++◌, Bool, true, false, if◌then◌else◌, length, reverse, drop, nat_lt, nat_le, slice_index_or, Option, Some, None, option_map, Result, Ok, Err}
use Rattle.std.specs.List.{list_any}
use Rattle.std.specs.Option.{option_to_list}
use Rattle.pim_io.specs.Names.{label}
use Rattle.pim_net.specs.Covers.{CoverView}
use Rattle.pim_net.specs.Netlist.{DraftView}
use Rattle.pim_io.specs.declared.limits.TheConstants.{MAX_NAME}
use Rattle.pim_net.specs.declared.limits.TheConstants.{MAX_OUTPUTS, MAX_SIGNALS}
use Rattle.pim_net.specs.declared.kind.Kind.TheVariants as kinds
use Rattle.pim_net.specs.declared.parts.Equation.{Equation}
use Rattle.pim_blif.specs.declared.fault.BlifFault.{BlifFault}
use Rattle.pim_blif.specs.declared.fault.BlifFault.TheVariants as faults
use Rattle.pim_blif.specs.Statements.{Statement}
use Rattle.pim_blif.specs.Directives.{Directive, Model, Inputs, Outputs, Names, End, PassedOver, Unsupported, directive, directive_of, first_word, is_end}
use Rattle.pim_blif.specs.Signals.{signal_number, is_known}
use Rattle.pim_blif.specs.Rows.{RowView, row_at}
use Rattle.pim_blif.specs.Covers.{all_but_last, CoverText, open_cover, equation_of}
use Rattle.pim_blif.specs.Netlists.{names_of, inputs_of, outputs_of, draft_with}
use Rattle.pim_blif.specs.Files.{judged_net}
use Rattle.pim_blif.specs.StatementFaults.{unsupported}
use Rattle.pim_io.specs.Readings.{◌>>=◌}

-- the covers that were ended by a directive
abbrev pub ended_behind : Option Directive → Option CoverText → List CoverText → List CoverText
ended_behind None cover covers = covers
ended_behind (Some d) cover covers = covers ++ option_to_list cover

-- the covers of these statements, the latest of which comes first, without the one that is open
abbrev pub ended_covers : List Statement → List CoverText
ended_covers [] = []
ended_covers (s ∷ before) = ended_behind (directive s) (open_cover before) (ended_covers before)

-- what the statements before a statement say: the names of the signals; the inputs, the outputs and the covers that were
-- ended; the cover that is open; whether there was a statement; and whether one of them ended the model
pub record Known : Type 0 where
  pub names : List (List ℕ)
  pub draft : DraftView
  pub cover : Option Equation
  pub started : Bool
  pub ended : Bool

-- what these statements say, the latest of which comes first
abbrev pub known_from : List Statement → Known
known_from before = record {
  names = names_of (reverse before);
  draft = draft_with (names_of (reverse before)) (inputs_of (reverse before)) (outputs_of (reverse before)) (ended_covers before);
  cover = option_map (equation_of (names_of (reverse before))) (open_cover before);
  started = nat_lt 0 (length before);
  ended = list_any (λ s. is_end (directive s)) before;
}

-- the names with a further one, which has at most 4,096 bytes; there are at most 1,048,576 signals
abbrev pub named : List (List ℕ) → List ℕ → Result (List (List ℕ)) BlifFault
named names name =
    if nat_lt MAX_NAME (length name) then Err (faults.TooLarge kinds.Name)
    else (if is_known names name then Ok names
    else (if nat_le MAX_SIGNALS (length names) then Err (faults.TooLarge kinds.Signals)
    else Ok (names ++ name ∷ [])))

-- an input of a name, which is not one already
unfoldable pub with_input : ℕ → Known → List ℕ → Result Known BlifFault
with_input line k name =
    named k.names name >>= λ names.
    if list_any (λ s. s == signal_number k.names name) k.draft.inputs
    then Err (faults.TwiceInput line)
    else Ok (record k {
      names = names;
      draft = record k.draft {
        inputs = k.draft.inputs ++ signal_number k.names name ∷ [];
        input_labels = k.draft.input_labels ++ label name ∷ [];
      };
    })

-- an output of a name; there are at most 1,048,576 outputs
unfoldable pub with_output : Known → List ℕ → Result Known BlifFault
with_output k name =
    named k.names name >>= λ names.
    if nat_le MAX_OUTPUTS (length k.draft.outputs)
    then Err (faults.TooLarge kinds.Outputs)
    else Ok (record k {
      names = names;
      draft = record k.draft {
        outputs = k.draft.outputs ++ record { sig = signal_number k.names name; neg = false } ∷ [];
        output_labels = k.draft.output_labels ++ label name ∷ [];
      };
    })

-- each of these words taken up in turn, from left to right
abbrev pub each : (Known → List ℕ → Result Known BlifFault) → Known → List (List ℕ) → Result Known BlifFault
each take_up k [] = Ok k
each take_up k (word ∷ words) = take_up k word >>= λ next. each take_up next words

-- the numbers of these words from left to right, and the names with them
abbrev pub numbered : List (List ℕ) → List (List ℕ) → Result (List ℕ × List (List ℕ)) BlifFault
numbered names [] = Ok ([], names)
numbered names (word ∷ words) = do
  after ← named names word
  others ← numbered after words
  Ok (signal_number names word ∷ others.0, others.1)

-- the equation of a cover without rows, of which the last of these signals is driven by the others
abbrev pub empty_cover : List ℕ → Equation
empty_cover signals = record {
  sig = slice_index_or signals (length signals - 1) 0;
  cover = record { ins = all_but_last signals; rows = []; phase = true };
}

-- a cover of these words, which are one or more
abbrev pub with_cover : ℕ → Known → List (List ℕ) → Result Known BlifFault
with_cover line k [] = Err (faults.Syntax line)
with_cover line k (word ∷ words) =
    numbered k.names (word ∷ words) >>= λ numbers.
    Ok (record k { names = numbers.1; cover = Some (empty_cover numbers.0) })

-- the value of the first of a cover's rows
abbrev pub first_value : CoverView → Option Bool
first_value cover = if length cover.rows == 0 then None else Some cover.phase

-- an equation with one more row
abbrev pub with_row : Equation → RowView → Equation
with_row e row = record e { cover = record e.cover { rows = e.cover.rows ++ row.cells ∷ []; phase = row.value } }

-- an equation with the row of a line with these words
unfoldable pub with_row_at : ℕ → Equation → List (List ℕ) → Result Equation BlifFault
with_row_at line e words =
    row_at line (length e.cover.ins) (first_value e.cover) words >>= λ row. Ok (with_row e row)

-- a row of the open cover; there is none to which it could belong where no cover is open
abbrev pub row_of : ℕ → Known → Option Equation → List (List ℕ) → Result Known BlifFault
row_of line k None words = Err (faults.Syntax line)
row_of line k (Some e) words = with_row_at line e words >>= λ e. Ok (record k { cover = Some e })

-- a directive ends the cover that is open
abbrev pub without_cover : Known → Known
without_cover k = record k {
  draft = record k.draft { equations = k.draft.equations ++ option_to_list k.cover };
  cover = None;
  started = true;
}

-- whether a statement may stand: `.model` stands before every other statement, and behind `.end` no other may stand
abbrev pub allowed : ℕ → Known → List (List ℕ) → Option Directive → Result Known BlifFault
allowed line k words (Some Model) = if k.started then Err (unsupported line (first_word words)) else Ok k
allowed line k words d = if k.ended then Err (faults.Syntax line) else Ok k

-- what is known behind a directive that may stand
abbrev pub directed : ℕ → Known → List (List ℕ) → Directive → Result Known BlifFault
directed line k words Model = Ok k
directed line k words Inputs = each (with_input line) k (drop 1 words)
directed line k words Outputs = each with_output k (drop 1 words)
directed line k words Names = with_cover line k (drop 1 words)
directed line k words End = Ok (record k { ended = true })
directed line k words PassedOver = Ok k
directed line k words Unsupported = Err (unsupported line (first_word words))

-- what is known behind a statement that may stand
abbrev pub known_behind : ℕ → Known → List (List ℕ) → Option Directive → Result Known BlifFault
known_behind line k words None = row_of line k k.cover words
known_behind line k words (Some d) = directed line (without_cover k) words d

-- what is known behind a statement of a line with these words, or its fault
abbrev pub judged : Known → ℕ → List (List ℕ) → Result Known BlifFault
judged k line words =
    allowed line k words (directive_of (first_word words)) >>= λ k.
    known_behind line k words (directive_of (first_word words))

-- what is known behind further statements, or the fault of the first faulty one
abbrev pub known_after : Known → List Statement → Result Known BlifFault
known_after k [] = Ok k
known_after k (s ∷ rest) = judged k s.line s.words >>= λ next. known_after next rest

-- the netlist of all that is known, where there was a statement; the cover that is open ends with the file
abbrev pub outcome : Known → Result DraftView BlifFault
outcome k = if k.started then judged_net k.names (without_cover k).draft else Err (faults.Syntax 1)

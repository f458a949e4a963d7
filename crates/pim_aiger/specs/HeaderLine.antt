-- The header line of an AIGER file: its tag, and the numbers M I L O A (AIGER 20071012, "ASCII format" and
-- "Binary format").
use Rattle.std.specs.Prelude.{ℕ, ◌+◌, ◌==◌, ◌||◌, nat_eq, not, nat_lt, nat_le, List, codes, Result, Ok, Err, Bool, if◌then◌else◌}
use Rattle.std.specs.List.{starts_with}
use Rattle.std.specs.Option.{ok_or}
use Rattle.pim_io.specs.Words.{words}
use Rattle.pim_net.specs.declared.limits.TheConstants.{MAX_OUTPUTS, MAX_SIGNALS}
use Rattle.pim_net.specs.declared.kind.Kind.TheVariants as kinds
use Rattle.pim_aiger.specs.declared.fault.AigerFault.{AigerFault}
use Rattle.pim_aiger.specs.declared.fault.AigerFault.TheVariants as faults
use Rattle.pim_aiger.specs.Cursor.{Cursor}
use Rattle.pim_io.specs.Readings.{◌>>=◌}
use Rattle.pim_aiger.specs.Numbers.{HeaderView, header_numbers}
use Rattle.pim_aiger.specs.TextLines.{line_at}

-- the form of a file: text lines alone, or gates in seven-bit codes
pub data Form : Type 0 where
  Text : Form
  Binary : Form

-- the four bytes that a file of this form begins with
abbrev pub tag_of : Form → List ℕ
tag_of Text = codes "aag "
tag_of Binary = codes "aig "

-- the bytes begin with the tag of this form
abbrev pub has_tag : Form → List ℕ → Bool
has_tag form bytes = starts_with nat_eq bytes (tag_of form)

-- the bytes begin with the tag of one of the forms
abbrev pub is_aiger : List ℕ → Bool
is_aiger bytes = has_tag Text bytes || has_tag Binary bytes

-- the greatest variable may be above the variables that are in use, and in the binary form it may not
abbrev pub is_greatest : Form → ℕ → ℕ → Bool
is_greatest Text greatest used = nat_le used greatest
is_greatest Binary greatest used = greatest == used

-- the faults of a header's numbers: latches, then the greatest variable, then the limits
abbrev pub judged : Form → HeaderView → Result HeaderView AigerFault
judged form h =
    if not (h.latches == 0) then Err faults.Latches
    else (if not (is_greatest form h.greatest (h.inputs + h.gates)) then Err faults.Header
    else (if nat_le MAX_SIGNALS h.greatest then Err (faults.TooLarge kinds.Signals)
    else (if nat_lt MAX_OUTPUTS h.outputs then Err (faults.TooLarge kinds.Outputs)
    else Ok h)))

-- the header, and where its line ends; the tag stands before c
unfoldable pub header_at : Form → Cursor → Result (HeaderView × Cursor) AigerFault
header_at form c = do
  line ← line_at c
  numbers ← ok_or (header_numbers (words line.0)) faults.Header
  header ← judged form numbers
  Ok (header, line.1)

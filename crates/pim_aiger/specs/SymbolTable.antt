-- The symbol table at the end of an AIGER file, and the comments after it (AIGER 20071012, "Symbol table" and
-- "Comments"): a line `i3 name` names input 3, a line `o3 name` names output 3, a line that begins with c ends the table.
use Rattle.std.specs.Prelude.{ℕ, ◌+◌, ◌==◌, nat_lt, not, Bool, false, List, [], ◌∷◌, length, take, drop, replicate, slice_set, Option, Some, None, Result, Ok, Err, if◌then◌else◌}
use Rattle.std.specs.Option.{unwrap_or}
use Rattle.std.specs.List.{position}
use Rattle.std.specs.Fmt.{decimal}
use Rattle.pim_io.specs.Lines.{LineView, lines}
use Rattle.pim_io.specs.Names.{label}
use Rattle.pim_io.specs.Words.{number_of}
use Rattle.pim_io.specs.declared.limits.TheConstants.{MAX_NAME}
use Rattle.pim_net.specs.declared.kind.Kind.TheVariants as kinds
use Rattle.pim_aiger.specs.declared.fault.AigerFault.{AigerFault}
use Rattle.pim_aiger.specs.declared.fault.AigerFault.TheVariants as faults
use Rattle.pim_aiger.specs.Numbers.{HeaderView}
use Rattle.pim_aiger.specs.Cursor.{Cursor}
use Rattle.pim_io.specs.Readings.{◌>>=◌}
use Rattle.pim_io.specs.Lines.{text_of}

-- whether a symbol names an input or an output
pub data Port : Type 0 where
  Input : Port
  Output : Port

-- a name for an input or for an output
pub record SymbolView : Type 0 where
  pub port : Port
  pub position : ℕ
  pub name : List ℕ

-- the symbol of a text whose position is known, with the name after the space, which is not empty
abbrev pub with_position : Port → List ℕ → ℕ → Option ℕ → Option SymbolView
with_position port text space None = None
with_position port text space (Some n) =
    if nat_lt (space + 1) (length text)
    then Some (record { port = port; position = n; name = drop (space + 1) text })
    else None

-- the symbol of a text whose first space is known, with the position before it
abbrev pub with_space : Port → List ℕ → Option ℕ → Option SymbolView
with_space port text None = None
with_space port text (Some space) = with_position port text space (number_of (take space text))

-- the symbol that a line spells
abbrev pub symbol_of : List ℕ → Option SymbolView
symbol_of [] = None
symbol_of (letter ∷ text) =
    if letter == 105 then with_space Input text (position (λ b. b == 32) text)
    else (if letter == 111 then with_space Output text (position (λ b. b == 32) text)
    else None)

-- how many inputs, or outputs, there are to name
abbrev pub count_of : HeaderView → Port → ℕ
count_of header Input = header.inputs
count_of header Output = header.outputs

-- a symbol is allowed where its position is there and its name is no longer than `MAX_NAME` bytes
abbrev pub allowed : HeaderView → ℕ → Option SymbolView → Result SymbolView AigerFault
allowed header place None = Err (faults.Symbol place)
allowed header place (Some symbol) =
    if not (nat_lt symbol.position (count_of header symbol.port)) then Err (faults.Symbol place)
    else (if nat_lt MAX_NAME (length symbol.name) then Err (faults.TooLarge kinds.Name)
    else Ok symbol)

-- a line that ends the table: what follows is comment
abbrev pub is_comment : List ℕ → Bool
is_comment [] = false
is_comment (b ∷ text) = b == 99

-- the symbols of a line and of those after it; an empty line is passed over
abbrev pub with_line : HeaderView → ℕ → List ℕ → Result (List SymbolView) AigerFault → Result (List SymbolView) AigerFault
with_line header place text others =
    if is_comment text then Ok []
    else (if length text == 0 then others
    else (allowed header place (symbol_of text) >>= λ symbol. others >>= λ symbols. Ok (symbol ∷ symbols)))

-- the symbols of the lines, whose places are counted from `place`
abbrev pub symbols_of : HeaderView → ℕ → List LineView → Result (List SymbolView) AigerFault
symbols_of header place [] = Ok []
symbols_of header place (line ∷ lines) =
    with_line header (place + line.start) (text_of line) (symbols_of header place lines)

-- for each input and each output the name that a symbol gives it
pub record NamesView : Type 0 where
  pub inputs : List (Option (List ℕ))
  pub outputs : List (Option (List ℕ))

-- no names
abbrev pub no_names : HeaderView → NamesView
no_names header = record { inputs = replicate header.inputs None; outputs = replicate header.outputs None }

-- a name for a position takes the place of an earlier one
abbrev pub named : NamesView → Port → ℕ → List ℕ → NamesView
named names Input position name = record names { inputs = slice_set names.inputs position (Some name) }
named names Output position name = record names { outputs = slice_set names.outputs position (Some name) }

-- the names that symbols give; of several for one position the last one counts
abbrev pub names_after : NamesView → List SymbolView → NamesView
names_after names [] = names
names_after names (symbol ∷ symbols) = names_after (named names symbol.port symbol.position symbol.name) symbols

-- the names with those of symbols, where all these are allowed
abbrev pub then_names : NamesView → Result (List SymbolView) AigerFault → Result NamesView AigerFault
then_names names symbols = symbols >>= λ given. Ok (names_after names given)

-- the names that the rest of a file gives
unfoldable pub names_at : HeaderView → Cursor → Result NamesView AigerFault
names_at header c = then_names (no_names header) (symbols_of header c.place (lines c.rest))

-- a label for each position from k on: that of the name that was given, or else of the letter and the position
abbrev pub all_labels : ℕ → ℕ → List (Option (List ℕ)) → List (List ℕ)
all_labels letter k [] = []
all_labels letter k (name ∷ names) = label (unwrap_or name (letter ∷ decimal k)) ∷ all_labels letter (k + 1) names

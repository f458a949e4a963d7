-- The label of a port in assembly: it stands between double quotes, and a backslash and two hexadecimal digits stand for a byte.
use Rattle.std.specs.Prelude.{ℕ, ◌+◌, ◌-◌, ◌*◌, ◌/◌, ◌%◌, ◌==◌, ◌&&◌, not, nat_lt, nat_le, Bool, if◌then◌else◌, List, [], ◌∷◌, ◌++◌, length, slice_index, slice_range, codes, Option, Some, None, option_map}
use Rattle.pim_io.specs.Names.{is_label}
use Rattle.pim_io.specs.Options.{◌>>=◌}
use Rattle.pim_io.specs.Words.{is_digit}

-- the value of a hexadecimal digit, whose letters are lower case
abbrev pub hex_value : ℕ → Option ℕ
hex_value b = if is_digit b then Some (b - 48) else (if nat_le 97 b && nat_le b 102 then Some (b - 87) else None)

-- the digit of a value below 16
abbrev pub hex_digit : ℕ → ℕ
hex_digit n = if nat_lt n 10 then n + 48 else n + 87

-- a byte that stands for itself between the quotes: a printed one, but neither a quote nor a backslash
abbrev pub is_clear : ℕ → Bool
is_clear b = nat_le 32 b && nat_le b 126 && not (b == 34) && not (b == 92)

-- where a reading stands between the quotes: behind whole bytes, behind a backslash, or behind the first digit, of this value
pub data Place : Type 0 where
  Between : Place
  Escape : Place
  Half : ℕ → Place

-- the bytes that a text between quotes stands for
abbrev pub unescaped : Place → List ℕ → Option (List ℕ)
unescaped Between [] = Some []
unescaped Between (b ∷ text) =
    if b == 92 then unescaped Escape text
    else (if is_clear b then option_map (λ bytes. b ∷ bytes) (unescaped Between text) else None)
unescaped Escape [] = None
unescaped Escape (b ∷ text) = hex_value b >>= λ high. unescaped (Half high) text
unescaped (Half high) [] = None
unescaped (Half high) (b ∷ text) = hex_value b >>= λ low. option_map (λ bytes. (high * 16 + low) ∷ bytes) (unescaped Between text)

-- what stands between the quotes that a word begins and ends with
abbrev pub unquoted : List ℕ → Option (List ℕ)
unquoted word =
    if nat_le 2 (length word) && (slice_index word 0 == 34) && (slice_index word (length word - 1) == 34)
    then Some (slice_range word 1 (length word - 1)) else None

-- bytes that are a label
abbrev pub labelled : List ℕ → Option (List ℕ)
labelled bytes = if is_label bytes then Some bytes else None

-- the label that a word in quotes stands for
abbrev pub label_of : List ℕ → Option (List ℕ)
label_of word = do
  text ← unquoted word
  bytes ← unescaped Between text
  labelled bytes

-- a byte as it is written between quotes
abbrev pub escaped : ℕ → List ℕ
escaped b = if is_clear b then b ∷ [] else 92 ∷ hex_digit (b / 16) ∷ hex_digit (b % 16) ∷ []

-- bytes as they are written between quotes
abbrev pub escaped_text : List ℕ → List ℕ
escaped_text [] = []
escaped_text (b ∷ bytes) = escaped b ++ escaped_text bytes

-- a label in quotes
abbrev pub quoted : List ℕ → List ℕ
quoted label = codes "\"" ++ escaped_text label ++ codes "\""

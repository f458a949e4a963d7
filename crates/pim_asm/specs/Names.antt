-- Names that stand for cells.
use Rattle.std.specs.Prelude.{ℕ, ◌==◌, ◌&&◌, ◌||◌, nat_le, Bool, false, if◌then◌else◌, List, [], ◌∷◌, ◌++◌, length, Option, Some, None, is_some}
use Rattle.std.specs.List.{list_all}
use Rattle.std.specs.Str.{bytes_eq}
use Rattle.pim_io.specs.Words.{is_digit, number_of}

-- a letter, or the low line
abbrev pub begins_name : ℕ → Bool
begins_name b = (nat_le 97 b && nat_le b 122) || (nat_le 65 b && nat_le b 90) || (b == 95)

-- a letter, the low line or a digit
abbrev pub is_name_byte : ℕ → Bool
is_name_byte b = begins_name b || is_digit b

-- a name: a letter or the low line, then letters, low lines and digits, 64 bytes at most
abbrev pub is_name : List ℕ → Bool
is_name [] = false
is_name (b ∷ bytes) = begins_name b && nat_le (length bytes) 63 && list_all is_name_byte bytes

-- the cell of a name among these
abbrev pub cell_named : List (List ℕ × ℕ) → List ℕ → Option ℕ
cell_named [] name = None
cell_named (known ∷ names) name = if bytes_eq name known.0 then Some known.1 else cell_named names name

-- the names with one more; nothing where it is defined already
abbrev pub with_name : List (List ℕ × ℕ) → List ℕ → ℕ → Option (List (List ℕ × ℕ))
with_name names name cell = if is_some (cell_named names name) then None else Some (names ++ (name, cell) ∷ [])

-- the cell that a word stands for, where these names are defined: that of the name, or the number
abbrev pub known_cell : List (List ℕ × ℕ) → List ℕ → Option ℕ
known_cell names word = if is_name word then cell_named names word else number_of word

-- the same where every name is defined
abbrev pub any_cell : List ℕ → Option ℕ
any_cell word = if is_name word then Some 0 else number_of word

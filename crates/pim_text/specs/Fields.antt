-- The parts of a line of a program file: its fields, which single spaces separate, and the numbers that they spell.
use Rattle.std.specs.Prelude.{ℕ, ◌==◌, ◌&&◌, not, nat_lt, Bool, if◌then◌else◌, List, length, drop, take, slice_index, Option, Some, None}
use Rattle.std.specs.List.{slice_split, list_all}
use Rattle.std.specs.Str.{bytes_eq}
use Rattle.pim_io.specs.Words.{number_of}

-- the byte that separates fields
abbrev pub is_space : ℕ → Bool
is_space b = b == 32

-- the fields of a text: what stands between its spaces; two spaces side by side have an empty field between them
abbrev pub fields : List ℕ → List (List ℕ)
fields text = slice_split is_space text

-- what stands behind this front of a line
abbrev pub behind : List ℕ → List ℕ → Option (List ℕ)
behind front line = if bytes_eq (take (length front) line) front then Some (drop (length front) line) else None

-- a zero that other digits follow
abbrev pub has_leading_zero : List ℕ → Bool
has_leading_zero word = nat_lt 1 (length word) && (slice_index word 0 == 48)

-- the number below 2 ^ 32 that a word spells in decimal, without leading zeros
unfoldable pub plain_number : List ℕ → Option ℕ
plain_number word = if has_leading_zero word then None else number_of word

-- a text without this byte
abbrev pub lacks : ℕ → List ℕ → Bool
lacks c text = list_all (λ b. not (b == c)) text

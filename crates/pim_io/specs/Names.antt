-- The label of a name: what is printed for it.
use Rattle.std.specs.Prelude.{ℕ, ◌==◌, ◌||◌, ◌&&◌, ◌≤◌, ◌<◌, ◌≢◌, not, nat_lt, nat_le, Bool, if◌then◌else◌, List, map, length, All}
use Rattle.std.specs.List.{list_all}
use Rattle.pim_io.specs.declared.limits.TheConstants.{MAX_NAME}

-- a byte below 32, and the byte 127, are shown as a question mark
abbrev pub label_byte : ℕ → ℕ
label_byte b = if nat_lt b 32 || (b == 127) then 63 else b

-- the label of a name, byte by byte
abbrev pub label : List ℕ → List ℕ
label name = map label_byte name

-- a byte that a label may hold
abbrev pub IsShown : ℕ → Type 0
IsShown b = (32 ≤ b) × (b ≢ 127)

-- a label: 1 to MAX_NAME bytes, none of them below 32 and none of them 127
pub record IsLabel (bytes : List ℕ) : Type 0 where
  pub some : 0 < length bytes
  pub short : length bytes ≤ MAX_NAME
  pub shown : All IsShown bytes

-- the same as a test of a byte
abbrev pub is_shown : ℕ → Bool
is_shown b = nat_le 32 b && not (b == 127)

-- the same as a test of bytes
abbrev pub is_label : List ℕ → Bool
is_label bytes = nat_lt 0 (length bytes) && nat_le (length bytes) MAX_NAME && list_all is_shown bytes

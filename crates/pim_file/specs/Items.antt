-- The items of a binary program file, read from left to right: bytes and seven-bit numbers. A wrong item is told by the place
-- of its last byte; where the bytes end before or inside an item, they are cut off.
use Rattle.std.specs.Prelude.{ℕ, zero, suc, ◌+◌, ◌-◌, ◌&&◌, nat_le, Bool, if◌then◌else◌, List, [], ◌∷◌, take, drop, Option, Some, None, Result, Ok, Err}
use Rattle.std.specs.Str.{bytes_eq}
use Rattle.pim_io.specs.Codes.{code_of, code_at}
use Rattle.pim_io.specs.declared.codes.Code.{Code}
use Rattle.pim_io.specs.declared.codes.Code.TheVariants.{Got, Long, Short}
use Rattle.pim_io.specs.declared.limits.TheConstants.{MAX_NAME}
use Rattle.pim_io.specs.Names.{is_shown}
use Rattle.pim_io.specs.Readings.{◌>>=◌}
use Rattle.pim_file.specs.declared.fault.FileFault.{FileFault}
use Rattle.pim_file.specs.declared.fault.FileFault.TheVariants as faults

-- where a reading stands: the place of the next byte, counted from the first byte of the file, and the bytes from there on
pub record Cursor : Type 0 where
  pub place : ℕ
  pub rest : List ℕ

-- where the reading stands n bytes further on
abbrev pub further : ℕ → Cursor → Cursor
further n c = record { place = c.place + n; rest = drop n c.rest }

-- the fault of a wrong item that ends right before this place
abbrev pub wrong_before : Cursor → FileFault
wrong_before c = faults.Byte (c.place - 1)

-- what an item says, where it is right
abbrev pub allowed : {X : Type 0} → Option X → Cursor → Result (X × Cursor) FileFault
allowed (Some x) c = Ok (x, c)
allowed None c = Err (wrong_before c)

-- the byte at a place
abbrev pub byte_from : ℕ → List ℕ → Result (ℕ × Cursor) FileFault
byte_from place [] = Err faults.Truncated
byte_from place (b ∷ rest) = Ok (b, record { place = place + 1; rest = rest })

-- the next byte, whichever it is
abbrev pub byte_at : Cursor → Result (ℕ × Cursor) FileFault
byte_at c = byte_from c.place c.rest

-- a byte of a label
unfoldable pub shown_at : Cursor → Result (ℕ × Cursor) FileFault
shown_at c = byte_at c >>= λ b. allowed (if is_shown b.0 then Some b.0 else None) b.1

-- the number of a seven-bit code, in its shortest spelling alone; a code of more than five bytes, or of a number of 2 ^ 32 or
-- more, ends with the fifth byte
abbrev pub number_of_code : Cursor → Code → Result (ℕ × Cursor) FileFault
number_of_code c (Got value next) =
    if bytes_eq (take next c.rest) (code_of value) then Ok (value, further next c) else Err (wrong_before (further next c))
number_of_code c Long = Err (wrong_before (further 5 c))
number_of_code c Short = Err faults.Truncated

-- the next number
unfoldable pub number_at : Cursor → Result (ℕ × Cursor) FileFault
number_at c = number_of_code c (code_at c.rest 0)

-- a number that a label may be long
abbrev pub is_label_length : ℕ → Bool
is_label_length n = nat_le 1 n && nat_le n MAX_NAME

-- the length of a label
unfoldable pub length_at : Cursor → Result (ℕ × Cursor) FileFault
length_at c = number_at c >>= λ n. allowed (if is_label_length n.0 then Some n.0 else None) n.1

-- as many things as are told, each read where the one before it ended
unfoldable pub many : {X : Type 0} → (Cursor → Result (X × Cursor) FileFault) → ℕ → Cursor → Result (List X × Cursor) FileFault
many item zero c = Ok ([], c)
many item (suc count) c = do
  first ← item c
  others ← many item count first.1
  Ok (first.0 ∷ others.0, others.1)

-- a number, and as many things
unfoldable pub counted : {X : Type 0} → (Cursor → Result (X × Cursor) FileFault) → Cursor → Result (List X × Cursor) FileFault
counted item c = number_at c >>= λ count. many item count.0 count.1

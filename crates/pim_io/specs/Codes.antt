-- Seven-bit codes: a number written seven bits at a time, low part first, the high bit set on all bytes but the last.
use Rattle.std.specs.Prelude.{ℕ, zero, suc, ◌+◌, ◌*◌, ◌/◌, ◌%◌, ◌^◌, ◌<◌, ◌≤◌, List, [], ◌∷◌, Bool, if◌then◌else◌, length, take, drop, nat_lt, nat_le}
use Rattle.std.specs.List.{prefix_len}
use Rattle.pim_io.specs.declared.codes.Code.{Code}
use Rattle.pim_io.specs.declared.codes.Code.TheVariants.{Got, Long, Short}

-- the number that the bytes of a code say
abbrev pub code_value : List ℕ → ℕ
code_value [] = 0
code_value (b ∷ bytes) = b % 128 + 128 * code_value bytes

-- a byte that another byte of its code follows
abbrev pub is_high : ℕ → Bool
is_high b = nat_le 128 b

-- how many such bytes come first
abbrev pub high_len : List ℕ → ℕ
high_len bytes = prefix_len is_high bytes

-- the code of bytes that stand at a place and begin with so many high ones: the shortest run whose last byte is below
-- 128. It is too long if it has more than five bytes, or a value of 2 ^ 32 or more, and too short if the bytes end before.
abbrev pub code_past : List ℕ → ℕ → ℕ → Code
code_past bytes at high =
    if nat_le 5 high
    then Long
    else (if nat_lt high (length bytes)
    then (if nat_lt (code_value (take (high + 1) bytes)) (2 ^ 32)
    then Got (code_value (take (high + 1) bytes)) (at + high + 1)
    else Long)
    else Short)

-- the code that bytes begin with, where they stand at a place
abbrev pub first_code : List ℕ → ℕ → Code
first_code bytes at = code_past bytes at (high_len bytes)

-- the code at a place of the bytes
unfoldable pub code_at : List ℕ → ℕ → Code
code_at bytes at = first_code (drop at bytes) at

-- the shortest code of a number that has at most n + 1 bytes
abbrev pub code_within : ℕ → ℕ → List ℕ
code_within zero value = value ∷ []
code_within (suc n) value =
    if nat_lt value 128 then value ∷ [] else (value % 128 + 128) ∷ code_within n (value / 128)

-- the shortest code of a number below 2 ^ 32
unfoldable pub code_of : ℕ → List ℕ
code_of value = code_within 4 value

-- a code that was read ends within the bytes, and its number is below 2 ^ 32
abbrev pub EndsWithin : Code → ℕ → ℕ → Type 0
EndsWithin (Got value next) at end = (value < 2 ^ 32) × (at < next) × (next ≤ end)
EndsWithin Long at end = Unit {0}
EndsWithin Short at end = Unit {0}

-- Where a reading stands in the bytes.
use Rattle.std.specs.Prelude.{ℕ, ◌+◌, List, length, drop}

-- the place of the next byte, counted from the first byte of the file, and the bytes from there on
pub record Cursor : Type 0 where
  pub place : ℕ
  pub rest : List ℕ

-- the place where the bytes end
abbrev pub end_of : Cursor → ℕ
end_of c = c.place + length c.rest

-- where the reading stands n bytes further on
abbrev pub further : ℕ → Cursor → Cursor
further n c = record { place = c.place + n; rest = drop n c.rest }

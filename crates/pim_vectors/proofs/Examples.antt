-- Worked examples of the definitions, by computation.
use Rattle.std.proofs.Common.{◌≡◌, true, false, [], ◌∷◌, Some, None, Ok, Err, refl}
use Rattle.pim_vectors.specs.declared.fault.LinesFault.TheVariants as faults
use Rattle.pim_io.specs.Lines.{without_return}
use Rattle.pim_vectors.specs.Lines.{lines}
use Rattle.pim_vectors.specs.Next.{LinesView, next_of}
use Rattle.pim_io.specs.Lanes.{is_set, lane, column_in}
use Rattle.pim_io.specs.Bits.{bits_of, line_of}
use Rattle.pim_vectors.specs.Stages.{staged}
use Rattle.pim_vectors.specs.Tiles.{vector_of}

-- ---- lines: the bytes 10 and 13 are a newline and a carriage return, 48 and 49 are 0 and 1
three_lines : lines (49 ∷ 13 ∷ 10 ∷ 10 ∷ 48 ∷ []) ≡ (49 ∷ []) ∷ [] ∷ (48 ∷ []) ∷ []
three_lines = refl

-- a last piece stands as it is, also with a carriage return
last_piece : lines (49 ∷ 13 ∷ []) ≡ (49 ∷ 13 ∷ []) ∷ []
last_piece = refl

nothing_after_the_last_newline : lines (49 ∷ 10 ∷ []) ≡ (49 ∷ []) ∷ []
nothing_after_the_last_newline = refl

no_line : lines [] ≡ []
no_line = refl

one_return_is_dropped : without_return (49 ∷ 13 ∷ 13 ∷ []) ≡ 49 ∷ 13 ∷ []
one_return_is_dropped = refl

-- ---- the next line, of at most one byte
abbrev at_first : LinesView
at_first = record { longest = 1; given = 0; place = 0; held = [] }

first_line : next_of at_first (49 ∷ 13 ∷ 10 ∷ 48 ∷ []) ≡ Ok (Some (49 ∷ []))
unfolding next_of
first_line = refl

long_line : next_of at_first (49 ∷ 49 ∷ 10 ∷ []) ≡ Err (faults.Long 1)
unfolding next_of
long_line = refl

-- three bytes without a newline are too many, whatever follows
long_piece : next_of at_first (49 ∷ 13 ∷ 13 ∷ []) ≡ Err (faults.Long 1)
unfolding next_of
long_piece = refl

last_line : next_of at_first (49 ∷ []) ≡ Ok (Some (49 ∷ []))
unfolding next_of
last_line = refl

the_end : next_of at_first [] ≡ Ok None
unfolding next_of
the_end = refl

-- ---- near the limits
too_many : next_of (record at_first { given = 1048576 }) (49 ∷ 49 ∷ 49 ∷ []) ≡ Err faults.TooMany
unfolding next_of
too_many = refl

enough : next_of (record at_first { given = 1048576 }) [] ≡ Ok None
unfolding next_of
enough = refl

-- the newline is the last byte that may belong to a line
within_the_limit : next_of (record at_first { place = 67108862 }) (49 ∷ 10 ∷ 49 ∷ []) ≡ Ok (Some (49 ∷ []))
unfolding next_of
within_the_limit = refl

-- it is the first that may not
over_the_limit : next_of (record at_first { place = 67108863 }) (49 ∷ 10 ∷ []) ≡ Err faults.TooLong
unfolding next_of
over_the_limit = refl

-- a piece that is cut at the limit may be too long already
cut_and_long : next_of (record at_first { place = 67108861 }) (49 ∷ 49 ∷ 49 ∷ 10 ∷ []) ≡ Err (faults.Long 1)
unfolding next_of
cut_and_long = refl

-- ---- tiles
lane_of_the_second_word : lane (0 ∷ 5 ∷ []) 66 ≡ true
unfolding lane is_set
lane_of_the_second_word = refl

second_column : column_in 2 (1 ∷ 2 ∷ 3 ∷ 4 ∷ []) 1 ≡ 3 ∷ 4 ∷ []
unfolding column_in
second_column = refl

third_row : vector_of (record { columns = 2; words = 1; buffer = 4 ∷ 3 ∷ [] }) 2 ≡ true ∷ false ∷ []
unfolding vector_of column_in lane is_set
third_row = refl

-- the second byte of each of two columns has the rows from the ninth on
tenth_staged_row : staged (record { columns = 2; bytes = 4 ∷ 3 ∷ 2 ∷ 1 ∷ [] }) 9 ≡ true ∷ false ∷ []
unfolding staged is_set
tenth_staged_row = refl

bits_of_a_line : bits_of (49 ∷ 48 ∷ []) ≡ true ∷ false ∷ []
bits_of_a_line = refl

line_of_bits : line_of (false ∷ true ∷ []) ≡ 48 ∷ 49 ∷ []
line_of_bits = refl

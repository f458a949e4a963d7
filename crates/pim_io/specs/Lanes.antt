-- Lanes: the bits of a list of words, 64 to a word, and columns of words that stand one after another in one list.
use Rattle.std.specs.Prelude.{ℕ, ◌*◌, ◌/◌, ◌%◌, ◌==◌, Bool, List, ◌++◌, length, take, drop, slice_index}
use Rattle.std.specs.Int.{bit_at}

-- bit i of a word is one
unfoldable pub is_set : ℕ → ℕ → Bool
is_set n i = bit_at n i == 1

-- lane r of the words is bit r mod 64 of word r / 64, and false past them
unfoldable pub lane : List ℕ → ℕ → Bool
lane words r = is_set (slice_index words (r / 64)) (r % 64)

-- column c of columns of so many words
unfoldable pub column_in : ℕ → List ℕ → ℕ → List ℕ
column_in words buffer c = take words (drop (c * words) buffer)

-- the list with these words from a place on, where it has them; it stays as long
unfoldable pub with_words : List ℕ → ℕ → List ℕ → List ℕ
with_words buffer start words =
    take (length buffer) (take start buffer ++ (words ++ drop (length words) (drop start buffer)))

-- Worked examples of the definitions, by computation.
use Rattle.std.proofs.Common.{◌≡◌, ℕ, [], ◌∷◌, true, false, Some, None, Result, Err, refl, arith}
use Rattle.pim_io.specs.declared.codes.Code.TheVariants.{Got, Long, Short}
use Rattle.pim_io.specs.Codes.{code_of, code_at}
use Rattle.pim_io.specs.Lines.{lines}
use Rattle.pim_io.specs.Names.{label}
use Rattle.pim_io.specs.Outside.{Wrote, with_pieces}
use Rattle.pim_io.specs.Readings.{◌>>=◌}
use Rattle.pim_io.specs.Words.{words, number_of}

-- two lines end in a newline, and the last doesn't
three_lines : lines (97 ∷ 98 ∷ 10 ∷ 10 ∷ 99 ∷ []) ≡ record { number = 1; start = 0; text = 97 ∷ 98 ∷ []; ended = true } ∷ record { number = 2; start = 3; text = []; ended = true } ∷ record { number = 3; start = 4; text = 99 ∷ []; ended = false } ∷ []
three_lines = refl

-- nothing after the last newline is no line
one_line : lines (97 ∷ 10 ∷ []) ≡ record { number = 1; start = 0; text = 97 ∷ []; ended = true } ∷ []
one_line = refl

no_line : lines [] ≡ []
no_line = refl

-- blanks of each kind, also at both ends
two_words : words (32 ∷ 97 ∷ 9 ∷ 13 ∷ 98 ∷ 99 ∷ 13 ∷ []) ≡ (97 ∷ []) ∷ (98 ∷ 99 ∷ []) ∷ []
two_words = refl

no_word : words (32 ∷ 9 ∷ 13 ∷ []) ≡ []
no_word = refl

leading_zeros : number_of (48 ∷ 48 ∷ 55 ∷ []) ≡ Some 7
unfolding number_of
leading_zeros = refl

greatest : number_of (52 ∷ 50 ∷ 57 ∷ 52 ∷ 57 ∷ 54 ∷ 55 ∷ 50 ∷ 57 ∷ 53 ∷ []) ≡ Some 4294967295
unfolding number_of
greatest = refl

too_great : number_of (52 ∷ 50 ∷ 57 ∷ 52 ∷ 57 ∷ 54 ∷ 55 ∷ 50 ∷ 57 ∷ 54 ∷ []) ≡ None
unfolding number_of
too_great = refl

eleven_digits : number_of (48 ∷ 48 ∷ 48 ∷ 48 ∷ 48 ∷ 48 ∷ 48 ∷ 48 ∷ 48 ∷ 48 ∷ 49 ∷ []) ≡ None
unfolding number_of
eleven_digits = refl

no_digit : number_of (49 ∷ 120 ∷ []) ≡ None
unfolding number_of
no_digit = refl

shown : label (97 ∷ 9 ∷ 127 ∷ 200 ∷ []) ≡ 97 ∷ 63 ∷ 63 ∷ 200 ∷ []
shown = refl

code_300 : code_of 300 ≡ 172 ∷ 2 ∷ []
unfolding code_of
code_300 = refl

longest_code : code_of 4294967295 ≡ 255 ∷ 255 ∷ 255 ∷ 255 ∷ 15 ∷ []
unfolding code_of
longest_code = refl

longer_spelling : code_at (7 ∷ 130 ∷ 0 ∷ 9 ∷ []) 1 ≡ Got 2 3
unfolding code_at
longer_spelling = refl

cut_short : code_at (128 ∷ []) 0 ≡ Short
unfolding code_at
cut_short = refl

six_bytes : code_at (128 ∷ 128 ∷ 128 ∷ 128 ∷ 128 ∷ 1 ∷ []) 0 ≡ Long
unfolding code_at
six_bytes = refl

past_32_bits : code_at (255 ∷ 255 ∷ 255 ∷ 255 ∷ 31 ∷ []) 0 ≡ Long
unfolding code_at
past_32_bits = refl

-- pieces are written one behind another
pieces_stand_in_order : with_pieces [] ((1 ∷ 2 ∷ []) ∷ [] ∷ (3 ∷ []) ∷ []) ≡ 1 ∷ 2 ∷ 3 ∷ []
pieces_stand_in_order = refl

-- a sink that took two of three bytes and then failed
two_were_taken : Wrote {A = ℕ} {E = ℕ} (Err 0) (Some (7 ∷ [])) (Some (7 ∷ 1 ∷ 2 ∷ [])) 4 5 (1 ∷ 2 ∷ 3 ∷ [])
two_were_taken = (refl, omega arith)

-- the first fault stands
the_first_fault_stands : (f : ℕ → Result ℕ ℕ) → (Err 1 >>= f) ≡ Err 1
the_first_fault_stands f = refl

-- How a line is joined to a statement, and how many words it has.
use Rattle.std.proofs.Common.{◌≡◌, ℕ, ◌+◌, ◌-◌, ◌*◌, ◌≤◌, Bool, true, false, List, [], ◌∷◌, ◌++◌, length, Option, Some, None, refl, ap, arith, cond, take, length-append}
use Rattle.std.specs.Option.{MatchOption, unwrap_or, option_map}
use Rattle.std.proofs.lemmas.List.{length-take}
use Rattle.std.specs.List.{before_first, position_or_len, suffix_len}
use Rattle.pim_io.specs.Lines.{LineView}
use Rattle.pim_io.specs.Words.{is_blank, close, words_after, words}
use Rattle.pim_blif.specs.Statements.{Statement, is_hash, content, goes_on, words_of, stated, statements_after}

-- a statement that was begun in a line, if one was, with its words so far
abbrev pub begun_in : Option ℕ → List (List ℕ) → Option Statement
begun_in line words = option_map (λ (number : ℕ). record { line = number; words = words }) line

-- the statements of lines, where words stand before them in a line, if one was begun
pub joins : (begun : Option ℕ) (before : List (List ℕ)) (line : LineView) (rest : List LineView) → MatchOption begun (before ≡ []) (λ _. Unit {0}) → statements_after (begun_in begun before) (line ∷ rest) ≡ cond (goes_on line.text) (statements_after (begun_in (Some (unwrap_or begun line.number)) (before ++ words_of line.text)) rest) (stated (unwrap_or begun line.number) (before ++ words_of line.text) (statements_after None rest))
joins None before line rest fresh = rw fresh refl
joins (Some number) before line rest fresh = refl

-- a word and the byte after it are two bytes at least
words_after_few : (run text : List ℕ) → 2 * length (words_after run text) ≤ length run + length text + 1
words_after_few [] [] = omega arith
words_after_few (b ∷ run) [] = omega arith
words_after_few [] (c ∷ text) =
    elim (is_blank c) as (λ v. 2 * length (cond v (close [] (words_after [] text)) (words_after ([] ++ c ∷ []) text)) ≤ 0 + length (c ∷ text) + 1) [ true ↦ omega (arith, words_after_few [] text) | false ↦ omega (arith, words_after_few (c ∷ []) text) ]
words_after_few (b ∷ run) (c ∷ text) =
    elim (is_blank c) as (λ v. 2 * length (cond v (close (b ∷ run) (words_after [] text)) (words_after ((b ∷ run) ++ c ∷ []) text)) ≤ length (b ∷ run) + length (c ∷ text) + 1) [ true ↦ omega (arith, words_after_few [] text) | false ↦ omega (arith, words_after_few ((b ∷ run) ++ c ∷ []) text, length-append (b ∷ run) (c ∷ [])) ]

words_few : (text : List ℕ) → 2 * length (words text) ≤ length text + 1
words_few text = omega (arith, words_after_few [] text)

-- a line has at most half as many words as bytes, its newline counted
pub words_of_few : (text : List ℕ) → 2 * length (words_of text) ≤ length text + 1
words_of_few text =
    omega (arith, words_few (cond (goes_on text) (take (length (content text) - 1) (content text)) (content text)), shorter (goes_on text) (length (content text) - 1) (content text), length-take (length (before_first is_hash text) - suffix_len is_blank (before_first is_hash text)) (before_first is_hash text), length-take (position_or_len is_hash text) text)
  where
    shorter : (joins : Bool) (n : ℕ) (text : List ℕ) → length (cond joins (take n text) text) ≤ length text
    shorter true n text = omega (arith, length-take n text)
    shorter false n text = omega arith

-- so many words are there once a line is joined
pub joined_few : (before after : List (List ℕ)) (line : List ℕ) → after ≡ before ++ words_of line → 2 * length after ≤ 2 * length before + length line + 1
joined_few before after line e = omega (arith, words_of_few line, ap length e, length-append before (words_of line))

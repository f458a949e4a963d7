-- Where the first newline cuts bytes into their first line and the others.
use Rattle.std.proofs.Common.{◌≡◌, ℕ, ◌+◌, ◌<◌, List, [], ◌∷◌, ◌++◌, true, false, length, refl, ap, sym, ◌∙◌, arith, get_or, take, drop, suc}
use Rattle.std.proofs.lemmas.List.{append-nil, append_assoc, take-append-drop, drop_more, get_or-take, length-take-le}
use Rattle.pim_io.specs.Lines.{last_line, is_newline, lines_after}

-- bytes that are no newlines belong to the line
pub lines_after-append : (number start : ℕ) (text run bytes : List ℕ) → ((k : ℕ) → k < length run → is_newline (get_or run k 0) ≡ false) → lines_after number start text (run ++ bytes) ≡ lines_after number start (text ++ run) bytes
lines_after-append number start text [] bytes h = rw append-nil
lines_after-append number start text (b ∷ run) bytes h =
    let first : is_newline b ≡ false = h 0 (omega arith) in
    let rest = lines_after-append number start (text ++ b ∷ []) run bytes (λ k l. h (suc k) (omega arith)) in
    rw first (rest ∙ ap (λ t. lines_after number start t bytes) (append_assoc text (b ∷ []) run))

-- the first line, where there is a newline
pub lines_after-cut : (number start : ℕ) (bytes : List ℕ) (n : ℕ) → n < length bytes → ((k : ℕ) → k < n → is_newline (get_or bytes k 0) ≡ false) → is_newline (get_or bytes n 0) ≡ true → lines_after number start [] bytes ≡ record { number = number; start = start; text = take n bytes; ended = true } ∷ lines_after (number + 1) (start + n + 1) [] (drop (n + 1) bytes)
lines_after-cut number start bytes n l before found =
    let count : length (take n bytes) ≡ n = length-take-le n bytes (omega arith) in
    let run = lines_after-append number start [] (take n bytes) (drop n bytes) (λ k h. let h' : k < n = omega arith in ap is_newline (get_or-take n bytes k 0 h') ∙ before k h') in
    let whole = ap (λ b. lines_after number start [] b) (take-append-drop n bytes) in
    let next = ap (λ b. lines_after number start (take n bytes) b) (drop_more bytes n 0 l) in
    sym whole ∙ run ∙ next ∙ rw (found, count) refl

-- the only line, where there is none
pub lines_after-last : (number start : ℕ) (bytes : List ℕ) → ((k : ℕ) → k < length bytes → is_newline (get_or bytes k 0) ≡ false) → lines_after number start [] bytes ≡ last_line number start bytes
lines_after-last number start bytes before =
    ap (λ b. lines_after number start [] b) (sym (append-nil bytes)) ∙ lines_after-append number start [] bytes [] before

-- a last line that is not empty stands
pub last_line-some : (number start : ℕ) (text : List ℕ) → 0 < length text → last_line number start text ≡ record { number = number; start = start; text = text; ended = false } ∷ []
last_line-some number start [] h = absurd (omega arith)
last_line-some number start (b ∷ text) h = refl

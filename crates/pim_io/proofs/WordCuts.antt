-- Where blanks cut a text into its first word and the others.
use Rattle.std.proofs.Common.{◌≡◌, ℕ, ◌<◌, ◌≤◌, ◌-◌, List, [], ◌∷◌, ◌++◌, true, false, length, refl, ap, sym, ◌∙◌, arith, get_or, take, drop, zero, suc}
use Rattle.std.proofs.lemmas.Bool.{false≢true}
use Rattle.std.proofs.lemmas.List.{append-nil, append_assoc, take-append-drop, get_or-drop, length-drop, get_or-take, length-take-le}
use Rattle.pim_io.specs.Words.{is_blank, close, words_after, words}

-- bytes that are no blanks belong to the run
pub words_after-append : (run more text : List ℕ) → ((k : ℕ) → k < length more → is_blank (get_or more k 0) ≡ false) → words_after run (more ++ text) ≡ words_after (run ++ more) text
words_after-append run [] text h = rw append-nil
words_after-append run (b ∷ more) text h =
    let first : is_blank b ≡ false = h 0 (omega arith) in
    let rest = words_after-append (run ++ b ∷ []) more text (λ k l. h (suc k) (omega arith)) in
    rw first (rest ∙ ap (λ t. words_after t text) (append_assoc run (b ∷ []) more))

-- blanks before a text change no word
pub words-append_blanks : (blanks text : List ℕ) → ((k : ℕ) → k < length blanks → is_blank (get_or blanks k 0) ≡ true) → words (blanks ++ text) ≡ words text
words-append_blanks [] text h = refl
words-append_blanks (b ∷ blanks) text h =
    let first : is_blank b ≡ true = h 0 (omega arith) in
    let rest = words-append_blanks blanks text (λ k l. h (suc k) (omega arith)) in
    rw first rest

-- the blanks before a text may be cut off
pub words-drop : (text : List ℕ) (n : ℕ) → n ≤ length text → ((k : ℕ) → k < n → is_blank (get_or text k 0) ≡ true) → words text ≡ words (drop n text)
words-drop text n l before =
    let count : length (take n text) ≡ n = length-take-le n text l in
    let skipped = words-append_blanks (take n text) (drop n text) (λ k h. let h' : k < n = omega arith in ap is_blank (get_or-take n text k 0 h') ∙ before k h') in
    ap words (sym (take-append-drop n text)) ∙ skipped

-- a run that a blank or the end follows is closed
pub words_after-close : (run text : List ℕ) → (0 < length text → is_blank (get_or text 0 0) ≡ true) → words_after run text ≡ close run (words text)
words_after-close run [] h = refl
words_after-close run (b ∷ text) h = let first : is_blank b ≡ true = h (omega arith) in rw first refl

-- the first word, where the text begins with one
pub words-cut : (text : List ℕ) (n : ℕ) → n ≤ length text → ((k : ℕ) → k < n → is_blank (get_or text k 0) ≡ false) → (n < length text → is_blank (get_or text n 0) ≡ true) → words text ≡ close (take n text) (words (drop n text))
words-cut text n l before found =
    let count : length (take n text) ≡ n = length-take-le n text l in
    let run = words_after-append [] (take n text) (drop n text) (λ k h. let h' : k < n = omega arith in ap is_blank (get_or-take n text k 0 h') ∙ before k h') in
    let closed = words_after-close (take n text) (drop n text) (λ h. ap is_blank (get_or-drop n text 0 0 ∙ ap (λ k. get_or text k 0) (omega arith)) ∙ found (omega (arith, length-drop n text))) in
    ap words (sym (take-append-drop n text)) ∙ run ∙ closed

-- a run that is not empty stands as a word
pub close-some : (run : List ℕ) (words : List (List ℕ)) → 0 < length run → close run words ≡ run ∷ words
close-some [] words h = absurd (omega arith)
close-some (b ∷ run) words h = refl

-- a text that begins with no blank, and whose first run is empty, is empty
pub empty_run : (text : List ℕ) (n : ℕ) → (0 < length text → is_blank (get_or text 0 0) ≡ false) → (n < length text → is_blank (get_or text n 0) ≡ true) → length (take n text) ≡ 0 → text ≡ []
empty_run [] n some found h = refl
empty_run (b ∷ text) zero some found h =
    let no : is_blank b ≡ false = some (omega arith) in
    let yes : is_blank b ≡ true = found (omega arith) in
    absurd (false≢true (sym no ∙ yes))
empty_run (b ∷ text) (suc n) some found h = absurd (omega arith)

-- what a text begins with once its blanks are cut off
pub first_byte : (text rest : List ℕ) (n : ℕ) → rest ≡ drop n text → (n < length text → is_blank (get_or text n 0) ≡ false) → 0 < length rest → is_blank (get_or rest 0 0) ≡ false
first_byte text rest n e found h =
    let count : length rest ≡ length text - n = ap length e ∙ length-drop n text in
    let at : get_or rest 0 0 ≡ get_or text n 0 = ap (λ (r : List ℕ). get_or r 0 0) e ∙ get_or-drop n text 0 0 ∙ ap (λ (k : ℕ). get_or text k 0) (omega arith) in
    ap is_blank at ∙ found (omega arith)

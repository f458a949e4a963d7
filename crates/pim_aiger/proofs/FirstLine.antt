-- The first line of bytes: it begins where they begin, and with its newline it is no longer than they are.
use Rattle.std.proofs.Common.{◌≡◌, ℕ, suc, ◌+◌, ◌≤◌, Bool, true, false, cond, List, [], ◌∷◌, ◌++◌, length, drop, arith, ap, sym, subst, refl}
use Rattle.std.proofs.lemmas.List.{length-append, length-drop}
use Rattle.pim_io.specs.Lines.{LineView, ScanView, is_newline, last_line, lines_after, lines_left, after_line}

first_is : (x y : LineView) (xs ys : List LineView) → x ∷ xs ≡ y ∷ ys → x ≡ y
first_is x y xs ys e = cc

last_starts : (number start : ℕ) (text : List ℕ) (line : LineView) (others : List LineView) → last_line number start text ≡ line ∷ others → line.start ≡ start
last_starts number start [] line others e = absurd cc
last_starts number start (b ∷ text) line others e = sym (ap (λ (x : LineView). x.start) (first_is _ _ _ _ e))

-- a fact of the first line, where a test says whether it is this one
picked : (P : LineView → Type 0) (t : Bool) (here line : LineView) (xs ys others : List LineView) → cond t (here ∷ xs) ys ≡ line ∷ others → P here → (ys ≡ line ∷ others → P line) → P line
picked P true here line xs ys others e p q = subst P (first_is _ _ _ _ e) p
picked P false here line xs ys others e p q = q e

-- how many bytes a line takes, with its newline
abbrev pub line_size : LineView → ℕ
line_size line = length line.text + cond line.ended 1 0

last_is_whole : (number start : ℕ) (text : List ℕ) (line : LineView) (others : List LineView) → last_line number start text ≡ line ∷ others → line_size line ≤ length text
last_is_whole number start [] line others e = absurd cc
last_is_whole number start (b ∷ text) line others e = subst (λ (x : LineView). line_size x ≤ suc (length text)) (first_is _ _ _ _ e) (omega arith)

pub first_line_within : (number start : ℕ) (text bytes : List ℕ) (line : LineView) (others : List LineView) → lines_after number start text bytes ≡ line ∷ others → line_size line ≤ length text + length bytes
first_line_within number start text [] line others e = omega (arith, last_is_whole number start text line others e)
first_line_within number start text (b ∷ bytes) line others e =
    picked (λ x. line_size x ≤ length text + suc (length bytes)) (is_newline b) (record { number = number; start = start; text = text; ended = true }) line _ _ others e (omega arith) (λ e'. omega (arith, first_line_within number start (text ++ b ∷ []) bytes line others e', length-append text (b ∷ [])))

pub first_line_fits : (number start : ℕ) (text bytes : List ℕ) (line : LineView) (others : List LineView) → lines_after number start text bytes ≡ line ∷ others → line.ended ≡ true → length line.text + 1 ≤ length text + length bytes
first_line_fits number start text bytes line others e h =
    let within = first_line_within number start text bytes line others e in
    rw h at within

pub first_line_starts : (number start : ℕ) (text bytes : List ℕ) (line : LineView) (others : List LineView) → lines_after number start text bytes ≡ line ∷ others → line.start ≡ start
first_line_starts number start text [] line others e = last_starts number start text line others e
first_line_starts number start text (b ∷ bytes) line others e =
    picked (λ x. x.start ≡ start) (is_newline b) (record { number = number; start = start; text = text; ended = true }) line _ _ others e refl (λ e'. first_line_starts number start (text ++ b ∷ []) bytes line others e')

-- a scan stays within a bound on the place where it stands and on what is left
pub stays_within : (place bound : ℕ) (scan next : ScanView) (line : LineView) → place + scan.start + length scan.rest ≤ bound → lines_left scan ≡ line ∷ lines_left next → next ≡ after_line scan line → place + next.start + length next.rest ≤ bound
stays_within place bound scan next line within left is_next =
    let fits : line_size line ≤ length scan.rest = omega (arith, first_line_within scan.number scan.start [] scan.rest line (lines_left next) left) in
    rw is_next (after_within line.ended fits)
  where
    after_within : (ended : Bool) → length line.text + cond ended 1 0 ≤ length scan.rest → place + (scan.start + length line.text + cond ended 1 0) + length (cond ended (drop (length line.text + 1) scan.rest) []) ≤ bound
    after_within true fits = omega (arith, length-drop (length line.text + 1) scan.rest)
    after_within false fits = omega arith

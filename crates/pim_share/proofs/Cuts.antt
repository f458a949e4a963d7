-- Where a file is cut, and how long the pieces that are programs are.
use Rattle.std.proofs.Common.{◌≡◌, ◌∙◌, ◌+◌, ◌*◌, ◌-◌, ◌≤◌, ◌++◌, ◌∷◌, ◌&&◌, ℕ, Bool, List, [], length, drop, refl, sym, ap, subst, false, true, arith, codes}
use Rattle.std.specs.Prelude.{Err, Ok, Result, if◌then◌else◌, decimal, slice_range}
use Rattle.std.proofs.lemmas.List.{length-append, length-drop}
use Rattle.std.proofs.lemmas.List.Sums.{sum_by-append, sum_by-cons}
use Rattle.std.specs.Str.{bytes_eq}
use Rattle.pim_io.specs.Lines.{LineView, ScanView, after_line, is_newline, lines_after, lines_left}
use Rattle.pim_io.specs.Readings.{◌>>=◌}
use Rattle.pim_isa.specs.declared.port.Port.{Port}
use Rattle.pim_isa.specs.declared.target.Target.{Target}
use Rattle.pim_isa.specs.declared.target.Target.TheVariants.{Magic, Plim}
use Rattle.pim_isa.specs.Programs.{ProgramView}
use Rattle.pim_file.specs.Text.{head_text, instrs_text, text as text_of}
use Rattle.pim_text.specs.Text.{counted_text, port_text, ports_text, target_word}
use Rattle.pim_share.specs.Pieces.{behind, is_end, parts_after, parts_of, pieces, pieces_from, ports_in_all, with_part}
use Rattle.pim_share.specs.declared.fault.ManyFault.{ManyFault}

-- the first line begins where the lines do, and lies within the bytes
pub record IsFirst (start size : ℕ) (line : LineView) : Type 0 where
  pub begins : line.start ≡ start
  pub within : length line.text + (if line.ended then 1 else 0) ≤ size

pub first_line : (bytes text : List ℕ) (number start : ℕ) (line : LineView) (others : List LineView) → lines_after number start text bytes ≡ line ∷ others
    → IsFirst start (length text + length bytes) line
first_line [] [] number start line others e = cc
first_line [] (b ∷ text) number start line others e =
    let is : record { number = number; start = start; text = b ∷ text; ended = false } ≡ line = cc in
    subst (IsFirst start (length (b ∷ text) + 0)) is (record { begins = refl; within = omega arith })
first_line (b ∷ bytes) text number start line others e = go (is_newline b) refl (λ f. first_line bytes (text ++ b ∷ []) number start line others f)
  where
    go : (t : Bool) → is_newline b ≡ t
        → (lines_after number start (text ++ b ∷ []) bytes ≡ line ∷ others → IsFirst start (length (text ++ b ∷ []) + length bytes) line)
        → IsFirst start (length text + length (b ∷ bytes)) line
    go false is rest =
        let other : lines_after number start (text ++ b ∷ []) bytes ≡ line ∷ others =
        sym (ap (λ (t : Bool). if t then (let l : LineView = record { number = number; start = start; text = text; ended = true } in l) ∷ lines_after (number + 1) (start + length text + 1) [] bytes
        else lines_after number start (text ++ b ∷ []) bytes) is) ∙ e in
        let first = rest other in
        let long = length-append text (b ∷ []) in
        record { begins = first.begins; within = omega (arith, first.within, long) }
    go true is rest =
        let here : (let l : LineView = record { number = number; start = start; text = text; ended = true } in l) ∷ lines_after (number + 1) (start + length text + 1) [] bytes ≡ line ∷ others =
        sym (ap (λ (t : Bool). if t then (let l : LineView = record { number = number; start = start; text = text; ended = true } in l) ∷ lines_after (number + 1) (start + length text + 1) [] bytes
        else lines_after number start (text ++ b ∷ []) bytes) is) ∙ e in
        let same : record { number = number; start = start; text = text; ended = true } ≡ line = cc in
        subst (IsFirst start (length text + length (b ∷ bytes))) same (record { begins = refl; within = omega arith })

-- what the next line of a scan leaves
pub record IsAhead (size : ℕ) (scan next : ScanView) (line : LineView) : Type 0 where
  pub begins : line.start ≡ scan.start
  pub within : next.start + length next.rest ≤ size
  pub later : scan.start ≤ next.start
  pub cut : line.ended ≡ true → next.start ≡ behind line

pub ahead : (size : ℕ) (scan next : ScanView) (line : LineView) → lines_left scan ≡ line ∷ lines_left next → next ≡ after_line scan line
    → scan.start + length scan.rest ≤ size → IsAhead size scan next line
ahead size scan next line split after room =
    let first = first_line scan.rest [] scan.number scan.start line (lines_left next) split in
    subst (λ (n : ScanView). IsAhead size scan n line) (sym after) (go line.ended refl first)
  where
    go : (t : Bool) → line.ended ≡ t → IsFirst scan.start (0 + length scan.rest) line → IsAhead size scan (after_line scan line) line
    go true is first =
        let within : length line.text + 1 ≤ 0 + length scan.rest = subst (λ (t : Bool). length line.text + (if t then 1 else 0) ≤ 0 + length scan.rest) is first.within in
        let rest : (after_line scan line).rest ≡ drop (length line.text + 1) scan.rest = ap (λ (t : Bool). if t then drop (length line.text + 1) scan.rest else []) is in
        let start : (after_line scan line).start ≡ scan.start + length line.text + 1 = ap (λ (t : Bool). scan.start + length line.text + (if t then 1 else 0)) is in
        let long : length (after_line scan line).rest ≡ length scan.rest - (length line.text + 1) = ap length rest ∙ length-drop (length line.text + 1) scan.rest in
        record { begins = first.begins; within = omega (arith, within, start, long); later = omega (arith, start); cut = λ ended. omega (arith, start, first.begins) }
    go false is first =
        let within : length line.text + 0 ≤ 0 + length scan.rest = subst (λ (t : Bool). length line.text + (if t then 1 else 0) ≤ 0 + length scan.rest) is first.within in
        let rest : (after_line scan line).rest ≡ [] = ap (λ (t : Bool). if t then drop (length line.text + 1) scan.rest else []) is in
        let start : (after_line scan line).start ≡ scan.start + length line.text + 0 = ap (λ (t : Bool). scan.start + length line.text + (if t then 1 else 0)) is in
        let long : length (after_line scan line).rest ≡ 0 = ap length rest in
        record { begins = first.begins; within = omega (arith, within, start, long); later = omega (arith, start); cut = λ ended. let bad : true ≡ false = sym ended ∙ is in cc }

pub end_is : (line : LineView) → is_end line ≡ true → line.ended ≡ true
end_is line h = go line.ended refl h
  where
    go : (t : Bool) → line.ended ≡ t → (t && bytes_eq line.text (codes "end")) ≡ true → line.ended ≡ true
    go true is g = is
    go false is g = cc

-- ---- one line of a file

module _ (bytes : List ℕ) (parts : List ProgramView) (from : ℕ) (here : List LineView) (whole : parts_after parts (pieces_from from here bytes) ≡ parts_after [] (pieces bytes)) where
  module _ (line : LineView) (others : List LineView) (split : here ≡ line ∷ others) where
    at_line : parts_after parts (pieces_from from (line ∷ others) bytes) ≡ parts_after [] (pieces bytes)
    at_line = subst (λ (ls : List LineView). parts_after parts (pieces_from from ls bytes) ≡ parts_after [] (pieces bytes)) split whole

    pub no_cut : is_end line ≡ false → parts_after parts (pieces_from from others bytes) ≡ parts_after [] (pieces bytes)
    no_cut goes_on = sym (ap (λ (t : Bool). parts_after parts (if t then slice_range bytes from (behind line) ∷ pieces_from (behind line) others bytes else pieces_from from others bytes)) goes_on) ∙ at_line

    cut_here : is_end line ≡ true
        → (with_part parts (slice_range bytes from (behind line)) >>= λ more. parts_after more (pieces_from (behind line) others bytes)) ≡ parts_after [] (pieces bytes)
    cut_here is_cut = sym (ap (λ (t : Bool). parts_after parts (if t then slice_range bytes from (behind line) ∷ pieces_from (behind line) others bytes else pieces_from from others bytes)) is_cut) ∙ at_line

    pub cut_ok : (more : List ProgramView) → is_end line ≡ true → with_part parts (slice_range bytes from (behind line)) ≡ Ok more
        → parts_after more (pieces_from (behind line) others bytes) ≡ parts_after [] (pieces bytes)
    cut_ok more is_cut is = sym (ap (λ (r : Result (List ProgramView) ManyFault). r >>= λ m. parts_after m (pieces_from (behind line) others bytes)) is) ∙ cut_here is_cut

    pub cut_err : (fault : ManyFault) → is_end line ≡ true → with_part parts (slice_range bytes from (behind line)) ≡ Err fault → parts_of bytes ≡ Err fault
    unfolding parts_of
    cut_err fault is_cut is = sym (cut_here is_cut) ∙ ap (λ (r : Result (List ProgramView) ManyFault). r >>= λ m. parts_after m (pieces_from (behind line) others bytes)) is

  -- at the end of the lines
  pub at_end : here ≡ [] → parts_of bytes ≡ parts_after parts (pieces_from from [] bytes)
  unfolding parts_of
  at_end none = sym whole ∙ ap (λ (ls : List LineView). parts_after parts (pieces_from from ls bytes)) none

-- ---- lengths of texts

ports_long : (word : List ℕ) (ports : List Port) → 6 ≤ length word → 8 * length ports ≤ length (ports_text word ports)
ports_long word [] long = omega arith
ports_long word (port ∷ ports) long =
    let others = ports_long word ports long in
    let whole = length-append (port_text word port) (ports_text word ports) in
    let end = length-append (((word ++ decimal port.cell) ++ codes " ") ++ port.label) (codes "\n") in
    let label = length-append ((word ++ decimal port.cell) ++ codes " ") port.label in
    let space = length-append (word ++ decimal port.cell) (codes " ") in
    let number = length-append word (decimal port.cell) in
    omega arith

word_long : (target : Target) → 4 ≤ length (target_word target)
word_long Magic = omega arith
word_long Plim = omega arith

counted_long : (word : List ℕ) (n : ℕ) → length word + 1 ≤ length (counted_text word n)
counted_long word n =
    let end = length-append (word ++ decimal n) (codes "\n") in
    let number = length-append word (decimal n) in
    omega arith

head_long : (target : Target) (cells : ℕ) → 25 ≤ length (head_text target cells)
head_long target cells =
    let whole = length-append (codes "pim 1\ntarget " ++ target_word target) (counted_text (codes "\ncells ") cells) in
    let front = length-append (codes "pim 1\ntarget ") (target_word target) in
    let word = word_long target in
    let counted = counted_long (codes "\ncells ") cells in
    omega arith

six_pieces : (a b c d e f : List ℕ) → length (a ++ b ++ c ++ d ++ e ++ f) ≡ length a + length b + length c + length d + length e + length f
six_pieces a b c d e f = simp length-append

text_long : (p : ProgramView) → 37 + 8 * (length p.inputs + length p.outputs) ≤ length (text_of p)
text_long p =
    let whole = six_pieces (head_text p.target p.cells) (ports_text (codes "input ") p.inputs) (ports_text (codes "output ") p.outputs)
    (counted_text (codes "cycles ") (length p.instrs)) (instrs_text p.instrs) (codes "end\n") in
    let head = head_long p.target p.cells in
    let inputs = ports_long (codes "input ") p.inputs (omega arith) in
    let outputs = ports_long (codes "output ") p.outputs (omega arith) in
    let cycles = counted_long (codes "cycles ") (length p.instrs) in
    omega arith

-- one more program is as long as its piece
pub part_long : (parts more : List ProgramView) (p : ProgramView) (piece : List ℕ) → more ≡ parts ++ p ∷ [] → piece ≡ text_of p
    → 37 * length more + 8 * ports_in_all more ≤ 37 * length parts + 8 * ports_in_all parts + length piece
part_long parts more p piece is text =
    let ports : ports_in_all more ≡ ports_in_all parts + ports_in_all (p ∷ []) = ap ports_in_all is ∙ sum_by-append (λ (q : ProgramView). length q.inputs + length q.outputs) parts (p ∷ []) in
    let one : ports_in_all (p ∷ []) ≡ (length p.inputs + length p.outputs) + ports_in_all [] = sum_by-cons (λ (q : ProgramView). length q.inputs + length q.outputs) p [] in
    let none : ports_in_all [] ≡ 0 = refl in
    let long : length more ≡ length parts + 1 = ap length is ∙ length-append parts (p ∷ []) in
    let size : length piece ≡ length (text_of p) = ap length text in
    omega (arith, text_long p)

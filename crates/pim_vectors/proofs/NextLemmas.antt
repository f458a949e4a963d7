-- What the next line is, from what stands next among the bytes that were taken.
use Rattle.std.proofs.Common.{◌≡◌, ℕ, zero, suc, ◌+◌, ◌-◌, ◌<◌, ◌≤◌, Bool, true, false, ◌&&◌, eqb, ltb, List, [], ◌∷◌, ◌++◌, ◌⊎◌, length, get_or, take, drop, Option, Some, None, Ok, Err, inl, inr, refl, sym, ap, ◌∙◌, arith}
use Rattle.std.proofs.lemmas.Bool.{cases_lt, cases_Bool, lt-ltb, le-ltb}
use Rattle.std.proofs.lemmas.List.{append-nil, append_assoc, length-append, length-take, length-take-le, get_or-take, get_or_append_left, take-take, take-append-le, take_all, take-append-drop, drop-append-le, drop_all, drop_more, nil_from_length}
use Rattle.pim_io.specs.Lines.{is_newline}
use Rattle.pim_io.specs.Outside.{Told}
use Rattle.pim_io.specs.declared.limits.TheConstants.{MAX_INPUT}
use Rattle.pim_vectors.specs.declared.limits.TheConstants.{MAX_LINES}
use Rattle.pim_vectors.specs.declared.fault.LinesFault.{LinesFault}
use Rattle.pim_vectors.specs.declared.fault.LinesFault.TheVariants as faults
use Rattle.pim_vectors.specs.declared.found.Found.{Found}
use Rattle.pim_vectors.specs.declared.found.Found.TheVariants as found
use Rattle.pim_vectors.specs.declared.sizes.Sizes.{Sizes}
use Rattle.pim_io.specs.Lines.{without_return}
use Rattle.pim_vectors.specs.Lines.{last_line, lines_after, lines, line_len}
use Rattle.pim_vectors.specs.Next.{LinesView, handed, ended, judged, within_limit, next_of}
use Rattle.pim_vectors.specs.inner.Found.{found_text, whole_len, NoNewline, IsFound, IsOver}
use Rattle.pim_vectors.specs.inner.NextLine.{IsNext, IsEnd}
use Rattle.pim_vectors.proofs.Taking.{line_len-none}

-- ---- where bytes are told
pub told_map : (a b : Option (List ℕ)) (P Q : List ℕ → List ℕ → Type 0) → ((x y : List ℕ) → P x y → Q x y) → Told a b P → Told a b Q
told_map None b P Q f h = tt
told_map (Some x) None P Q f h = absurd h
told_map (Some x) (Some y) P Q f h = f x y h

pub told_both : (a b : Option (List ℕ)) (P Q : List ℕ → List ℕ → Type 0) → Told a b P → Told a b Q → Told a b (λ x y. P x y × Q x y)
told_both None b P Q h k = tt
told_both (Some x) None P Q h k = absurd h
told_both (Some x) (Some y) P Q h k = (h, k)

-- ---- the first newline
pub line_len-found : (bytes : List ℕ) (n : ℕ) → n < length bytes → NoNewline bytes n → is_newline (get_or bytes n 0) ≡ true → line_len bytes ≡ n
line_len-found [] n within none here = absurd (omega arith)
line_len-found (b ∷ bytes) zero within none here = rw here refl
line_len-found (b ∷ bytes) (suc n) within none here =
    let first : is_newline b ≡ false = none 0 (omega arith) in
    rw first (ap (λ (k : ℕ). 1 + k) (line_len-found bytes n (omega arith) (λ k small. none (suc k) (omega arith)) here) ∙ omega arith)

-- no newline stands before the first
line_len-least : (bytes : List ℕ) (n : ℕ) → n ≤ length bytes → NoNewline bytes n → n ≤ line_len bytes
line_len-least [] n within none = omega arith
line_len-least (b ∷ bytes) zero within none = omega arith
line_len-least (b ∷ bytes) (suc n) within none =
    let first : is_newline b ≡ false = none 0 (omega arith) in
    let rest : n ≤ line_len bytes = line_len-least bytes n (omega arith) (λ k small. none (suc k) (omega arith)) in
    rw first (omega arith)

-- a byte of the bytes that are held is that byte of all that may belong to lines
get_or-piece : (held n : List ℕ) (room k : ℕ) → k < length (take room held) → get_or (take room (held ++ n)) k 0 ≡ get_or held k 0
get_or-piece held n room k small =
    let both : (k < room) × (k < length held) = (omega (arith, length-take room held), omega (arith, length-take room held)) in
    get_or-take room (held ++ n) k 0 both.0 ∙ get_or_append_left held n 0 k both.1

length-piece : (held n : List ℕ) (room : ℕ) → length (take room held) ≤ length (take room (held ++ n))
length-piece held n room = omega (arith, length-take room held, length-take room (held ++ n), length-append held n)

none-piece : (held n : List ℕ) (room k : ℕ) → k ≤ length (take room held) → NoNewline held k → NoNewline (take room (held ++ n)) k
none-piece held n room k within none j small = ap is_newline (get_or-piece held n room j (omega arith)) ∙ none j small

take-piece : (held n : List ℕ) (room k : ℕ) → k ≤ length (take room held) → take k (take room (held ++ n)) ≡ take k held
take-piece held n room k within =
    take-take k room (held ++ n) (omega (arith, length-take room held)) ∙ take-append-le k held n (omega (arith, length-take room held))

-- ---- the text of a line
length-without_return : (text : List ℕ) → length text ≤ length (without_return text) + 1
length-without_return text =
    elim (cases_Bool (eqb (get_or text (length text - 1) 0) 13)) [
      | inl ends ↦ rw ends (omega (arith, length-take-le (length text - 1) text (omega arith)))
      | inr other ↦ rw other (omega arith)
    ]

-- two texts that are too long get one answer
handed-long : (v : LinesView) (x y : List ℕ) → v.longest < length x → v.longest < length y → handed v x ≡ handed v y
handed-long v x y p q = rw (lt-ltb v.longest (length x) p, lt-ltb v.longest (length y) q) refl

ended-some : (v : LinesView) (text : List ℕ) → 0 < length text → ended v text ≡ handed v text
ended-some v [] some = absurd (omega arith)
ended-some v (b ∷ text) some = refl

and_false : (b : Bool) → (b && false) ≡ false
and_false true = refl
and_false false = refl

-- ---- the three ways in which it is known what stands next
line_answer : (v : LinesView) (n : List ℕ) (k : ℕ) → k < length (within_limit v v.held) → NoNewline v.held k → is_newline (get_or v.held k 0) ≡ true →
    next_of v (v.held ++ n) ≡ handed v (without_return (take k v.held))
unfolding next_of
line_answer v n k within none here =
    let room : ℕ = MAX_INPUT - v.place in
    let piece : List ℕ = take room (v.held ++ n) in
    let small : k < length piece = omega (arith, length-piece v.held n room) in
    let at : line_len piece ≡ k = line_len-found piece k small (none-piece v.held n room k (omega arith) none) (ap is_newline (get_or-piece v.held n room k within) ∙ here) in
    rw (at, lt-ltb k (length piece) small) (ap (λ (t : List ℕ). handed v (without_return t)) (take-piece v.held n room k (omega arith)))

-- many bytes without a newline: the line is too long, whatever follows
long_answer : (v : LinesView) (n : List ℕ) (m : ℕ) → m ≡ length (within_limit v v.held) → NoNewline v.held m → v.longest + 2 ≤ m →
    next_of v (v.held ++ n) ≡ handed v (take m v.held)
unfolding next_of
long_answer v n m count none long = by_cases (cases_lt (line_len piece) (length piece))
  where
    room : ℕ
    room = MAX_INPUT - v.place

    piece : List ℕ
    piece = take room (v.held ++ n)

    enough : m ≤ length piece
    enough = omega (arith, count, length-piece v.held n room)

    least : m ≤ line_len piece
    least = line_len-least piece m enough (none-piece v.held n room m (omega (arith, count)) none)

    held : length (take m v.held) ≡ m
    held = length-take-le m v.held (omega (arith, count, length-take room v.held))

    by_cases : (line_len piece < length piece) ⊎ (length piece ≤ line_len piece) → judged v piece (length (v.held ++ n)) ≡ handed v (take m v.held)
    by_cases (inl newline) =
        let stands : length (take (line_len piece) piece) ≡ line_len piece = length-take-le (line_len piece) piece (omega arith) in
        rw (lt-ltb (line_len piece) (length piece) newline)
        (handed-long v (without_return (take (line_len piece) piece)) (take m v.held)
        (omega (arith, least, long, stands, length-without_return (take (line_len piece) piece)))
        (omega (arith, long, held)))
    by_cases (inr none_there) =
        rw (le-ltb (line_len piece) (length piece) none_there, le-ltb (length piece) (v.longest + 2) (omega (arith, enough, long)), and_false (ltb (length piece) (length (v.held ++ n))))
        (ended-some v piece (omega (arith, enough, long)) ∙ handed-long v piece (take m v.held) (omega (arith, enough, long)) (omega (arith, long, held)))

-- the end of the source: a last piece
end_answer : (v : LinesView) → length v.held ≤ MAX_INPUT - v.place → NoNewline v.held (length v.held) → next_of v (v.held ++ []) ≡ ended v v.held
unfolding next_of
end_answer v within none =
    let piece : take (MAX_INPUT - v.place) v.held ≡ v.held = take_all (MAX_INPUT - v.place) v.held within in
    rw (append-nil v.held, piece, line_len-none v.held none, le-ltb (length v.held) (length v.held) (omega arith)) refl

-- a byte over the limit
over_answer : (v : LinesView) (n : List ℕ) → IsOver v → next_of v (v.held ++ n) ≡ Err faults.TooLong
unfolding next_of
over_answer v n over =
    let room : ℕ = MAX_INPUT - v.place in
    let same : take room (v.held ++ n) ≡ take room v.held = take-append-le room v.held n (omega (arith, over.over)) in
    let count : length (take room v.held) ≡ room = length-take-le room v.held (omega (arith, over.over)) in
    let none : line_len (take room v.held) ≡ length (take room v.held) =
    line_len-none (take room v.held) (λ k small. ap is_newline (get_or-take room v.held k 0 (omega arith)) ∙ over.none k (omega arith)) in
    let more : room < length (v.held ++ n) = omega (arith, over.over, length-append v.held n) in
    rw (same, none, count, le-ltb room room (omega arith), lt-ltb room (length (v.held ++ n)) more, lt-ltb room (v.longest + 2) over.short) refl

-- ---- what is cut off
-- bytes that are no newlines belong to the line
lines_after-append : (text run bytes : List ℕ) → NoNewline run (length run) → lines_after text (run ++ bytes) ≡ lines_after (text ++ run) bytes
lines_after-append text [] bytes none = rw append-nil
lines_after-append text (b ∷ run) bytes none =
    let first : is_newline b ≡ false = none 0 (omega arith) in
    let rest = lines_after-append (text ++ b ∷ []) run bytes (λ k small. none (suc k) (omega arith)) in
    rw first (rest ∙ ap (λ (t : List ℕ). lines_after t bytes) (append_assoc text (b ∷ []) run))

lines-cut : (held n : List ℕ) (k : ℕ) → k < length held → NoNewline held k → is_newline (get_or held k 0) ≡ true →
    lines (held ++ n) ≡ without_return (take k held) ∷ lines (drop (k + 1) held ++ n)
lines-cut held n k within none here =
    let count : length (take k held) ≡ k = length-take-le k held (omega arith) in
    let split : held ++ n ≡ take k held ++ (get_or held k 0 ∷ (drop (k + 1) held ++ n)) =
    ap (λ (l : List ℕ). l ++ n) (sym (take-append-drop k held) ∙ ap (λ (l : List ℕ). take k held ++ l) (drop_more held k 0 within))
    ∙ append_assoc (take k held) (get_or held k 0 ∷ drop (k + 1) held) n in
    ap lines split
    ∙ lines_after-append [] (take k held) (get_or held k 0 ∷ (drop (k + 1) held ++ n)) (λ j small. ap is_newline (get_or-take k held j 0 (omega arith)) ∙ none j (omega arith))
    ∙ rw here refl

lines-last : (held : List ℕ) → 0 < length held → NoNewline held (length held) → lines held ≡ held ∷ []
lines-last held some none =
    ap lines (sym (append-nil held)) ∙ lines_after-append [] held [] none ∙ last held some
  where
    last : (text : List ℕ) → 0 < length text → last_line text ≡ text ∷ []
    last [] h = absurd (omega arith)
    last (b ∷ text) h = refl

line_len-append : (held n : List ℕ) (k : ℕ) → k < length held → NoNewline held k → is_newline (get_or held k 0) ≡ true → line_len (held ++ n) ≡ k
line_len-append held n k within none here =
    line_len-found (held ++ n) k (omega (arith, length-append held n))
    (λ j small. ap is_newline (get_or_append_left held n 0 j (omega arith)) ∙ none j small)
    (ap is_newline (get_or_append_left held n 0 k within) ∙ here)

-- ---- the next line
pub over_told : (v : LinesView) (a b : Option (List ℕ)) (P : List ℕ → List ℕ → Type 0) → Told a b P → IsOver v →
    Told a b (λ x y. next_of v (v.held ++ y) ≡ Err faults.TooLong)
over_told v a b P base over = told_map a b P (λ x y. next_of v (v.held ++ y) ≡ Err faults.TooLong) (λ x y h. over_answer v y over) base

-- the answer of what was found, where it is something
pub found_answer : (v : LinesView) (a b : Option (List ℕ)) (P : List ℕ → List ℕ → Type 0) (f : Found) → Told a b P → IsFound v a b f → 0 < whole_len f →
    Told a b (λ x y. next_of v (v.held ++ y) ≡ handed v (found_text v f))
found_answer v a b P (found.Line k) base is some =
    told_map a b P (λ x y. next_of v (v.held ++ y) ≡ handed v (without_return (take k v.held))) (λ x y h. line_answer v y k is.0 is.2 is.1) base
found_answer v a b P (found.Rest m) base is some =
    let Q : List ℕ → List ℕ → Type 0 = λ x y. next_of v (v.held ++ y) ≡ handed v (take m v.held) in
    elim is.2 [
      | inl long ↦ told_map a b P Q (λ x y h. long_answer v y m is.0 is.1 long) base
      | inr end ↦
          let all : take (MAX_INPUT - v.place) v.held ≡ v.held = take_all (MAX_INPUT - v.place) v.held end.1 in
          let count : m ≡ length v.held = is.0 ∙ ap length all in
          told_map a b (λ x y. y ≡ []) Q
          (λ x y none.
          ap (λ (l : List ℕ). next_of v (v.held ++ l)) none
          ∙ end_answer v end.1 (λ k small. is.1 k (omega arith))
          ∙ ended-some v v.held (omega arith)
          ∙ ap (handed v) (sym (take_all m v.held (omega arith))))
          end.0
    ]

-- where nothing was found, there is no line any more
pub found_end : (v : LinesView) (a b : Option (List ℕ)) (f : Found) → IsFound v a b f → whole_len f ≡ 0 → IsEnd v a b
found_end v a b (found.Line k) is none = absurd (omega arith)
found_end v a b (found.Rest m) is none =
    elim is.2 [
      | inl long ↦ absurd (omega arith)
      | inr end ↦
          let all : take (MAX_INPUT - v.place) v.held ≡ v.held = take_all (MAX_INPUT - v.place) v.held end.1 in
          let empty : v.held ≡ [] = nil_from_length v.held (sym (ap length all) ∙ sym is.0 ∙ none) in
          told_map a b (λ x y. y ≡ []) (λ x y. (next_of v (v.held ++ y) ≡ Ok None) × (v.held ++ y ≡ []))
          (λ x y spent. (
            ap (λ (l : List ℕ). next_of v (v.held ++ l)) spent
                ∙ end_answer v end.1 (λ k small. is.1 k (omega (arith, ap length empty)))
                ∙ ap (ended v) empty,
            ap (λ (l : List ℕ). v.held ++ l) spent ∙ append-nil v.held ∙ empty,
          ))
          end.0
    ]

-- where something was found that isn't too long, that is the next line
pub found_next : (v : LinesView) (a b : Option (List ℕ)) (P : List ℕ → List ℕ → Type 0) (f : Found) (s : Sizes) → Told a b P → IsFound v a b f →
    0 < s.whole → s.whole ≡ whole_len f → s.text ≤ s.whole → take s.text v.held ≡ found_text v f → v.given < MAX_LINES → s.text ≤ v.longest →
    handed v (take s.text v.held) ≡ Ok (Some (take s.text v.held)) → IsNext v a b s
found_next v a b P (found.Line k) s base is some whole short text more fits ok =
    let within : k < length v.held = omega (arith, length-take (MAX_INPUT - v.place) v.held, is.0) in
    record {
      short = short;
      some = some;
      within = omega (arith, is.0);
      more = more;
      answer = told_map a b (λ x y. next_of v (v.held ++ y) ≡ handed v (without_return (take k v.held))) (λ x y. next_of v (v.held ++ y) ≡ Ok (Some (take s.text v.held)))
          (λ x y h. h ∙ ap (handed v) (sym text) ∙ ok) (found_answer v a b P (found.Line k) base is (omega arith));
      whole = told_map a b P (λ x y. drop s.whole v.held ++ y ≡ drop (line_len (v.held ++ y) + 1) (v.held ++ y))
          (λ x y h.
          ap (λ (n : ℕ). drop n v.held ++ y) whole
          ∙ sym (ap (λ (n : ℕ). drop (n + 1) (v.held ++ y)) (line_len-append v.held y k within is.2 is.1) ∙ drop-append-le (k + 1) v.held y (omega arith)))
          base;
      cut = told_map a b P (λ x y. lines (v.held ++ y) ≡ take s.text v.held ∷ lines (drop s.whole v.held ++ y))
          (λ x y h.
          lines-cut v.held y k within is.2 is.1
          ∙ ap (λ (t : List ℕ). t ∷ lines (drop (k + 1) v.held ++ y)) (sym text)
          ∙ ap (λ (n : ℕ). take s.text v.held ∷ lines (drop n v.held ++ y)) (sym whole))
          base;
    }
found_next v a b P (found.Rest m) s base is some whole short text more fits ok =
    elim is.2 [
      | inl long ↦
          let within : m ≤ length v.held = omega (arith, length-take (MAX_INPUT - v.place) v.held, is.0) in
          let count : s.text ≡ m = sym (length-take-le s.text v.held (omega arith)) ∙ ap length text ∙ length-take-le m v.held within in
          absurd (omega arith)
      | inr end ↦
          let all : take (MAX_INPUT - v.place) v.held ≡ v.held = take_all (MAX_INPUT - v.place) v.held end.1 in
          let count : m ≡ length v.held = is.0 ∙ ap length all in
          let none : NoNewline v.held (length v.held) = λ k small. is.1 k (omega arith) in
          let held : take s.text v.held ≡ v.held = text ∙ take_all m v.held (omega arith) in
          let gone : drop s.whole v.held ≡ [] = drop_all s.whole v.held (omega arith) in
          record {
            short = short;
            some = some;
            within = omega (arith, is.0);
            more = more;
            answer = told_map a b (λ x y. next_of v (v.held ++ y) ≡ handed v (take m v.held)) (λ x y. next_of v (v.held ++ y) ≡ Ok (Some (take s.text v.held)))
                (λ x y h. h ∙ ap (handed v) (sym text) ∙ ok) (found_answer v a b P (found.Rest m) base is (omega arith));
            whole = told_map a b (λ x y. y ≡ []) (λ x y. drop s.whole v.held ++ y ≡ drop (line_len (v.held ++ y) + 1) (v.held ++ y))
                (λ x y spent.
                ap (λ (l : List ℕ). drop s.whole v.held ++ l) spent ∙ append-nil (drop s.whole v.held) ∙ gone
                ∙ sym (ap (λ (l : List ℕ). drop (line_len (v.held ++ l) + 1) (v.held ++ l)) spent
                ∙ ap (λ (l : List ℕ). drop (line_len l + 1) l) (append-nil v.held)
                ∙ drop_all (line_len v.held + 1) v.held (omega (arith, line_len-none v.held none))))
                end.0;
            cut = told_map a b (λ x y. y ≡ []) (λ x y. lines (v.held ++ y) ≡ take s.text v.held ∷ lines (drop s.whole v.held ++ y))
                (λ x y spent.
                ap (λ (l : List ℕ). lines (v.held ++ l)) spent ∙ ap lines (append-nil v.held) ∙ lines-last v.held (omega arith) none
                ∙ sym (ap (λ (l : List ℕ). take s.text v.held ∷ lines (drop s.whole v.held ++ l)) spent
                ∙ ap (λ (l : List ℕ). take s.text v.held ∷ lines (l ++ [])) gone ∙ ap (λ (t : List ℕ). t ∷ []) held))
                end.0;
          }
    ]

-- what was found is refused
pub found_refused : (v : LinesView) (a b : Option (List ℕ)) (P : List ℕ → List ℕ → Type 0) (f : Found) (s : Sizes) (e : LinesFault) → Told a b P → IsFound v a b f →
    0 < whole_len f → take s.text v.held ≡ found_text v f → handed v (take s.text v.held) ≡ Err e → Told a b (λ x y. next_of v (v.held ++ y) ≡ Err e)
found_refused v a b P f s e base is some text refused =
    told_map a b (λ x y. next_of v (v.held ++ y) ≡ handed v (found_text v f)) (λ x y. next_of v (v.held ++ y) ≡ Err e)
    (λ x y h. h ∙ ap (handed v) (sym text) ∙ refused) (found_answer v a b P f base is some)

-- the bytes of what was found are held
pub found_within : (v : LinesView) (a b : Option (List ℕ)) (f : Found) → IsFound v a b f → whole_len f ≤ length v.held
found_within v a b (found.Line k) is = omega (arith, is.0, length-take (MAX_INPUT - v.place) v.held)
found_within v a b (found.Rest m) is = omega (arith, is.0, length-take (MAX_INPUT - v.place) v.held)

-- how long the text is that is cut off
pub text_len : (v : LinesView) (s : Sizes) (n : ℕ) → s.text ≤ s.whole → s.whole ≡ n → n ≤ length v.held → length (take s.text v.held) ≡ s.text
text_len v s n short whole within = length-take-le s.text v.held (omega arith)

pub too_long : (v : LinesView) (a b : Option (List ℕ)) (P : List ℕ → List ℕ → Type 0) (e : LinesFault) → Told a b P → (e ≡ faults.Fault → ⊥) →
    (e ≡ faults.Fault) ⊎ (e ≡ faults.TooLong) → (e ≡ faults.TooLong → IsOver v) → Told a b (λ x y. next_of v (v.held ++ y) ≡ Err e)
too_long v a b P e base other (inl fault) over = absurd (other fault)
too_long v a b P e base other (inr long) over =
    told_map a b (λ x y. next_of v (v.held ++ y) ≡ Err faults.TooLong) (λ x y. next_of v (v.held ++ y) ≡ Err e)
    (λ x y h. h ∙ ap Err (sym long)) (over_told v a b P base (over long))

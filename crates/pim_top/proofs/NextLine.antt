-- What stands next behind the lines that were handed out, and what is said of it.
use Rattle.std.proofs.Common.{◌≡◌, ℕ, ◌+◌, ◌-◌, ◌<◌, ◌≤◌, ◌⊎◌, ◌&&◌, Bool, false, cond, leb, ltb, List, [], ◌∷◌, ◌++◌, length, take, drop, Option, None, Result, Ok, Err, inl, inr, refl, sym, ap, ◌∙◌, arith, length-take}
use Rattle.std.proofs.lemmas.Bool.{cases_lt, le-leb, le-ltb, lt-ltb}
use Rattle.std.proofs.lemmas.Bool.Decides.{nat_tests}
use Rattle.std.proofs.lemmas.List.{length-take-le, take-append-drop, take-append-le, take_all, drop_all}
use Rattle.pim_io.specs.Lines.{without_return}
use Rattle.pim_vectors.specs.Lines.{last_line, line_len, lines}
use Rattle.pim_vectors.specs.Next.{LinesView, ended, handed, next_of}
use Rattle.pim_vectors.specs.declared.fault.LinesFault.{LinesFault}
use Rattle.pim_vectors.specs.declared.fault.LinesFault.TheVariants as faults
use Rattle.pim_top.specs.Judged.{judged_within, last_piece, settled}
use Rattle.pim_io.specs.declared.limits.TheConstants.{MAX_INPUT}
use Rattle.pim_top.proofs.JudgedLines.{first-line, line_len-le, line_len-take, lines-append, lines-none, piece-none, settled-append}

-- how many bytes may still belong to lines
abbrev pub room : LinesView → ℕ
room v = MAX_INPUT - v.place

-- the bytes of a line that may be handed out, with its end: they are that line, and the next one begins behind them
pub record IsLine (v : LinesView) (left text : List ℕ) : Type 0 where
  pub line : lines (take (line_len left + 1) left) ≡ text ∷ []
  pub edge : (last_piece (take (line_len left + 1) left) ≡ []) ⊎ (drop (line_len left + 1) left ≡ [])
  pub within : length (take (line_len left + 1) left) ≤ room v

-- a line stands next
pub record FindsLine (v : LinesView) (left : List ℕ) : Type 0 where
  pub text : List ℕ
  pub more : List (List ℕ)
  pub judged : judged_within (room v) v.longest left ≡ text ∷ more
  pub answer : next_of v left ≡ handed v text
  pub line : length text ≤ v.longest → IsLine v left text

-- there are too many bytes, and no line before them
pub record FindsMore (v : LinesView) (left : List ℕ) : Type 0 where
  pub judged : judged_within (room v) v.longest left ≡ []
  pub over : room v < length left
  pub answer : next_of v left ≡ Err faults.TooLong

-- no byte is left
pub record FindsEnd (v : LinesView) (left : List ℕ) : Type 0 where
  pub none : left ≡ []
  pub answer : next_of v left ≡ Ok None

-- the last line where no newline is left, or a piece that is too long
abbrev pub FindsNext : LinesView → List ℕ → Type 0
FindsNext v left = FindsLine v left ⊎ (FindsMore v left ⊎ FindsEnd v left)

-- what is judged where all bytes are within the limit, and where more follow
judged-all : (limit width : ℕ) (left : List ℕ) → length left ≤ limit → judged_within limit width left ≡ lines left
judged-all limit width left h = ap (λ (b : Bool). cond b (lines left) (lines (settled width (take limit left)))) (le-leb (length left) limit h)

judged-front : (limit width : ℕ) (left : List ℕ) → limit < length left → judged_within limit width left ≡ lines (settled width (take limit left))
judged-front limit width left h =
    let no : leb (length left) limit ≡ false = grind (arith, nat_tests) in
    ap (λ (b : Bool). cond b (lines left) (lines (settled width (take limit left)))) no

-- ---- a newline stands in the bytes that may belong to lines
judged-line : (limit width : ℕ) (left : List ℕ) → line_len (take limit left) < length (take limit left) → (more : List (List ℕ)) × (judged_within limit width left ≡ without_return (take (line_len (take limit left)) (take limit left)) ∷ more)
judged-line limit width left small =
    let piece = take limit left in
    let k = line_len piece in
    let front = take (k + 1) piece in
    let f = first-line [] piece small in
    let whole : front ++ drop (k + 1) piece ≡ piece = take-append-drop (k + 1) piece in
    elim (cases_lt limit (length left)) [
      | inl over ↦ (
        lines (settled width (drop (k + 1) piece)),
        judged-front limit width left over
            ∙ ap (λ (p : List ℕ). lines (settled width p)) (sym whole)
            ∙ ap lines (settled-append width front (drop (k + 1) piece) f.edge)
            ∙ lines-append [] front (settled width (drop (k + 1) piece)) f.edge
            ∙ ap (λ (ls : List (List ℕ)). ls ++ lines (settled width (drop (k + 1) piece))) f.line,
      )
      | inr fits ↦ (
        lines (drop (k + 1) piece),
        judged-all limit width left fits
            ∙ ap lines (sym (take_all limit left fits))
            ∙ ap lines (sym whole)
            ∙ lines-append [] front (drop (k + 1) piece) f.edge
            ∙ ap (λ (ls : List (List ℕ)). ls ++ lines (drop (k + 1) piece)) f.line,
      )
    ]

finds-line : (v : LinesView) (left : List ℕ) → line_len (take (room v) left) < length (take (room v) left) → FindsLine v left
unfolding next_of
finds-line v left small =
    let piece = take (room v) left in
    let k = line_len piece in
    let text = without_return (take k piece) in
    let j = judged-line (room v) v.longest left small in
    let f = first-line [] piece small in
    let first : k ≡ line_len left = line_len-take (room v) left small in
    let sizes = length-take (room v) left in
    let enough : k + 1 ≤ length piece = omega arith in
    let front : take (k + 1) left ≡ take (k + 1) piece =
    ap (take (k + 1)) (sym (take-append-drop (room v) left)) ∙ take-append-le (k + 1) piece (drop (room v) left) enough in
    let fronts : take (line_len left + 1) left ≡ take (k + 1) piece = ap (λ (n : ℕ). take (n + 1) left) (sym first) ∙ front in
    record {
      text = text;
      more = j.0;
      judged = j.1;
      answer = ap (λ (b : Bool). cond b (handed v text) (cond (ltb (length piece) (length left) && ltb (length piece) (v.longest + 2)) (Err faults.TooLong) (ended v piece))) (lt-ltb k (length piece) small);
      line = λ short. record {
        line = ap lines fronts ∙ f.line;
        edge = inl (ap last_piece fronts ∙ f.edge);
        within = omega (arith, ap length fronts, length-take-le (k + 1) piece enough, sizes);
      };
    }

-- ---- no newline stands there
-- the answer where none does
answer-none : (v : LinesView) (left : List ℕ) → line_len (take (room v) left) ≡ length (take (room v) left) → next_of v left ≡ cond (ltb (length (take (room v) left)) (length left) && ltb (length (take (room v) left)) (v.longest + 2)) (Err faults.TooLong) (ended v (take (room v) left))
unfolding next_of
answer-none v left none =
    let piece = take (room v) left in
    let no : ltb (line_len piece) (length piece) ≡ false = le-ltb (line_len piece) (length piece) (omega arith) in
    ap (λ (b : Bool). cond b (handed v (without_return (take (line_len piece) piece))) (cond (ltb (length piece) (length left) && ltb (length piece) (v.longest + 2)) (Err faults.TooLong) (ended v piece))) no

both : Bool → Bool → LinesView → List ℕ → Result (Option (List ℕ)) LinesFault
both a b v piece = cond (a && b) (Err faults.TooLong) (ended v piece)

finds-more : (v : LinesView) (left : List ℕ) → line_len (take (room v) left) ≡ length (take (room v) left) → room v < length left → length (take (room v) left) < v.longest + 2 → FindsMore v left
finds-more v left none over short =
    let piece = take (room v) left in
    let size : length piece ≡ room v = length-take-le (room v) left (omega arith) in
    let p : last_piece piece ≡ piece = piece-none [] piece none in
    let nothing : take (length piece - length piece) piece ≡ [] = ap (λ (n : ℕ). take n piece) (let z : length piece - length piece ≡ 0 = omega arith in z) in
    record {
      judged =
          judged-front (room v) v.longest left over
          ∙ ap (λ (q : List ℕ). lines (cond (ltb (length q) (v.longest + 2)) (take (length piece - length q) piece) piece)) p
          ∙ ap (λ (b : Bool). lines (cond b (take (length piece - length piece) piece) piece)) (lt-ltb (length piece) (v.longest + 2) short)
          ∙ ap lines nothing;
      over = over;
      answer =
          answer-none v left none
          ∙ ap (λ (b : Bool). cond (b && ltb (length piece) (v.longest + 2)) (Err faults.TooLong) (ended v piece)) (lt-ltb (length piece) (length left) (omega arith))
          ∙ ap (λ (b : Bool). cond b (Err faults.TooLong) (ended v piece)) (lt-ltb (length piece) (v.longest + 2) short);
    }

some-ended : (v : LinesView) (piece : List ℕ) → 0 < length piece → ended v piece ≡ handed v piece
some-ended v [] h = absurd (omega arith)
some-ended v (b ∷ piece) h = refl

some-last : (piece : List ℕ) → 0 < length piece → last_line piece ≡ piece ∷ []
some-last [] h = absurd (omega arith)
some-last (b ∷ piece) h = refl

-- a piece that is too long for a line, and that others follow
finds-long : (v : LinesView) (left : List ℕ) → line_len (take (room v) left) ≡ length (take (room v) left) → room v < length left → v.longest + 2 ≤ length (take (room v) left) → FindsLine v left
finds-long v left none over long =
    let piece = take (room v) left in
    let some : 0 < length piece = omega arith in
    let p : last_piece piece ≡ piece = piece-none [] piece none in
    record {
      text = piece;
      more = [];
      judged =
          judged-front (room v) v.longest left over
          ∙ ap (λ (q : List ℕ). lines (cond (ltb (length q) (v.longest + 2)) (take (length piece - length q) piece) piece)) p
          ∙ ap (λ (b : Bool). lines (cond b (take (length piece - length piece) piece) piece)) (le-ltb (length piece) (v.longest + 2) long)
          ∙ lines-none [] piece none ∙ some-last piece some;
      answer =
          answer-none v left none
          ∙ ap (λ (b : Bool). cond (b && ltb (length piece) (v.longest + 2)) (Err faults.TooLong) (ended v piece)) (lt-ltb (length piece) (length left) (let size : length piece ≡ room v = length-take-le (room v) left (omega arith) in omega arith))
          ∙ ap (λ (b : Bool). cond b (Err faults.TooLong) (ended v piece)) (le-ltb (length piece) (v.longest + 2) long)
          ∙ some-ended v piece some;
      line = λ short. absurd (let z : ⊥ = omega arith in z);
    }

-- a last piece
finds-last : (v : LinesView) (left : List ℕ) → line_len left ≡ length left → length left ≤ room v → 0 < length left → FindsLine v left
finds-last v left none fits some =
    let piece = take (room v) left in
    let all : piece ≡ left = take_all (room v) left fits in
    let none' : line_len piece ≡ length piece = ap line_len all ∙ none ∙ sym (ap length all) in
    let front : take (line_len left + 1) left ≡ left = take_all (line_len left + 1) left (omega arith) in
    record {
      text = left;
      more = [];
      judged = judged-all (room v) v.longest left fits ∙ lines-none [] left none ∙ some-last left some;
      answer =
          answer-none v left none'
          ∙ ap (λ (b : Bool). cond (b && ltb (length piece) (v.longest + 2)) (Err faults.TooLong) (ended v piece)) (le-ltb (length piece) (length left) (omega (arith, ap length all)))
          ∙ ap (ended v) all ∙ some-ended v left some;
      line = λ short. record {
        line = ap lines front ∙ lines-none [] left none ∙ some-last left some;
        edge = inr (drop-none left (line_len left + 1) (omega arith));
        within = omega (arith, ap length front);
      };
    }
  where
    drop-none : (xs : List ℕ) (n : ℕ) → length xs ≤ n → drop n xs ≡ []
    drop-none xs n h = drop_all n xs h

finds-end : (v : LinesView) → FindsEnd v []
finds-end v =
    let none : take (room v) [] ≡ [] = take_all (room v) [] (omega arith) in
    record {
      none = refl;
      answer =
          answer-none v [] (ap line_len none ∙ sym (ap length none))
          ∙ ap (λ (p : List ℕ). cond (ltb (length p) 0 && ltb (length p) (v.longest + 2)) (Err faults.TooLong) (ended v p)) none;
    }

-- what stands next is one of the three
pub finds-next : (v : LinesView) (left : List ℕ) → FindsNext v left
finds-next v left =
    let piece = take (room v) left in
    elim (cases_lt (line_len piece) (length piece)) [
      | inl small ↦ inl (finds-line v left small)
      | inr from ↦
          let none : line_len piece ≡ length piece = omega (arith, line_len-le piece) in
          elim (cases_lt (room v) (length left)) [
            | inl over ↦ elim (cases_lt (length piece) (v.longest + 2)) [
              | inl short ↦ inr (inl (finds-more v left none over short))
              | inr long ↦ inl (finds-long v left none over long)
            ]
            | inr fits ↦ last v left (ap line_len (sym (take_all (room v) left fits)) ∙ none ∙ ap length (take_all (room v) left fits)) fits
          ]
    ]
  where
    last : (v : LinesView) (left : List ℕ) → line_len left ≡ length left → length left ≤ room v → FindsNext v left
    last v [] none fits = inr (inr (finds-end v))
    last v (b ∷ left) none fits = inl (finds-last v (b ∷ left) none fits (omega arith))

-- The state after an answer.
use Rattle.std.proofs.Common.{◌≡◌, ℕ, ◌+◌, ◌-◌, ◌<◌, ◌≤◌, ◌&&◌, cond, ltb, List, [], ◌∷◌, ◌++◌, length, take, drop, Option, Some, None, Result, Ok, Err, refl, sym, ap, ◌∙◌, arith}
use Rattle.std.specs.Borrow.{Bor}
use Rattle.std.proofs.lemmas.List.{length-append, length-drop, length-take, take-take, drop-take, drop-drop}
use Rattle.pim_io.specs.Outside.{Told}
use Rattle.pim_io.specs.declared.limits.TheConstants.{MAX_INPUT}
use Rattle.pim_vectors.specs.declared.fault.LinesFault.{LinesFault}
use Rattle.pim_vectors.specs.declared.fault.LinesFault.TheVariants as faults
use Rattle.pim_vectors.specs.declared.sizes.Sizes.{Sizes}
use Rattle.pim_io.specs.Lines.{without_return}
use Rattle.pim_vectors.specs.Lines.{lines, line_len}
use Rattle.pim_vectors.specs.Next.{LinesView, handed, ended, within_limit, next_of, IsAfter}
use Rattle.pim_vectors.specs.inner.Found.{NoNewline}
use Rattle.pim_vectors.specs.inner.Taken.{Took}
use Rattle.pim_vectors.specs.inner.NextLine.{IsNext, IsEnd}
use Rattle.pim_vectors.proofs.Taking.{line_len-none}
use Rattle.pim_vectors.proofs.NextLemmas.{told_map, told_both}

-- ---- the answer doesn't depend on what is held already
ended-held : (v : LinesView) (h piece : List ℕ) → ended (record v { held = h }) piece ≡ ended v piece
ended-held v h [] = refl
ended-held v h (b ∷ piece) = refl

next_of-held : (v : LinesView) (h bytes : List ℕ) → next_of (record v { held = h }) bytes ≡ next_of v bytes
unfolding next_of
next_of-held v h bytes =
    let piece : List ℕ = within_limit v bytes in
    ap (λ (e : Result (Option (List ℕ)) LinesFault).
    cond (ltb (line_len piece) (length piece)) (handed v (without_return (take (line_len piece) piece)))
    (cond (ltb (length piece) (length bytes) && ltb (length piece) (v.longest + 2)) (Err faults.TooLong) e))
    (ended-held v h piece)

next_of-took : (old v : LinesView) (a b : Option (List ℕ)) (bytes : List ℕ) → Took old a b v → next_of v bytes ≡ next_of old bytes
next_of-took old v a b bytes took =
    ap (λ (n : ℕ). next_of (record v { longest = n }) bytes) took.longest
    ∙ ap (λ (n : ℕ). next_of (record { longest = old.longest; given = n; place = v.place; held = v.held }) bytes) took.given
    ∙ ap (λ (n : ℕ). next_of (record { longest = old.longest; given = old.given; place = n; held = v.held }) bytes) took.place
    ∙ next_of-held old v.held bytes

-- an answer in the state after bytes were taken is that in the state before
pub answer_before : (old v : LinesView) (a b : Option (List ℕ)) (answer : Result (Option (List ℕ)) LinesFault) → Took old a b v →
    Told a b (λ x y. next_of v (v.held ++ y) ≡ answer) → Told a b (λ x y. next_of old (old.held ++ x) ≡ answer)
answer_before old v a b answer took told =
    told_map a b (λ x y. (v.held ++ y ≡ old.held ++ x) × (next_of v (v.held ++ y) ≡ answer)) (λ x y. next_of old (old.held ++ x) ≡ answer)
    (λ x y both. ap (next_of old) (sym both.0) ∙ sym (next_of-took old v a b (v.held ++ y) took) ∙ both.1)
    (told_both a b _ _ took.bytes told)

-- ---- nothing was handed out
same_place : (old v : LinesView) (a b : Option (List ℕ)) → Took old a b v →
    Told a b (λ x y. v.place + length (v.held ++ y) ≡ old.place + length (old.held ++ x))
same_place old v a b took =
    told_map a b (λ x y. v.held ++ y ≡ old.held ++ x) (λ x y. v.place + length (v.held ++ y) ≡ old.place + length (old.held ++ x))
    (λ x y h. omega (arith, ap length h, took.place)) took.bytes

fault_of_err : (r : Result (Option (Bor (List ℕ))) LinesFault) (e f : LinesFault) → r ≡ Err e → r ≡ Err f → e ≡ f
fault_of_err r e f h k = cc

pub after_refused : (old v : LinesView) (a b : Option (List ℕ)) (e : LinesFault) → Took old a b v → (e ≡ faults.Fault → NoNewline v.held (length v.held)) →
    (e ≡ faults.Fault → length v.held < v.longest + 2) → (e ≡ faults.Fault → v.place + length v.held ≤ MAX_INPUT) → IsAfter old a b (Err e) v
after_refused old v a b e took waits short within = record {
  longest = took.longest;
  given = omega (arith, took.given);
  rest = took.bytes;
  place = same_place old v a b took;
  cut = told_map a b (λ x y. v.held ++ y ≡ old.held ++ x) (λ x y. Unit {0}) (λ x y h. tt) took.bytes;
  waits = λ h.
      let is = fault_of_err (Err e) e faults.Fault refl h in
      record { none = line_len-none v.held (waits is); short = short is; within = within is };
}

pub after_end : (old v : LinesView) (a b : Option (List ℕ)) → Took old a b v → IsEnd v a b → IsAfter old a b (Ok None) v
after_end old v a b took end = record {
  longest = took.longest;
  given = omega (arith, took.given);
  rest = took.bytes;
  place = same_place old v a b took;
  cut = told_map a b (λ x y. v.held ++ y ≡ old.held ++ x) (λ x y. lines (old.held ++ x) ≡ lines (v.held ++ y)) (λ x y h. ap lines (sym h)) took.bytes;
  waits = λ h. cc;
}

-- ---- a line was handed out
pub after_line : (old v new : LinesView) (text : Bor (List ℕ)) (a b : Option (List ℕ)) (s : Sizes) → Took old a b v → IsNext v a b s →
    new.longest ≡ v.longest → new.given ≡ v.given + 1 → new.place ≡ v.place + s.whole → new.held ≡ drop s.whole v.held → text.now ≡ take s.text v.held →
    IsAfter old a b (Ok (Some text)) new
after_line old v new text a b s took next longest given place held text_is =
    let within : s.whole ≤ length v.held = omega (arith, next.within, length-take (MAX_INPUT - v.place) v.held) in
    record {
      longest = longest ∙ took.longest;
      given = omega (arith, given, took.given);
      rest = told_map a b (λ x y. (v.held ++ y ≡ old.held ++ x) × (drop s.whole v.held ++ y ≡ drop (line_len (v.held ++ y) + 1) (v.held ++ y)))
          (λ x y. new.held ++ y ≡ drop (line_len (old.held ++ x) + 1) (old.held ++ x))
          (λ x y both. ap (λ (l : List ℕ). l ++ y) held ∙ both.1 ∙ ap (λ (l : List ℕ). drop (line_len l + 1) l) both.0)
          (told_both a b _ _ took.bytes next.whole);
      place = told_map a b (λ x y. v.held ++ y ≡ old.held ++ x) (λ x y. new.place + length (new.held ++ y) ≡ old.place + length (old.held ++ x))
          (λ x y h.
          omega (arith, place, took.place, within, ap length held, length-drop s.whole v.held, length-append new.held y, length-append v.held y, ap length h))
          took.bytes;
      cut = told_map a b (λ x y. (v.held ++ y ≡ old.held ++ x) × (lines (v.held ++ y) ≡ take s.text v.held ∷ lines (drop s.whole v.held ++ y)))
          (λ x y. lines (old.held ++ x) ≡ (text.now ∷ []) ++ lines (new.held ++ y))
          (λ x y both.
          ap lines (sym both.0) ∙ both.1
          ∙ ap (λ (t : List ℕ). t ∷ lines (drop s.whole v.held ++ y)) (sym text_is)
          ∙ ap (λ (l : List ℕ). text.now ∷ lines (l ++ y)) (sym held))
          (told_both a b _ _ took.bytes next.cut);
      waits = λ h. cc;
    }

-- the bytes that are held once the first are handed out
pub held_cut : (items : List ℕ) (start end whole : ℕ) → start + whole ≤ end →
    take (end - (start + whole)) (drop (start + whole) items) ≡ drop whole (take (end - start) (drop start items))
held_cut items start end whole within =
    let m : ℕ = end - (start + whole) in
    let e : end - start ≡ whole + m = omega arith in
    ap (take m) (sym (drop-drop whole start items))
    ∙ sym (ap (λ (n : ℕ). drop whole (take n (drop start items))) e ∙ drop-take whole m (drop start items))

pub text_cut : (items now : List ℕ) (start end text : ℕ) → now ≡ items → start + text ≤ end →
    take (start + text - start) (drop start now) ≡ take text (take (end - start) (drop start items))
text_cut items now start end text is within =
    let n : start + text - start ≡ text = omega arith in
    rw n (ap (λ (l : List ℕ). take text (drop start l)) is ∙ sym (take-take text (end - start) (drop start items) (omega arith)))

pub answer_at_end : (v : LinesView) (a b : Option (List ℕ)) → IsEnd v a b → Told a b (λ x y. next_of v (v.held ++ y) ≡ Ok None)
answer_at_end v a b end =
    told_map a b (λ x y. (next_of v (v.held ++ y) ≡ Ok None) × (v.held ++ y ≡ [])) (λ x y. next_of v (v.held ++ y) ≡ Ok None) (λ x y both. both.0) end

pub answer_of_line : (v : LinesView) (a b : Option (List ℕ)) (s : Sizes) (text : List ℕ) → IsNext v a b s → text ≡ take s.text v.held →
    Told a b (λ x y. next_of v (v.held ++ y) ≡ Ok (Some text))
answer_of_line v a b s text next is =
    told_map a b (λ x y. next_of v (v.held ++ y) ≡ Ok (Some (take s.text v.held))) (λ x y. next_of v (v.held ++ y) ≡ Ok (Some text))
    (λ x y h. h ∙ ap (λ (t : List ℕ). Ok (Some t)) (sym is)) next.answer

pub whole_within : (v : LinesView) (a b : Option (List ℕ)) (s : Sizes) (items : List ℕ) (start end : ℕ) → IsNext v a b s →
    take (end - start) (drop start items) ≡ v.held → start ≤ end → start + s.whole ≤ end
whole_within v a b s items start end next held ordered =
    omega (arith, next.within, length-take (MAX_INPUT - v.place) v.held, ap length held, length-take (end - start) (drop start items))

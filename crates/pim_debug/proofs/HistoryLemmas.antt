-- A run and its log, one instruction on and back.
use Rattle.std.proofs.Common.{◌≡◌, ℕ, zero, suc, ◌+◌, ◌-◌, ◌<◌, ◌≤◌, min, Bool, true, false, ◌||◌, eqb, List, [], ◌∷◌, ◌++◌, length, map, take, drop, set, Option, Some, ◌⊎◌, inl, inr, refl, sym, ap, subst, ◌∙◌, arith, append_assoc, add-one, length-append}
use Rattle.std.specs.Prelude.{slice_get}
use Rattle.std.proofs.Math.Seq.{take-append_seam, drop-append_seam}
use Rattle.std.proofs.lemmas.Bool.{eqb-true, eqb-false, cases_Bool, cases_lt}
use Rattle.std.proofs.lemmas.List.{length-set, length-map, get_or-set_same, get_or-set_other, get_or_past, ext_get_or, drop_all, append-nil, take_rest}
use Rattle.std.proofs.lemmas.List.Elements.{All-cons, All-nil}
use Rattle.std.proofs.lemmas.Option.{slice_get_within}
use Rattle.pim_isa.specs.declared.instr.Instr.{Instr}
use Rattle.pim_isa.specs.Laws.{ExecLaws}
use Rattle.pim_isa.specs.Programs.{ProgramView}
use Rattle.pim_isa.specs.Steps.{bit, step, exec, exec_k}
use Rattle.pim_isa.specs.Touches.{writes}
use Rattle.pim_isa.specs.Validity.{has}
use Rattle.pim_debug.specs.inner.Histories.{put, overwritten, written, kept, taken_back, IsHistory}

or_from_falses : (a b : Bool) → a ≡ false → b ≡ false → (a || b) ≡ false
or_from_falses true b e f = cc
or_from_falses false b e f = f

-- nothing is left to put past the end of the cells or of the bits
put-nil : (cells : List ℕ) (m : List Bool) → put cells [] m ≡ m
put-nil [] m = refl
put-nil (c ∷ cs) m = refl

pub put_end : (n : ℕ) (cells : List ℕ) (bits m : List Bool) →
    n ≡ min (length cells) (length bits) → put (drop n cells) (drop n bits) m ≡ m
put_end n cells bits m e = by_cases (cases_lt (length cells) (length bits))
  where
    by_cases : (length cells < length bits) ⊎ (length bits ≤ length cells) → put (drop n cells) (drop n bits) m ≡ m
    by_cases (inl below) = ap (λ (cs : List ℕ). put cs (drop n bits) m) (drop_all n cells (omega arith))
    by_cases (inr above) = ap (λ (bs : List Bool). put (drop n cells) bs m) (drop_all n bits (omega arith)) ∙ put-nil (drop n cells) m

-- a cell that gets its old bit back holds it, whether the row has such a cell or not
set_back : (m n : List Bool) (c : ℕ) → length n ≡ length m → bit (set n c (bit m c)) c ≡ bit m c
set_back m n c long = by_cases (cases_lt c (length n))
  where
    by_cases : (c < length n) ⊎ (length n ≤ c) → bit (set n c (bit m c)) c ≡ bit m c
    by_cases (inl within) = get_or-set_same n c (bit m c) false within
    by_cases (inr past) =
        get_or_past (set n c (bit m c)) c false (rw (length-set n c (bit m c)) past) ∙ sym (get_or_past m c false (omega arith))

-- a row that differs from another in these cells alone is that other row, once they have their old bits back
pub put_back : (cells : List ℕ) (m n : List Bool) → length n ≡ length m →
    ((c : ℕ) → has c cells ≡ false → bit n c ≡ bit m c) → put cells (map (bit m) cells) n ≡ m
put_back [] m n long same = ext_get_or false n m long (λ c small. same c refl)
put_back (c ∷ cs) m n long same =
    put_back cs m (set n c (bit m c)) (length-set n c (bit m c) ∙ long)
    (λ d apart. elim (cases_Bool (eqb c d)) [
      | inl here ↦ ap (λ (e : ℕ). bit (set n c (bit m c)) e) (sym (eqb-true c d here)) ∙ set_back m n c long ∙ ap (bit m) (eqb-true c d here)
      | inr other ↦
          get_or-set_other n c d (bit m c) false (λ e. eqb-false c d other (sym e))
          ∙ same d (or_from_falses (eqb c d) (has d cs) other apart)
    ])

-- an instruction is undone by the old bits of the cells that it writes
pub undone : ExecLaws → (i : Instr) (m : List Bool) → put (writes i) (map (bit m) (writes i)) (step m i) ≡ m
undone laws i m =
    put_back (writes i) m (step m i) (laws.keeps_length (i ∷ []) m)
    (λ c apart. laws.keeps_others (i ∷ []) m c (All-cons (λ (j : Instr). has c (writes j) ≡ false) i [] apart (All-nil (λ (j : Instr). has c (writes j) ≡ false))))

pub taken_back-step : (k : ℕ) (is : List Instr) (i : Instr) (log m : List Bool) → slice_get is k ≡ Some i →
    taken_back (k + 1) is log m
    ≡ taken_back k is (take (kept (writes i) log) log) (put (writes i) (drop (kept (writes i) log) log) m)
taken_back-step k is i log m here =
    ap (λ (n : ℕ). taken_back n is log m) (add-one k)
    ∙ ap (λ (o : Option Instr). taken_back k is (take (kept (written o) log) log) (put (written o) (drop (kept (written o) log) log) m)) here

-- taking one instruction back after it was done leads to the same row at the start
pub taken_back-push : ExecLaws → (k : ℕ) (is : List Instr) (i : Instr) (log m : List Bool) → slice_get is k ≡ Some i →
    taken_back (k + 1) is (log ++ map (bit m) (writes i)) (step m i) ≡ taken_back k is log m
taken_back-push laws k is i log m here =
    let saved : List Bool = map (bit m) (writes i) in
    let long : kept (writes i) (log ++ saved) ≡ length log =
    omega (arith, length-append log saved, length-map (writes i) (bit m)) in
    taken_back-step k is i (log ++ saved) (step m i) here
    ∙ ap (λ (n : ℕ). taken_back k is (take n (log ++ saved)) (put (writes i) (drop n (log ++ saved)) (step m i))) long
    ∙ rw (take-append_seam log saved, drop-append_seam log saved, undone laws i m) refl

exec_k-suc : (k : ℕ) (is : List Instr) (i : Instr) (m : List Bool) → slice_get is k ≡ Some i → exec_k (k + 1) is m ≡ step (exec_k k is m) i
exec_k-suc k [] i m e = cc
exec_k-suc zero (j ∷ js) i m e =
    let same : j ≡ i = cc in
    ap (λ (x : Instr). step m x) same
exec_k-suc (suc k) (j ∷ js) i m e =
    let next : suc k + 1 ≡ suc (k + 1) = omega arith in
    ap (λ (n : ℕ). exec (take n (j ∷ js)) m) next ∙ exec_k-suc k js i (step m j) e

overwritten-suc : (k : ℕ) (is : List Instr) (i : Instr) (m : List Bool) → slice_get is k ≡ Some i →
    overwritten (take (k + 1) is) m ≡ overwritten (take k is) m ++ map (bit (exec_k k is m)) (writes i)
overwritten-suc k [] i m e = cc
overwritten-suc zero (j ∷ js) i m e =
    let same : j ≡ i = cc in
    append-nil (map (bit m) (writes j)) ∙ ap (λ (x : Instr). map (bit m) (writes x)) same
overwritten-suc (suc k) (j ∷ js) i m e =
    let next : suc k + 1 ≡ suc (k + 1) = omega arith in
    ap (λ (n : ℕ). overwritten (take n (j ∷ js)) m) next
    ∙ ap (λ (l : List Bool). map (bit m) (writes j) ++ l) (overwritten-suc k js i (step m j) e)
    ∙ sym (append_assoc (map (bit m) (writes j)) (overwritten (take k js) (step m j)) (map (bit (exec_k k js (step m j))) (writes i)))

-- one instruction more
pub history_push : ExecLaws → (p : ProgramView) (start row log : List Bool) (k : ℕ) (i : Instr) →
    IsHistory p start row log k → slice_get p.instrs k ≡ Some i →
    IsHistory p start (step row i) (log ++ map (bit row) (writes i)) (k + 1)
history_push laws p start row log k i h here = record {
  valid = h.valid;
  within = omega (arith, slice_get_within p.instrs k i here);
  cells = laws.keeps_length (i ∷ []) row ∙ h.cells;
  stands = ap (λ (m : List Bool). step m i) h.stands ∙ sym (exec_k-suc k p.instrs i start here);
  logged =
      ap (λ (l : List Bool). l ++ map (bit row) (writes i)) h.logged
      ∙ ap (λ (m : List Bool). overwritten (take k p.instrs) start ++ map (bit m) (writes i)) h.stands
      ∙ sym (overwritten-suc k p.instrs i start here);
}

-- what is left of the log, and the row, when the last instruction is taken back
pub history_pop : ExecLaws → (p : ProgramView) (start row log : List Bool) (k : ℕ) (i : Instr) →
    IsHistory p start row log (k + 1) → slice_get p.instrs k ≡ Some i →
    (length (writes i) ≤ length log)
    × IsHistory p start (put (writes i) (drop (kept (writes i) log) log) row) (take (kept (writes i) log) log) k
history_pop laws p start row log k i h here =
    let before : List Bool = overwritten (take k p.instrs) start in
    let old : List Bool = exec_k k p.instrs start in
    let saved : List Bool = map (bit old) (writes i) in
    let all : log ≡ before ++ saved = h.logged ∙ overwritten-suc k p.instrs i start here in
    let now : row ≡ step old i = h.stands ∙ exec_k-suc k p.instrs i start here in
    let size : length log ≡ length before + length (writes i) =
    omega (arith, ap length all, length-append before saved, length-map (writes i) (bit old)) in
    let long : kept (writes i) log ≡ length before = omega (arith, size) in
    let front : take (kept (writes i) log) log ≡ before =
    ap (λ (n : ℕ). take n log) long ∙ ap (take (length before)) all ∙ take-append_seam before saved in
    let end : drop (kept (writes i) log) log ≡ saved =
    ap (λ (n : ℕ). drop n log) long ∙ ap (drop (length before)) all ∙ drop-append_seam before saved in
    let undo : put (writes i) (drop (kept (writes i) log) log) row ≡ old =
    ap (λ (bits : List Bool). put (writes i) bits row) end ∙ ap (put (writes i) saved) now ∙ undone laws i old in (
      omega (arith, size),
      record {
        valid = h.valid;
        within = omega (arith, h.within);
        cells = ap length undo ∙ sym (laws.keeps_length (i ∷ []) old) ∙ sym (ap length now) ∙ h.cells;
        stands = undo;
        logged = front;
      },
    )

-- the same in the words of a history, whose start is what its log leads back to
pub went_forward : ExecLaws → (p : ProgramView) (row log : List Bool) (k : ℕ) (i : Instr) (row' log' : List Bool) →
    IsHistory p (taken_back k p.instrs log row) row log k → slice_get p.instrs k ≡ Some i →
    row' ≡ step row i → log' ≡ log ++ map (bit row) (writes i) →
    (taken_back (k + 1) p.instrs log' row' ≡ taken_back k p.instrs log row)
    × IsHistory p (taken_back (k + 1) p.instrs log' row') row' log' (k + 1)
went_forward laws p row log k i row' log' h here stepped saved =
    let same : taken_back (k + 1) p.instrs log' row' ≡ taken_back k p.instrs log row =
    rw (stepped, saved) (taken_back-push laws k p.instrs i log row here) in
    (same, rw (same, stepped, saved) (history_push laws p (taken_back k p.instrs log row) row log k i h here))

pub went_back : ExecLaws → (p : ProgramView) (row log : List Bool) (n k : ℕ) (i : Instr) (cells : List ℕ) (size : ℕ) (row' log' : List Bool) →
    n ≡ k + 1 → IsHistory p (taken_back n p.instrs log row) row log n → slice_get p.instrs k ≡ Some i →
    cells ≡ writes i → size ≡ length log →
    row' ≡ put cells (take (length log - (size - length cells)) (drop (size - length cells) log)) row →
    log' ≡ take (size - length cells) log →
    (taken_back k p.instrs log' row' ≡ taken_back n p.instrs log row)
    × IsHistory p (taken_back k p.instrs log' row') row' log' k
went_back laws p row log n k i cells size row' log' next h here named all restored cut =
    let place : size - length cells ≡ kept (writes i) log = rw (named, all) refl in
    let row_is : row' ≡ put (writes i) (drop (kept (writes i) log) log) row =
    restored
    ∙ ap (λ (x : ℕ). put cells (take (length log - x) (drop x log)) row) place
    ∙ ap (λ (bits : List Bool). put cells bits row) (take_rest log (kept (writes i) log))
    ∙ ap (λ (cs : List ℕ). put cs (drop (kept (writes i) log) log) row) named in
    let log_is : log' ≡ take (kept (writes i) log) log = cut ∙ ap (λ (x : ℕ). take x log) place in
    let h' : IsHistory p (taken_back (k + 1) p.instrs log row) row log (k + 1) =
    subst (λ (x : ℕ). IsHistory p (taken_back x p.instrs log row) row log x) next h in
    let same : taken_back k p.instrs log' row' ≡ taken_back (k + 1) p.instrs log row =
    rw (row_is, log_is) (sym (taken_back-step k p.instrs i log row here)) in (
      same ∙ ap (λ (x : ℕ). taken_back x p.instrs log row) (sym next),
      rw (same, row_is, log_is) (history_pop laws p (taken_back (k + 1) p.instrs log row) row log k i h' here).1,
    )

-- the log has an entry for each cell that the last instruction wrote
pub log_reaches : ExecLaws → (p : ProgramView) (row log : List Bool) (n k : ℕ) (i : Instr) → n ≡ k + 1 →
    IsHistory p (taken_back n p.instrs log row) row log n → slice_get p.instrs k ≡ Some i → length (writes i) ≤ length log
log_reaches laws p row log n k i next h here =
    let h' : IsHistory p (taken_back (k + 1) p.instrs log row) row log (k + 1) =
    subst (λ (x : ℕ). IsHistory p (taken_back x p.instrs log row) row log x) next h in
    (history_pop laws p (taken_back (k + 1) p.instrs log row) row log k i h' here).0

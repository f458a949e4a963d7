-- Bytes that were taken and not handed out.
use Rattle.std.proofs.Common.{◌≡◌, ℕ, ◌+◌, ◌-◌, ◌<◌, ◌≤◌, suc, false, List, [], ◌∷◌, ◌++◌, length, get_or, inl, inr, Option, Some, None, take, drop, refl, sym, ap, subst, ◌∙◌, arith}
use Rattle.std.proofs.lemmas.List.{append_assoc, get_or-take, take-take, take_all, length-take}
use Rattle.std.specs.Prelude.{IsTrue}
use Rattle.std.proofs.lemmas.Bool.{cases_lt, false≢true}
use Rattle.std.proofs.Math.Seq.{take-add}
use Rattle.pim_io.specs.Outside.{Gave, Told}
use Rattle.pim_io.specs.Lines.{is_newline}
use Rattle.pim_vectors.specs.Lines.{line_len}
use Rattle.pim_vectors.specs.Next.{LinesView}
use Rattle.pim_vectors.specs.inner.Taken.{Took}
use Rattle.pim_vectors.specs.inner.Found.{NoNewline}

-- what a source gave stands behind what was held
told_more : (a b : Option (List ℕ)) (old new gave : List ℕ) → new ≡ old ++ gave → Gave a b gave → Told a b (λ x y. new ++ y ≡ old ++ x)
told_more None b old new gave e h = tt
told_more (Some x) None old new gave e h = absurd h
told_more (Some x) (Some y) old new gave e h =
    ap (λ (l : List ℕ). l ++ y) e ∙ append_assoc old gave y ∙ ap (λ (l : List ℕ). old ++ l) (sym h)

-- the bytes that are held after a read
pub held_after : (items new old before : List ℕ) (start held n : ℕ) → items ≡ new → before ≡ old → take held new ≡ take held (drop start before) →
    take (held + n - 0) (drop 0 items) ≡ take held (drop start old) ++ take n (drop held new)
held_after items new old before start held n is was kept =
    let count : held + n - 0 ≡ held + n = omega arith in
    rw count
    (ap (λ (l : List ℕ). take (held + n) l) is ∙ take-add held n new
    ∙ ap (λ (l : List ℕ). l ++ take n (drop held new)) (kept ∙ ap (λ (l : List ℕ). take held (drop start l)) was))

pub took_from : (view old new : LinesView) (a b : Option (List ℕ)) (gave : List ℕ) → view ≡ old →
    new.longest ≡ view.longest → new.given ≡ view.given → new.place ≡ view.place → new.held ≡ view.held ++ gave → Gave a b gave → Took old a b new
took_from view old new a b gave is longest given place held h =
    let P : LinesView → Type 0 = λ o. Took o a b new in
    subst P is (record { longest = longest; given = given; place = place; bytes = told_more a b view.held new.held gave held h })

-- ---- one read after another
pub told_then : (a b c : Option (List ℕ)) (old mid new : List ℕ) →
    Told a b (λ x y. mid ++ y ≡ old ++ x) → Told b c (λ x y. new ++ y ≡ mid ++ x) → Told a c (λ x y. new ++ y ≡ old ++ x)
told_then None b c old mid new first second = tt
told_then (Some x) None c old mid new first second = absurd first
told_then (Some x) (Some y) None old mid new first second = absurd second
told_then (Some x) (Some y) (Some z) old mid new first second = second ∙ first

pub took_then : (u v w : LinesView) (a b c : Option (List ℕ)) → Took u a b v → Took v b c w → Took u a c w
took_then u v w a b c first second = record {
  longest = second.longest ∙ first.longest;
  given = second.given ∙ first.given;
  place = second.place ∙ first.place;
  bytes = told_then a b c u.held v.held w.held first.bytes second.bytes;
}

-- ---- where no newline stands
-- the first bytes stay where more are put behind them
pub get_or_kept : (old new : List ℕ) (k : ℕ) → take (length old) new ≡ old → k < length old → get_or new k 0 ≡ get_or old k 0
get_or_kept old new k kept small = sym (get_or-take (length old) new k 0 small) ∙ ap (λ (l : List ℕ). get_or l k 0) kept

pub none_kept : (old new : List ℕ) (n : ℕ) → take (length old) new ≡ old → n ≤ length old → NoNewline old n → NoNewline new n
none_kept old new n kept within none k small = ap is_newline (get_or_kept old new k kept (omega arith)) ∙ none k small

pub none_before : (old new : List ℕ) → take (length old) new ≡ old → length old ≤ length new → NoNewline new (length new) → NoNewline old (length old)
none_before old new kept more none k small = ap is_newline (sym (get_or_kept old new k kept small)) ∙ none k (omega arith)

-- what is kept of what was kept
pub kept_then : (old mid new : List ℕ) → take (length old) mid ≡ old → length old ≤ length mid → take (length mid) new ≡ mid → take (length old) new ≡ old
kept_then old mid new first more second =
    sym (take-take (length old) (length mid) new more) ∙ ap (take (length old)) second ∙ first

pub line_len-none : (bytes : List ℕ) → NoNewline bytes (length bytes) → line_len bytes ≡ length bytes
line_len-none [] none = refl
line_len-none (b ∷ bytes) none =
    let first : is_newline b ≡ false = none 0 (omega arith) in
    rw first (ap (λ (n : ℕ). 1 + n) (line_len-none bytes (λ k small. none (suc k) (omega arith))) ∙ omega arith)

-- where none of the bytes that may belong to lines is a newline, and none is over the limit, none was there at first
pub no_line : (old mid : List ℕ) (n room : ℕ) → take (length old) mid ≡ old → length old ≤ length mid →
    NoNewline mid n → length (take room mid) ≤ n → n ≤ length (take room mid) → length mid ≤ room → line_len old ≡ length old
no_line old mid n room kept more none least most within =
    let count : n ≡ length mid = omega (arith, ap length (take_all room mid within)) in
    line_len-none old (none_before old mid kept more (λ k small. none k (omega arith)))

pub not_over : (a b : ℕ) → (a < b → IsTrue false) → b ≤ a
not_over a b h =
    elim (cases_lt a b) [
      | inl over ↦ let no : IsTrue false = h over in absurd (false≢true no)
      | inr fine ↦ fine
    ]

-- none of the bytes that were seen is a newline, where more bytes came
pub seen_more : (old new : List ℕ) (n room : ℕ) → length old ≤ length new → n ≤ length (take room old) → n ≤ length (take room new)
seen_more old new n room more within = omega (arith, length-take room old, length-take room new)

-- Columns of words that stand one after another.
use Rattle.std.proofs.Common.{◌≡◌, ◌≢◌, ℕ, ◌+◌, ◌-◌, ◌*◌, ◌<◌, ◌≤◌, Bool, inl, inr, List, ◌++◌, length, take, drop, replicate, refl, sym, ap, ◌∙◌, arith}
use Rattle.std.proofs.lemmas.Bool.{cases_lt}
use Rattle.std.proofs.lemmas.List.{length-append, length-drop, length-take-le, drop-append-le, take-append-le, take-append-drop, drop_at, drop-drop, take_at, drop-replicate, take-replicate}
use borrow.Rule.Slice.PartMut.{put_mid}
use Rattle.pim_io.specs.Lanes.{lane, column_in}
use Rattle.pim_lanes.specs.inner.Columns.{Stored}

-- a column below another one ends before that one begins
pub low_within : (w c t : ℕ) → c < t → c * w + w ≤ t * w
low_within w c t low = grind arith

-- where a column above another one begins
pub high_start : (w c t : ℕ) → t < c → c * w ≡ t * w + w + (c - t - 1) * w
high_start w c t high =
    let d : ℕ = c - t - 1 in
    let e : c ≡ t + 1 + d = omega arith in
    ap (λ (n : ℕ). n * w) e ∙ grind arith

pub length-column_in : (w : ℕ) (xs : List ℕ) (c : ℕ) → c * w + w ≤ length xs → length (column_in w xs c) ≡ w
unfolding column_in
length-column_in w xs c within = length-take-le w (drop (c * w) xs) (omega (arith, length-drop (c * w) xs))

-- the words of a slice that is a column
pub column_in_slice : (w : ℕ) (xs : List ℕ) (c start : ℕ) → start ≡ c * w → take (start + w - start) (drop start xs) ≡ column_in w xs c
unfolding column_in
column_in_slice w xs c start e =
    let n : start + w - start ≡ w = omega arith in
    rw n (ap (λ (k : ℕ). take w (drop k xs)) e)

-- a column of the first part
pub column_in-low : (w : ℕ) (xs ys : List ℕ) (c : ℕ) → c * w + w ≤ length xs → column_in w (xs ++ ys) c ≡ column_in w xs c
unfolding column_in
column_in-low w xs ys c within =
    ap (take w) (drop-append-le (c * w) xs ys (omega arith))
    ∙ take-append-le w (drop (c * w) xs) ys (omega (arith, length-drop (c * w) xs))

-- the column in the middle
pub column_in-middle : (w t : ℕ) (xs ys zs : List ℕ) → length xs ≡ t * w → length ys ≡ w → column_in w (xs ++ (ys ++ zs)) t ≡ ys
unfolding column_in
column_in-middle w t xs ys zs front long = ap (take w) (drop_at xs (ys ++ zs) (t * w) front) ∙ take_at ys zs w long

-- the words from a place in the last part on
drop-last : (w t k : ℕ) (xs ys zs : List ℕ) → length xs ≡ t * w → length ys ≡ w → drop (t * w + w + k) (xs ++ (ys ++ zs)) ≡ drop k zs
drop-last w t k xs ys zs front long =
    sym (drop-drop k (t * w + w) (xs ++ (ys ++ zs)))
    ∙ ap (drop k) (sym (drop-drop w (t * w) (xs ++ (ys ++ zs))) ∙ ap (drop w) (drop_at xs (ys ++ zs) (t * w) front) ∙ drop_at ys zs w long)

-- a column of the last part
pub column_in-high : (w t c : ℕ) (xs ys zs : List ℕ) → length xs ≡ t * w → length ys ≡ w → t < c →
    column_in w (xs ++ (ys ++ zs)) c ≡ column_in w zs (c - t - 1)
unfolding column_in
column_in-high w t c xs ys zs front long high =
    ap (λ (n : ℕ). take w (drop n (xs ++ (ys ++ zs)))) (high_start w c t high)
    ∙ ap (take w) (drop-last w t ((c - t - 1) * w) xs ys zs front long)

-- all columns but the middle one are the same, whatever the middle one is
pub column_in-others : (w t c : ℕ) (xs ys ys' zs : List ℕ) → length xs ≡ t * w → length ys ≡ w → length ys' ≡ w → c ≢ t →
    column_in w (xs ++ (ys' ++ zs)) c ≡ column_in w (xs ++ (ys ++ zs)) c
column_in-others w t c xs ys ys' zs front long long' apart =
    elim (cases_lt c t) [
      | inl low ↦
          let within : c * w + w ≤ length xs = omega (arith, low_within w c t low) in
          column_in-low w xs (ys' ++ zs) c within ∙ sym (column_in-low w xs (ys ++ zs) c within)
      | inr high ↦
          let above : t < c = omega arith in
          column_in-high w t c xs ys' zs front long' above ∙ sym (column_in-high w t c xs ys zs front long above)
    ]

-- the middle column was written, and nothing else
pub stored_middle : (w t : ℕ) (v : ℕ → Bool) (old new xs ys ys' zs : List ℕ) →
    old ≡ xs ++ (ys ++ zs) → new ≡ xs ++ (ys' ++ zs) → length xs ≡ t * w → length ys ≡ w → length ys' ≡ w →
    ((r : ℕ) → r < 64 * w → lane ys' r ≡ v r) → Stored w t v old new
stored_middle w t v old new xs ys ys' zs was is front long long' lanes = record {
  same =
      ap length is ∙ length-append xs (ys' ++ zs) ∙ ap (λ (n : ℕ). length xs + n) (length-append ys' zs)
      ∙ ap (λ (n : ℕ). length xs + (n + length zs)) (long' ∙ sym long)
      ∙ sym (ap length was ∙ length-append xs (ys ++ zs) ∙ ap (λ (n : ℕ). length xs + n) (length-append ys zs));
  target = λ r small. ap (λ (b : List ℕ). lane (column_in w b t) r) is ∙ ap (λ (c : List ℕ). lane c r) (column_in-middle w t xs ys' zs front long') ∙ lanes r small;
  others = λ c apart. ap (λ (b : List ℕ). column_in w b c) is ∙ column_in-others w t c xs ys ys' zs front long long' apart ∙ ap (λ (b : List ℕ). column_in w b c) (sym was);
}

-- the same where the lanes of the middle column and of two others made the new ones
pub stored_by : (g : Bool → Bool → Bool → Bool) (w t a b : ℕ) (old xs rest ys ys' zs first second : List ℕ) →
    old ≡ xs ++ rest → rest ≡ ys ++ zs → length xs ≡ t * w → length ys ≡ w → length ys' ≡ length ys →
    first ≡ column_in w (xs ++ (ys ++ zs)) a → second ≡ column_in w (xs ++ (ys ++ zs)) b →
    ((r : ℕ) → lane ys' r ≡ g (lane ys r) (lane first r) (lane second r)) →
    Stored w t (λ r. g (lane (column_in w old t) r) (lane (column_in w old a) r) (lane (column_in w old b) r)) old (xs ++ (ys' ++ zs))
stored_by g w t a b old xs rest ys ys' zs first second was rest_was front long same first_is second_is lanes =
    let whole : old ≡ xs ++ (ys ++ zs) = was ∙ ap (λ (r : List ℕ). xs ++ r) rest_was in
    let col : (c : ℕ) → column_in w (xs ++ (ys ++ zs)) c ≡ column_in w old c = λ (c : ℕ). ap (λ (o : List ℕ). column_in w o c) (sym whole) in
    let t_was : ys ≡ column_in w old t = sym (column_in-middle w t xs ys zs front long) ∙ col t in
    let a_was : first ≡ column_in w old a = first_is ∙ col a in
    let b_was : second ≡ column_in w old b = second_is ∙ col b in
    stored_middle w t _ old (xs ++ (ys' ++ zs)) xs ys ys' zs whole refl front long (same ∙ long)
    (λ r small. lanes r
    ∙ ap (λ (x : List ℕ). g (lane x r) (lane first r) (lane second r)) t_was
    ∙ ap (λ (x : List ℕ). g (lane (column_in w old t) r) (lane x r) (lane second r)) a_was
    ∙ ap (λ (x : List ℕ). g (lane (column_in w old t) r) (lane (column_in w old a) r) (lane x r)) b_was)

-- the same where the middle column was set to something new
pub stored_here : (w t start : ℕ) (v : ℕ → Bool) (old ys' : List ℕ) → start ≡ t * w → t * w + w ≤ length old →
    length ys' ≡ w → ((r : ℕ) → r < 64 * w → lane ys' r ≡ v r) →
    Stored w t v old (put_mid start (start + w - start) old ys')
stored_here w t start v old ys' e within long lanes =
    let n : start + w - start ≡ w = omega arith in
    let rest : List ℕ = drop start old in
    stored_middle w t v old (put_mid start (start + w - start) old ys') (take start old) (take w rest) ys' (drop w rest)
    (sym (take-append-drop start old) ∙ ap (λ (r : List ℕ). take start old ++ r) (sym (take-append-drop w rest)))
    (ap (λ (k : ℕ). take start old ++ (ys' ++ drop k rest)) n)
    (length-take-le start old (omega arith) ∙ e)
    (length-take-le w rest (omega (arith, length-drop start old)))
    long lanes

-- ---- one word over and over
pub column_in-replicate : (w n c x : ℕ) → c < n → column_in w (replicate (n * w) x) c ≡ replicate w x
unfolding column_in
column_in-replicate w n c x small =
    ap (take w) (drop-replicate (c * w) (n * w) x)
    ∙ take-replicate w (n * w - c * w) x (omega (arith, low_within w c n small))

-- a column that was overwritten, and the others
put_is : (w t start : ℕ) (old new : List ℕ) → put_mid start (start + w - start) old new ≡ take start old ++ (new ++ drop w (drop start old))
put_is w t start old new =
    let n : start + w - start ≡ w = omega arith in ap (λ (k : ℕ). take start old ++ (new ++ drop k (drop start old))) n

pub put_target : (w t start : ℕ) (old new : List ℕ) → start ≡ t * w → t * w + w ≤ length old → length new ≡ w →
    column_in w (put_mid start (start + w - start) old new) t ≡ new
put_target w t start old new e within long =
    ap (λ (l : List ℕ). column_in w l t) (put_is w t start old new)
    ∙ column_in-middle w t (take start old) new (drop w (drop start old)) (length-take-le start old (omega arith) ∙ e) long

pub put_others : (w t start : ℕ) (old new : List ℕ) → start ≡ t * w → t * w + w ≤ length old → length new ≡ w →
    (c : ℕ) → c ≢ t → column_in w (put_mid start (start + w - start) old new) c ≡ column_in w old c
put_others w t start old new e within long c apart =
    let rest : List ℕ = drop start old in
    let front : length (take start old) ≡ t * w = length-take-le start old (omega arith) ∙ e in
    let middle : length (take w rest) ≡ w = length-take-le w rest (omega (arith, length-drop start old)) in
    ap (λ (l : List ℕ). column_in w l c) (put_is w t start old new)
    ∙ column_in-others w t c (take start old) (take w rest) new (drop w rest) front middle long apart
    ∙ ap (λ (l : List ℕ). column_in w l c) (ap (λ (r : List ℕ). take start old ++ r) (take-append-drop w rest) ∙ take-append-drop start old)

-- a column before the words that were written
pub column_before : (w c start : ℕ) (old rest : List ℕ) → c * w + w ≤ start → start ≤ length old → column_in w (take start old ++ rest) c ≡ column_in w old c
column_before w c start old rest low within =
    let count : length (take start old) ≡ start = length-take-le start old within in
    column_in-low w (take start old) rest c (omega arith)
    ∙ sym (column_in-low w (take start old) (drop start old) c (omega arith))
    ∙ ap (λ (l : List ℕ). column_in w l c) (take-append-drop start old)

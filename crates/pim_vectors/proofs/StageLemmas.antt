-- Lanes of a stage: bits of bytes, and bytes that stand for a word.
use Rattle.std.proofs.Common.{◌≡◌, ◌≢◌, ℕ, zero, suc, ◌+◌, ◌-◌, ◌*◌, ◌/◌, ◌%◌, ◌^◌, ◌<◌, ◌⊎◌, inl, inr, Bool, false, ◌&&◌, cond, eqb, ltb, List, length, set, get_or, map, bit_or, max, refl, sym, ap, subst, ◌∙◌, arith}
use Rattle.std.specs.List.{range_with_len}
use Rattle.std.specs.Int.{bit_at}
use Rattle.std.proofs.lemmas.Bool.{cases_eq, cases_lt, eq-eqb, ne_eqb, false≢true, lt-ltb, le-ltb}
use Rattle.std.proofs.lemmas.List.{get_or-set_same, get_or-set_other, get_or-map, length-map, ext_get_or}
use Rattle.std.proofs.lemmas.List.FromFn.{length-map-range_with_len, get_or-map-range_with_len}
use Rattle.std.proofs.lemmas.Nat.{pow_pos, shr-shr}
use Rattle.std.proofs.lemmas.Nat.Bits.{bit_at_or, bit_at-lt, bit_at-zero, bit_at_above, bit_at_cat_low, bit_at_cat_high}
use Rattle.pim_io.specs.Lanes.{is_set}
use Rattle.pim_io.specs.Bits.{bits_of, digit_of, line_of}
use Rattle.pim_vectors.specs.Stages.{StageView, staged}
use Rattle.pim_vectors.specs.inner.Cells.{staged_at}
use Rattle.pim_vectors.proofs.BitLemmas.{low_within, same_column}

-- ---- one bit was written
pub staged_at-set : (columns : ℕ) (bytes : List ℕ) (k row byte : ℕ) (b : Bool) → k < columns → row / 8 * columns + k < length bytes →
    ((i : ℕ) → i < 8 → is_set byte i ≡ cond (eqb i (row % 8)) b (is_set (get_or bytes (row / 8 * columns + k) 0) i)) →
    (c r : ℕ) → c < columns → staged_at columns (set bytes (row / 8 * columns + k) byte) c r ≡ cond (eqb c k && eqb r row) b (staged_at columns bytes c r)
unfolding staged_at
staged_at-set columns bytes k row byte b k_small within bits c r small = by_cases (cases_eq (r / 8 * columns + c) (row / 8 * columns + k))
  where
    at : ℕ
    at = row / 8 * columns + k

    by_cases : (r / 8 * columns + c ≡ row / 8 * columns + k) ⊎ (r / 8 * columns + c ≢ row / 8 * columns + k) →
        staged_at columns (set bytes (row / 8 * columns + k) byte) c r ≡ cond (eqb c k && eqb r row) b (staged_at columns bytes c r)
    by_cases (inl same) =
        let both = same_column columns (r / 8) (row / 8) c k small k_small same in
        let place : eqb (r % 8) (row % 8) ≡ eqb r row =
        elim (cases_eq r row) [
          | inl one ↦ ap (λ (n : ℕ). eqb (n % 8) (row % 8)) one ∙ eq-eqb (row % 8) (row % 8) refl ∙ sym (eq-eqb r row one)
          | inr two ↦ ne_eqb (r % 8) (row % 8) (λ e. two (omega (arith, both.0))) ∙ sym (ne_eqb r row two)
        ] in
        ap (λ (n : ℕ). is_set (get_or (set bytes at byte) n 0) (r % 8)) same
        ∙ ap (λ (n : ℕ). is_set n (r % 8)) (get_or-set_same bytes at byte 0 within)
        ∙ bits (r % 8) (omega arith)
        ∙ ap (λ (x : Bool). cond x b (is_set (get_or bytes at 0) (r % 8))) place
        ∙ ap (λ (n : ℕ). cond (eqb r row) b (is_set (get_or bytes n 0) (r % 8))) (sym same)
        ∙ ap (λ (x : Bool). cond (x && eqb r row) b (is_set (get_or bytes (r / 8 * columns + c) 0) (r % 8))) (sym (eq-eqb c k both.1))
    by_cases (inr apart) =
        ap (λ (n : ℕ). is_set n (r % 8)) (get_or-set_other bytes at (r / 8 * columns + c) byte 0 apart)
        ∙ elim (cases_eq c k) as (λ _. is_set (get_or bytes (r / 8 * columns + c) 0) (r % 8) ≡ cond (eqb c k && eqb r row) b (is_set (get_or bytes (r / 8 * columns + c) 0) (r % 8))) [
          | inl one ↦
              rw (eq-eqb c k one, ne_eqb r row (λ e. apart (ap (λ (n : ℕ). r / 8 * columns + n) one ∙ ap (λ (n : ℕ). n / 8 * columns + k) e))) refl
          | inr two ↦ rw (ne_eqb c k two) refl
        ]

-- the byte of a lane lies in the list
pub byte_within : (columns column eight len : ℕ) → column < columns → eight < 8 → len ≡ 8 * columns → eight * columns + column < len
byte_within columns column eight len small few whole = omega (arith, low_within columns eight 8 few)

-- ---- a word from eight bytes
-- a byte at its place
pub placed_bit : (byte eight r : ℕ) → byte < 256 → eight < 8 → r < 64 →
    is_set (byte * 2 ^ (8 * eight) % 2 ^ 64) r ≡ cond (eqb (r / 8) eight) (is_set byte (r % 8)) false
unfolding is_set
placed_bit byte eight r fits few small =
    let k : ℕ = 8 * eight in
    let n : ℕ = byte * 2 ^ k + 0 in
    let whole : n ≡ n / 2 ^ 64 * 2 ^ 64 + n % 2 ^ 64 = omega arith in
    let plain : byte * 2 ^ k ≡ n = omega arith in
    let same : bit_at (byte * 2 ^ k % 2 ^ 64) r ≡ bit_at n r =
    ap (λ (m : ℕ). bit_at (m % 2 ^ 64) r) plain ∙ sym (ap (λ (m : ℕ). bit_at m r) whole ∙ bit_at_cat_low (n / 2 ^ 64) 64 (n % 2 ^ 64) r small) in
    ap (λ (b : ℕ). eqb b 1) same
    ∙ elim (cases_eq (r / 8) eight) as (λ _. eqb (bit_at n r) 1 ≡ cond (eqb (r / 8) eight) (eqb (bit_at byte (r % 8)) 1) false) [
      | inl here ↦
          let place : r - k ≡ r % 8 = omega arith in
          rw (eq-eqb (r / 8) eight here)
          (ap (λ (b : ℕ). eqb b 1) (bit_at_cat_high byte k 0 r (pow_pos k) (omega arith) ∙ ap (bit_at byte) place))
      | inr apart ↦
          let none : bit_at n r ≡ 0 =
          elim (cases_lt r k) [
            | inl low ↦ bit_at_cat_low byte k 0 r low ∙ bit_at-zero r
            | inr high ↦ bit_at_cat_high byte k 0 r (pow_pos k) high ∙ bit_at_above byte 8 (r - k) fits (omega arith)
          ] in
          rw (ne_eqb (r / 8) eight apart) (ap (λ (b : ℕ). eqb b 1) none)
    ]

no_bit : (b : ℕ) → b < 2 → eqb b 1 ≡ false → b ≡ 0
no_bit zero small unset = refl
no_bit (suc zero) small unset = absurd (false≢true (sym unset))
no_bit (suc (suc b)) small unset = absurd (omega arith)

-- one more byte stands in the word
pub joined_more : (columns : ℕ) (bytes : List ℕ) (column eight word part byte : ℕ) → byte ≡ get_or bytes (eight * columns + column) 0 →
    ((r : ℕ) → r < 64 → is_set word r ≡ cond (ltb r (8 * eight)) (staged_at columns bytes column r) false) →
    ((r : ℕ) → r < 64 → is_set part r ≡ cond (eqb (r / 8) eight) (is_set byte (r % 8)) false) →
    (r : ℕ) → r < 64 → is_set (bit_or word part) r ≡ cond (ltb r (8 * (eight + 1))) (staged_at columns bytes column r) false
unfolding is_set staged_at
joined_more columns bytes column eight word part byte is before placed r small =
    let w : ℕ = bit_at word r in
    let p : ℕ = bit_at part r in
    let lane : Bool = eqb (bit_at (get_or bytes (r / 8 * columns + column) 0) (r % 8)) 1 in
    ap (λ (n : ℕ). eqb n 1) (bit_at_or word part r)
    ∙ elim (cases_eq (r / 8) eight) as (λ _. eqb (max w p) 1 ≡ cond (ltb r (8 * (eight + 1))) lane false) [
      | inl here ↦
          let none : eqb w 1 ≡ false = before r small ∙ ap (λ (x : Bool). cond x lane false) (le-ltb r (8 * eight) (omega arith)) in
          let part_is : max w p ≡ p = omega (arith, no_bit w (bit_at-lt word r) none) in
          ap (λ (n : ℕ). eqb n 1) part_is
          ∙ placed r small
          ∙ ap (λ (x : Bool). cond x (eqb (bit_at byte (r % 8)) 1) false) (eq-eqb (r / 8) eight here)
          ∙ ap (λ (n : ℕ). eqb (bit_at n (r % 8)) 1) is
          ∙ ap (λ (n : ℕ). eqb (bit_at (get_or bytes (n * columns + column) 0) (r % 8)) 1) (sym here)
          ∙ sym (ap (λ (x : Bool). cond x lane false) (lt-ltb r (8 * (eight + 1)) (omega arith)))
      | inr apart ↦
          let none : eqb p 1 ≡ false = placed r small ∙ ap (λ (x : Bool). cond x (eqb (bit_at byte (r % 8)) 1) false) (ne_eqb (r / 8) eight apart) in
          let word_is : max w p ≡ w = omega (arith, no_bit p (bit_at-lt part r) none) in
          ap (λ (n : ℕ). eqb n 1) word_is
          ∙ before r small
          ∙ elim (cases_lt r (8 * eight)) as (λ _. cond (ltb r (8 * eight)) lane false ≡ cond (ltb r (8 * (eight + 1))) lane false) [
            | inl low ↦ rw (lt-ltb r (8 * eight) low, lt-ltb r (8 * (eight + 1)) (omega arith)) refl
            | inr high ↦ rw (le-ltb r (8 * eight) high, le-ltb r (8 * (eight + 1)) (omega arith)) refl
          ]
    ]

-- ---- eight bytes from a word
pub is_set-part : (n k i : ℕ) → i < 8 → is_set (n / 2 ^ k % 256) i ≡ is_set n (k + i)
unfolding is_set
is_set-part n k i small =
    let m : ℕ = n / 2 ^ k in
    let whole : m ≡ m / 2 ^ 8 * 2 ^ 8 + m % 256 = omega arith in
    ap (λ (b : ℕ). eqb b 1)
    (sym (ap (λ (x : ℕ). bit_at x i) whole ∙ bit_at_cat_low (m / 2 ^ 8) 8 (m % 256) i small) ∙ ap (λ (x : ℕ). x % 2) (shr-shr n k i))

-- one more byte of a word was written
pub split_more : (columns : ℕ) (bytes : List ℕ) (column eight word byte : ℕ) → column < columns → eight * columns + column < length bytes →
    ((i : ℕ) → i < 8 → is_set byte i ≡ is_set word (8 * eight + i)) →
    ((r : ℕ) → r < 8 * eight → staged_at columns bytes column r ≡ is_set word r) →
    (r : ℕ) → r < 8 * (eight + 1) → staged_at columns (set bytes (eight * columns + column) byte) column r ≡ is_set word r
unfolding staged_at
split_more columns bytes column eight word byte small within byte_is before r row =
    let at : ℕ = eight * columns + column in
    elim (cases_lt r (8 * eight)) [
      | inl low ↦
          ap (λ (n : ℕ). is_set n (r % 8))
          (get_or-set_other bytes at (r / 8 * columns + column) byte 0
          (λ e. omega (arith, (same_column columns (r / 8) eight column column small small e).0)))
          ∙ before r low
      | inr high ↦
          let group : r / 8 ≡ eight = omega arith in
          let place : 8 * eight + r % 8 ≡ r = omega arith in
          ap (λ (n : ℕ). is_set (get_or (set bytes at byte) (n * columns + column) 0) (r % 8)) group
          ∙ ap (λ (n : ℕ). is_set n (r % 8)) (get_or-set_same bytes at byte 0 within)
          ∙ byte_is (r % 8) (omega arith)
          ∙ ap (is_set word) place
    ]

-- the bytes of other columns are as they were
pub split_others : (columns : ℕ) (bytes : List ℕ) (column eight byte : ℕ) → column < columns → (c r : ℕ) → c < columns → c ≢ column →
    staged_at columns (set bytes (eight * columns + column) byte) c r ≡ staged_at columns bytes c r
unfolding staged_at
split_others columns bytes column eight byte column_small c r small apart =
    ap (λ (n : ℕ). is_set n (r % 8))
    (get_or-set_other bytes (eight * columns + column) (r / 8 * columns + c) byte 0
    (λ e. apart (same_column columns (r / 8) eight c column small column_small e).1))

-- ---- the rows of a stage
pub length-staged : (s : StageView) (r : ℕ) → length (staged s r) ≡ s.columns
unfolding staged
length-staged s r = length-map-range_with_len (λ (c : ℕ). is_set (get_or s.bytes (r / 8 * s.columns + c) 0) (r % 8)) 0 s.columns

pub get_or-staged : (s : StageView) (r c : ℕ) → c < s.columns → get_or (staged s r) c false ≡ staged_at s.columns s.bytes c r
unfolding staged staged_at
get_or-staged s r c small =
    get_or-map-range_with_len (λ (c : ℕ). is_set (get_or s.bytes (r / 8 * s.columns + c) 0) (r % 8)) 0 s.columns c c false small (omega arith)

-- a row is that list whose bits are its lanes
row_from_bytes : (s : StageView) (r : ℕ) (bits : List Bool) → length bits ≡ s.columns →
    ((c : ℕ) → c < s.columns → staged_at s.columns s.bytes c r ≡ get_or bits c false) → staged s r ≡ bits
row_from_bytes s r bits long lanes =
    ext_get_or false (staged s r) bits (length-staged s r ∙ sym long)
    (λ c within.
    let small : c < s.columns = omega (arith, length-staged s r) in
    get_or-staged s r c small ∙ lanes c small)

-- a line was packed into a row
pub packed_row : (view s : StageView) (old new items : List ℕ) (row : ℕ) (line : List ℕ) → view ≡ s → items ≡ new → old ≡ view.bytes → length line ≡ s.columns →
    ((c r : ℕ) → c < view.columns → r < 64 → staged_at view.columns new c r ≡ cond (eqb r row) (eqb (get_or line c 0) 49) (staged_at view.columns old c r)) →
    (r : ℕ) → r < 64 → staged (record view { bytes = items }) r ≡ cond (eqb r row) (bits_of line) (staged s r)
packed_row view s old new items row line is items_are old_is long lanes =
    let P : StageView → Type 0 = λ s. length line ≡ s.columns → (r : ℕ) → r < 64 → staged (record view { bytes = items }) r ≡ cond (eqb r row) (bits_of line) (staged s r) in
    subst P is (λ long r row_small.
    let after : StageView = record view { bytes = items } in
    let lane_is : (c : ℕ) → c < view.columns → staged_at view.columns items c r ≡ cond (eqb r row) (eqb (get_or line c 0) 49) (staged_at view.columns view.bytes c r) =
    λ (c : ℕ) (small : c < view.columns).
    ap (λ (l : List ℕ). staged_at view.columns l c r) items_are ∙ lanes c r small row_small
    ∙ ap (λ (l : List ℕ). cond (eqb r row) (eqb (get_or line c 0) 49) (staged_at view.columns l c r)) old_is in
    elim (cases_eq r row) [
      | inl same ↦
          rw (eq-eqb r row same) (row_from_bytes after r (bits_of line) (length-map line (λ (b : ℕ). eqb b 49) ∙ long)
          (λ c small.
          lane_is c small ∙ ap (λ (x : Bool). cond x (eqb (get_or line c 0) 49) (staged_at view.columns view.bytes c r)) (eq-eqb r row same)
          ∙ sym (get_or-map (λ (b : ℕ). eqb b 49) line c 0 false (omega arith))))
      | inr other ↦
          rw (ne_eqb r row other) (row_from_bytes after r (staged view r) (length-staged view r)
          (λ c small.
          lane_is c small ∙ ap (λ (x : Bool). cond x (eqb (get_or line c 0) 49) (staged_at view.columns view.bytes c r)) (ne_eqb r row other)
          ∙ sym (get_or-staged view r c small)))
    ]) long

-- the line that a row is unpacked to
pub unpacked_row : (view s : StageView) (bytes : List ℕ) (row : ℕ) → view ≡ s → bytes ≡ view.bytes →
    map (λ (c : ℕ). digit_of (staged_at view.columns bytes c row)) (range_with_len 0 view.columns) ≡ line_of (staged s row)
unpacked_row view s bytes row is bytes_are =
    let n : ℕ = view.columns in
    let f : ℕ → ℕ = λ (c : ℕ). digit_of (staged_at n bytes c row) in
    let P : StageView → Type 0 = λ s. map f (range_with_len 0 n) ≡ line_of (staged s row) in
    subst P is
    (ext_get_or 0 (map f (range_with_len 0 n)) (line_of (staged view row))
    (length-map-range_with_len f 0 n ∙ sym (length-map (staged view row) digit_of ∙ length-staged view row))
    (λ c within.
    let below : c < n = omega (arith, length-map-range_with_len f 0 n) in
    get_or-map-range_with_len f 0 n c c 0 below (omega arith)
    ∙ ap (λ (l : List ℕ). digit_of (staged_at n l c row)) bytes_are
    ∙ ap digit_of (sym (get_or-staged view row c below))
    ∙ sym (get_or-map digit_of (staged view row) c false 0 (omega (arith, length-staged view row)))))

-- rows that were taken over
pub taken_row : (view s : StageView) (new items : List ℕ) (r : ℕ) (bits : List Bool) → view ≡ s → items ≡ new → length bits ≡ s.columns →
    ((c : ℕ) → c < view.columns → staged_at view.columns new c r ≡ get_or bits c false) → staged (record view { bytes = items }) r ≡ bits
taken_row view s new items r bits is items_are long lanes =
    row_from_bytes (record view { bytes = items }) r bits (long ∙ ap (λ (x : StageView). x.columns) (sym is))
    (λ c small. ap (λ (l : List ℕ). staged_at view.columns l c r) items_are ∙ lanes c small)

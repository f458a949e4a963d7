-- Words that are done one after another, or a vector at a time.
use Rattle.std.proofs.Common.{◌≡◌, ℕ, ◌+◌, ◌-◌, ◌*◌, ◌/◌, ◌%◌, ◌^◌, ◌<◌, ◌≤◌, Bool, true, false, Fits, replicate, List, length, map, get_or, set, ◌⊎◌, inl, inr, refl, sym, ap, ◌∙◌, arith, bit_and, bit_or}
use Rattle.std.specs.Simd.Lanes.{zip2, chunk, put_chunk}
use Rattle.std.proofs.lemmas.Bool.{cases_lt}
use Rattle.std.proofs.lemmas.List.{get_or-set_same, get_or-set_other, get_or-map, get_or_past, get_or-replicate, length-map}
use Rattle.std.proofs.lemmas.Simd.{get_or-put_chunk_below, get_or-put_chunk_at, get_or-put_chunk_above, get_or-chunk, length-chunk, length-zip2, get_or-zip2}
use Rattle.std.specs.Int.{w64}
use Rattle.pim_io.specs.Lanes.{is_set, lane}
use Rattle.pim_lanes.specs.inner.Rules.{Ruled, complement, nor1_word, nor2_word, rm3_word}
use Rattle.pim_lanes.proofs.BitLemmas.{is_set-zero, is_set-ones}

-- nothing is done yet
pub ruled_none : (f : ℕ → ℕ → ℕ → ℕ) (n : ℕ) (t a b : List ℕ) → Ruled f n n t a b t
ruled_none f n t a b = record {
  ruled = λ k low high. absurd (omega arith);
  below = λ k low. refl;
  above = λ k high. refl;
}

-- what was done up to one place, and then up to another
pub ruled_then : (f : ℕ → ℕ → ℕ → ℕ) (from mid to : ℕ) (t a b u v : List ℕ) → from ≤ mid → mid ≤ to →
    Ruled f from mid t a b u → Ruled f mid to u a b v → Ruled f from to t a b v
ruled_then f from mid to t a b u v low high first second = record {
  ruled = λ k above below. by_cases k above below (cases_lt k mid);
  below = λ k small. second.below k (omega arith) ∙ first.below k small;
  above = λ k large. second.above k large ∙ first.above k (omega arith);
}
  where
    by_cases : (k : ℕ) → from ≤ k → k < to → (k < mid) ⊎ (mid ≤ k) → get_or v k 0 ≡ f (get_or t k 0) (get_or a k 0) (get_or b k 0)
    by_cases k above below (inl early) = second.below k early ∙ first.ruled k above early
    by_cases k above below (inr late) = second.ruled k late below ∙ ap (λ x. f x (get_or a k 0) (get_or b k 0)) (first.above k late)

-- one word
pub ruled_set : (f : ℕ → ℕ → ℕ → ℕ) (k : ℕ) (t a b : List ℕ) → k < length t →
    Ruled f k (k + 1) t a b (set t k (f (get_or t k 0) (get_or a k 0) (get_or b k 0)))
ruled_set f k t a b within =
    let rule : ℕ → ℕ = λ (n : ℕ). f (get_or t n 0) (get_or a n 0) (get_or b n 0) in
    record {
      ruled = λ j low high.
          let e : j ≡ k = omega arith in
          ap (λ (n : ℕ). get_or (set t k (rule k)) n 0) e ∙ get_or-set_same t k (rule k) 0 within ∙ ap rule (sym e);
      below = λ j small. get_or-set_other t k j (rule k) 0 (λ e. omega arith);
      above = λ j large. get_or-set_other t k j (rule k) 0 (λ e. omega arith);
    }

-- one vector of words
pub ruled_chunk : (f : ℕ → ℕ → ℕ → ℕ) (at : ℕ) (t a b ys : List ℕ) → at + 4 ≤ length t → length ys ≡ 4 →
    ((j : ℕ) → j < 4 → get_or ys j 0 ≡ f (get_or t (at + j) 0) (get_or a (at + j) 0) (get_or b (at + j) 0)) →
    Ruled f at (at + 4) t a b (put_chunk at t ys)
ruled_chunk f at t a b ys within long lanes =
    let rule : ℕ → ℕ = λ (n : ℕ). f (get_or t n 0) (get_or a n 0) (get_or b n 0) in
    record {
      ruled = λ k low high.
          let e : k ≡ at + (k - at) = omega arith in
          ap (λ (n : ℕ). get_or (put_chunk at t ys) n 0) e
          ∙ get_or-put_chunk_at at t ys (k - at) 0 (omega arith) (omega arith)
          ∙ lanes (k - at) (omega arith)
          ∙ ap rule (sym e);
      below = λ k small. get_or-put_chunk_below at t ys k 0 small;
      above = λ k large. get_or-put_chunk_above at t ys k 0 (omega arith);
    }

-- what the loop over vectors does, one vector further
pub vector_next : (f : ℕ → ℕ → ℕ → ℕ) (i : ℕ) (t a b u v : List ℕ) →
    Ruled f 0 (4 * i) t a b u → Ruled f (4 * i) (4 * i + 4) u a b v → Ruled f 0 (4 * (i + 1)) t a b v
vector_next f i t a b u v first second =
    let e : 4 * (i + 1) ≡ 4 * i + 4 = omega arith in
    rw e (ruled_then f 0 (4 * i) (4 * i + 4) t a b u v (omega arith) (omega arith) first second)

-- what the loop over words does, one word further
pub word_next : (f : ℕ → ℕ → ℕ → ℕ) (from k : ℕ) (t a b u : List ℕ) → from ≤ k → k < length u → Ruled f from k t a b u →
    Ruled f from (k + 1) t a b (set u k (f (get_or u k 0) (get_or a k 0) (get_or b k 0)))
word_next f from k t a b u low within first = ruled_then f from k (k + 1) t a b u _ low (omega arith) first (ruled_set f k u a b within)

-- ---- what a vector of words becomes, word by word
chunk_at : (at : ℕ) (xs : List ℕ) (j : ℕ) → j < 4 → get_or (chunk at 4 xs) j 0 ≡ get_or xs (at + j) 0
chunk_at at xs j small = get_or-chunk at 4 xs j 0 small

vector_len : (at : ℕ) (t xs : List ℕ) → at + 4 ≤ length t → length xs ≡ length t → length (chunk at 4 xs) ≡ 4
vector_len at t xs within same = length-chunk at 4 xs (omega arith)

-- the vector that a NOR of one operand makes
pub nor1_chunk : (at : ℕ) (t a : List ℕ) → at + 4 ≤ length t → length a ≡ length t →
    Ruled nor1_word at (at + 4) t a a (put_chunk at t (zip2 bit_and (chunk at 4 t) (map complement (chunk at 4 a))))
nor1_chunk at t a within same =
    let us : List ℕ = chunk at 4 t in
    let xs : List ℕ = chunk at 4 a in
    let us_len : length us ≡ 4 = vector_len at t t within refl in
    let xs_len : length xs ≡ 4 = vector_len at t a within same in
    let clear_len : length (map complement xs) ≡ 4 = length-map xs complement ∙ xs_len in
    ruled_chunk nor1_word at t a a _ within
    (length-zip2 bit_and us (map complement xs) (omega arith) ∙ us_len)
    (λ j small.
    get_or-zip2 bit_and us (map complement xs) j 0 0 0 (omega arith) (omega arith)
    ∙ ap (λ (n : ℕ). bit_and (get_or us j 0) n) (get_or-map complement xs j 0 0 (omega arith))
    ∙ rw (chunk_at at t j small, chunk_at at a j small) refl)

-- the vector that a NOR of two operands makes
pub nor2_chunk : (at : ℕ) (t a b : List ℕ) → at + 4 ≤ length t → length a ≡ length t → length b ≡ length t →
    Ruled nor2_word at (at + 4) t a b (put_chunk at t (zip2 bit_and (chunk at 4 t) (map complement (zip2 bit_or (chunk at 4 a) (chunk at 4 b)))))
nor2_chunk at t a b within same_a same_b =
    let us : List ℕ = chunk at 4 t in
    let xs : List ℕ = chunk at 4 a in
    let ys : List ℕ = chunk at 4 b in
    let one : List ℕ = zip2 bit_or xs ys in
    let us_len : length us ≡ 4 = vector_len at t t within refl in
    let xs_len : length xs ≡ 4 = vector_len at t a within same_a in
    let ys_len : length ys ≡ 4 = vector_len at t b within same_b in
    let one_len : length one ≡ 4 = length-zip2 bit_or xs ys (omega arith) ∙ xs_len in
    let clear_len : length (map complement one) ≡ 4 = length-map one complement ∙ one_len in
    ruled_chunk nor2_word at t a b _ within
    (length-zip2 bit_and us (map complement one) (omega arith) ∙ us_len)
    (λ j small.
    get_or-zip2 bit_and us (map complement one) j 0 0 0 (omega arith) (omega arith)
    ∙ ap (λ (n : ℕ). bit_and (get_or us j 0) n) (get_or-map complement one j 0 0 (omega arith))
    ∙ ap (λ (n : ℕ). bit_and (get_or us j 0) (complement n)) (get_or-zip2 bit_or xs ys j 0 0 0 (omega arith) (omega arith))
    ∙ rw (chunk_at at t j small, chunk_at at a j small, chunk_at at b j small) refl)

-- the vector that an RM3 makes
pub rm3_chunk : (at : ℕ) (z p q : List ℕ) → at + 4 ≤ length z → length p ≡ length z → length q ≡ length z →
    Ruled rm3_word at (at + 4) z p q (put_chunk at z
    (zip2 bit_or (zip2 bit_and (chunk at 4 p) (map complement (chunk at 4 q)))
    (zip2 bit_and (chunk at 4 z) (zip2 bit_or (chunk at 4 p) (map complement (chunk at 4 q))))))
rm3_chunk at z p q within same_p same_q =
    let us : List ℕ = chunk at 4 z in
    let xs : List ℕ = chunk at 4 p in
    let ys : List ℕ = map complement (chunk at 4 q) in
    let us_len : length us ≡ 4 = vector_len at z z within refl in
    let xs_len : length xs ≡ 4 = vector_len at z p within same_p in
    let qs_len : length (chunk at 4 q) ≡ 4 = vector_len at z q within same_q in
    let ys_len : length ys ≡ 4 = length-map (chunk at 4 q) complement ∙ qs_len in
    let both : List ℕ = zip2 bit_and xs ys in
    let some : List ℕ = zip2 bit_or xs ys in
    let both_len : length both ≡ 4 = length-zip2 bit_and xs ys (omega arith) ∙ xs_len in
    let some_len : length some ≡ 4 = length-zip2 bit_or xs ys (omega arith) ∙ xs_len in
    let kept : List ℕ = zip2 bit_and us some in
    let kept_len : length kept ≡ 4 = length-zip2 bit_and us some (omega arith) ∙ us_len in
    ruled_chunk rm3_word at z p q _ within
    (length-zip2 bit_or both kept (omega arith) ∙ both_len)
    (λ j small.
    let turned : get_or ys j 0 ≡ complement (get_or q (at + j) 0) =
    get_or-map complement (chunk at 4 q) j 0 0 (omega arith) ∙ ap complement (chunk_at at q j small) in
    get_or-zip2 bit_or both kept j 0 0 0 (omega arith) (omega arith)
    ∙ ap (λ (n : ℕ). bit_or n (get_or kept j 0)) (get_or-zip2 bit_and xs ys j 0 0 0 (omega arith) (omega arith))
    ∙ ap (λ (n : ℕ). bit_or (bit_and (get_or xs j 0) (get_or ys j 0)) n) (get_or-zip2 bit_and us some j 0 0 0 (omega arith) (omega arith))
    ∙ ap (λ (n : ℕ). bit_or (bit_and (get_or xs j 0) (get_or ys j 0)) (bit_and (get_or us j 0) n)) (get_or-zip2 bit_or xs ys j 0 0 0 (omega arith) (omega arith))
    ∙ rw (turned, chunk_at at z j small, chunk_at at p j small) refl)

-- ---- from words to lanes
-- where f makes of the bits of three words what g says, the lanes of the words that it made are what g says
pub lanes_ruled : (f : ℕ → ℕ → ℕ → ℕ) (g : Bool → Bool → Bool → Bool) →
    ((t a b i : ℕ) → a < 2 ^ 64 → b < 2 ^ 64 → i < 64 → is_set (f t a b) i ≡ g (is_set t i) (is_set a i) (is_set b i)) →
    g false false false ≡ false →
    (t a b new : List ℕ) → length a ≡ length t → length b ≡ length t →
    ((k : ℕ) → Fits w64 (get_or a k 0)) → ((k : ℕ) → Fits w64 (get_or b k 0)) →
    Ruled f 0 (length t) t a b new → (r : ℕ) → lane new r ≡ g (lane t r) (lane a r) (lane b r)
unfolding lane
lanes_ruled f g bits none t a b new same_a same_b fit_a fit_b done r = by_cases (cases_lt (r / 64) (length t))
  where
    by_cases : ((r / 64) < length t) ⊎ (length t ≤ (r / 64)) → lane new r ≡ g (lane t r) (lane a r) (lane b r)
    by_cases (inl within) =
        ap (λ (n : ℕ). is_set n (r % 64)) (done.ruled (r / 64) (omega arith) within)
        ∙ bits (get_or t (r / 64) 0) (get_or a (r / 64) 0) (get_or b (r / 64) 0) (r % 64) (fit_a (r / 64)).fits (fit_b (r / 64)).fits (omega arith)
    by_cases (inr past) =
        let no : (xs : List ℕ) → length xs ≡ length t → is_set (get_or xs (r / 64) 0) (r % 64) ≡ false = λ (xs : List ℕ) (same : length xs ≡ length t).
        ap (λ (n : ℕ). is_set n (r % 64)) (get_or_past xs (r / 64) 0 (omega arith)) ∙ is_set-zero (r % 64) in
        ap (λ (n : ℕ). is_set n (r % 64)) (done.above (r / 64) past)
        ∙ no t refl ∙ sym none
        ∙ rw (no t refl, no a same_a, no b same_b) refl

-- the vectors, and then the words that are left
pub ruled_whole : (f : ℕ → ℕ → ℕ → ℕ) (n : ℕ) (t a b u v : List ℕ) → n ≤ length t → length u ≡ length t →
    Ruled f 0 n t a b u → Ruled f n (length u) u a b v → Ruled f 0 (length t) t a b v
ruled_whole f n t a b u v within same first second = rw (sym same) (ruled_then f 0 n (length u) t a b u v (omega arith) (omega arith) first second)

-- a list of words that are all ones
pub lane-ones : (n r : ℕ) → r < 64 * n → lane (replicate n (2 ^ 64 - 1)) r ≡ true
unfolding lane
lane-ones n r small =
    ap (λ (x : ℕ). is_set x (r % 64)) (get_or-replicate n (r / 64) (2 ^ 64 - 1) 0 (omega arith))
    ∙ is_set-ones (r % 64) (omega arith)

-- Inner: what the kernels make of words.
use Rattle.std.specs.Prelude.{◌≡◌, ℕ, ◌-◌, ◌^◌, ◌<◌, ◌≤◌, List, slice_index, bit_and, bit_or}

-- all 64 bits turned round
abbrev pub complement : ℕ → ℕ
complement n = 2 ^ 64 - 1 - n

-- t and not a
abbrev pub nor1_word : ℕ → ℕ → ℕ → ℕ
nor1_word t a b = bit_and t (complement a)

-- t and not (a or b)
abbrev pub nor2_word : ℕ → ℕ → ℕ → ℕ
nor2_word t a b = bit_and t (complement (bit_or a b))

-- the majority of p, not q and z: p and not q, or z and one of p and not q
abbrev pub rm3_word : ℕ → ℕ → ℕ → ℕ
rm3_word z p q = bit_or (bit_and p (complement q)) (bit_and z (bit_or p (complement q)))

-- each new word from one place up to another is what f makes of the words at its place, and the others are as they were
pub record Ruled (f : ℕ → ℕ → ℕ → ℕ) (from to : ℕ) (t a b new : List ℕ) : Type 0 where
  pub ruled : (k : ℕ) → from ≤ k → k < to → slice_index new k ≡ f (slice_index t k) (slice_index a k) (slice_index b k)
  pub below : (k : ℕ) → k < from → slice_index new k ≡ slice_index t k
  pub above : (k : ℕ) → to ≤ k → slice_index new k ≡ slice_index t k

-- Things read one after another, as a loop reads them.
use Rattle.std.proofs.Common.{◌≡◌, ℕ, suc, ◌-◌, ◌+◌, ◌≤◌, ◌<◌, List, [], ◌∷◌, ◌++◌, Result, Ok, Err, refl, sym, ap, ◌∙◌, length, take, drop, get_or, length-drop, drop-cons, add-one, append_assoc, inl, inr, arith}
use Rattle.std.proofs.lemmas.List.{take_more}
use Rattle.pim_io.specs.Readings.{◌>>=◌, Fails}
use Rattle.pim_file.specs.declared.fault.FileFault.{FileFault}
use Rattle.pim_file.specs.declared.fault.FileFault.TheVariants as faults
use Rattle.pim_file.specs.Items.{Cursor, many}
use Rattle.pim_file.specs.inner.BinaryKept.{kept_with}

-- a fault of a reading is the fault of what begins with it
pub Fails-then : {A B : Type 0} (fault : FileFault) (reading : Result A FileFault) (next : A → Result B FileFault) → Fails faults.NoMemory fault reading → Fails faults.NoMemory fault (reading >>= next)
Fails-then fault reading next (inl memory) = inl memory
Fails-then fault reading next (inr is) = inr (ap (λ r. r >>= next) is)

regrouped : {X S : Type 0} (put : S → X → S) (puts : S → List X → S) → ((s : S) (x : X) (xs : List X) → puts s (x ∷ xs) ≡ puts (put s x) xs) → (s : S) (x : X) (reading : Result (List X × Cursor) FileFault) → kept_with puts s (reading >>= λ others. Ok (x ∷ others.0, others.1)) ≡ kept_with puts (put s x) reading
regrouped put puts law s x (Ok others) = ap (λ t. Ok (t, others.1)) (law s x others.0)
regrouped put puts law s x (Err fault) = refl

module _ {X S : Type 0} (item : Cursor → Result (X × Cursor) FileFault) (put : S → X → S) (puts : S → List X → S) (count i : ℕ) (c : Cursor) (s : S) (total : Result (S × Cursor) FileFault) where
  pub goes_on : ((s : S) (x : X) (xs : List X) → puts s (x ∷ xs) ≡ puts (put s x) xs) → (x : X) (after : Cursor) → i < count → item c ≡ Ok (x, after) → kept_with puts s (many item (count - i) c) ≡ total → kept_with puts (put s x) (many item (count - (i + 1)) after) ≡ total
  unfolding many
  goes_on law x after lt h so_far =
      let k : count - i ≡ suc (count - (i + 1)) = omega arith in
      let one : kept_with puts s (many item (count - i) c) ≡ kept_with puts (put s x) (many item (count - (i + 1)) after) = rw (k, h) (regrouped put puts law s x (many item (count - (i + 1)) after)) in
      sym one ∙ so_far

  pub ends : (fault : FileFault) → i < count → Fails faults.NoMemory fault (item c) → kept_with puts s (many item (count - i) c) ≡ total → Fails faults.NoMemory fault total
  unfolding many
  ends fault lt h so_far =
      let k : count - i ≡ suc (count - (i + 1)) = omega arith in
      let all = Fails-then fault (many item (suc (count - (i + 1))) c) (λ x. Ok (puts s x.0, x.1)) (Fails-then fault (item c) (λ first. many item (count - (i + 1)) first.1 >>= λ others. Ok (first.0 ∷ others.0, others.1)) h) in
      rw (← so_far, k) all

  pub is_done : puts s [] ≡ s → count ≤ i → kept_with puts s (many item (count - i) c) ≡ total → total ≡ Ok (s, c)
  unfolding many
  is_done law le so_far =
      let k : count - i ≡ 0 = omega arith in
      let one : kept_with puts s (many item (count - i) c) ≡ Ok (s, c) = rw k (ap (λ t. Ok (t, c)) law) in
      sym so_far ∙ one

-- lists

pub append_cons : {X : Type 0} (front : List X) (x : X) (xs : List X) → front ++ x ∷ xs ≡ (front ++ x ∷ []) ++ xs
append_cons front x xs = sym (append_assoc front (x ∷ []) xs)

no_front : {X : Type 0} (reading : Result (List X × Cursor) FileFault) → kept_with (λ front xs. front ++ xs) [] reading ≡ reading
no_front (Ok x) = refl
no_front (Err fault) = refl

-- nothing was read before the first thing
pub begins : {X : Type 0} (item : Cursor → Result (X × Cursor) FileFault) (count : ℕ) (c : Cursor) → kept_with (λ front xs. front ++ xs) [] (many item (count - 0) c) ≡ many item count c
begins item count c =
    let k : count - 0 ≡ count = omega arith in
    rw k (no_front (many item count c))

-- the first of the elements that are left
pub one_more : (bytes : List ℕ) (k b : ℕ) (rest : List ℕ) → drop k bytes ≡ b ∷ rest → (k < length bytes) × (take (k + 1) bytes ≡ take k bytes ++ b ∷ []) × (drop (k + 1) bytes ≡ rest)
one_more bytes k b rest h =
    let within : k < length bytes = omega (arith, length-drop k bytes, ap length h) in
    let cut : drop k bytes ≡ get_or bytes k 0 ∷ drop (suc k) bytes = drop-cons bytes k 0 within in
    let first : get_or bytes k 0 ≡ b = cc in
    let others : drop (suc k) bytes ≡ rest = cc in
    (within, take_more bytes k 0 within ∙ ap (λ (x : ℕ). take k bytes ++ x ∷ []) first, ap (λ (n : ℕ). drop n bytes) (add-one k) ∙ others)

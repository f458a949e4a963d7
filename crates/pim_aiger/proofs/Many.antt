-- Readings one after the other, as a loop makes them.
use Rattle.std.proofs.Common.{◌≡◌, ℕ, suc, ◌-◌, ◌+◌, ◌≤◌, ◌<◌, List, [], ◌∷◌, ◌++◌, Result, Ok, Err, refl, sym, ap, ◌∙◌, append_assoc, inl, inr, arith}
use Rattle.std.proofs.lemmas.List.{append-nil}
use Rattle.pim_aiger.specs.declared.fault.AigerFault.{AigerFault}
use Rattle.pim_aiger.specs.declared.fault.AigerFault.TheVariants as faults
use Rattle.pim_aiger.specs.Cursor.{Cursor}
use Rattle.pim_io.specs.Readings.{◌>>=◌, Fails}
use Rattle.pim_aiger.specs.Steps.{many, with_front}

-- a fault of a reading is the fault of what begins with it
pub Fails-then : {A B : Type 0} (fault : AigerFault) (reading : Result A AigerFault) (next : A → Result B AigerFault) → Fails faults.NoMemory fault reading → Fails faults.NoMemory fault (reading >>= next)
Fails-then fault reading next (inl memory) = inl memory
Fails-then fault reading next (inr is) = inr (ap (λ r. r >>= next) is)

regrouped : {X : Type 0} (front : List X) (x : X) (reading : Result (List X × Cursor) AigerFault) → with_front front (reading >>= λ others. Ok (x ∷ others.0, others.1)) ≡ with_front (front ++ x ∷ []) reading
regrouped front x (Ok others) = ap (λ xs. Ok (xs, others.1)) (sym (append_assoc front (x ∷ []) others.0))
regrouped front x (Err fault) = refl

no_front : {X : Type 0} (reading : Result (List X × Cursor) AigerFault) → with_front [] reading ≡ reading
no_front (Ok x) = refl
no_front (Err fault) = refl

module _ {X : Type 0} (read : ℕ → Cursor → Result (X × Cursor) AigerFault) (front : List X) (count i : ℕ) (c : Cursor) (total : Result (List X × Cursor) AigerFault) where
  pub goes_on : (x : X) (after : Cursor) → i < count → read i c ≡ Ok (x, after) → with_front front (many read i (count - i) c) ≡ total → with_front (front ++ x ∷ []) (many read (i + 1) (count - (i + 1)) after) ≡ total
  unfolding many
  goes_on x after lt h so_far =
      let k : count - i ≡ suc (count - (i + 1)) = omega arith in
      let one : with_front front (many read i (count - i) c) ≡ with_front (front ++ x ∷ []) (many read (i + 1) (count - (i + 1)) after) = rw (k, h) (regrouped front x (many read (i + 1) (count - (i + 1)) after)) in
      sym one ∙ so_far

  pub ends : (fault : AigerFault) → i < count → Fails faults.NoMemory fault (read i c) → with_front front (many read i (count - i) c) ≡ total → Fails faults.NoMemory fault total
  unfolding many
  ends fault lt h so_far =
      let k : count - i ≡ suc (count - (i + 1)) = omega arith in
      let all = Fails-then fault (many read i (suc (count - (i + 1))) c) (λ x. Ok (front ++ x.0, x.1)) (Fails-then fault (read i c) (λ first. many read (i + 1) (count - (i + 1)) first.1 >>= λ others. Ok (first.0 ∷ others.0, others.1)) h) in
      rw (← so_far, k) all

  pub is_done : count ≤ i → with_front front (many read i (count - i) c) ≡ total → total ≡ Ok (front, c)
  unfolding many
  is_done le so_far =
      let k : count - i ≡ 0 = omega arith in
      let one : with_front front (many read i (count - i) c) ≡ Ok (front, c) = rw k (ap (λ xs. Ok (xs, c)) (append-nil front)) in
      sym so_far ∙ one

-- nothing was read before the first reading
pub begins : {X : Type 0} (read : ℕ → Cursor → Result (X × Cursor) AigerFault) (count : ℕ) (c : Cursor) → with_front [] (many read 0 (count - 0) c) ≡ many read 0 count c
begins read count c =
    let k : count - 0 ≡ count = omega arith in
    rw k (no_front (many read 0 count c))

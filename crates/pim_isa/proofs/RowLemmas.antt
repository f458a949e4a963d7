-- Rows of bits: how long they stay, and how the executions of two lists follow one another.
use Rattle.std.proofs.Common.{◌≡◌, ℕ, zero, suc, ◌+◌, ◌<◌, ◌≤◌, min, Bool, true, List, [], ◌∷◌, ◌++◌, length, take, drop, set, Some, ◌⊎◌, inl, inr, refl, ap, ◌∙◌, arith}
use Rattle.std.specs.Prelude.{slice_get}
use Rattle.std.proofs.lemmas.Bool.{cases_lt}
use Rattle.std.proofs.lemmas.List.{length-set, drop_all}
use Rattle.pim_isa.specs.declared.port.Port.{Port}
use Rattle.pim_isa.specs.declared.instr.Instr.{Instr}
use Rattle.pim_isa.specs.declared.instr.Instr.TheVariants.{Init, Nor, Rm3}
use Rattle.pim_isa.specs.Steps.{set_ones, step, exec, exec_k}
use Rattle.pim_isa.specs.Results.{with_inputs}

pub length-set_ones : (cells : List ℕ) (m : List Bool) → length (set_ones cells m) ≡ length m
length-set_ones [] m = refl
length-set_ones (c ∷ cs) m = length-set_ones cs (set m c true) ∙ length-set m c true

pub length-step : (m : List Bool) (i : Instr) → length (step m i) ≡ length m
length-step m (Init cells) = length-set_ones cells m
length-step m (Nor t ins) = length-set m t _
length-step m (Rm3 p q z) = length-set m z _

pub length-exec : (is : List Instr) (m : List Bool) → length (exec is m) ≡ length m
length-exec [] m = refl
length-exec (i ∷ is) m = length-exec is (step m i) ∙ length-step m i

pub exec-append : (is js : List Instr) (m : List Bool) → exec (is ++ js) m ≡ exec js (exec is m)
exec-append [] js m = refl
exec-append (i ∷ is) js m = exec-append is js (step m i)

pub length-with_inputs : (ports : List Port) (bits m : List Bool) → length (with_inputs ports bits m) ≡ length m
length-with_inputs [] bits m = refl
length-with_inputs (p ∷ ps) [] m = refl
length-with_inputs (p ∷ ps) (b ∷ bits) m = length-with_inputs ps bits (set m p.cell b) ∙ length-set m p.cell b

with_inputs-nil : (ports : List Port) (m : List Bool) → with_inputs ports [] m ≡ m
with_inputs-nil [] m = refl
with_inputs-nil (p ∷ ps) m = refl

-- nothing is left to put past the end of the ports or of the bits
pub with_inputs_end : (n : ℕ) (ports : List Port) (bits m : List Bool) →
    n ≡ min (length ports) (length bits) → with_inputs (drop n ports) (drop n bits) m ≡ m
with_inputs_end n ports bits m e = by_cases (cases_lt (length ports) (length bits))
  where
    by_cases : (length ports < length bits) ⊎ (length bits ≤ length ports) → with_inputs (drop n ports) (drop n bits) m ≡ m
    by_cases (inl below) = ap (λ (ps : List Port). with_inputs ps (drop n bits) m) (drop_all n ports (omega arith))
    by_cases (inr above) = ap (λ (bs : List Bool). with_inputs (drop n ports) bs m) (drop_all n bits (omega arith)) ∙ with_inputs-nil (drop n ports) m

-- one instruction more
pub exec_k-suc : (k : ℕ) (is : List Instr) (i : Instr) (m : List Bool) → slice_get is k ≡ Some i → exec_k (k + 1) is m ≡ step (exec_k k is m) i
exec_k-suc k [] i m e = cc
exec_k-suc zero (j ∷ js) i m e =
    let same : j ≡ i = cc in
    ap (λ (x : Instr). step m x) same
exec_k-suc (suc k) (j ∷ js) i m e =
    let next : suc k + 1 ≡ suc (k + 1) = omega arith in
    ap (λ (n : ℕ). exec (take n (j ∷ js)) m) next ∙ exec_k-suc k js i (step m j) e

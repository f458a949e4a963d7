-- How many gates a network has, and how many of them are NORs.
use Rattle.std.proofs.Common.{◌≡◌, ℕ, ◌+◌, ◌≤◌, Bool, true, false, not, cond, List, [], ◌∷◌, length, count_by, refl, arith}
use Rattle.std.proofs.lemmas.List.Sums.{sum_by-cons}
use Rattle.pim_nor.specs.Network.{NorView, IsNetwork, is_nor, nor_count}
use Rattle.pim_nor.specs.declared.network.Gate.{Gate}

one_of_both : (b : Bool) → cond {A = ℕ} b 1 0 + cond {A = ℕ} (not b) 1 0 ≡ 1
one_of_both true = refl
one_of_both false = refl

gates-counted : (gs : List Gate) → length gs ≡ nor_count gs + count_by (λ gate. not (is_nor gate)) gs
gates-counted [] = refl
gates-counted (g ∷ gs) =
    let rest = gates-counted gs in
    let nors = sum_by-cons (λ gate. cond {A = ℕ} (is_nor gate) 1 0) g gs in
    let others = sum_by-cons (λ gate. cond {A = ℕ} (not (is_nor gate)) 1 0) g gs in
    let here = one_of_both (is_nor g) in
    omega arith

-- all gates but one at most are NORs
pub gates-le : (n : NorView) → IsNetwork n → length n.gates ≤ nor_count n.gates + 1
gates-le n net = omega (arith, gates-counted n.gates, net.one_constant)

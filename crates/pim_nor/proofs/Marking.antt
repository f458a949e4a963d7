-- One step of marking the gates that a marked gate reads.
use Rattle.std.proofs.Common.{◌≡◌, ℕ, ◌-◌, ◌<◌, suc, Bool, true, false, List, length, get_or, sym, ◌∙◌, subst, arith, ap, cond}
use Rattle.std.proofs.lemmas.List.{get_or_read}
use Rattle.pim_nor.specs.declared.network.Gate.{Gate}
use Rattle.pim_nor.specs.Network.{pins}
use Rattle.pim_nor.specs.Reached.{mark_all, reached}

reached_suc : (gate : ℕ → Gate) (t s : ℕ) (marks : List Bool) (b : Bool) → s ≡ suc t → get_or marks t false ≡ b → reached gate s marks ≡ reached gate t (cond b (mark_all marks (pins (gate t))) marks)
reached_suc gate t s marks b e h =
    let P : ℕ → Type 0 = λ n. reached gate n marks ≡ reached gate t (cond b (mark_all marks (pins (gate t))) marks) in
    subst P (sym e) (ap (λ (v : Bool). reached gate t (cond v (mark_all marks (pins (gate t))) marks)) h)

-- a marked gate marks what it reads
pub reached_marked : (gate : ℕ → Gate) (s : ℕ) (marks after : List Bool) (b : Bool) → 0 < s → s - 1 < length marks → b ≡ get_or marks (s - 1) b → b ≡ true → after ≡ mark_all marks (pins (gate (s - 1))) → reached gate (s - 1) after ≡ reached gate s marks
reached_marked gate s marks after b some fits read is e =
    let here : get_or marks (s - 1) false ≡ true = sym (get_or_read marks (s - 1) b fits read false) ∙ is in
    ap (λ (m : List Bool). reached gate (s - 1) m) e ∙ sym (reached_suc gate (s - 1) s marks true (omega arith) here)

-- a gate that is not marked marks nothing
pub reached_unmarked : (gate : ℕ → Gate) (s : ℕ) (marks : List Bool) (b : Bool) → 0 < s → s - 1 < length marks → b ≡ get_or marks (s - 1) b → b ≡ false → reached gate (s - 1) marks ≡ reached gate s marks
reached_unmarked gate s marks b some fits read is =
    let here : get_or marks (s - 1) false ≡ false = sym (get_or_read marks (s - 1) b fits read false) ∙ is in
    sym (reached_suc gate (s - 1) s marks false (omega arith) here)

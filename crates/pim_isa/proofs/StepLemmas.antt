-- What an instruction leaves alone, and what it makes of the cells that it writes.
use Rattle.std.proofs.Common.{◌≡◌, ℕ, ◌<◌, Bool, true, false, ◌&&◌, ◌||◌, not, eqb, List, [], ◌∷◌, length, set, inl, inr, refl, sym, ap, ◌∙◌}
use Rattle.std.specs.Prelude.{All}
use Rattle.std.specs.List.{list_any}
use Rattle.std.proofs.lemmas.Bool.{eqb-true, eqb-false, cases_Bool}
use Rattle.std.proofs.lemmas.List.{length-set, get_or-set_same, get_or-set_other}
use Rattle.std.proofs.lemmas.List.Elements.{All-head, All-tail}
use Rattle.pim_isa.specs.declared.instr.Ins.{Ins}
use Rattle.pim_isa.specs.declared.instr.Instr.{Instr}
use Rattle.pim_isa.specs.declared.instr.Instr.TheVariants.{Init, Nor, Rm3}
use Rattle.pim_isa.specs.Touches.{operands, writes}
use Rattle.pim_isa.specs.Validity.{has}
use Rattle.pim_isa.specs.Steps.{bit, set_ones, step, exec}
use Rattle.pim_isa.proofs.SoundLemmas.{or_falses}

set_elsewhere : (m : List Bool) (t c : ℕ) (b : Bool) → eqb t c ≡ false → bit (set m t b) c ≡ bit m c
set_elsewhere m t c b apart = get_or-set_other m t c b false (λ same. eqb-false t c apart (sym same))

-- a cell that no entry of the list is keeps its bit
pub set_ones_elsewhere : (cells : List ℕ) (m : List Bool) (c : ℕ) → has c cells ≡ false → bit (set_ones cells m) c ≡ bit m c
set_ones_elsewhere [] m c apart = refl
set_ones_elsewhere (d ∷ ds) m c apart =
    let both : (eqb d c ≡ false) × (has c ds ≡ false) = or_falses (eqb d c) (has c ds) apart in
    set_ones_elsewhere ds (set m d true) c both.1 ∙ set_elsewhere m d c true both.0

or_left : (a b : Bool) → (a || b) ≡ true → b ≡ false → a ≡ true
or_left true b e f = refl
or_left false b e f = cc

-- a cell of the list is one
pub set_ones_there : (cells : List ℕ) (m : List Bool) (c : ℕ) → has c cells ≡ true → c < length m → bit (set_ones cells m) c ≡ true
set_ones_there [] m c there small = cc
set_ones_there (d ∷ ds) m c there small =
    elim (cases_Bool (has c ds)) [
      | inl later ↦ set_ones_there ds (set m d true) c later (rw (length-set m d true) small)
      | inr apart ↦
          let same : d ≡ c = eqb-true d c (or_left (eqb d c) (has c ds) there apart) in
          set_ones_elsewhere ds (set m d true) c apart
          ∙ ap (λ (n : ℕ). bit (set m n true) c) same
          ∙ get_or-set_same m c true false small
    ]

-- all cells that an instruction doesn't write stay
pub step_elsewhere : (m : List Bool) (i : Instr) (c : ℕ) → has c (writes i) ≡ false → bit (step m i) c ≡ bit m c
step_elsewhere m (Init cells) c apart = set_ones_elsewhere cells m c apart
step_elsewhere m (Nor t ins) c apart = set_elsewhere m t c _ (or_falses (eqb t c) false apart).0
step_elsewhere m (Rm3 p q z) c apart = set_elsewhere m z c _ (or_falses (eqb z c) false apart).0

-- and so do all cells that none of the instructions writes
pub exec_elsewhere : (is : List Instr) (m : List Bool) (c : ℕ) → All (λ (i : Instr). has c (writes i) ≡ false) is → bit (exec is m) c ≡ bit m c
exec_elsewhere [] m c apart = refl
exec_elsewhere (i ∷ is) m c apart =
    exec_elsewhere is (step m i) c (All-tail (λ (j : Instr). has c (writes j) ≡ false) i is apart)
    ∙ step_elsewhere m i c (All-head (λ (j : Instr). has c (writes j) ≡ false) i is apart)

-- the target of a NOR
pub nor_there : (m : List Bool) (t : ℕ) (ins : Ins) → t < length m →
    bit (step m (Nor t ins)) t ≡ (bit m t && not (list_any (bit m) (operands ins)))
nor_there m t ins small = get_or-set_same m t _ false small

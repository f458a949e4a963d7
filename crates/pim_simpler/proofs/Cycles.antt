-- A cycle of a MAGIC program is one of its NORs or one of its Inits.
use Rattle.std.proofs.Common.{◌≡◌, ℕ, ◌+◌, ◌≤◌, cond, List, [], ◌∷◌, length, refl, arith}
use Rattle.std.specs.Prelude.{All, count_by}
use Rattle.std.proofs.lemmas.Bool.{false≢true}
use Rattle.std.proofs.lemmas.List.Elements.{All-head, All-tail}
use Rattle.std.proofs.lemmas.List.Sums.{sum_by-cons}
use Rattle.pim_isa.specs.Primed.{is_init}
use Rattle.pim_isa.specs.Sound.{IsValid}
use Rattle.pim_isa.specs.Writes.{nor_places, nor_places_from}
use Rattle.pim_isa.specs.declared.instr.Instr.{Instr}
use Rattle.pim_isa.specs.declared.instr.Instr.TheVariants as instr
use Rattle.pim_isa.specs.declared.target.Target.TheVariants.{Magic}

-- one more instruction among those that are Inits
counted : (i : Instr) (is : List Instr) → count_by is_init (i ∷ is) ≡ cond (is_init i) 1 0 + count_by is_init is
counted i is = sum_by-cons (λ j. cond (is_init j) 1 0) i is

pub nors_and_inits : (cells k : ℕ) (is : List Instr) → All (IsValid Magic cells) is → length is ≡ length (nor_places_from k is) + count_by is_init is
nors_and_inits cells k [] all = refl
nors_and_inits cells k (instr.Init cs ∷ is) all =
    let rest = nors_and_inits cells (k + 1) is (All-tail (IsValid Magic cells) (instr.Init cs) is all) in
    omega (arith, rest, counted (instr.Init cs) is)
nors_and_inits cells k (instr.Nor t ins ∷ is) all =
    let rest = nors_and_inits cells (k + 1) is (All-tail (IsValid Magic cells) (instr.Nor t ins) is all) in
    omega (arith, rest, counted (instr.Nor t ins) is)
nors_and_inits cells k (instr.Rm3 p q z ∷ is) all =
    let first = All-head (IsValid Magic cells) (instr.Rm3 p q z) is all in
    absurd (false≢true first.suited)

-- so with one Init there is one cycle more than NORs
pub quick : (cells nors : ℕ) (is : List Instr) → All (IsValid Magic cells) is → length (nor_places is) ≡ nors → count_by is_init is ≤ 1 → length is ≤ nors + 1
quick cells nors is all few once = omega (arith, nors_and_inits cells 0 is all)

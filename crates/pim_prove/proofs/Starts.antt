-- The row that a program starts with holds its vector.
use Rattle.std.proofs.Common.{◌≡◌, ◌≢◌, ℕ, zero, suc, ◌<◌, Bool, false, List, [], ◌∷◌, length, map, set, replicate, refl, sym, ap, subst, ◌∙◌, arith, length-set, get_or-set_same, get_or-set_other}
use Rattle.std.specs.Prelude.{All, AllPairs}
use Rattle.std.proofs.lemmas.List.{length-replicate}
use Rattle.std.proofs.lemmas.List.Elements.{All-head, All-tail}
use Rattle.pim_isa.specs.declared.port.Port.{Port}
use Rattle.pim_isa.specs.declared.target.Fill.TheVariants.{Zeros}
use Rattle.pim_isa.specs.Programs.{ProgramView}
use Rattle.pim_isa.specs.Results.{fill_bit, load, with_inputs}
use Rattle.pim_isa.specs.Sound.{cells_of, IsProgram}
use Rattle.pim_isa.specs.Steps.{bit}
use Rattle.pim_prove.specs.Steady.{HoldsInputs}

length-with_inputs : (ports : List Port) (bits m : List Bool) → length (with_inputs ports bits m) ≡ length m
length-with_inputs [] bits m = refl
length-with_inputs (p ∷ ps) [] m = refl
length-with_inputs (p ∷ ps) (b ∷ bits) m = length-with_inputs ps bits (set m p.cell b) ∙ length-set m p.cell b

-- a cell of none of the ports keeps its bit
other_cell : (ports : List Port) (bits m : List Bool) (c : ℕ) → All (λ d. c ≢ d) (cells_of ports) → bit (with_inputs ports bits m) c ≡ bit m c
other_cell [] bits m c apart = refl
other_cell (p ∷ ps) [] m c apart = refl
other_cell (p ∷ ps) (b ∷ bits) m c apart =
    let here : c ≢ p.cell = All-head (λ (d : ℕ). c ≢ d) p.cell (cells_of ps) apart in
    other_cell ps bits (set m p.cell b) c (All-tail (λ (d : ℕ). c ≢ d) p.cell (cells_of ps) apart)
    ∙ get_or-set_other m p.cell c b false here

apart_head : (x : ℕ) (xs : List ℕ) → AllPairs ◌≢◌ (x ∷ xs) → All (λ (y : ℕ). x ≢ y) xs
apart_head x xs pairs k d small = pairs zero (suc k) d (omega arith) (omega arith)

apart_tail : (x : ℕ) (xs : List ℕ) → AllPairs ◌≢◌ (x ∷ xs) → AllPairs ◌≢◌ xs
apart_tail x xs pairs i j d before small = pairs (suc i) (suc j) d (omega arith) (omega arith)

-- the cells of the ports hold the bits
holds : (ports : List Port) (bits m : List Bool) → length bits ≡ length ports → All (λ (c : ℕ). c < length m) (cells_of ports) →
    AllPairs ◌≢◌ (cells_of ports) → map (bit (with_inputs ports bits m)) (cells_of ports) ≡ bits
holds [] [] m long within apart = refl
holds [] (b ∷ bits) m long within apart = absurd (omega arith)
holds (p ∷ ps) [] m long within apart = absurd (omega arith)
holds (p ∷ ps) (b ∷ bits) m long within apart =
    let cells = cells_of ps in
    let next = set m p.cell b in
    let later : All (λ (c : ℕ). c < length next) cells =
    subst (λ (n : ℕ). All (λ (c : ℕ). c < n) cells) (sym (length-set m p.cell b)) (All-tail (λ (c : ℕ). c < length m) p.cell cells within) in
    let first : bit (with_inputs ps bits next) p.cell ≡ b =
    other_cell ps bits next p.cell (apart_head p.cell cells apart)
    ∙ get_or-set_same m p.cell b false (All-head (λ (c : ℕ). c < length m) p.cell cells within) in
    ap (λ (x : Bool). x ∷ map (bit (with_inputs ps bits next)) cells) first
    ∙ ap (λ (bs : List Bool). b ∷ bs) (holds ps bits next (omega arith) later (apart_tail p.cell cells apart))

pub loaded_holds : (p : ProgramView) (bits : List Bool) → IsProgram p → length bits ≡ length p.inputs → HoldsInputs p bits (load p Zeros bits)
loaded_holds p bits valid long =
    let blank = replicate p.cells (fill_bit Zeros) in
    let len : length (load p Zeros bits) ≡ p.cells = length-with_inputs p.inputs bits blank ∙ length-replicate p.cells (fill_bit Zeros) in
    let within : All (λ (c : ℕ). c < length blank) (cells_of p.inputs) =
    subst (λ (n : ℕ). All (λ (c : ℕ). c < n) (cells_of p.inputs)) (sym (length-replicate p.cells (fill_bit Zeros))) valid.sound.inputs in
    record {
      long = omega (arith, len);
      inputs = holds p.inputs bits blank long within valid.sound.distinct;
    }

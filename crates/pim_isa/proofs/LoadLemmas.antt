-- The row at the start, cell by cell.
use Rattle.std.proofs.Common.{◌≡◌, ◌≢◌, ℕ, zero, suc, ◌<◌, Bool, false, eqb, List, [], ◌∷◌, length, set, replicate, refl, sym, ◌∙◌, arith}
use Rattle.std.specs.Prelude.{slice_index, All, AllPairs}
use Rattle.std.proofs.lemmas.Bool.{eqb-false, ne_eqb}
use Rattle.std.proofs.lemmas.List.{length-set, length-replicate, get_or-set_same, get_or-set_other, get_or-replicate}
use Rattle.std.proofs.lemmas.List.Elements.{All-head, All-tail}
use Rattle.pim_isa.specs.declared.target.Fill.{Fill}
use Rattle.pim_isa.specs.declared.port.Port.{Port}
use Rattle.pim_isa.specs.Programs.{ProgramView}
use Rattle.pim_isa.specs.Validity.{has}
use Rattle.pim_isa.specs.Sound.{cells_of, IsSound}
use Rattle.pim_isa.specs.Steps.{bit}
use Rattle.pim_isa.specs.Results.{fill_bit, with_inputs, load, IsLoaded}
use Rattle.pim_isa.proofs.RowLemmas.{length-with_inputs}
use Rattle.pim_isa.proofs.SoundLemmas.{or_falses, or_from_falses, AllPairs-head, AllPairs-tail}

has_not : (c : ℕ) (cs : List ℕ) → All (λ (d : ℕ). c ≢ d) cs → has c cs ≡ false
has_not c [] all = refl
has_not c (d ∷ ds) all =
    or_from_falses (eqb d c) (has c ds) (ne_eqb d c (λ e. All-head (λ (x : ℕ). c ≢ x) d ds all (sym e))) (has_not c ds (All-tail (λ (x : ℕ). c ≢ x) d ds all))

-- a cell of no input keeps its bit
other_cells : (ports : List Port) (bits m : List Bool) (c : ℕ) → has c (cells_of ports) ≡ false → bit (with_inputs ports bits m) c ≡ bit m c
other_cells [] bits m c apart = refl
other_cells (p ∷ ps) [] m c apart = refl
other_cells (p ∷ ps) (b ∷ bits) m c apart =
    let both : (eqb p.cell c ≡ false) × (has c (cells_of ps) ≡ false) = or_falses (eqb p.cell c) (has c (cells_of ps)) apart in
    other_cells ps bits (set m p.cell b) c both.1 ∙ get_or-set_other m p.cell c b false (λ e. eqb-false p.cell c both.0 (sym e))

-- the cell of each input holds its bit
input_cells : (ports : List Port) (bits m : List Bool) →
    length bits ≡ length ports → All (λ (c : ℕ). c < length m) (cells_of ports) → AllPairs ◌≢◌ (cells_of ports) →
    (j : ℕ) → j < length ports → bit (with_inputs ports bits m) (slice_index (cells_of ports) j) ≡ bit bits j
input_cells [] bits m long within apart j small = absurd (omega arith)
input_cells (p ∷ ps) [] m long within apart j small = absurd (omega arith)
input_cells (p ∷ ps) (b ∷ bits) m long within apart zero small =
    other_cells ps bits (set m p.cell b) p.cell (has_not p.cell (cells_of ps) (AllPairs-head p.cell (cells_of ps) apart))
    ∙ get_or-set_same m p.cell b false (All-head (λ (c : ℕ). c < length m) p.cell (cells_of ps) within)
input_cells (p ∷ ps) (b ∷ bits) m long within apart (suc j) small =
    input_cells ps bits (set m p.cell b) (omega arith)
    (λ k d fits. rw (length-set m p.cell b) (All-tail (λ (c : ℕ). c < length m) p.cell (cells_of ps) within k d fits))
    (AllPairs-tail p.cell (cells_of ps) apart) j (omega arith)

-- the row at the start is what it is said to be, cell by cell
pub load_is : (p : ProgramView) (fill : Fill) (bits : List Bool) → IsSound p → length bits ≡ length p.inputs → IsLoaded p fill bits (load p fill bits)
load_is p fill bits sound long =
    let filled : List Bool = replicate p.cells (fill_bit fill) in
    record {
      long = length-with_inputs p.inputs bits filled ∙ length-replicate p.cells (fill_bit fill);
      inputs = input_cells p.inputs bits filled long
          (λ k d fits. rw (length-replicate p.cells (fill_bit fill)) (sound.inputs k d fits)) sound.distinct;
      others = λ c small apart. other_cells p.inputs bits filled c apart ∙ get_or-replicate p.cells c (fill_bit fill) false small;
    }

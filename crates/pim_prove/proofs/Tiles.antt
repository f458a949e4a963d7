-- Vectors compared 64 at once, and tile by tile.
use Rattle.std.proofs.Common.{◌≡◌, ℕ, suc, ◌+◌, ◌-◌, ◌*◌, ◌%◌, ◌^◌, ◌<◌, Bool, true, false, eqb, List, ◌∷◌, length, drop, set, get_or, Option, Some, None, refl, sym, ap, ◌∙◌, arith, add-one, drop-cons}
use Rattle.std.specs.Int.{bit_at, trailing_zeros, w64}
use Rattle.std.proofs.lemmas.Bool.{true≢false}
use Rattle.std.proofs.lemmas.Nat.Bits.{bit_at-trailing_zeros}
use Rattle.pim_aig.specs.declared.literal.Lit.{Lit}
use Rattle.pim_aig.specs.Graph.{AigView}
use Rattle.pim_aig.specs.Values.{aval, literal_value, node_values}
use Rattle.pim_io.specs.Lanes.{is_set, lane}
use Rattle.pim_isa.specs.declared.port.Port.{Port}
use Rattle.pim_isa.specs.Programs.{ProgramView}
use Rattle.pim_isa.specs.Results.{with_inputs}
use Rattle.pim_isa.specs.Steps.{bit}
use Rattle.pim_lanes.specs.Banks.{BankView, row_of}
use Rattle.pim_prove.specs.declared.blocks.TheConstants.{BLOCK}
use Rattle.pim_prove.specs.Vectors.{digits}
use Rattle.pim_prove.specs.inner.Comparing.{IsFound, differ, first_at, first_unlike, lanes_of, row_at, words_at}
use Rattle.pim_prove.proofs.BitLemmas.{is_set-zero}
use Rattle.pim_prove.proofs.Lanes.{digits-suc}
use Rattle.pim_prove.proofs.Unlike.{none_unlike}

-- ---- loading

-- one input more was put into its cell
pub loaded_more : (ports : List Port) (i : ℕ) (p : Port) (old new m : List Bool) (b : Bool) (left n x : ℕ) → i < length ports → p ≡ get_or ports i p →
    left ≡ suc n → new ≡ set old p.cell b → b ≡ is_set x n →
    with_inputs (drop i ports) (digits left x) old ≡ m → with_inputs (drop (i + 1) ports) (digits n x) new ≡ m
loaded_more ports i p old new m b left n x small at left_is new_is bit_is before =
    let rest = drop (i + 1) ports in
    let front : drop i ports ≡ get_or ports i p ∷ drop (i + 1) ports = rw add-one (drop-cons ports i p small) in
    ap (λ (row : List Bool). with_inputs rest (digits n x) row) new_is
    ∙ ap (λ (c : Bool). with_inputs rest (digits n x) (set old p.cell c)) bit_is
    ∙ ap (λ (q : Port). with_inputs (q ∷ rest) (is_set x n ∷ digits n x) old) at
    ∙ ap (λ (bs : List Bool). with_inputs (get_or ports i p ∷ rest) bs old) (sym (digits-suc n x))
    ∙ ap (λ (k : ℕ). with_inputs (get_or ports i p ∷ rest) (digits k x) old) (sym left_is)
    ∙ ap (λ (qs : List Port). with_inputs qs (digits left x) old) (sym front)
    ∙ before

-- ---- one word

-- an output isn't the same for vector x
abbrev pub differs_for : ProgramView → AigView → ℕ → Bool
differs_for p g x = differ (bit (row_at p x)) (aval g (digits g.inputs x)) p.outputs g.outputs

differ_for : (p : ProgramView) (g : AigView) (x : ℕ) (row values : List Bool) (ps : List Port) (ls : List Lit) → row ≡ row_at p x →
    values ≡ node_values g (digits g.inputs x) → ps ≡ p.outputs → ls ≡ g.outputs → differ (bit row) (literal_value values) ps ls ≡ differs_for p g x
differ_for p g x row values ps ls row_is values_are ps_are ls_are =
    ap (λ (m : List Bool). differ (bit m) (literal_value values) ps ls) row_is
    ∙ ap (λ (vs : List Bool). differ (bit (row_at p x)) (literal_value vs) ps ls) values_are
    ∙ ap (λ (qs : List Port). differ (bit (row_at p x)) (aval g (digits g.inputs x)) qs ls) ps_are
    ∙ ap (differ (bit (row_at p x)) (aval g (digits g.inputs x)) p.outputs) ls_are

first_for : (p : ProgramView) (g : AigView) (x : ℕ) (row values : List Bool) (ps : List Port) (ls : List Lit) → row ≡ row_at p x →
    values ≡ node_values g (digits g.inputs x) → ps ≡ p.outputs → ls ≡ g.outputs → first_unlike (bit row) (literal_value values) 0 ps ls ≡ first_at p g x
first_for p g x row values ps ls row_is values_are ps_are ls_are =
    ap (λ (m : List Bool). first_unlike (bit m) (literal_value values) 0 ps ls) row_is
    ∙ ap (λ (vs : List Bool). first_unlike (bit (row_at p x)) (literal_value vs) 0 ps ls) values_are
    ∙ ap (λ (qs : List Port). first_unlike (bit (row_at p x)) (aval g (digits g.inputs x)) 0 qs ls) ps_are
    ∙ ap (first_unlike (bit (row_at p x)) (aval g (digits g.inputs x)) 0 p.outputs) ls_are

-- the lanes are those of the vectors that differ
abbrev pub AreLanes : ProgramView → AigView → ℕ → ℕ → Type 0
AreLanes p g word lanes = (r : ℕ) → r < 64 → is_set lanes r ≡ differs_for p g (64 * word + r)

not_set : (n r : ℕ) → bit_at n r ≡ 0 → is_set n r ≡ false
unfolding is_set
not_set n r none = ap (λ b. eqb b 1) none

set_there : (n r : ℕ) → bit_at n r ≡ 1 → is_set n r ≡ true
unfolding is_set
set_there n r one = ap (λ b. eqb b 1) one

word_none : (p : ProgramView) (g : AigView) (word lanes : ℕ) → lanes ≡ 0 → AreLanes p g word lanes → IsFound p g (64 * word) (64 * word + 64) None
word_none p g word lanes none are = λ x low high.
    let r = x - 64 * word in
    let small : r < 64 = omega arith in
    let sum : x ≡ 64 * word + r = omega arith in
    ap (differs_for p g) sum ∙ sym (are r small) ∙ ap (λ (n : ℕ). is_set n r) none ∙ is_set-zero r

word_some : (p : ProgramView) (g : AigView) (word lanes lane vector k to : ℕ) → 0 < lanes → lanes < 2 ^ 64 → lane ≡ trailing_zeros w64 lanes →
    AreLanes p g word lanes → vector ≡ 64 * word + lane → first_at p g (64 * word + lane) ≡ Some k →
    IsFound p g (64 * word) to (Some (record { vector = vector; output = k }))
word_some p g word lanes lane vector k to some fits is are sum first =
    let tz = bit_at-trailing_zeros w64 lanes some fits in (
      λ x low below.
          let r = x - 64 * word in
          let lower : r < trailing_zeros w64 lanes = omega arith in
          let small : r < 64 = omega (arith, tz.0) in
          let at : x ≡ 64 * word + r = omega arith in
          ap (differs_for p g) at ∙ sym (are r small) ∙ not_set lanes r (tz.2 r lower),
      ap (first_at p g) sum ∙ first,
    )

-- the lowest of the lanes has a first output
word_never : (p : ProgramView) (g : AigView) (word lanes lane : ℕ) → 0 < lanes → lanes < 2 ^ 64 → lane ≡ trailing_zeros w64 lanes →
    AreLanes p g word lanes → first_at p g (64 * word + lane) ≡ None → ⊥
word_never p g word lanes lane some fits is are none =
    let tz = bit_at-trailing_zeros w64 lanes some fits in
    let small : lane < 64 = omega (arith, tz.0) in
    let there : is_set lanes lane ≡ true = ap (is_set lanes) is ∙ set_there lanes (trailing_zeros w64 lanes) tz.1 in
    let x = 64 * word + lane in
    let apart : differs_for p g x ≡ false = none_unlike (bit (row_at p x)) (aval g (digits g.inputs x)) 0 p.outputs g.outputs none in
    true≢false (sym there ∙ are lane small ∙ apart)

-- the lowest lane is one
lane_small : (lanes lane : ℕ) → 0 < lanes → lanes < 2 ^ 64 → lane ≡ trailing_zeros w64 lanes → lane < 64
lane_small lanes lane some fits is = let tz = bit_at-trailing_zeros w64 lanes some fits in omega (arith, tz.0)

-- the row of lane r of the word at this place of a bank, and the values of the graph's nodes in that lane
abbrev pub row_in : BankView → ℕ → ℕ → List Bool
row_in bank place r = row_of bank (64 * place + r)

abbrev pub values_in : List (List ℕ) → ℕ → ℕ → List Bool
values_in blocks place r = lanes_of (words_at blocks (place % BLOCK)) r

-- they are those of the vectors of a word, with the outputs that are compared
pub record AreRows (p : ProgramView) (g : AigView) (bank : BankView) (blocks : List (List ℕ)) (place word : ℕ) (ps : List Port) (ls : List Lit) : Type 0 where
  pub rows : (r : ℕ) → r < 64 → row_in bank place r ≡ row_at p (64 * word + r)
  pub values : (r : ℕ) → r < 64 → values_in blocks place r ≡ node_values g (digits g.inputs (64 * word + r))
  pub ports : ps ≡ p.outputs
  pub literals : ls ≡ g.outputs

-- the lanes are those where they give outputs that are not the same
abbrev pub AreUnlike : BankView → List (List ℕ) → ℕ → List Port → List Lit → ℕ → Type 0
AreUnlike bank blocks place ps ls lanes = (r : ℕ) → r < 64 → is_set lanes r ≡ differ (bit (row_in bank place r)) (literal_value (values_in blocks place r)) ps ls

module _ (p : ProgramView) (g : AigView) (bank : BankView) (blocks : List (List ℕ)) (place word : ℕ) (ps : List Port) (ls : List Lit) (lanes : ℕ) where
  lanes_are : AreRows p g bank blocks place word ps ls → AreUnlike bank blocks place ps ls lanes → AreLanes p g word lanes
  lanes_are a are = λ r small.
      are r small
      ∙ differ_for p g (64 * word + r) (row_in bank place r) (values_in blocks place r) ps ls (a.rows r small) (a.values r small) a.ports a.literals

  -- where there are none, nothing is found
  pub none_found : lanes ≡ 0 → AreRows p g bank blocks place word ps ls → AreUnlike bank blocks place ps ls lanes → IsFound p g (64 * word) (64 * word + 64) None
  none_found none a are = word_none p g word lanes none (lanes_are a are)

  first_there : (o : Option ℕ) → 0 < lanes → lanes < 2 ^ 64 → AreRows p g bank blocks place word ps ls →
      first_unlike (bit (row_in bank place (trailing_zeros w64 lanes))) (literal_value (values_in blocks place (trailing_zeros w64 lanes))) 0 ps ls ≡ o → first_at p g (64 * word + trailing_zeros w64 lanes) ≡ o
  first_there o some fits a first =
      let lane = trailing_zeros w64 lanes in
      let small : lane < 64 = lane_small lanes lane some fits refl in
      sym (first_for p g (64 * word + lane) (row_in bank place lane) (values_in blocks place lane) ps ls (a.rows lane small) (a.values lane small) a.ports a.literals) ∙ first

  -- else there is a first output in the lowest of them
  pub never_none : 0 < lanes → lanes < 2 ^ 64 → AreRows p g bank blocks place word ps ls → AreUnlike bank blocks place ps ls lanes →
      first_unlike (bit (row_in bank place (trailing_zeros w64 lanes))) (literal_value (values_in blocks place (trailing_zeros w64 lanes))) 0 ps ls ≡ None → ⊥
  never_none some fits a are none = word_never p g word lanes (trailing_zeros w64 lanes) some fits refl (lanes_are a are) (first_there None some fits a none)

  -- and that is the first difference of the word
  pub word_found : (k : ℕ) → 0 < lanes → lanes < 2 ^ 64 → AreRows p g bank blocks place word ps ls → AreUnlike bank blocks place ps ls lanes →
      first_unlike (bit (row_in bank place (trailing_zeros w64 lanes))) (literal_value (values_in blocks place (trailing_zeros w64 lanes))) 0 ps ls ≡ Some k →
      IsFound p g (64 * word) (64 * word + 64) (Some (record { vector = 64 * word + trailing_zeros w64 lanes; output = k }))
  word_found k some fits a are first =
      word_some p g word lanes (trailing_zeros w64 lanes) (64 * word + trailing_zeros w64 lanes) k (64 * word + 64) some fits refl (lanes_are a are) refl
      (first_there (Some k) some fits a first)

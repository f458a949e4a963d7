-- Each slot's gate has the value of its literal.
use Rattle.std.proofs.Common.{◌≡◌, ℕ, ◌+◌, ◌-◌, ◌/◌, ◌%◌, ◌<◌, ◌≤◌, Bool, true, false, not, ◌&&◌, List, [], ◌∷◌, length, get_or, map, refl, sym, ◌∙◌, ap, arith, inl, inr}
use Rattle.std.proofs.lemmas.Bool.{cases_eq, cases_lt}
use Rattle.std.proofs.lemmas.Bool.Decides.{nat_tests}
use Rattle.std.proofs.lemmas.List.{length-map}
use Rattle.pim_aig.specs.Graph.{AigView}
use Rattle.pim_aig.specs.Laws.{ValueLaws}
use Rattle.pim_aig.specs.Values.{literal_value, node_values}
use Rattle.pim_aig.specs.Literals.{complement}
use Rattle.pim_aig.specs.declared.literal.Lit.{Lit}
use Rattle.pim_aig.specs.declared.graph.And.{And}
use Rattle.pim_nor.specs.declared.network.Pin.{Pin}
use Rattle.pim_nor.specs.declared.network.Pin.TheVariants.{Input, Gate as Place}
use Rattle.pim_nor.specs.Named.{source, literal_at, nor_of, nor_of_leaves}
use Rattle.pim_nor.specs.Network.{pins}
use Rattle.pim_nor.specs.Values.{none_true}
use Rattle.pim_nor.proofs.PrunedValues.{full_value}
use Rattle.pim_nor.proofs.SlotLiterals.{literal_low, literal_mid, literal_high}

-- the value of a slot
abbrev pub slot_value : ℕ → List Bool → ℕ → Bool
slot_value inputs values s = literal_value values (literal_at inputs s)

-- a literal's value goes by its number alone, and by its node's value
pub value-by : (values : List Bool) (l m : Lit) → l.0 ≡ m.0 → literal_value values l ≡ literal_value values m
value-by values l m e = ap (λ (n : ℕ). literal_value values (record { 0 = n })) e

pub value-even : (values : List Bool) (l : Lit) → l.0 % 2 ≡ 0 → literal_value values l ≡ get_or values (l.0 / 2) false
value-even values l e = grind (arith, nat_tests)

pub value-odd : (values : List Bool) (l : Lit) → l.0 % 2 ≡ 1 → literal_value values l ≡ not (get_or values (l.0 / 2) false)
value-odd values l e = grind (arith, nat_tests)

pub complement-even : (l : Lit) → l.0 % 2 ≡ 0 → (complement l).0 ≡ l.0 + 1
complement-even l e = grind arith

pub complement-odd : (l : Lit) → l.0 % 2 ≡ 1 → (complement l).0 ≡ l.0 - 1
complement-odd l e = grind arith

pub not_not : (b : Bool) → not (not b) ≡ b
not_not true = refl
not_not false = refl

-- what a literal is read from, in each of its four cases
source_low : (inputs : ℕ) (l : Lit) → l.0 < 2 → source inputs l ≡ Place (1 - l.0)
source_low inputs l h = grind arith

pub source_and : (inputs : ℕ) (l : Lit) → inputs < l.0 / 2 → source inputs l ≡ Place (l.0 - inputs)
source_and inputs l h = grind arith

source_odd : (inputs : ℕ) (l : Lit) → 2 ≤ l.0 → l.0 / 2 ≤ inputs → l.0 % 2 ≡ 1 → source inputs l ≡ Place (2 + inputs - l.0 / 2)
source_odd inputs l h k o = grind arith

source_input : (inputs : ℕ) (l : Lit) → 2 ≤ l.0 → l.0 / 2 ≤ inputs → l.0 % 2 ≡ 0 → source inputs l ≡ Input (l.0 / 2 - 1)
source_input inputs l h k o = grind arith

-- the nodes have these values, where the inputs have these bits
pub record IsEvaluated (g : AigView) (bits : List Bool) (values : List Bool) : Type 0 where
  pub first : get_or values 0 false ≡ false
  pub inputs_are : (j : ℕ) → j < g.inputs → get_or values (1 + j) false ≡ get_or bits j false
  pub ands_are : (k : ℕ) (d : And) → k < length g.ands → get_or values (1 + g.inputs + k) false ≡ (literal_value values (get_or g.ands k d).x && literal_value values (get_or g.ands k d).y)
  pub complements : (l : Lit) → literal_value values (complement l) ≡ not (literal_value values l)

pub node_values-IsEvaluated : (g : AigView) → ValueLaws g → (bits : List Bool) → length bits ≡ g.inputs → IsEvaluated g bits (node_values g bits)
node_values-IsEvaluated g laws bits len =
    let values = node_values g bits in
    record {
      first = sym (laws.plains values 0) ∙ laws.constant bits;
      inputs_are = λ j h. sym (laws.plains values (1 + j)) ∙ laws.inputs bits j len h;
      ands_are = λ k d h. sym (laws.plains values (1 + g.inputs + k)) ∙ laws.ands bits k d len h;
      complements = laws.complements values;
    }

-- what a literal is read from has its value
pub full_value-source : (g : AigView) (bits values : List Bool) → IsEvaluated g bits values → (l : Lit) → full_value bits (slot_value g.inputs values) (source g.inputs l) ≡ literal_value values l
full_value-source g bits values ev l =
    let full = full_value bits (slot_value g.inputs values) in
    elim (cases_lt l.0 2) [
      | inl low ↦
          let s = 1 - l.0 in
          ap full (source_low g.inputs l low) ∙ value-by values (literal_at g.inputs s) l (literal_low g.inputs s (omega arith) ∙ omega arith)
      | inr two ↦ elim (cases_lt g.inputs (l.0 / 2)) [
        | inl above ↦
            let s = l.0 - g.inputs in
            ap full (source_and g.inputs l above) ∙ value-by values (literal_at g.inputs s) l (literal_high g.inputs s (omega arith) ∙ omega arith)
        | inr input ↦ elim (cases_eq (l.0 % 2) 0) [
          | inl even ↦
              let j = l.0 / 2 - 1 in
              let e : 1 + j ≡ l.0 / 2 = omega arith in
              ap full (source_input g.inputs l two input even) ∙ (sym (ev.inputs_are j (omega arith)) ∙ (ap (λ (n : ℕ). get_or values n false) e ∙ sym (value-even values l even)))
          | inr other ↦
              let s = 2 + g.inputs - l.0 / 2 in
              ap full (source_odd g.inputs l two input (omega arith)) ∙ value-by values (literal_at g.inputs s) l (literal_mid g.inputs s (omega arith) (omega arith) ∙ omega arith)
        ]
      ]
    ]

-- all these literals are true
abbrev pub all_true : List Bool → List Lit → Bool
all_true values [] = true
all_true values (l ∷ ls) = literal_value values l && all_true values ls

pub pins-nor_of : (ps : List Pin) → length ps ≤ 4 → pins (nor_of ps) ≡ ps
pins-nor_of [] h = refl
pins-nor_of (a ∷ []) h = refl
pins-nor_of (a ∷ b ∷ []) h = refl
pins-nor_of (a ∷ b ∷ c ∷ []) h = refl
pins-nor_of (a ∷ b ∷ c ∷ d ∷ []) h = refl
pins-nor_of (a ∷ b ∷ c ∷ d ∷ e ∷ ps) h = absurd (omega arith)

none_true-sources : (g : AigView) (bits values : List Bool) → IsEvaluated g bits values → (ls : List Lit) → none_true (full_value bits (slot_value g.inputs values)) (map (λ leaf. source g.inputs (complement leaf)) ls) ≡ all_true values ls
none_true-sources g bits values ev [] = refl
none_true-sources g bits values ev (l ∷ ls) =
    let full = full_value bits (slot_value g.inputs values) in
    let here : not (full (source g.inputs (complement l))) ≡ literal_value values l = ap not (full_value-source g bits values ev (complement l) ∙ ev.complements l) ∙ not_not (literal_value values l) in
    ap (λ (b : Bool). b && none_true full (map (λ leaf. source g.inputs (complement leaf)) ls)) here ∙ ap (λ (b : Bool). literal_value values l && b) (none_true-sources g bits values ev ls)

-- the NOR of at most four leaves' complements is true exactly where all leaves are
pub nor_of-value : (g : AigView) (bits values : List Bool) → IsEvaluated g bits values → (ls : List Lit) → length ls ≤ 4 → none_true (full_value bits (slot_value g.inputs values)) (pins (nor_of_leaves g.inputs ls)) ≡ all_true values ls
nor_of-value g bits values ev ls few =
    let ps = map (λ leaf. source g.inputs (complement leaf)) ls in
    ap (λ (qs : List Pin). none_true (full_value bits (slot_value g.inputs values)) qs) (pins-nor_of ps (omega (arith, length-map ls (λ leaf. source g.inputs (complement leaf))))) ∙ none_true-sources g bits values ev ls

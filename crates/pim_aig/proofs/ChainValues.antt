-- A chain is true exactly where all its literals are.
use Rattle.std.proofs.Common.{◌≡◌, ℕ, ◌+◌, ◌-◌, ◌*◌, ◌/◌, ◌%◌, ◌<◌, ◌≤◌, Bool, true, false, cond, eqb, not, ◌&&◌, List, [], ◌∷◌, ◌++◌, length, get_or, Option, Some, None, refl, sym, ◌∙◌, ap, subst, arith, map, inl, inr}
use Rattle.std.proofs.lemmas.Bool.Decides.{nat_tests}
use Rattle.std.proofs.lemmas.List.{get_or_append_left, get_or_push, length_push}
use Rattle.std.proofs.lemmas.Bool.{cases_eq}
use Rattle.pim_net.specs.Values.{row_holds}
use Rattle.pim_net.specs.declared.cover.Bit3.{Bit3}
use Rattle.pim_net.specs.declared.cover.Bit3.TheVariants.{Zero, One, Any}
use Rattle.pim_aig.specs.Chains.{chain_from, row_literals}
use Rattle.pim_aig.specs.Literals.{complement, plain}
use Rattle.pim_aig.specs.Values.{literal_value, values_from}
use Rattle.pim_aig.specs.declared.literal.Lit.{Lit}
use Rattle.pim_aig.specs.declared.graph.And.{And}

pub values_from-append : (values : List Bool) (ands more : List And) → values_from values (ands ++ more) ≡ values_from (values_from values ands) more
values_from-append values [] more = refl
values_from-append values (a ∷ ands) more = values_from-append (values ++ (literal_value values a.x && literal_value values a.y) ∷ []) ands more

pub length-values_from : (values : List Bool) (ands : List And) → length (values_from values ands) ≡ length values + length ands
length-values_from values [] = omega arith
length-values_from values (a ∷ ands) =
    let v = literal_value values a.x && literal_value values a.y in
    omega (arith, length-values_from (values ++ v ∷ []) ands, length_push values v)

-- each literal is of one of the first n nodes
abbrev pub AreBelow : ℕ → List Lit → Type 0
AreBelow n [] = Unit {0}
AreBelow n (l ∷ ls) = (l.0 < 2 * n) × AreBelow n ls

abbrev pub IsLastBelow : ℕ → Option Lit → Type 0
IsLastBelow n None = Unit {0}
IsLastBelow n (Some l) = l.0 < 2 * n

pub AreBelow-le : (m n : ℕ) (ls : List Lit) → m ≤ n → AreBelow m ls → AreBelow n ls
AreBelow-le m n [] le h = tt
AreBelow-le m n (l ∷ ls) le h = let b : l.0 < 2 * m = h.0 in (omega arith, AreBelow-le m n ls le h.1)

-- one more node changes no value of earlier literals
pub literal-push : (values : List Bool) (v : Bool) (l : Lit) → l.0 < 2 * length values → literal_value (values ++ v ∷ []) l ≡ literal_value values l
literal-push values v l h =
    let below : l.0 / 2 < length values = omega arith in
    ap (λ (b : Bool). cond (eqb (l.0 % 2) 1) (not b) b) (get_or_append_left values (v ∷ []) false (l.0 / 2) below)

-- all these literals are true
abbrev pub all_true : List Bool → List Lit → Bool
all_true values [] = true
all_true values (l ∷ ls) = literal_value values l && all_true values ls

all_true-push : (values : List Bool) (v : Bool) (ls : List Lit) → AreBelow (length values) ls → all_true (values ++ v ∷ []) ls ≡ all_true values ls
all_true-push values v [] h = refl
all_true-push values v (l ∷ ls) h =
    ap (λ (b : Bool). b && all_true (values ++ v ∷ []) ls) (literal-push values v l h.0) ∙ ap (λ (b : Bool). literal_value values l && b) (all_true-push values v ls h.1)

-- the value of the chain so far
abbrev pub last_value : List Bool → Option Lit → Bool
last_value values None = true
last_value values (Some l) = literal_value values l

pub and_true : (b : Bool) → b ≡ (b && true)
and_true true = refl
and_true false = refl

pub and_assoc : (a b c : Bool) → ((a && b) && c) ≡ (a && (b && c))
and_assoc true b c = refl
and_assoc false b c = refl

plain-value : (values : List Bool) (v : Bool) (n : ℕ) → length values ≡ n → literal_value (values ++ v ∷ []) (plain n) ≡ v
plain-value values v n e =
    let half : 2 * n / 2 ≡ n = omega arith in
    let even : (2 * n) % 2 ≡ 0 = omega arith in
    let none : eqb ((2 * n) % 2) 1 ≡ false = grind (arith, nat_tests) in
    ap (λ (b : Bool). cond b (not (get_or (values ++ v ∷ []) (2 * n / 2) false)) (get_or (values ++ v ∷ []) (2 * n / 2) false)) none ∙ (ap (λ (k : ℕ). get_or (values ++ v ∷ []) k false) half ∙ get_or_push values v false n e)

pub chain-value : (base : List Bool) (inputs : ℕ) → length base ≡ 1 + inputs → (ands : List And) → get_or (values_from base ands) 0 false ≡ false → (last : Option Lit) (ls : List Lit) → IsLastBelow (1 + inputs + length ands) last → AreBelow (1 + inputs + length ands) ls → literal_value (values_from base (chain_from inputs ands last ls).ands) (chain_from inputs ands last ls).lit ≡ (last_value (values_from base ands) last && all_true (values_from base ands) ls)
chain-value base inputs len ands zero None [] a b = ap not zero
chain-value base inputs len ands zero (Some c) [] a b = and_true (literal_value (values_from base ands) c)
chain-value base inputs len ands zero None (l ∷ ls) a b = chain-value base inputs len ands zero (Some l) ls b.0 b.1
chain-value base inputs len ands zero (Some c) (l ∷ ls) a b =
    let values = values_from base ands in
    let v = literal_value values c && literal_value values l in
    let more : List And = ands ++ record { x = c; y = l } ∷ [] in
    let n = 1 + inputs + length ands in
    let size : length values ≡ n = omega (arith, length-values_from base ands) in
    let grown : values_from base more ≡ values ++ v ∷ [] = values_from-append base ands (record { x = c; y = l } ∷ []) in
    let longer : length more ≡ length ands + 1 = length_push ands (record { x = c; y = l }) in
    let some : 0 < length values = omega arith in
    let still : get_or (values_from base more) 0 false ≡ false = ap (λ (vs : List Bool). get_or vs 0 false) grown ∙ (get_or_append_left values (v ∷ []) false 0 some ∙ zero) in
    let next : IsLastBelow (1 + inputs + length more) (Some (plain n)) = omega arith in
    let P : ℕ → Type 0 = λ k. AreBelow k ls in
    let rest = chain-value base inputs len more still (Some (plain n)) ls next (AreBelow-le n (1 + inputs + length more) ls (omega arith) b.1) in
    rest ∙ (ap (λ (vs : List Bool). literal_value vs (plain n) && all_true vs ls) grown ∙ (ap (λ (x : Bool). x && all_true (values ++ v ∷ []) ls) (plain-value values v n size) ∙ (ap (λ (x : Bool). v && x) (all_true-push values v ls (subst P (sym size) b.1)) ∙ and_assoc (literal_value values c) (literal_value values l) (all_true values ls))))

-- a node of which a literal is true where its complement is not
pub value-even : (values : List Bool) (l : Lit) → l.0 % 2 ≡ 0 → literal_value values l ≡ get_or values (l.0 / 2) false
value-even values l e = grind (arith, nat_tests)

value-odd : (values : List Bool) (l : Lit) → l.0 % 2 ≡ 1 → literal_value values l ≡ not (get_or values (l.0 / 2) false)
value-odd values l e = grind (arith, nat_tests)

complement-even : (l : Lit) → l.0 % 2 ≡ 0 → (complement l).0 ≡ l.0 + 1
complement-even l e = grind arith

complement-odd : (l : Lit) → l.0 % 2 ≡ 1 → (complement l).0 ≡ l.0 - 1
complement-odd l e = grind arith

pub not_not : (b : Bool) → not (not b) ≡ b
not_not true = refl
not_not false = refl

pub value-complement : (values : List Bool) (l : Lit) → literal_value values (complement l) ≡ not (literal_value values l)
value-complement values l =
    let c = complement l in
    elim (cases_eq (l.0 % 2) 0) [
      | inl even ↦
          let n : c.0 ≡ l.0 + 1 = complement-even l even in
          let half : c.0 / 2 ≡ l.0 / 2 = omega arith in
          value-odd values c (omega arith) ∙ (ap (λ (k : ℕ). not (get_or values k false)) half ∙ ap not (sym (value-even values l even)))
      | inr other ↦
          let odd : l.0 % 2 ≡ 1 = omega arith in
          let n : c.0 ≡ l.0 - 1 = complement-odd l odd in
          let half : c.0 / 2 ≡ l.0 / 2 = omega arith in
          value-even values c (omega arith) ∙ (ap (λ (k : ℕ). get_or values k false) half ∙ (sym (not_not (get_or values (l.0 / 2) false)) ∙ ap not (sym (value-odd values l odd))))
    ]

-- what a row asks is true exactly where the row holds
pub row_literals-value : (values : List Bool) (lits : ℕ → Lit) (ins : List ℕ) (row : List Bit3) → all_true values (row_literals lits ins row) ≡ row_holds row (map (λ s. literal_value values (lits s)) ins)
row_literals-value values lits [] [] = refl
row_literals-value values lits [] (cell ∷ row) = refl
row_literals-value values lits (s ∷ ss) [] = refl
row_literals-value values lits (s ∷ ss) (Zero ∷ row) =
    ap (λ (b : Bool). b && all_true values (row_literals lits ss row)) (value-complement values (lits s)) ∙ ap (λ (b : Bool). not (literal_value values (lits s)) && b) (row_literals-value values lits ss row)
row_literals-value values lits (s ∷ ss) (One ∷ row) =
    ap (λ (b : Bool). literal_value values (lits s) && b) (row_literals-value values lits ss row)
row_literals-value values lits (s ∷ ss) (Any ∷ row) = row_literals-value values lits ss row

-- What lists of leaves must be for the network to have the graph's values, and that the leaves of both widths are so.
use Rattle.std.proofs.Common.{◌≡◌, ◌⊎◌, ℕ, ◌+◌, ◌-◌, ◌*◌, ◌/◌, ◌%◌, ◌<◌, ◌≤◌, suc, Bool, true, false, cond, eqb, ltb, ◌&&◌, List, [], ◌∷◌, ◌++◌, length, get_or, refl, sym, ◌∙◌, ap, subst, arith, inl, inr}
use Rattle.std.specs.List.{list_any}
use Rattle.std.proofs.lemmas.Bool.{false≢true, cases_Bool, or_cases, and_parts, cond-true, cond-false, cond_both, eqb-true, ltb-true}
use Rattle.pim_aig.specs.Graph.{AigView, IsAig, nodes}
use Rattle.pim_aig.specs.Literals.{plain}
use Rattle.pim_aig.specs.Values.{literal_value}
use Rattle.pim_aig.specs.declared.literal.Lit.{Lit}
use Rattle.pim_aig.specs.declared.graph.And.{And}
use Rattle.pim_nor.specs.declared.lowering.Width.{Width}
use Rattle.pim_nor.specs.declared.lowering.Width.TheVariants.{Two, Four}
use Rattle.pim_nor.specs.Leaves.{leaves, operands, and_at, is_single, gives_way, widened, distinct, distinct_after}
use Rattle.pim_nor.proofs.LiteralValues.{IsEvaluated, all_true, value-by, value-even}

-- each of the literals has the property
abbrev pub AllOf : (Lit → Type 0) → List Lit → Type 0
AllOf P [] = Unit {0}
AllOf P (l ∷ ls) = P l × AllOf P ls

-- the literal is of a node before this one
abbrev pub IsBefore : ℕ → Lit → Type 0
IsBefore n l = l.0 < 2 * n

-- the number is that of an AND node
pub record IsAnd (g : AigView) (n : ℕ) : Type 0 where
  pub above : g.inputs < n
  pub there : n < nodes g

-- of each AND node there are one to four leaves, of nodes before it, and the node is true exactly where all of them are
pub record AreLeaves (g : AigView) (lists : ℕ → List Lit) : Type 0 where
  pub few : (n : ℕ) → IsAnd g n → length (lists n) ≤ 4
  pub some : (n : ℕ) → IsAnd g n → 0 < length (lists n)
  pub before : (n : ℕ) → IsAnd g n → AllOf (IsBefore n) (lists n)
  pub conjoin : (n : ℕ) → IsAnd g n → (bits values : List Bool) → IsEvaluated g bits values → all_true values (lists n) ≡ get_or values n false

-- dropping repeated literals

pub AllOf-distinct : (P : Lit → Type 0) (earlier ls : List Lit) → AllOf P ls → AllOf P (distinct_after earlier ls)
AllOf-distinct P earlier [] h = tt
AllOf-distinct P earlier (l ∷ ls) h =
    let rest = AllOf-distinct P (earlier ++ l ∷ []) ls h.1 in
    elim (list_any (λ m. eqb m.0 l.0) earlier) as (λ b. AllOf P (cond b (distinct_after (earlier ++ l ∷ []) ls) (l ∷ distinct_after (earlier ++ l ∷ []) ls))) [
      | true ↦ rest
      | false ↦ (h.0, rest)
    ]

length-distinct : (earlier ls : List Lit) → length (distinct_after earlier ls) ≤ length ls
length-distinct earlier [] = omega arith
length-distinct earlier (l ∷ ls) =
    let rest = length-distinct (earlier ++ l ∷ []) ls in
    elim (list_any (λ m. eqb m.0 l.0) earlier) as (λ b. length (cond b (distinct_after (earlier ++ l ∷ []) ls) (l ∷ distinct_after (earlier ++ l ∷ []) ls)) ≤ suc (length ls)) [
      | true ↦ omega arith
      | false ↦ omega arith
    ]

and_assoc : (a b c : Bool) → ((a && b) && c) ≡ (a && (b && c))
and_assoc true b c = refl
and_assoc false b c = refl

and_true : (b : Bool) → (b && true) ≡ b
and_true true = refl
and_true false = refl

and_absorbs : (a b c : Bool) → a ≡ c → ((a && b) && c) ≡ (a && b)
and_absorbs true b c e = ap (λ (x : Bool). b && x) (sym e) ∙ and_true b
and_absorbs false b c e = refl

all_true-push : (values : List Bool) (ls : List Lit) (l : Lit) → all_true values (ls ++ l ∷ []) ≡ (all_true values ls && literal_value values l)
all_true-push values [] l = and_true (literal_value values l)
all_true-push values (m ∷ ls) l =
    ap (λ (b : Bool). literal_value values m && b) (all_true-push values ls l) ∙ sym (and_assoc (literal_value values m) (all_true values ls) (literal_value values l))

-- where all are true, so is each that stands among them
among_true : (values : List Bool) (ls : List Lit) (l : Lit) → list_any (λ m. eqb m.0 l.0) ls ≡ true → (all_true values ls && literal_value values l) ≡ all_true values ls
among_true values [] l h = absurd (false≢true h)
among_true values (m ∷ ls) l h =
    elim (or_cases (eqb m.0 l.0) (list_any (λ k. eqb k.0 l.0) ls) h) [
      | inl here ↦ and_absorbs (literal_value values m) (all_true values ls) (literal_value values l) (value-by values m l (eqb-true m.0 l.0 here))
      | inr later ↦ and_assoc (literal_value values m) (all_true values ls) (literal_value values l) ∙ ap (λ (b : Bool). literal_value values m && b) (among_true values ls l later)
    ]

-- a literal that repeats an earlier one changes no conjunction with the earlier ones
all_true-distinct : (values : List Bool) (earlier ls : List Lit) → (all_true values earlier && all_true values (distinct_after earlier ls)) ≡ (all_true values earlier && all_true values ls)
all_true-distinct values earlier [] = refl
all_true-distinct values earlier (l ∷ ls) =
    let t : List Lit → Bool = all_true values in
    let v = literal_value values l in
    let more : List Lit = earlier ++ l ∷ [] in
    let rest = distinct_after more ls in
    let b = list_any (λ m. eqb m.0 l.0) earlier in
    let push : t more ≡ (t earlier && v) = all_true-push values earlier l in
    let on : (t more && t rest) ≡ (t more && t ls) = all_true-distinct values more ls in
    let after : (t more && t ls) ≡ (t earlier && (v && t ls)) = ap (λ (x : Bool). x && t ls) push ∙ and_assoc (t earlier) v (t ls) in
    let P : List Lit → Type 0 = λ xs. (t earlier && t xs) ≡ (t earlier && (v && t ls)) in
    cond_both b rest (l ∷ rest) P
    (λ h. ap (λ (x : Bool). x && t rest) (sym (among_true values earlier l h)) ∙ (ap (λ (x : Bool). x && t rest) (sym push) ∙ (on ∙ after)))
    (λ h. sym (and_assoc (t earlier) v (t rest)) ∙ (ap (λ (x : Bool). x && t rest) (sym push) ∙ (on ∙ after)))

some-distinct : (l : Lit) (ls : List Lit) → 0 < length (distinct (l ∷ ls))
some-distinct l ls = omega arith

-- widening

and_at-number : (g : AigView) (n k : ℕ) → n ≡ 1 + g.inputs + k → and_at g n ≡ get_or g.ands k (record { x = plain 0; y = plain 0 })
and_at-number g n k e =
    let i : n - 1 - g.inputs ≡ k = omega arith in
    ap (λ (j : ℕ). get_or g.ands j (record { x = plain 0; y = plain 0 })) i

pub operands-before : (g : AigView) → IsAig g → (n : ℕ) → IsAnd g n → IsBefore n (and_at g n).x × IsBefore n (and_at g n).y
operands-before g sound n is =
    let k = n - 1 - g.inputs in
    let d : And = record { x = plain 0; y = plain 0 } in
    let e : n ≡ 1 + g.inputs + k = omega (arith, is.above) in
    let there : k < length g.ands = omega (arith, is.above, is.there) in
    let x = sound.x_before k d there in
    let y = sound.y_before k d there in
    (omega arith, omega arith)

operands-value : (g : AigView) (bits values : List Bool) → IsEvaluated g bits values → (n : ℕ) → IsAnd g n → get_or values n false ≡ (literal_value values (and_at g n).x && literal_value values (and_at g n).y)
operands-value g bits values ev n is =
    let k = n - 1 - g.inputs in
    let d : And = record { x = plain 0; y = plain 0 } in
    let e : 1 + g.inputs + k ≡ n = omega (arith, is.above) in
    let there : k < length g.ands = omega (arith, is.above, is.there) in
    ap (λ (j : ℕ). get_or values j false) (sym e) ∙ ev.ands_are k d there

-- what gives way is the plain literal of an AND node
pub record IsOpened (g : AigView) (l : Lit) : Type 0 where
  pub even : l.0 % 2 ≡ 0
  pub above : g.inputs < l.0 / 2
  pub single : is_single g (l.0 / 2) ≡ true

pub gives_way-IsOpened : (g : AigView) (l : Lit) → gives_way g l ≡ true → IsOpened g l
gives_way-IsOpened g l h =
    let parts = and_parts (eqb (l.0 % 2) 0) _ h in
    let more = and_parts (ltb g.inputs (l.0 / 2)) _ parts.1 in
    record { even = eqb-true (l.0 % 2) 0 parts.0; above = ltb-true g.inputs (l.0 / 2) more.0; single = more.1 }

-- a property of all literals that the operands of an opened node have is one of all widened literals
pub AllOf-widened : (g : AigView) (P : Lit → Type 0) → ((l : Lit) → IsOpened g l → P l → P (and_at g (l.0 / 2)).x × P (and_at g (l.0 / 2)).y) → (ls : List Lit) → AllOf P ls → AllOf P (widened g ls)
AllOf-widened g P step [] h = tt
AllOf-widened g P step (l ∷ ls) h =
    let Q : List Lit → Type 0 = AllOf P in
    cond_both (gives_way g l) ((and_at g (l.0 / 2)).x ∷ (and_at g (l.0 / 2)).y ∷ ls) (l ∷ widened g ls) Q
    (λ e. let both = step l (gives_way-IsOpened g l e) h.0 in (both.0, (both.1, h.1)))
    (λ e. (h.0, AllOf-widened g P step ls h.1))

length-widened : (g : AigView) (ls : List Lit) → length (widened g ls) ≤ suc (length ls)
length-widened g [] = omega arith
length-widened g (l ∷ ls) =
    let rest = length-widened g ls in
    let Q : List Lit → Type 0 = λ xs. length xs ≤ suc (suc (length ls)) in
    cond_both (gives_way g l) ((and_at g (l.0 / 2)).x ∷ (and_at g (l.0 / 2)).y ∷ ls) (l ∷ widened g ls) Q (λ e. omega arith) (λ e. omega arith)

some-widened : (g : AigView) (ls : List Lit) → 0 < length ls → 0 < length (widened g ls)
some-widened g [] h = h
some-widened g (l ∷ ls) h =
    let Q : List Lit → Type 0 = λ xs. 0 < length xs in
    cond_both (gives_way g l) ((and_at g (l.0 / 2)).x ∷ (and_at g (l.0 / 2)).y ∷ ls) (l ∷ widened g ls) Q (λ e. omega arith) (λ e. omega arith)

some-distinct_all : (ls : List Lit) → 0 < length ls → 0 < length (distinct ls)
some-distinct_all [] h = h
some-distinct_all (l ∷ ls) h = some-distinct l ls

-- widening puts one literal in, or none of them gives way and all stay
widened-cases : (g : AigView) (ls : List Lit) → (length (widened g ls) ≡ suc (length ls)) ⊎ (AllOf (λ l. gives_way g l ≡ false) ls × (widened g ls ≡ ls))
widened-cases g [] = inr (tt, refl)
widened-cases g (l ∷ ls) =
    let x = (and_at g (l.0 / 2)).x in
    let y = (and_at g (l.0 / 2)).y in
    elim (cases_Bool (gives_way g l)) [
      | inl gives ↦ inl (ap (λ (ms : List Lit). length ms) (cond-true (gives_way g l) (x ∷ y ∷ ls) (l ∷ widened g ls) gives))
      | inr stays ↦
          let here : widened g (l ∷ ls) ≡ l ∷ widened g ls = cond-false (gives_way g l) (x ∷ y ∷ ls) (l ∷ widened g ls) stays in
          elim (widened-cases g ls) [
            | inl grown ↦ inl (ap (λ (ms : List Lit). length ms) here ∙ ap suc grown)
            | inr same ↦ inr ((stays, same.0), here ∙ ap (λ (ms : List Lit). l ∷ ms) same.1)
          ]
    ]

-- widening operands twice goes on as long as it can: there are four literals, or none gives way
pub widened-full : (g : AigView) (n : ℕ) → (length (widened g (widened g (operands g n))) ≡ 4) ⊎ AllOf (λ l. gives_way g l ≡ false) (widened g (widened g (operands g n)))
widened-full g n =
    let once = widened g (operands g n) in
    let P : List Lit → Type 0 = AllOf (λ l. gives_way g l ≡ false) in
    elim (widened-cases g once) [
      | inr same ↦ inr (subst P (sym same.1) same.0)
      | inl grown ↦ elim (widened-cases g (operands g n)) [
        | inl first ↦ inl (grown ∙ ap suc first)
        | inr same ↦
            let none : once ≡ operands g n = same.1 in
            let stays : widened g once ≡ once = ap (widened g) none in
            let len : length (widened g once) ≡ length once = ap (λ (ms : List Lit). length ms) stays in
            absurd (omega arith)
      ]
    ]

-- an opened literal has the value of its operands' conjunction, so widening keeps the conjunction of all
all_true-widened : (g : AigView) (bits values : List Bool) → IsEvaluated g bits values → (ls : List Lit) → AllOf (IsBefore (nodes g)) ls → all_true values (widened g ls) ≡ all_true values ls
all_true-widened g bits values ev [] h = refl
all_true-widened g bits values ev (l ∷ ls) h =
    let n = l.0 / 2 in
    let x = (and_at g n).x in
    let y = (and_at g n).y in
    let t : List Lit → Bool = all_true values in
    let Q : List Lit → Type 0 = λ xs. t xs ≡ (literal_value values l && t ls) in
    let below : l.0 < 2 * nodes g = h.0 in
    cond_both (gives_way g l) (x ∷ y ∷ ls) (l ∷ widened g ls) Q
    (λ e.
    let opened = gives_way-IsOpened g l e in
    let is : IsAnd g n = record { above = opened.above; there = omega arith } in
    let v : literal_value values l ≡ (literal_value values x && literal_value values y) = value-even values l opened.even ∙ operands-value g bits values ev n is in
    sym (and_assoc (literal_value values x) (literal_value values y) (t ls)) ∙ ap (λ (b : Bool). b && t ls) (sym v))
    (λ e. ap (λ (b : Bool). literal_value values l && b) (all_true-widened g bits values ev ls h.1))

-- the leaves of both widths

before-opened : (g : AigView) → IsAig g → (n : ℕ) → n < nodes g → (l : Lit) → IsOpened g l → IsBefore n l → IsBefore n (and_at g (l.0 / 2)).x × IsBefore n (and_at g (l.0 / 2)).y
before-opened g sound n there l opened below =
    let m = l.0 / 2 in
    let even = opened.even in
    let is : IsAnd g m = record { above = opened.above; there = omega arith } in
    let b = operands-before g sound m is in
    let bx = b.0 in
    let by = b.1 in
    (omega arith, omega arith)

before-le : (n m : ℕ) → n ≤ m → (ls : List Lit) → AllOf (IsBefore n) ls → AllOf (IsBefore m) ls
before-le n m l [] h = tt
before-le n m l (k ∷ ls) h = let b = h.0 in (omega arith, before-le n m l ls h.1)

module _ (g : AigView) (sound : IsAig g) (n : ℕ) (is : IsAnd g n) where
  first : AllOf (IsBefore n) (operands g n)
  first = let b = operands-before g sound n is in (b.0, (b.1, tt))

  step : (l : Lit) → IsOpened g l → IsBefore n l → IsBefore n (and_at g (l.0 / 2)).x × IsBefore n (and_at g (l.0 / 2)).y
  step = before-opened g sound n is.there

  once : AllOf (IsBefore n) (widened g (operands g n))
  once = AllOf-widened g (IsBefore n) step (operands g n) first

  twice : AllOf (IsBefore n) (widened g (widened g (operands g n)))
  twice = AllOf-widened g (IsBefore n) step (widened g (operands g n)) once

  widened_few : length (widened g (widened g (operands g n))) ≤ 4
  widened_few =
      let a = length-widened g (operands g n) in
      let b = length-widened g (widened g (operands g n)) in
      omega arith

  operands_conjoin : (bits values : List Bool) → IsEvaluated g bits values → all_true values (operands g n) ≡ get_or values n false
  operands_conjoin bits values ev =
      ap (λ (b : Bool). literal_value values (and_at g n).x && b) (and_true (literal_value values (and_at g n).y)) ∙ sym (operands-value g bits values ev n is)

  widened_conjoin : (bits values : List Bool) → IsEvaluated g bits values → all_true values (widened g (widened g (operands g n))) ≡ get_or values n false
  widened_conjoin bits values ev =
      let le : n ≤ nodes g = omega (arith, is.there) in
      all_true-widened g bits values ev (widened g (operands g n)) (before-le n (nodes g) le (widened g (operands g n)) once) ∙ (all_true-widened g bits values ev (operands g n) (before-le n (nodes g) le (operands g n) first) ∙ operands_conjoin bits values ev)

two-AreLeaves : (g : AigView) → IsAig g → AreLeaves g (leaves g Two)
unfolding leaves
two-AreLeaves g sound = record {
  few = λ n is. let h = length-distinct [] (operands g n) in omega arith;
  some = λ n is. some-distinct (and_at g n).x ((and_at g n).y ∷ []);
  before = λ n is. AllOf-distinct (IsBefore n) [] (operands g n) (first g sound n is);
  conjoin = λ n is bits values ev. all_true-distinct values [] (operands g n) ∙ operands_conjoin g sound n is bits values ev;
}

four-AreLeaves : (g : AigView) → IsAig g → AreLeaves g (leaves g Four)
unfolding leaves
four-AreLeaves g sound = record {
  few = λ n is. let h = length-distinct [] (widened g (widened g (operands g n))) in let k = widened_few g sound n is in omega arith;
  some = λ n is. some-distinct_all (widened g (widened g (operands g n))) (some-widened g (widened g (operands g n)) (some-widened g (operands g n) (omega arith)));
  before = λ n is. AllOf-distinct (IsBefore n) [] (widened g (widened g (operands g n))) (twice g sound n is);
  conjoin = λ n is bits values ev. all_true-distinct values [] (widened g (widened g (operands g n))) ∙ widened_conjoin g sound n is bits values ev;
}

-- the leaves of each width are such lists
pub leaves-AreLeaves : (g : AigView) → IsAig g → (width : Width) → AreLeaves g (leaves g width)
leaves-AreLeaves g sound Two = two-AreLeaves g sound
leaves-AreLeaves g sound Four = four-AreLeaves g sound

-- Covers have the values of the literals that are made of them.
use Rattle.std.proofs.Common.{◌≡◌, ℕ, ◌+◌, ◌*◌, ◌/◌, ◌%◌, ◌<◌, ◌≤◌, Bool, true, false, cond, eqb, not, ◌&&◌, ◌||◌, List, [], ◌∷◌, ◌++◌, length, get_or, map, Option, Some, None, refl, sym, ◌∙◌, ap, subst, arith}
use Rattle.std.specs.List.{list_any}
use Rattle.std.proofs.lemmas.List.{get_or_append_left, length_push, append_assoc, append-nil, length-append}
use Rattle.pim_net.specs.Covers.{CoverView}
use Rattle.pim_net.specs.Values.{row_holds, cover_value}
use Rattle.pim_net.specs.declared.cover.Bit3.{Bit3}
use Rattle.pim_net.specs.declared.cover.Bit3.TheVariants.{Zero, One, Any}
use Rattle.pim_aig.specs.Chains.{chain, chain_from, row_literals, rows_from, cover_from}
use Rattle.pim_aig.specs.Literals.{complement, plain}
use Rattle.pim_aig.specs.Values.{literal_value, values_from}
use Rattle.pim_aig.specs.declared.literal.Lit.{Lit}
use Rattle.pim_aig.specs.declared.graph.And.{And}
use Rattle.pim_aig.proofs.ChainValues.{values_from-append, length-values_from, AreBelow, IsLastBelow, AreBelow-le, all_true, and_true, and_assoc, chain-value, value-complement, row_literals-value}

-- later AND nodes are appended
pub record Extends (old new : List And) : Type 0 where
  pub added : List And
  pub is : new ≡ old ++ added

extends_none : (ands : List And) → Extends ands ands
extends_none ands = record { added = []; is = sym (append-nil ands) }

pub extends_both : (a b c : List And) → Extends a b → Extends b c → Extends a c
extends_both a b c e f = record {
  added = e.added ++ f.added;
  is = f.is ∙ (ap (λ (xs : List And). xs ++ f.added) e.is ∙ append_assoc a e.added f.added);
}

pub extends-le : (a b : List And) → Extends a b → length a ≤ length b
extends-le a b e = let l = ap (λ (xs : List And). length xs) e.is in omega (arith, length-append a e.added)

pub chain_from-extends : (inputs : ℕ) (ands : List And) (last : Option Lit) (ls : List Lit) → Extends ands (chain_from inputs ands last ls).ands
chain_from-extends inputs ands None [] = extends_none ands
chain_from-extends inputs ands (Some c) [] = extends_none ands
chain_from-extends inputs ands None (l ∷ ls) = chain_from-extends inputs ands (Some l) ls
chain_from-extends inputs ands (Some c) (l ∷ ls) =
    let more : List And = ands ++ record { x = c; y = l } ∷ [] in
    extends_both ands more (chain_from inputs more (Some (plain (1 + inputs + length ands))) ls).ands (record { added = record { x = c; y = l } ∷ []; is = refl }) (chain_from-extends inputs more (Some (plain (1 + inputs + length ands))) ls)

values_from-keeps : (values : List Bool) (ands : List And) (k : ℕ) → k < length values → get_or (values_from values ands) k false ≡ get_or values k false
values_from-keeps values [] k h = refl
values_from-keeps values (a ∷ rest) k h =
    let v = literal_value values a.x && literal_value values a.y in
    let len : length (values ++ v ∷ []) ≡ length values + 1 = length_push values v in
    values_from-keeps (values ++ v ∷ []) rest k (omega arith) ∙ get_or_append_left values (v ∷ []) false k h

-- later nodes change no value of earlier literals
pub literal-extends : (base : List Bool) (old new : List And) (l : Lit) → Extends old new → l.0 < 2 * (length base + length old) → literal_value (values_from base new) l ≡ literal_value (values_from base old) l
literal-extends base old new l e h =
    let size = length-values_from base old in
    let below : l.0 / 2 < length (values_from base old) = omega arith in
    let grown : values_from base new ≡ values_from (values_from base old) e.added = ap (values_from base) e.is ∙ values_from-append base old e.added in
    ap (λ (vs : List Bool). literal_value vs l) grown ∙ ap (λ (b : Bool). cond (eqb (l.0 % 2) 1) (not b) b) (values_from-keeps (values_from base old) e.added (l.0 / 2) below)

pub zero-extends : (base : List Bool) (old new : List And) → Extends old new → 0 < length base → get_or (values_from base old) 0 false ≡ false → get_or (values_from base new) 0 false ≡ false
zero-extends base old new e some h =
    let size = length-values_from base old in
    let grown : values_from base new ≡ values_from (values_from base old) e.added = ap (values_from base) e.is ∙ values_from-append base old e.added in
    ap (λ (vs : List Bool). get_or vs 0 false) grown ∙ (values_from-keeps (values_from base old) e.added 0 (omega arith) ∙ h)

pub all_true-extends : (base : List Bool) (old new : List And) (ls : List Lit) → Extends old new → AreBelow (length base + length old) ls → all_true (values_from base new) ls ≡ all_true (values_from base old) ls
all_true-extends base old new [] e h = refl
all_true-extends base old new (l ∷ ls) e h =
    ap (λ (b : Bool). b && all_true (values_from base new) ls) (literal-extends base old new l e h.0) ∙ ap (λ (b : Bool). literal_value (values_from base old) l && b) (all_true-extends base old new ls e h.1)

pub all_true-append : (values : List Bool) (xs ys : List Lit) → all_true values (xs ++ ys) ≡ (all_true values xs && all_true values ys)
all_true-append values [] ys = refl
all_true-append values (x ∷ xs) ys = ap (λ (b : Bool). literal_value values x && b) (all_true-append values xs ys) ∙ sym (and_assoc (literal_value values x) (all_true values xs) (all_true values ys))

-- every signal's literal is of one of the first n nodes
abbrev pub InRange : ℕ → (ℕ → Lit) → Type 0
InRange n lits = (s : ℕ) → (lits s).0 < 2 * n

pub complement-lt : (l : Lit) (n : ℕ) → l.0 < 2 * n → (complement l).0 < 2 * n
complement-lt l n h = grind arith

pub AreBelow-append : (n : ℕ) (xs ys : List Lit) → AreBelow n xs → AreBelow n ys → AreBelow n (xs ++ ys)
AreBelow-append n [] ys h k = k
AreBelow-append n (x ∷ xs) ys h k = (h.0, AreBelow-append n xs ys h.1 k)

pub row_literals-below : (n : ℕ) (lits : ℕ → Lit) (ins : List ℕ) (row : List Bit3) → InRange n lits → AreBelow n (row_literals lits ins row)
row_literals-below n lits [] row h = tt
row_literals-below n lits (s ∷ ss) [] h = tt
row_literals-below n lits (s ∷ ss) (Zero ∷ row) h = (complement-lt (lits s) n (h s), row_literals-below n lits ss row h)
row_literals-below n lits (s ∷ ss) (One ∷ row) h = (h s, row_literals-below n lits ss row h)
row_literals-below n lits (s ∷ ss) (Any ∷ row) h = row_literals-below n lits ss row h

-- a chain's literal is of a node that is there
pub chain_from-below : (inputs : ℕ) (ands : List And) (last : Option Lit) (ls : List Lit) → IsLastBelow (1 + inputs + length ands) last → AreBelow (1 + inputs + length ands) ls → (chain_from inputs ands last ls).lit.0 < 2 * (1 + inputs + length (chain_from inputs ands last ls).ands)
chain_from-below inputs ands None [] a b = omega arith
chain_from-below inputs ands (Some c) [] a b = a
chain_from-below inputs ands None (l ∷ ls) a b = chain_from-below inputs ands (Some l) ls b.0 b.1
chain_from-below inputs ands (Some c) (l ∷ ls) a b =
    let more : List And = ands ++ record { x = c; y = l } ∷ [] in
    let longer : length more ≡ length ands + 1 = length_push ands (record { x = c; y = l }) in
    let next : IsLastBelow (1 + inputs + length more) (Some (plain (1 + inputs + length ands))) = omega arith in
    chain_from-below inputs more (Some (plain (1 + inputs + length ands))) ls next (AreBelow-le (1 + inputs + length ands) (1 + inputs + length more) ls (omega arith) b.1)

map_same : (f g : ℕ → Bool) (ss : List ℕ) → ((s : ℕ) → f s ≡ g s) → map f ss ≡ map g ss
map_same f g [] h = refl
map_same f g (s ∷ ss) h = ap (λ (b : Bool). b ∷ map f ss) (h s) ∙ ap (λ (bs : List Bool). g s ∷ bs) (map_same f g ss h)

not_or : (d h r : Bool) → ((d && (not h && true)) && not r) ≡ (d && not (h || r))
not_or true true r = refl
not_or true false r = refl
not_or false h r = refl

-- the values of a row's columns
abbrev pub column_values : List Bool → (ℕ → Lit) → List ℕ → List Bool
column_values values lits ins = map (λ s. literal_value values (lits s)) ins

-- the rows' complements are all true exactly where no row holds
pub record AreRowsValued (base : List Bool) (inputs : ℕ) (lits : ℕ → Lit) (ins : List ℕ) (ands : List And) (done : List Lit) (rows : List (List Bit3)) : Type 0 where
  pub grows : Extends ands (rows_from inputs lits ins ands done rows).ands
  pub below : AreBelow (1 + inputs + length (rows_from inputs lits ins ands done rows).ands) (rows_from inputs lits ins ands done rows).lits
  pub value : all_true (values_from base (rows_from inputs lits ins ands done rows).ands) (rows_from inputs lits ins ands done rows).lits ≡ (all_true (values_from base ands) done && not (list_any (λ row. row_holds row (column_values (values_from base ands) lits ins)) rows))

pub rows-value : (base : List Bool) (inputs : ℕ) (lits : ℕ → Lit) (ins : List ℕ) → length base ≡ 1 + inputs → (ands : List And) → get_or (values_from base ands) 0 false ≡ false → InRange (1 + inputs + length ands) lits → (done : List Lit) → AreBelow (1 + inputs + length ands) done → (rows : List (List Bit3)) → AreRowsValued base inputs lits ins ands done rows
rows-value base inputs lits ins len ands zero range done below [] = record {
  grows = extends_none ands;
  below = below;
  value = and_true (all_true (values_from base ands) done);
}
rows-value base inputs lits ins len ands zero range done below (row ∷ rows) =
    let asks = row_literals lits ins row in
    let asks_below = row_literals-below (1 + inputs + length ands) lits ins row range in
    let built = chain inputs ands asks in
    let next : List And = built.ands in
    let grown : Extends ands next = chain_from-extends inputs ands None asks in
    let longer : length ands ≤ length next = extends-le ands next grown in
    let more : List Lit = done ++ complement built.lit ∷ [] in
    let lit_below = chain_from-below inputs ands None asks tt asks_below in
    let more_below : AreBelow (1 + inputs + length next) more = AreBelow-append (1 + inputs + length next) done (complement built.lit ∷ []) (AreBelow-le (1 + inputs + length ands) (1 + inputs + length next) done (omega arith) below) (complement-lt built.lit (1 + inputs + length next) lit_below, tt) in
    let wider : InRange (1 + inputs + length next) lits = λ s. let b : (lits s).0 < 2 * (1 + inputs + length ands) = range s in omega arith in
    let still = zero-extends base ands next grown (omega arith) zero in
    let rest = rows-value base inputs lits ins len next still wider more more_below rows in
    let old = values_from base ands in
    let new = values_from base next in
    let vals = column_values old lits ins in
    let same_vals : column_values new lits ins ≡ vals = map_same (λ s. literal_value new (lits s)) (λ s. literal_value old (lits s)) ins (λ s. literal-extends base ands next (lits s) grown (let b = range s in omega arith)) in
    let holds : literal_value new built.lit ≡ row_holds row vals = chain-value base inputs len ands zero None asks tt asks_below ∙ row_literals-value old lits ins row in
    let off : literal_value new (complement built.lit) ≡ not (row_holds row vals) = value-complement new built.lit ∙ ap not holds in
    let Q : ℕ → Type 0 = λ n. AreBelow n done in
    let size : 1 + inputs + length ands ≡ length base + length ands = omega arith in
    let done_same : all_true new done ≡ all_true old done = all_true-extends base ands next done grown (subst Q size below) in
    let any = λ (vs : List Bool). list_any (λ r. row_holds r vs) rows in
    record {
      grows = extends_both ands next (rows_from inputs lits ins next more rows).ands grown rest.grows;
      below = rest.below;
      value = rest.value ∙ (ap (λ (b : Bool). b && not (any (column_values new lits ins))) (all_true-append new done (complement built.lit ∷ [])) ∙ (ap (λ (vs : List Bool). (all_true new done && (literal_value new (complement built.lit) && true)) && not (any vs)) same_vals ∙ (ap (λ (b : Bool). (b && (literal_value new (complement built.lit) && true)) && not (any vals)) done_same ∙ (ap (λ (b : Bool). (all_true old done && (b && true)) && not (any vals)) off ∙ not_or (all_true old done) (row_holds row vals) (any vals)))));
    }

phased : (phase any : Bool) → cond phase (not (not any)) (not (not (not any))) ≡ cond any phase (not phase)
phased true true = refl
phased true false = refl
phased false true = refl
phased false false = refl

cond_value : (values : List Bool) (phase : Bool) (x y : Lit) → literal_value values (cond phase x y) ≡ cond phase (literal_value values x) (literal_value values y)
cond_value values true x y = refl
cond_value values false x y = refl

-- a cover's literal has the cover's value at the values of its columns
pub cover-value : (base : List Bool) (inputs : ℕ) (lits : ℕ → Lit) → length base ≡ 1 + inputs → (ands : List And) → get_or (values_from base ands) 0 false ≡ false → InRange (1 + inputs + length ands) lits → (cover : CoverView) → literal_value (values_from base (cover_from inputs lits ands cover).ands) (cover_from inputs lits ands cover).lit ≡ cover_value cover (column_values (values_from base ands) lits cover.ins)
cover-value base inputs lits len ands zero range cover =
    let r = rows_from inputs lits cover.ins ands [] cover.rows in
    let valued = rows-value base inputs lits cover.ins len ands zero range [] tt cover.rows in
    let joined = chain inputs r.ands r.lits in
    let values = values_from base joined.ands in
    let any = list_any (λ row. row_holds row (column_values (values_from base ands) lits cover.ins)) cover.rows in
    let still = zero-extends base ands r.ands valued.grows (omega arith) zero in
    let off : literal_value values joined.lit ≡ not any = chain-value base inputs len r.ands still None r.lits tt valued.below ∙ valued.value in
    let on : literal_value values (complement joined.lit) ≡ not (not any) = value-complement values joined.lit ∙ ap not off in
    let back : literal_value values (complement (complement joined.lit)) ≡ not (not (not any)) = value-complement values (complement joined.lit) ∙ ap not on in
    cond_value values cover.phase (complement joined.lit) (complement (complement joined.lit)) ∙ (ap (λ (b : Bool). cond cover.phase b (literal_value values (complement (complement joined.lit)))) on ∙ (ap (λ (b : Bool). cond cover.phase (not (not any)) b) back ∙ phased cover.phase any))

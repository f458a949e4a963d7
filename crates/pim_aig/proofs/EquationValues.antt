-- Equations by depth, one after another: each literal has the value of its signal.
use Rattle.std.proofs.Common.{◌≡◌, ◌≢◌, ℕ, suc, ◌+◌, ◌*◌, ◌<◌, ◌≤◌, Bool, true, false, cond, eqb, List, [], ◌∷◌, length, get_or, map, Option, Some, None, All, slice_get, refl, sym, ◌∙◌, ap, subst, inl, inr, arith}
use Rattle.std.proofs.lemmas.Bool.{cases_eq, cases_lt}
use Rattle.std.proofs.lemmas.List.Elements.{All-head, All-tail}
use Rattle.std.proofs.lemmas.Option.{slice_get_cases}
use Rattle.pim_net.specs.Covers.{CoverView}
use Rattle.pim_net.specs.Drivers.{sigs}
use Rattle.pim_net.specs.Values.{cover_value}
use Rattle.pim_net.specs.WellFormed.{IsReady, IsReadyOrder, columns}
use Rattle.pim_net.specs.declared.parts.Equation.{Equation}
use Rattle.pim_aig.specs.Chains.{chain, rows_from, cover_from}
use Rattle.pim_aig.specs.Flat.{equation_from, equations_from}
use Rattle.pim_aig.specs.Literals.{complement}
use Rattle.pim_aig.specs.Values.{literal_value, values_from}
use Rattle.pim_aig.specs.declared.literal.Lit.{Lit}
use Rattle.pim_aig.specs.declared.graph.And.{And}
use Rattle.pim_aig.proofs.CoverValues.{Extends, extends_both, extends-le, InRange, chain_from-extends, chain_from-below, complement-lt, rows-value, column_values, cover-value, literal-extends, zero-extends}
use Rattle.pim_aig.proofs.TableSteps.{put_same, put_other}

pub cond_lt : (n : ℕ) (b : Bool) (x y : Lit) → x.0 < 2 * n → y.0 < 2 * n → (cond b x y).0 < 2 * n
cond_lt n true x y p q = p
cond_lt n false x y p q = q

-- a cover appends AND nodes, and its literal is of a node that is there
cover-grows : (base : List Bool) (inputs : ℕ) (lits : ℕ → Lit) → length base ≡ 1 + inputs → (ands : List And) → get_or (values_from base ands) 0 false ≡ false → InRange (1 + inputs + length ands) lits → (cover : CoverView) → Extends ands (cover_from inputs lits ands cover).ands × ((cover_from inputs lits ands cover).lit.0 < 2 * (1 + inputs + length (cover_from inputs lits ands cover).ands))
cover-grows base inputs lits len ands still range cover =
    let r = rows_from inputs lits cover.ins ands [] cover.rows in
    let valued = rows-value base inputs lits cover.ins len ands still range [] tt cover.rows in
    let joined = chain inputs r.ands r.lits in
    let n = 1 + inputs + length joined.ands in
    let there = chain_from-below inputs r.ands None r.lits tt valued.below in
    let on = complement-lt joined.lit n there in
    let off = complement-lt (complement joined.lit) n on in
    (extends_both ands r.ands joined.ands valued.grows (chain_from-extends inputs r.ands None r.lits), cond_lt n cover.phase (complement joined.lit) (complement (complement joined.lit)) on off)

-- what is ready before place i has a literal with its value
pub record IsValued (values : ℕ → Bool) (base : List Bool) (inputs : List ℕ) (equations : List Equation) (topo : List ℕ) (i : ℕ) (lits : ℕ → Lit) (ands : List And) : Type 0 where
  pub first : get_or (values_from base ands) 0 false ≡ false
  pub range : InRange (1 + length inputs + length ands) lits
  pub valued : (s : ℕ) → IsReady inputs equations topo i s → literal_value (values_from base ands) (lits s) ≡ values s

-- maps of a list agree where the functions agree on its items
map_all : (f g : ℕ → Bool) (P : ℕ → Type 0) (ss : List ℕ) → ((s : ℕ) → P s → f s ≡ g s) → All P ss → map f ss ≡ map g ss
map_all f g P [] h all = refl
map_all f g P (s ∷ ss) h all = ap (λ (b : Bool). b ∷ map f ss) (h s (All-head P s ss all)) ∙ ap (λ (bs : List Bool). g s ∷ bs) (map_all f g P ss h (All-tail P s ss all))

-- what is ready after place i, and isn't the signal of the equation there, is ready before it
earlier : (inputs : List ℕ) (equations : List Equation) (topo : List ℕ) (i s t : ℕ) → get_or (sigs equations) (get_or topo i 0) 0 ≡ t → s ≢ t → IsReady inputs equations topo (i + 1) s → IsReady inputs equations topo i s
earlier inputs equations topo i s t at other ready =
    elim ready [
      | inl w ↦ inl w
      | inr w ↦ elim (cases_lt w.0 i) [
        | inl before ↦ inr (w.0, before, w.2)
        | inr from ↦
            let here : w.0 ≡ i = omega (arith, w.1) in
            absurd (other (sym w.2 ∙ (ap (λ (j : ℕ). get_or (sigs equations) (get_or topo j 0) 0) here ∙ at)))
      ]
    ]

-- one equation
equation-valued : (values : ℕ → Bool) (base : List Bool) (inputs : List ℕ) (equations : List Equation) (topo : List ℕ) (i : ℕ) (lits : ℕ → Lit) (ands : List And) (e : Equation) → length base ≡ 1 + length inputs → IsValued values base inputs equations topo i lits ands → All (IsReady inputs equations topo i) e.cover.ins → values e.sig ≡ cover_value e.cover (map values e.cover.ins) → get_or (sigs equations) (get_or topo i 0) 0 ≡ e.sig → IsValued values base inputs equations topo (i + 1) (equation_from (length inputs) lits ands (Some e)).lits (equation_from (length inputs) lits ands (Some e)).ands
equation-valued values base inputs equations topo i lits ands e len h ready law at =
    let built = cover_from (length inputs) lits ands e.cover in
    let n = 1 + length inputs + length built.ands in
    let w = cover-grows base (length inputs) lits len ands h.first h.range e.cover in
    let longer : length ands ≤ length built.ands = extends-le ands built.ands w.0 in
    let old = values_from base ands in
    let new = values_from base built.ands in
    let read_right : column_values old lits e.cover.ins ≡ map values e.cover.ins = map_all (λ s. literal_value old (lits s)) values (IsReady inputs equations topo i) e.cover.ins h.valued ready in
    let here : literal_value new built.lit ≡ values e.sig = cover-value base (length inputs) lits len ands h.first h.range e.cover ∙ (ap (cover_value e.cover) read_right ∙ sym law) in
    record {
      first = zero-extends base ands built.ands w.0 (omega arith) h.first;
      range = λ s. let b : (lits s).0 < 2 * (1 + length inputs + length ands) = h.range s in cond_lt n (eqb s e.sig) built.lit (lits s) w.1 (omega arith);
      valued = λ s after. elim (cases_eq s e.sig) [
        | inl same ↦ ap (literal_value new) (put_same lits e.sig s built.lit same) ∙ (here ∙ ap values (sym same))
        | inr other ↦
            let b : (lits s).0 < 2 * (1 + length inputs + length ands) = h.range s in
            ap (literal_value new) (put_other lits e.sig s built.lit other) ∙ (literal-extends base ands built.ands (lits s) w.0 (omega arith) ∙ h.valued s (earlier inputs equations topo i s e.sig at other after))
      ];
    }

-- there is an equation of each number below their count
equation_within : (es : List Equation) (k : ℕ) → k < length es → (e : Equation) × (slice_get es k ≡ Some e)
equation_within es k within = elim (slice_get_cases es k).1 [ inl w ↦ (w.0, w.2) | inr past ↦ absurd (omega (arith, past.0)) ]

-- the equations of a list have these values
pub record AreCovered (values : ℕ → Bool) (equations : List Equation) : Type 0 where
  pub law : (k : ℕ) (e : Equation) → k < length equations → slice_get equations k ≡ Some e → (values e.sig ≡ cover_value e.cover (map values e.cover.ins)) × (get_or (sigs equations) k 0 ≡ e.sig)

-- all equations from place i on
pub equations-valued : (values : ℕ → Bool) (base : List Bool) (inputs : List ℕ) (equations : List Equation) (topo : List ℕ) → length base ≡ 1 + length inputs → AreCovered values equations → All (λ k. k < length equations) topo → IsReadyOrder inputs equations topo → (ks : List ℕ) (i : ℕ) (lits : ℕ → Lit) (ands : List And) → length topo ≡ i + length ks → ((j : ℕ) → get_or ks j 0 ≡ get_or topo (i + j) 0) → IsValued values base inputs equations topo i lits ands → IsValued values base inputs equations topo (length topo) (equations_from (length inputs) equations lits ands ks).lits (equations_from (length inputs) equations lits ands ks).ands
equations-valued values base inputs equations topo len covered within ready [] i lits ands size same h =
    let e : i ≡ length topo = omega arith in
    subst (λ (n : ℕ). IsValued values base inputs equations topo n lits ands) e h
equations-valued values base inputs equations topo len covered within ready (k ∷ ks) i lits ands size same h =
    let here : i + 0 ≡ i = omega arith in
    let at : get_or topo i 0 ≡ k = ap (λ (n : ℕ). get_or topo n 0) (sym here) ∙ sym (same 0) in
    let inside : i < length topo = omega arith in
    let low : get_or topo i 0 < length equations = within i 0 inside in
    let low' : k < length equations = omega (arith, at) in
    let w = equation_within equations k low' in
    let e : Equation = w.0 in
    let law = covered.law k e low' w.1 in
    let cols : All (IsReady inputs equations topo i) e.cover.ins = subst (λ (o : Option Equation). All (IsReady inputs equations topo i) (columns o)) (ap (λ (n : ℕ). slice_get equations n) at ∙ w.1) (ready i inside) in
    let next = equation_from (length inputs) lits ands (Some e) in
    let one = equation-valued values base inputs equations topo i lits ands e len h cols law.0 (ap (λ (n : ℕ). get_or (sigs equations) n 0) at ∙ law.1) in
    let on : (j : ℕ) → get_or ks j 0 ≡ get_or topo (i + 1 + j) 0 = λ j. let shift : i + suc j ≡ i + 1 + j = omega arith in same (suc j) ∙ ap (λ (n : ℕ). get_or topo n 0) shift in
    let rest = equations-valued values base inputs equations topo len covered within ready ks (i + 1) next.lits next.ands (omega arith) on one in
    subst (λ (o : Option Equation). IsValued values base inputs equations topo (length topo) (equations_from (length inputs) equations (equation_from (length inputs) lits ands o).lits (equation_from (length inputs) lits ands o).ands ks).lits (equations_from (length inputs) equations (equation_from (length inputs) lits ands o).lits (equation_from (length inputs) lits ands o).ands ks).ands) (sym w.1) rest

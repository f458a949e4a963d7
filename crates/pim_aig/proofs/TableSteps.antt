-- The table of the signals' literals.
use Rattle.std.proofs.Common.{◌≡◌, ◌≢◌, ℕ, ◌+◌, ◌*◌, ◌<◌, ◌≤◌, List, [], ◌∷◌, length, get_or, drop, Option, Some, None, slice_get, sym, ◌∙◌, ap, subst, inl, inr, arith}
use Rattle.std.proofs.lemmas.Bool.{cases_eq}
use Rattle.std.proofs.lemmas.Bool.Decides.{nat_tests}
use Rattle.std.proofs.lemmas.List.{drop_more}
use Rattle.pim_net.specs.Covers.{CoverView}
use Rattle.pim_net.specs.Tables.{put}
use Rattle.pim_net.specs.declared.parts.Equation.{Equation}
use Rattle.pim_aig.specs.Chains.{cover_from, rows_from}
use Rattle.pim_aig.specs.inner.Tables.{AreOfFirst}
use Rattle.pim_aig.specs.Graph.{IsOfFirst}
use Rattle.pim_aig.specs.Faults.{Says}
use Rattle.pim_aig.specs.Flat.{Flattened, no_literals, inputs_from, equation_from, equations_from}
use Rattle.pim_aig.specs.declared.fault.FlatFault.{FlatFault}
use Rattle.pim_aig.specs.declared.graph.And.{And}
use Rattle.pim_aig.proofs.Linking.{chain_from-le, Says-le}
use Rattle.pim_aig.proofs.Rows.{rows_from-le}
use Rattle.pim_aig.specs.Literals.{plain}
use Rattle.pim_aig.specs.declared.literal.Lit.{Lit}

pub put_same : (lits : ℕ → Lit) (s t : ℕ) (l : Lit) → t ≡ s → put lits s l t ≡ l
put_same lits s t l e = grind (arith, nat_tests)

pub put_other : (lits : ℕ → Lit) (s t : ℕ) (l : Lit) → t ≢ s → put lits s l t ≡ lits t
put_other lits s t l e = grind (arith, nat_tests)

-- one more literal is of one of the first nodes, of which there may be more
pub of_first_put : (m n : ℕ) (lits later : ℕ → Lit) (s : ℕ) (l : Lit) → m ≤ n → AreOfFirst m lits → IsOfFirst n l → later ≡ put lits s l → AreOfFirst n later
of_first_put m n lits later s l wider old new written = λ t.
    let P : (ℕ → Lit) → Type 0 = λ f. IsOfFirst n (f t) in
    subst P (sym written)
    (elim (cases_eq t s) [
      | inl e ↦ subst (IsOfFirst n) (sym (put_same lits s t l e)) new
      | inr ne ↦ subst (IsOfFirst n) (sym (put_other lits s t l ne)) (let h : (lits t).0 < 2 * m = old t in let g : (lits t).0 < 2 * n = omega arith in g)
    ])

-- before any literal is put, each is that of the constant
pub of_first_none : (n : ℕ) (lits : ℕ → Lit) → 0 < n → lits ≡ no_literals → AreOfFirst n lits
of_first_none n lits some is = λ t. let P : (ℕ → Lit) → Type 0 = λ f. IsOfFirst n (f t) in subst P (sym is) (let h : 0 < 2 * n = omega arith in h)

-- one more input
pub inputs_from_more : (lits later : ℕ → Lit) (inputs : List ℕ) (k : ℕ) (l : Lit) (whole : ℕ → Lit) → k < length inputs → later ≡ put lits (get_or inputs k 0) l → l ≡ plain (1 + k) → inputs_from lits k (drop k inputs) ≡ whole → inputs_from later (k + 1) (drop (k + 1) inputs) ≡ whole
inputs_from_more lits later inputs k l whole h written is rest =
    let s = get_or inputs k 0 in
    ap (λ (f : ℕ → Lit). inputs_from f (k + 1) (drop (k + 1) inputs)) written ∙ (ap (λ (x : Lit). inputs_from (put lits s x) (k + 1) (drop (k + 1) inputs)) is ∙ (ap (λ (ss : List ℕ). inputs_from lits k ss) (sym (drop_more inputs k 0 h)) ∙ rest))

-- the equations go on after one of them
pub equations_step : (inputs later : ℕ) (equations : List Equation) (lits written : ℕ → Lit) (ands grown : List And) (topo : List ℕ) (i : ℕ) (o : Option Equation) (whole : Flattened) → i < length topo → slice_get equations (get_or topo i 0) ≡ o → later ≡ inputs → record { ands = grown; lits = written } ≡ equation_from inputs lits ands o → equations_from inputs equations lits ands (drop i topo) ≡ whole → equations_from later equations written grown (drop (i + 1) topo) ≡ whole
equations_step inputs later equations lits written ands grown topo i o whole h at same made rest =
    ap (λ (n : ℕ). equations_from n equations written grown (drop (i + 1) topo)) same ∙ (ap (λ (f : Flattened). equations_from inputs equations f.lits f.ands (drop (i + 1) topo)) made ∙ (ap (λ (p : Option Equation). equations_from inputs equations (equation_from inputs lits ands p).lits (equation_from inputs lits ands p).ands (drop (i + 1) topo)) (sym at) ∙ (ap (λ (ks : List ℕ). equations_from inputs equations lits ands ks) (sym (drop_more topo i 0 h)) ∙ rest)))

-- no AND node is lost
cover_from-le : (inputs : ℕ) (lits : ℕ → Lit) (ands : List And) (cover : CoverView) → length ands ≤ length (cover_from inputs lits ands cover).ands
cover_from-le inputs lits ands cover =
    let rows = rows_from inputs lits cover.ins ands [] cover.rows in
    let a : length ands ≤ length rows.ands = rows_from-le inputs lits cover.ins ands [] cover.rows in
    let b : length rows.ands ≤ length (cover_from inputs lits ands cover).ands = chain_from-le inputs rows.ands None rows.lits in
    omega arith

equation_from-le : (inputs : ℕ) (lits : ℕ → Lit) (ands : List And) (o : Option Equation) → length ands ≤ length (equation_from inputs lits ands o).ands
equation_from-le inputs lits ands None = omega arith
equation_from-le inputs lits ands (Some e) = cover_from-le inputs lits ands e.cover

equations_from-le : (inputs : ℕ) (equations : List Equation) (lits : ℕ → Lit) (ands : List And) (ks : List ℕ) → length ands ≤ length (equations_from inputs equations lits ands ks).ands
equations_from-le inputs equations lits ands [] = omega arith
equations_from-le inputs equations lits ands (k ∷ ks) =
    let next = equation_from inputs lits ands (slice_get equations k) in
    let a : length ands ≤ length next.ands = equation_from-le inputs lits ands (slice_get equations k) in
    let b : length next.ands ≤ length (equations_from inputs equations next.lits next.ands ks).ands = equations_from-le inputs equations next.lits next.ands ks in
    omega arith

-- where one equation is too large, all are
pub equations_fault : (fault : FlatFault) (inputs : ℕ) (equations : List Equation) (lits : ℕ → Lit) (ands : List And) (topo : List ℕ) (i : ℕ) (o : Option Equation) (whole : Flattened) → i < length topo → slice_get equations (get_or topo i 0) ≡ o → Says fault (length (equation_from inputs lits ands o).ands) → equations_from inputs equations lits ands (drop i topo) ≡ whole → Says fault (length whole.ands)
equations_fault fault inputs equations lits ands topo i o whole h at says rest =
    let next = equation_from inputs lits ands o in
    let P : Flattened → Type 0 = λ f. Says fault (length f.ands) in
    let e = ap (λ (p : Option Equation). equations_from inputs equations (equation_from inputs lits ands p).lits (equation_from inputs lits ands p).ands (drop (i + 1) topo)) (sym at) ∙ (ap (λ (ks : List ℕ). equations_from inputs equations lits ands ks) (sym (drop_more topo i 0 h)) ∙ rest) in
    subst P e (Says-le fault (length next.ands) (length (equations_from inputs equations next.lits next.ands (drop (i + 1) topo)).ands) (equations_from-le inputs equations next.lits next.ands (drop (i + 1) topo)) says)

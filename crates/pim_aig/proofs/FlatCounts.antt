-- How many AND nodes a netlist's flat graph has: the sum over its covers.
use Rattle.std.proofs.Common.{◌≡◌, ℕ, suc, ◌+◌, ◌-◌, List, [], ◌∷◌, ◌++◌, length, get_or, Option, Some, None, All, slice_get, refl, sym, ◌∙◌, ap, subst, arith}
use Rattle.std.specs.Prelude.{sum_by}
use Rattle.std.specs.List.{range_with_len}
use Rattle.std.proofs.lemmas.List.{length_push}
use Rattle.std.proofs.lemmas.List.Sums.{sum_by-cons}
use Rattle.std.proofs.lemmas.List.Elements.{All-head, All-tail}
use Rattle.std.proofs.lemmas.Option.{slice_get_within, slice_get-get_or}
use Rattle.std.proofs.lemmas.List.Sorted.{sum_by-IsPermutation}
use Rattle.pim_net.specs.Covers.{CoverView}
use Rattle.pim_net.specs.Netlist.{NetView}
use Rattle.pim_net.specs.WellFormed.{IsNet}
use Rattle.pim_net.specs.declared.cover.Bit3.{Bit3}
use Rattle.pim_net.specs.declared.cover.Bit3.TheVariants.{Zero, One, Any}
use Rattle.pim_net.specs.declared.parts.Equation.{Equation}
use Rattle.pim_aig.specs.Chains.{chain, chain_from, cover_from, row_literals, rows_from}
use Rattle.pim_aig.specs.Flat.{ands as ands_of, asked_count, cover_ands, equation_from, equations_from, flat, inputs_from, no_literals}
use Rattle.pim_aig.specs.Literals.{complement, plain}
use Rattle.pim_aig.specs.declared.literal.Lit.{Lit}
use Rattle.pim_aig.specs.declared.graph.And.{And}

-- a chain that has begun takes a node for each literal
count-from : (inputs : ℕ) (ands : List And) (last : Lit) (ls : List Lit) → length (chain_from inputs ands (Some last) ls).ands ≡ length ands + length ls
count-from inputs ands last [] = omega arith
count-from inputs ands last (l ∷ ls) =
    let and : And = record { x = last; y = l } in
    omega (arith, length_push ands and, count-from inputs (ands ++ and ∷ []) (plain (1 + inputs + length ands)) ls)

-- a chain takes a node for each literal but the first
chain-count : (inputs : ℕ) (ands : List And) (ls : List Lit) → length (chain inputs ands ls).ands ≡ length ands + (length ls - 1)
chain-count inputs ands [] = omega arith
chain-count inputs ands (l ∷ ls) = omega (arith, count-from inputs ands l ls)

-- the literals of a row are as many as the columns that it asks
row-count : (lits : ℕ → Lit) (ins : List ℕ) (row : List Bit3) → length row ≡ length ins → length (row_literals lits ins row) ≡ asked_count row
row-count lits [] [] whole = refl
row-count lits [] (cell ∷ row) whole = absurd (omega arith)
row-count lits (s ∷ ss) [] whole = absurd (omega arith)
row-count lits (s ∷ ss) (Zero ∷ row) whole = ap suc (row-count lits ss row (omega arith))
row-count lits (s ∷ ss) (One ∷ row) whole = ap suc (row-count lits ss row (omega arith))
row-count lits (s ∷ ss) (Any ∷ row) whole = row-count lits ss row (omega arith)

-- the nodes of the rows, and a literal for each
rows-count : (inputs : ℕ) (lits : ℕ → Lit) (ins : List ℕ) (ands : List And) (done : List Lit) (rows : List (List Bit3)) → All (λ row. length row ≡ length ins) rows → (length (rows_from inputs lits ins ands done rows).ands ≡ length ands + sum_by (λ row. asked_count row - 1) rows) × (length (rows_from inputs lits ins ands done rows).lits ≡ length done + length rows)
rows-count inputs lits ins ands done [] whole = (omega arith, omega arith)
rows-count inputs lits ins ands done (row ∷ rows) whole =
    let built = chain inputs ands (row_literals lits ins row) in
    let rest = rows-count inputs lits ins built.ands (done ++ complement built.lit ∷ []) rows (All-tail (λ (r : List Bit3). length r ≡ length ins) row rows whole) in
    let asked = row-count lits ins row (All-head (λ (r : List Bit3). length r ≡ length ins) row rows whole) in (
      omega (arith, rest.0, chain-count inputs ands (row_literals lits ins row), asked, sum_by-cons (λ (r : List Bit3). asked_count r - 1) row rows),
      omega (arith, rest.1, length_push done (complement built.lit)),
    )

-- the nodes of a cover
cover-count : (inputs : ℕ) (lits : ℕ → Lit) (ands : List And) (cover : CoverView) → All (λ row. length row ≡ length cover.ins) cover.rows → length (cover_from inputs lits ands cover).ands ≡ length ands + cover_ands cover
cover-count inputs lits ands cover whole =
    let r = rows_from inputs lits cover.ins ands [] cover.rows in
    let counted = rows-count inputs lits cover.ins ands [] cover.rows whole in
    omega (arith, counted.0, counted.1, chain-count inputs r.ands r.lits)

-- the nodes of an equation, where there is one
abbrev equation_ands : Option Equation → ℕ
equation_ands None = 0
equation_ands (Some e) = cover_ands e.cover

some_same : {X : Type 0} {x y : X} → Some x ≡ Some y → x ≡ y
some_same h = cc

-- the rows of the equation of a number are whole
whole_at : (es : List Equation) (k : ℕ) (e : Equation) → All (λ x. All (λ row. length row ≡ length x.cover.ins) x.cover.rows) es → slice_get es k ≡ Some e → All (λ row. length row ≡ length e.cover.ins) e.cover.rows
whole_at es k e all at =
    let inside = slice_get_within es k e at in
    let same : get_or es k e ≡ e = some_same (sym (slice_get-get_or es k e inside) ∙ at) in
    subst (λ (x : Equation). All (λ row. length row ≡ length x.cover.ins) x.cover.rows) same (all k e inside)

-- the nodes of the equations of some numbers
equations-count : (inputs : ℕ) (equations : List Equation) (lits : ℕ → Lit) (ands : List And) (ks : List ℕ) → All (λ e. All (λ row. length row ≡ length e.cover.ins) e.cover.rows) equations → length (equations_from inputs equations lits ands ks).ands ≡ length ands + sum_by (λ k. equation_ands (slice_get equations k)) ks
equations-count inputs equations lits ands [] whole = omega arith
equations-count inputs equations lits ands (k ∷ ks) whole =
    let next = equation_from inputs lits ands (slice_get equations k) in
    omega (arith, equations-count inputs equations next.lits next.ands ks whole, one (slice_get equations k) refl, sum_by-cons (λ (n : ℕ). equation_ands (slice_get equations n)) k ks)
  where
    one : (o : Option Equation) → slice_get equations k ≡ o → length (equation_from inputs lits ands o).ands ≡ length ands + equation_ands o
    one None at = omega arith
    one (Some e) at = cover-count inputs lits ands e.cover (whole_at equations k e whole at)

-- a sum over the numbers of a list's elements is that over the elements
sum-numbers : (f : Option Equation → ℕ) (h : ℕ → ℕ) (es : List Equation) (a : ℕ) → ((j : ℕ) → h (a + j) ≡ f (slice_get es j)) → sum_by h (range_with_len a (length es)) ≡ sum_by (λ e. f (Some e)) es
sum-numbers f h [] a same = refl
sum-numbers f h (e ∷ es) a same =
    let here : a + 0 ≡ a = omega arith in
    let first : h a ≡ f (Some e) = ap h (sym here) ∙ same 0 in
    let rest = sum-numbers f h es (a + 1) (λ j. let shift : a + 1 + j ≡ a + suc j = omega arith in ap h shift ∙ same (suc j)) in
    omega (arith, first, rest, sum_by-cons h a (range_with_len (a + 1) (length es)), sum_by-cons (λ (x : Equation). f (Some x)) e es)

-- the nodes of a flat graph
pub flat-count : (net : NetView) → IsNet net → length (flat net).ands ≡ ands_of net
flat-count net checked =
    let h = λ (k : ℕ). equation_ands (slice_get net.equations k) in
    let all = equations-count (length net.inputs) net.equations (inputs_from no_literals 0 net.inputs) [] net.topo checked.bounded.rows_whole in
    let moved = sum_by-IsPermutation h (range_with_len 0 (length net.equations)) net.topo checked.by_depth.once in
    let summed = sum-numbers equation_ands h net.equations 0 (λ j. let z : 0 + j ≡ j = omega arith in ap h z) in
    omega (arith, all, moved, summed)

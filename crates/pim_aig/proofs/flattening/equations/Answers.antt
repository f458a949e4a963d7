use Rattle.std.proofs.Common.{◌≡◌, ◌<◌, ℕ, List, All, length, get_or, Some, slice_get, refl, ap, ◌∙◌, subst, arith}
use Rattle.std.proofs.lemmas.Option.{slice_get_read}
use Rattle.std.proofs.lemmas.Result.{err_from_is_err_and}
use Rattle.pim_net.specs.declared.parts.Equation.{Equation}
use Rattle.pim_net.specs.Tables.{values as literals_of}
use Rattle.pim_aig.specs.Flat.{equations_from}
use Rattle.pim_aig.proofs.TableSteps.{equations_step, equations_fault}
use Rattle.pim_aig.proofs.flattening.equations.Goals as goal

-- an order names equations that are there
within : (es read : List Equation) (topo : List ℕ) (i : ℕ) → read ≡ es → All (λ k. k < length es) topo → i < length topo → get_or topo i 0 < length read
within es read topo i same all h = omega (arith, ap length same, all i 0 h)

pub returns-in_err-equation-clause-fault : goal.returns-in_err-equation-clause-fault
returns-in_err-equation-clause-fault c =
    let p = err_from_is_err_and c.from_residual.result c.from_residual.ensures.1 in
    let topo = c.topo-k-items.result.now in
    let k = get_or topo c.loop-k.k-index 0 in
    let e = c.index-equations-k.result in
    let P : List Equation → Type 0 = λ es. slice_get es k ≡ Some e in
    let at : slice_get c.args.net.now.equations k ≡ Some e = subst P c.equations-equations.ensures.equations (slice_get_read c.equations-equations.result.now (length c.equations-equations.result.now) k e refl (within c.args.net.now.equations c.equations-equations.result.now topo c.loop-k.k-index c.equations-equations.ensures.equations c.topo-k-items.ensures.within c.loop-k-test.true) c.index-equations-k.is) in
    let old = c.loop-k.aig in
    let start = c.args.aig.now in
    let lits = literals_of c.args.table.now in
    let whole = c.loop-k.invariant.rest ∙ ap (λ (ks : List ℕ). equations_from start.inputs c.args.net.now.equations lits start.ands ks) c.topo-k-items.ensures.topo in
    rw (p.1, p.2) (equations_fault c.in_err-equation.field-0.0 old.inputs c.args.net.now.equations (literals_of c.loop-k.table) old.ands topo c.loop-k.k-index (Some e) _ c.loop-k-test.true at c.in_err-equation.ensures.fault whole)

pub loop-k-preserved : goal.loop-k-preserved
loop-k-preserved c =
    let topo = c.topo-k-items.result.now in
    let k = get_or topo c.loop-k.k-index 0 in
    let e = c.index-equations-k.result in
    let P : List Equation → Type 0 = λ es. slice_get es k ≡ Some e in
    let at : slice_get c.args.net.now.equations k ≡ Some e = subst P c.equations-equations.ensures.equations (slice_get_read c.equations-equations.result.now (length c.equations-equations.result.now) k e refl (within c.args.net.now.equations c.equations-equations.result.now topo c.loop-k.k-index c.equations-equations.ensures.equations c.topo-k-items.ensures.within c.loop-k-test.true) c.index-equations-k.is) in
    let old = c.loop-k.aig in
    let new = c.equation.new.aig in
    record {
      rest = equations_step old.inputs new.inputs c.args.net.now.equations (literals_of c.loop-k.table) (literals_of c.equation.new.table) old.ands new.ands topo c.loop-k.k-index (Some e) _ c.loop-k-test.true at c.equation.ensures.grown.inputs_stay c.in_ok-equation.ensures.made c.loop-k.invariant.rest;
      there = c.in_ok-equation.ensures.there;
      grown = grind arith;
    }

use Rattle.std.proofs.Common.{◌≡◌, ◌≤◌, Bool, List, length, map, ap, sym, subst, arith, rules}
use Rattle.std.proofs.lemmas.Result.{err_from_is_err_and}
use Rattle.pim_net.specs.Values.{outs}
use Rattle.pim_aig.specs.Faults.{Says}
use Rattle.pim_aig.specs.Flat.{flat}
use Rattle.pim_aig.specs.Graph.{AigView}
use Rattle.pim_aig.specs.Values.{aval}
use Rattle.pim_aig.specs.declared.graph.TheConstants.{MAX_ANDS}
use Rattle.pim_aig.proofs.FlatCounts.{flat-count}
use Rattle.pim_aig.proofs.FlatValues.{flat-values}
use Rattle.pim_aig.proofs.flattening.flatten.Goals as goal

pub returns-clause-values : goal.returns-clause-values
returns-clause-values c =
    let net = c.args.net.now in
    let made : c.outputs-2.new.aig ≡ flat net = search rules in
    let P : AigView → Type 0 = λ g. (bits : List Bool) → length bits ≡ length net.inputs → map (aval g bits) g.outputs ≡ outs net bits in
    subst P (sym made) (flat-values net c.inputs.ensures.checked c.has_values.ensures.driven c.has_values.ensures.inputs c.has_values.ensures.covers)

pub returns-clause-counted : goal.returns-clause-counted
returns-clause-counted c = flat-count c.args.net.now c.inputs.ensures.checked

pub returns-clause-accepted : goal.returns-clause-accepted
returns-clause-accepted c =
    let net = c.args.net.now in
    let made : c.outputs-2.new.aig ≡ flat net = search rules in
    let fits : length c.outputs-2.new.aig.ands ≤ MAX_ANDS = subst (λ (g : AigView). length g.ands ≤ MAX_ANDS) c.aig-3.view_is c.aig-3.invariant.ands_fit in
    omega (arith, fits, ap (λ (g : AigView). length g.ands) made, flat-count net c.inputs.ensures.checked)

pub returns-in_err-equations-clause-fault : goal.returns-in_err-equations-clause-fault
returns-in_err-equations-clause-fault c =
    let net = c.args.net.now in
    let p = err_from_is_err_and c.from_residual-in_err-equations.result c.from_residual-in_err-equations.ensures.1 in
    let told : Says c.in_err-equations.field-0.0 (length (flat net).ands) = search rules in
    rw (p.1, p.2) (subst (Says c.in_err-equations.field-0.0) (flat-count net c.inputs.ensures.checked) told)

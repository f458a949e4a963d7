use Rattle.std.proofs.Common.{◌≡◌, ℕ, Option, None, List, length, get_or, sum_by, ◌∙◌, ap, arith}
use Rattle.std.proofs.lemmas.List.{get_or-map, length-map}
use Rattle.std.proofs.lemmas.List.Sums.{sum_by-drop_more}
use Rattle.std.proofs.Math.ListN.{drop_of_length-le}
use Rattle.pim_rm3.specs.Costs.{cost_of}
use Rattle.pim_rm3.specs.Gates.{gate_of, taken}
use Rattle.pim_rm3.proofs.cost.total.Goals as goal

pub bounds-over-place : goal.bounds-over-place
bounds-over-place c =
    let e = ap (λ (xs : List (Option ℕ)). length xs) c.requires.over ∙ length-map c.args.order.now (taken c.args.aig.now) in
    omega (arith, c.loop-place-test.true)

pub gate_of-requires : goal.gate_of-requires
gate_of-requires c = c.requires.there c.loop-place.place 0 c.loop-place-test.true

pub loop-place-preserved : goal.loop-place-preserved
loop-place-preserved c =
    let g = c.args.aig.now in
    let order = c.args.order.now in
    let p = c.loop-place.place in
    let l = get_or order p 0 in
    let f : ℕ → ℕ = λ k. cost_of (taken g k) (gate_of g k) in
    let at : get_or c.args.over.now p None ≡ taken g l = ap (λ (xs : List (Option ℕ)). get_or xs p None) c.requires.over ∙ get_or-map (taken g) order p 0 None c.loop-place-test.true in
    let more = sum_by-drop_more f order p 0 c.loop-place-test.true in
    let cost : c.cost_of-cycles.result ≡ f l = c.cost_of-cycles.ensures.cost ∙ ap (λ (o : Option ℕ). cost_of o c.gate_of.result) at ∙ ap (cost_of (taken g l)) c.gate_of.ensures.gate in
    record { rest = omega (arith, c.loop-place.invariant.rest); few = omega (arith, c.cost_of-cycles.ensures.few, c.loop-place.invariant.few) }

pub returns : goal.returns
returns c =
    let g = c.args.aig.now in
    let f : ℕ → ℕ = λ k. cost_of (taken g k) (gate_of g k) in
    let none = ap (sum_by f) (drop_of_length-le c.args.order.now c.loop-place-test.false) in
    let whole = ap (sum_by f) c.requires.order in
    omega (arith, c.loop-place.invariant.rest)

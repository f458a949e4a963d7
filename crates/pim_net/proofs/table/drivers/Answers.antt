use Rattle.std.proofs.Common.{◌≡◌, ◌<◌, ℕ, cond, List, length, get_or, refl, ap, sym, ◌∙◌, arith}
use Rattle.std.proofs.lemmas.List.{get_or-map, length-map}
use Rattle.pim_net.specs.Drivers.{sigs}
use Rattle.pim_net.specs.Tables.{put, values}
use Rattle.pim_net.specs.declared.parts.Equation.{Equation}
use Rattle.pim_net.specs.declared.driver.Driver.TheVariants.{Input, Cover}
use Rattle.pim_net.proofs.Tables.{inputs_none, inputs_next, equations_none, equations_next, equations_repeat, equations_all}
use Rattle.pim_net.proofs.table.drivers.Goals as goal

-- the signal of an equation that was read
sig_read : (equations : List Equation) (k : ℕ) (e : Equation) → k < length equations → e ≡ get_or equations k e → e.sig ≡ get_or (sigs equations) k 0
sig_read equations k e within is = ap (λ (x : Equation). x.sig) is ∙ sym (get_or-map (λ (x : Equation). x.sig) equations k e 0 within)

pub inputs-init : goal.inputs-init
inputs-init c = inputs_none c.args.inputs.now (sigs c.args.equations.now) (values c.in_ok-table.table) c.in_ok-table.ensures

pub inputs-preserved : goal.inputs-preserved
inputs-preserved c =
    let x = get_or c.args.inputs.now c.inputs.k 0 in
    let old = values c.inputs.table in
    let taken = c.in_ok-free.ensures.after ∙ ap (λ b. cond b (put old x (Input c.inputs.k)) old) c.if-not-free.false in
    inputs_next c.args.inputs.now (sigs c.args.equations.now) c.inputs.k x old (values c.claim.new.table) c.inputs.invariant
    c.inputs-test.true refl (sym c.in_ok-free.ensures.free ∙ c.if-not-free.false) taken

pub equations-init : goal.equations-init
equations-init c = equations_none c.args.inputs.now (sigs c.args.equations.now) c.inputs.k (values c.inputs.table) (omega arith) c.inputs.invariant

pub returns-then-not-vacant : goal.returns-then-not-vacant
returns-then-not-vacant c =
    let es = c.args.equations.now in
    let e = c.index-equations-k.result in
    let within : c.equations.k < length (sigs es) = omega (arith, length-map es (λ (x : Equation). x.sig), c.equations-test.true) in
    equations_repeat c.args.inputs.now (sigs es) c.equations.k e.sig (values c.equations.table) c.equations.invariant
    within (sig_read es c.equations.k e c.equations-test.true c.index-equations-k.is) (sym c.in_ok-vacant.ensures.free ∙ c.if-not-vacant.true)

pub equations-preserved : goal.equations-preserved
equations-preserved c =
    let es = c.args.equations.now in
    let e = c.index-equations-k.result in
    let old = values c.equations.table in
    let within : c.equations.k < length (sigs es) = omega (arith, length-map es (λ (x : Equation). x.sig), c.equations-test.true) in
    let taken = c.in_ok-vacant.ensures.after ∙ ap (λ b. cond b (put old e.sig (Cover c.equations.k)) old) c.if-not-vacant.false in
    equations_next c.args.inputs.now (sigs es) c.equations.k e.sig old (values c.claim-in-equations.new.table) c.equations.invariant
    within (sig_read es c.equations.k e c.equations-test.true c.index-equations-k.is) (sym c.in_ok-vacant.ensures.free ∙ c.if-not-vacant.false) taken

pub returns : goal.returns
returns c =
    equations_all c.args.inputs.now (sigs c.args.equations.now) c.equations.k (values c.equations.table)
    (omega (arith, length-map c.args.equations.now (λ (x : Equation). x.sig), c.equations-test.false)) c.equations.invariant

use Rattle.std.proofs.Common.{ℕ, ◌+◌, Option, drop, ap, sym, ◌∙◌}
use Rattle.std.specs.Prelude.{find}
use Rattle.std.specs.Option.{option_or}
use Rattle.pim_net.specs.Drivers.{read}
use Rattle.pim_net.specs.inner.Drivers.{is_nobody}
use Rattle.pim_net.proofs.SignalsRead.{read-drop}
use Rattle.pim_net.specs.Tables.{values}
use Rattle.pim_net.proofs.undriven.undriven.Goals as goal

pub returns-in-Some : goal.returns-in-Some
returns-in-Some c =
    let p = λ (s : ℕ). is_nobody (values c.args.table.now s) in
    let later = find p (read (drop (c.equations.equation-index + 1) c.args.equations.now) c.args.outputs.now) in
    let split = read-drop p c.args.equations.now c.args.outputs.now c.equations.equation-index c.equation-item.result c.equations-test.true c.equation-item.is in
    let found = sym c.in-Some.is ∙ c.undriven_column.ensures ∙ ap (find p) c.ins.ensures.ins in
    ap (λ (o : Option ℕ). option_or o later) found ∙ sym split ∙ c.equations.invariant

pub equations-preserved : goal.equations-preserved
equations-preserved c =
    let p = λ (s : ℕ). is_nobody (values c.args.table.now s) in
    let later = find p (read (drop (c.equations.equation-index + 1) c.args.equations.now) c.args.outputs.now) in
    let split = read-drop p c.args.equations.now c.args.outputs.now c.equations.equation-index c.equation-item.result c.equations-test.true c.equation-item.is in
    let none = sym c.in_default.is ∙ c.undriven_column.ensures ∙ ap (find p) c.ins.ensures.ins in
    ap (λ (o : Option ℕ). option_or o later) none ∙ sym split ∙ c.equations.invariant

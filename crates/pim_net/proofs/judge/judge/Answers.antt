use Rattle.std.proofs.Common.{◌≡◌, ◌+◌, ◌<◌, ℕ, List, length, get_or, sym, ◌∙◌, subst, inr}
use Rattle.std.specs.Prelude.{IsPermutation}
use Rattle.std.specs.List.{range_with_len}
use Rattle.std.proofs.lemmas.Result.{err_from_is_err_and}
use Rattle.pim_net.specs.Cycles.{IsCycle}
use Rattle.pim_net.specs.inner.DepthFirst.{IsBefore, IsCycleFault}
use Rattle.pim_net.specs.declared.driver.Driver.{Driver}
use Rattle.pim_net.specs.declared.fault.NetFault.{NetFault}
use Rattle.pim_net.specs.declared.fault.NetFault.TheVariants.{Twice, Undriven, Cycle, NoMemory}
use Rattle.pim_net.specs.declared.parts.Equation.{Equation}
use Rattle.pim_net.specs.declared.search.Mark.{Mark}
use Rattle.pim_net.proofs.Wiring.{wired, well_formed, sound, lacking, refused, by_depth, ready}
use Rattle.pim_net.specs.Tables.{values}
use Rattle.pim_net.proofs.judge.judge.Goals as goal

pub returns-in-Some-clause-judged : goal.returns-in-Some-clause-judged
returns-in-Some-clause-judged c =
    let es = c.args.equations.now in
    let outputs = c.args.outputs.now in
    let table = values c.in_ok-table.table in
    let found = sym c.undriven.ensures ∙ c.in-Some.is in
    inr (lacking c.args.inputs.now es outputs table c.in-Some.sig (c.in_ok-table.ensures).0 (c.in_ok-table.ensures).1 found)

pub levels-requires : goal.levels-requires
levels-requires c =
    let es = c.args.equations.now in
    let outputs = c.args.outputs.now in
    let table = values c.in_ok-table.table in
    let all = sym c.undriven.ensures ∙ c.in_default.is in
    wired c.args.inputs.now es outputs table (c.in_ok-table.ensures).0 (c.in_ok-table.ensures).1 all c.requires.equations_few c.requires.columns_few

pub returns-in_err-marks-clause-judged : goal.returns-in_err-marks-clause-judged
returns-in_err-marks-clause-judged c =
    let es = c.args.equations.now in
    let outputs = c.args.outputs.now in
    let table = values c.in_ok-table.table in
    let all = sym c.undriven.ensures ∙ c.in_default.is in
    let p = err_from_is_err_and c.from_residual-in_err-marks.result c.from_residual-in_err-marks.ensures.1 in
    let cycle = c.in_err-marks.ensures in
    rw (p.1, p.2) (refused c.args.inputs.now es outputs table c.in_err-marks.field-0.0 (c.in_ok-table.ensures).0 (c.in_ok-table.ensures).1 all cycle)

-- the list of a fault for a cycle is a cycle
cycle_fault : (es : List Equation) (table : ℕ → Driver) (fault : NetFault) → IsCycleFault es table fault → (signals : List ℕ) → fault ≡ Cycle signals → IsCycle es signals
cycle_fault es table (Twice s) h signals is = absurd h
cycle_fault es table (Undriven s) h signals is = absurd h
cycle_fault es table (Cycle cycle) h signals is = subst (IsCycle es) (let e : cycle ≡ signals = cc in e) h.1
cycle_fault es table NoMemory h signals is = cc

pub returns-in_err-marks-clause-cycle : goal.returns-in_err-marks-clause-cycle
returns-in_err-marks-clause-cycle c =
    let p = err_from_is_err_and c.from_residual-in_err-marks.result c.from_residual-in_err-marks.ensures.1 in
    rw (p.1, p.2) (cycle_fault c.args.equations.now (values c.in_ok-table.table) c.in_err-marks.field-0.0 c.in_err-marks.ensures)

pub returns-clause-judged : goal.returns-clause-judged
returns-clause-judged c =
    let inputs = c.args.inputs.now in
    let es = c.args.equations.now in
    let outputs = c.args.outputs.now in
    let table = values c.in_ok-table.table in
    let marks = c.in_ok-marks.marks.items in
    let topo = c.in_ok-topo.topo.items in
    let once = (c.in_ok-table.ensures).0 in
    let same = (c.in_ok-table.ensures).1 in
    let all = sym c.undriven.ensures ∙ c.in_default.is in
    let wires = wired inputs es outputs table once same all c.requires.equations_few c.requires.columns_few in
    let levelled = c.in_ok-marks.ensures in
    let whole = subst (λ (m : List Mark). IsPermutation (range_with_len 0 (length m)) topo) c.as_slice.ensures.value c.in_ok-topo.ensures.once in
    let rising = subst (λ (m : List Mark). (i : ℕ) → i + 1 < length topo → IsBefore m (get_or topo i 0) (get_or topo (i + 1) 0)) c.as_slice.ensures.value c.in_ok-topo.ensures.rising in
    record {
      sound = sound inputs es outputs table marks once same all levelled;
      well_formed = well_formed inputs es outputs table marks once same all levelled;
      by_depth = by_depth inputs es table marks topo same levelled whole rising;
      ready = ready inputs es table marks topo wires same levelled whole rising;
    }

use Rattle.std.proofs.Common.{◌≡◌, ◌+◌, ◌-◌, ◌≤◌, Bool, List, Some, length, arith, ap}
use Rattle.std.specs.Prelude.{slice_get}
use Rattle.std.proofs.lemmas.Grind.{common_steps}
use Rattle.std.proofs.lemmas.Option.{gets}
use Rattle.pim_isa.specs.Touches.{writes}
use Rattle.pim_debug.specs.inner.Histories.{HistoryView, IsHistory, taken_back}
use Rattle.pim_debug.proofs.HistoryLemmas.{log_reaches, went_back}
use Rattle.pim_debug.proofs.history.History.backward.Goals as goal

pub overflow_sub-kept : goal.overflow_sub-kept
overflow_sub-kept c =
    let here : slice_get c.self.inside.program.now.instrs (c.self.inside.at - 1) ≡ Some c.index-instrs-self.result = grind (arith, common_steps, gets) in
    let next : c.self.inside.at ≡ c.self.inside.at - 1 + 1 = grind (arith, common_steps) in
    let reach : length (writes c.index-instrs-self.result) ≤ length c.self.inside.log.items =
    log_reaches c.laws.ensures.exec c.self.inside.program.now c.self.inside.row c.self.inside.log.items c.self.inside.at (c.self.inside.at - 1)
    c.index-instrs-self.result next c.self.invariant here in
    rw c.writes-cells.ensures (omega (arith, reach, c.self.inside.log.ok.0, c.len.ensures))

-- the start is the same, and the row and the log are those of one instruction less
went : (c : goal.After-truncate) →
    (taken_back (c.self.inside.at - 1) c.self.inside.program.now.instrs c.truncate.new.self.items c.restore.new.row
    ≡ taken_back c.self.inside.at c.self.inside.program.now.instrs c.self.inside.log.items c.self.inside.row)
    × IsHistory c.self.inside.program.now
    (taken_back (c.self.inside.at - 1) c.self.inside.program.now.instrs c.truncate.new.self.items c.restore.new.row)
    c.restore.new.row c.truncate.new.self.items (c.self.inside.at - 1)
went c =
    let here : slice_get c.self.inside.program.now.instrs (c.self.inside.at - 1) ≡ Some c.index-instrs-self.result = grind (arith, common_steps, gets) in
    let next : c.self.inside.at ≡ c.self.inside.at - 1 + 1 = grind (arith, common_steps) in
    let size : c.len.result ≡ length c.self.inside.log.items = omega (arith, c.self.inside.log.ok.0, c.len.ensures) in
    went_back c.laws.ensures.exec c.self.inside.program.now c.self.inside.row c.self.inside.log.items c.self.inside.at (c.self.inside.at - 1)
    c.index-instrs-self.result c.writes-cells.result.now c.len.result c.restore.new.row c.truncate.new.self.items
    next c.self.invariant here c.writes-cells.ensures size (rw c.deref.ensures.value at c.restore.ensures) c.truncate.ensures.items

pub invariant_of-self : goal.invariant_of-self
invariant_of-self c = (went c).1

pub returns : goal.returns
returns c =
    rw (← c.self.view_is)
    (ap (λ (s : List Bool). let v : HistoryView = record { program = c.self.inside.program.now; start = s; at = c.self.inside.at - 1 } in v)
    (went c).0)

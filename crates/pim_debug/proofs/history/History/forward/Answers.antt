use Rattle.std.proofs.Common.{◌≡◌, ℕ, ◌+◌, ◌++◌, Bool, List, Some, map, arith, ap, ◌∙◌}
use Rattle.std.specs.Prelude.{slice_get}
use Rattle.std.proofs.lemmas.Grind.{common_steps}
use Rattle.std.proofs.lemmas.Option.{gets}
use Rattle.pim_isa.specs.Steps.{bit}
use Rattle.pim_isa.specs.Touches.{writes}
use Rattle.pim_debug.specs.inner.Histories.{HistoryView}
use Rattle.pim_debug.proofs.HistoryLemmas.{went_forward}
use Rattle.pim_debug.proofs.history.History.forward.Goals as goal

pub invariant_of-self-2 : goal.invariant_of-self-2
invariant_of-self-2 c =
    let here : slice_get c.self.inside.program.now.instrs c.self.inside.at ≡ Some c.index-instrs-self.result = grind (arith, common_steps, gets) in
    let saved : c.save.new.log.items ≡ c.self.inside.log.items ++ map (bit c.self.inside.row) (writes c.index-instrs-self.result) =
    c.in_ok-save.ensures.ok ∙ ap (λ (cells : List ℕ). c.self.inside.log.items ++ map (bit c.self.inside.row) cells) c.writes.ensures in
    (went_forward c.laws.ensures.exec c.self.inside.program.now c.self.inside.row c.self.inside.log.items c.self.inside.at
    c.index-instrs-self.result c.execute.new.self c.save.new.log.items c.self.invariant here c.execute.ensures.step saved).1

pub returns-clause-ok : goal.returns-clause-ok
returns-clause-ok c =
    let here : slice_get c.self.inside.program.now.instrs c.self.inside.at ≡ Some c.index-instrs-self.result = grind (arith, common_steps, gets) in
    let saved : c.save.new.log.items ≡ c.self.inside.log.items ++ map (bit c.self.inside.row) (writes c.index-instrs-self.result) =
    c.in_ok-save.ensures.ok ∙ ap (λ (cells : List ℕ). c.self.inside.log.items ++ map (bit c.self.inside.row) cells) c.writes.ensures in
    rw (← c.self.view_is)
    (ap (λ (s : List Bool). let v : HistoryView = record { program = c.self.inside.program.now; start = s; at = c.self.inside.at + 1 } in v)
    (went_forward c.laws.ensures.exec c.self.inside.program.now c.self.inside.row c.self.inside.log.items c.self.inside.at
    c.index-instrs-self.result c.execute.new.self c.save.new.log.items c.self.invariant here c.execute.ensures.step saved).0)

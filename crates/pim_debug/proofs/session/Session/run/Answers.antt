use Rattle.std.proofs.Common.{◌≡◌, ℕ, ◌+◌, ◌||◌, Bool, eqb, arith, ap, sym, ◌∙◌}
use Rattle.std.proofs.lemmas.Grind.{common_steps}
use Rattle.std.proofs.lemmas.Bool.{ne_eqb}
use Rattle.pim_debug.specs.States.{has_stop}
use Rattle.pim_debug.specs.inner.Histories.{HistoryView}
use Rattle.pim_debug.proofs.StopLemmas.{running_step}
use Rattle.pim_debug.proofs.session.Session.run.Goals as goal

-- one instruction on, and not at the end
pub loop-is_there-preserved : goal.loop-is_there-preserved
loop-is_there-preserved c =
    let moved : c.forward.new.self ≡ record c.loop-is_there.self-inside.history { at = c.loop-is_there.self-inside.history.at + 1 } =
    grind (arith, common_steps, c.forward.ensures.ok, c.if-is_err.ensures.negation) in
    let next : c.forward.new.self.at ≡ c.loop-is_there.self-inside.history.at + 1 = ap (λ (h : HistoryView). h.at) moved in
    let test : c.is_at-is_there.result ≡ (eqb c.forward.new.self.at c.last-last.result || has_stop c.forward.new.self.at c.loop-is_there.self-inside.stops.stops) =
    c.is_at-is_there.ensures
    ∙ ap (λ (n : ℕ). has_stop n c.loop-is_there.self-inside.stops.stops) c.at-at.ensures.value
    ∙ ap (λ (b : Bool). b || has_stop c.forward.new.self.at c.loop-is_there.self-inside.stops.stops)
    (sym (ne_eqb c.forward.new.self.at c.last-last.result (λ e. c.if-at-last.false (c.at-at.ensures.value ∙ e)))) in (
      moved ∙ cc (c.loop-is_there.invariant.0, next),
      c.loop-is_there.invariant.1,
      running_step c.last-last.result c.at-before.result c.loop-is_there.self-inside.history.at c.forward.new.self.at
          c.loop-is_there.self-inside.stops.stops c.loop-is_there.is_there c.is_at-is_there.result
          c.loop-is_there.invariant.2 c.loop-is_there-test.true next test,
    )

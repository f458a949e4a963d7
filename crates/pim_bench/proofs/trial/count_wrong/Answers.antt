use Rattle.std.proofs.Common.{◌≡◌, ◌∙◌, ◌+◌, ◌-◌, ◌*◌, ℕ, ap, arith}
use Rattle.pim_adder.specs.Drawn.{RowsView}
use Rattle.pim_isa.specs.Programs.{ProgramView}
use Rattle.pim_bench.specs.declared.trial.TheConstants.{LANES, ROWS}
use Rattle.pim_bench.specs.inner.Executed.{TrialView, later}
use Rattle.pim_bench.proofs.Rows.{all_wrong, none_wrong, together_wrong, wrong_in, wrong_is}
use Rattle.pim_bench.proofs.trial.count_wrong.Goals as goal

pub loop-tile-init : goal.loop-tile-init
loop-tile-init c = record {
  wrong = ap (λ (t : TrialView). 0 + wrong_in c.args.program.now 262144 t.row) c.in_ok-trial.ensures ∙ all_wrong c.args.program.now c.args.bits;
  few = omega arith;
  program = ap (λ (t : TrialView). t.program) c.in_ok-trial.ensures;
}

pub loop-tile-preserved : goal.loop-tile-preserved
loop-tile-preserved c =
    let before = c.loop-tile.invariant in
    let p : ProgramView = c.args.program.now in
    let left : ℕ = ROWS - (c.loop-tile._tile + 1) * LANES in
    let cut : LANES + left ≡ ROWS - c.loop-tile._tile * LANES = omega (arith, c.loop-tile-test.true) in
    let row : RowsView = c.loop-tile.trial.row in
    let here : c.wrong_of_next-wrong.result ≡ wrong_in p LANES row = wrong_is p c.loop-tile.trial.program LANES row c.wrong_of_next-wrong.result c.wrong_of_next-wrong.ensures.wrong before.program in
    let rest : wrong_in p left c.wrong_of_next-wrong.new.self.row ≡ wrong_in p left (later LANES row) = ap (λ (t : TrialView). wrong_in p left t.row) c.wrong_of_next-wrong.ensures.after in
    let whole : wrong_in p (LANES + left) row ≡ wrong_in p (ROWS - c.loop-tile._tile * LANES) row = ap (λ (n : ℕ). wrong_in p n row) cut in
    record {
      wrong = omega (arith, here, rest, whole, together_wrong p LANES left row, before.wrong);
      few = omega (arith, before.few, c.wrong_of_next-wrong.ensures.few);
      program = ap (λ (t : TrialView). t.program) c.wrong_of_next-wrong.ensures.after ∙ before.program;
    }

pub returns : goal.returns
returns c =
    let none : ROWS - c.loop-tile._tile * LANES ≡ 0 = omega (arith, c.loop-tile-test.false) in
    omega (arith, c.loop-tile.invariant.wrong, none_wrong c.args.program.now (ROWS - c.loop-tile._tile * LANES) c.loop-tile.trial.row none)

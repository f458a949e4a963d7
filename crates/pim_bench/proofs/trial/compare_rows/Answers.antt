use Rattle.std.proofs.Common.{◌≡◌, ◌∙◌, ◌+◌, ◌-◌, ℕ, ap, arith, length, refl, sym}
use Rattle.pim_adder.specs.Drawn.{RowsView, after, row_line}
use Rattle.std.proofs.lemmas.List.{length-map}
use Rattle.pim_io.specs.Bits.{bits_of, digit_of, line_of}
use Rattle.pim_vectors.specs.Tiles.{vector_of}
use Rattle.pim_isa.specs.Results.{result_of}
use Rattle.pim_isa.specs.declared.target.Fill.TheVariants.{Zeros}
use Rattle.pim_bench.specs.declared.trial.TheConstants.{LANES}
use Rattle.pim_bench.proofs.Digits.{row_line_fits, row_sum_long}
use Rattle.pim_bench.proofs.Rows.{compared, later-bits, later-more, later-none, none_wrong, told_wrong, wrong_in}
use Rattle.pim_bench.proofs.Tiles.{vector_long}
use Rattle.pim_bench.proofs.trial.compare_rows.Goals as goal

pub loop-lane-init : goal.loop-lane-init
loop-lane-init c = record {
  wrong = λ p answers. omega arith;
  few = omega arith;
  row = sym (later-none c.args.rows.now);
  line = refl;
  sum = refl;
  answer = refl;
}

pub next-requires-clause-line : goal.next-requires-clause-line
next-requires-clause-line c =
    omega (arith, c.loop-lane.invariant.line, c.requires.line, ap (λ (r : RowsView). r.bits) c.loop-lane.invariant.row, later-bits c.loop-lane.lane c.args.rows.now)

pub next-requires-clause-sum : goal.next-requires-clause-sum
next-requires-clause-sum c =
    omega (arith, c.loop-lane.invariant.sum, c.requires.sum, ap (λ (r : RowsView). r.bits) c.loop-lane.invariant.row, later-bits c.loop-lane.lane c.args.rows.now)

pub loop-lane-preserved : goal.loop-lane-preserved
loop-lane-preserved c =
    let before = c.loop-lane.invariant in
    let lane : ℕ = c.loop-lane.lane in
    let bits : c.loop-lane.rows.bits ≡ c.args.rows.now.bits = ap (λ (r : RowsView). r.bits) before.row ∙ later-bits lane c.args.rows.now in
    let left : (LANES - (lane + 1)) + 1 ≡ LANES - lane = omega (arith, c.loop-lane-test.true) in
    record {
      wrong = λ p answers.
          compared p c.unpack.new.line c.next.new.sum c.loop-lane.rows c.next.new.self c.difference-wrong.result c.loop-lane.wrong (LANES - (lane + 1)) (wrong_in p LANES c.args.rows.now)
          (c.unpack.ensures ∙ ap line_of (answers lane (omega (arith, c.loop-lane-test.true)) ∙ ap (λ (r : RowsView). result_of p Zeros (bits_of (row_line r))) (sym before.row)))
          c.next.ensures.sum c.next.ensures.after c.difference-wrong.ensures.value
          (ap (λ (n : ℕ). c.loop-lane.wrong + wrong_in p n c.loop-lane.rows) left ∙ before.wrong p answers);
      few = omega (arith, before.few, c.difference-wrong.ensures.most);
      row = c.next.ensures.after ∙ ap after before.row ∙ sym (later-more lane c.args.rows.now);
      line = omega (arith, ap length c.next.ensures.line, (row_line_fits c.loop-lane.rows).0, bits, c.requires.line);
      sum = omega (arith, ap length c.next.ensures.sum, row_sum_long c.loop-lane.rows, bits, c.requires.sum);
      answer = omega (arith, ap length c.unpack.ensures, length-map (vector_of c.args.results.now lane) digit_of, vector_long c.args.results.now lane, c.requires.answer, c.requires.columns);
    }

pub returns-clause-wrong : goal.returns-clause-wrong
returns-clause-wrong c = λ p answers.
    let none : LANES - c.loop-lane.lane ≡ 0 = omega (arith, c.loop-lane-test.false) in
    omega (arith, c.loop-lane.invariant.wrong p answers, none_wrong p (LANES - c.loop-lane.lane) c.loop-lane.rows none, told_wrong p LANES c.args.rows.now)

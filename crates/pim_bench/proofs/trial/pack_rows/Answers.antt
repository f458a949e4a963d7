use Rattle.std.proofs.Common.{◌≡◌, ◌∙◌, ◌+◌, ◌*◌, ap, arith, length, refl, subst, sym}
use Rattle.pim_adder.specs.Drawn.{RowsView, after}
use Rattle.pim_vectors.specs.Tiles.{IsVector}
use Rattle.pim_bench.proofs.Digits.{row_line_fits, row_sum_long}
use Rattle.pim_bench.proofs.Rows.{later-bits, later-more, later-none}
use Rattle.pim_bench.proofs.Tiles.{packed_more}
use Rattle.pim_bench.proofs.trial.pack_rows.Goals as goal

pub loop-lane-init : goal.loop-lane-init
loop-lane-init c = record {
  packed = λ k small. absurd (omega (arith, small));
  row = sym (later-none c.args.rows.now);
  sizes = record { columns = refl; words = refl };
  line = refl;
  sum = refl;
}

pub next-requires-clause-line : goal.next-requires-clause-line
next-requires-clause-line c =
    omega (arith, c.loop-lane.invariant.line, c.requires.line, ap (λ (r : RowsView). r.bits) c.loop-lane.invariant.row, later-bits c.loop-lane.lane c.args.rows.now)

pub next-requires-clause-sum : goal.next-requires-clause-sum
next-requires-clause-sum c =
    omega (arith, c.loop-lane.invariant.sum, c.requires.sum, ap (λ (r : RowsView). r.bits) c.loop-lane.invariant.row, later-bits c.loop-lane.lane c.args.rows.now)

pub pack-requires-clause-fits : goal.pack-requires-clause-fits
pack-requires-clause-fits c =
    let bits : c.loop-lane.rows.bits ≡ c.args.rows.now.bits = ap (λ (r : RowsView). r.bits) c.loop-lane.invariant.row ∙ later-bits c.loop-lane.lane c.args.rows.now in
    let fits = subst (IsVector (2 * c.loop-lane.rows.bits + 1)) (sym c.next.ensures.line) (row_line_fits c.loop-lane.rows) in
    (omega (arith, fits.0, bits, c.requires.columns, c.loop-lane.invariant.sizes.columns), fits.1)

pub loop-lane-preserved : goal.loop-lane-preserved
loop-lane-preserved c =
    let before = c.loop-lane.invariant in
    let bits : c.loop-lane.rows.bits ≡ c.args.rows.now.bits = ap (λ (r : RowsView). r.bits) before.row ∙ later-bits c.loop-lane.lane c.args.rows.now in
    record {
      packed = packed_more c.args.rows.now c.loop-lane.rows c.loop-lane.tile c.pack.new.self c.loop-lane.lane c.next.new.line (omega (arith, c.loop-lane-test.true))
          (before.sizes.words ∙ c.requires.words) before.packed before.row c.next.ensures.line c.pack.ensures.vectors;
      row = c.next.ensures.after ∙ ap after before.row ∙ sym (later-more c.loop-lane.lane c.args.rows.now);
      sizes = record { columns = c.pack.ensures.sizes.columns ∙ before.sizes.columns; words = c.pack.ensures.sizes.words ∙ before.sizes.words };
      line = omega (arith, ap length c.next.ensures.line, (row_line_fits c.loop-lane.rows).0, bits, c.requires.line);
      sum = omega (arith, ap length c.next.ensures.sum, row_sum_long c.loop-lane.rows, bits, c.requires.sum);
    }

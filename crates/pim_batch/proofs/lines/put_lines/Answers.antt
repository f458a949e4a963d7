use borrow.Rule.Slice.PartMut.{put_mid}
use Rattle.std.proofs.Common.{◌≡◌, ◌+◌, ◌-◌, ◌*◌, ℕ, length, subst, ◌∙◌, arith}
use Rattle.pim_batch.specs.inner.TileLines.{IsStage}
use Rattle.pim_batch.proofs.RowLemmas.{room_left, lines_put, length_part, length_put}
use Rattle.pim_batch.proofs.lines.put_lines.Goals as goal

pub loop-k-preserved : goal.loop-k-preserved
loop-k-preserved c =
    let before = c.loop-k.invariant in
    let put = c.put_line.ensures in
    let w : ℕ = c.args.width in
    let room : length c.loop-k.lines ≡ c.loop-k.at + w + (c.args.count - (c.loop-k.k + 1)) * w =
    before.left ∙ room_left c.loop-k.at w c.args.count c.loop-k.k c.loop-k-test.true in
    let long : length c.put_line.new.line ≡ w =
    put.long ∙ length_part c.loop-k.at w c.loop-k.lines (omega (arith, room)) in
    let same : length (put_mid c.loop-k.at (c.loop-k.at + w - c.loop-k.at) c.loop-k.lines c.put_line.new.line) ≡ length c.loop-k.lines =
    length_put c.loop-k.at w c.loop-k.lines c.put_line.new.line (omega (arith, room)) long in
    record {
      done = lines_put c.args.results.now c.args.from c.loop-k.k c.loop-k.at w c.loop-k.lines c.put_line.new.line (omega (arith, room)) long before.done put.value;
      left = same ∙ room;
      long = same ∙ before.long;
      stage = subst (IsStage c.args.results.now c.put_line.new.stage) (omega arith) put.stage;
      columns = put.columns ∙ before.columns;
    }

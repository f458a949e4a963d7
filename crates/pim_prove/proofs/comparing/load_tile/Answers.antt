use Rattle.std.proofs.Common.{◌≡◌, ◌<◌, ◌+◌, ◌*◌, ◌-◌, suc, ◌∙◌, arith}
use Rattle.pim_lanes.specs.Banks.{row_of}
use Rattle.pim_io.specs.Lanes.{lane}
use Rattle.pim_prove.proofs.Tiles.{loaded_more}
use Rattle.pim_prove.proofs.Unlike.{port_within_all}
use Rattle.pim_prove.proofs.comparing.load_tile.Goals as goal

pub put_column-requires-clause-cell : goal.put_column-requires-clause-cell
put_column-requires-clause-cell c =
    let items = c.inputs-inputs in
    let p = c.args.program.now in
    let within : c.port-item.result.cell < p.cells =
    port_within_all items.result.now p.inputs p.cells c.loop-port.port-index c.port-item.result items.ensures.value items.ensures.valid.sound.inputs
    c.loop-port-test.true c.port-item.is in
    omega (arith, within, c.loop-port.invariant.frame.cells, c.fill.ensures.frame.cells, c.requires.cells)

pub loop-port-preserved : goal.loop-port-preserved
loop-port-preserved c =
    let items = c.inputs-inputs in
    let inv = c.loop-port.invariant in
    let old = c.loop-port.left in
    let left_is : old ≡ suc (old - 1) = omega (arith, inv.left) in
    record {
      rows = λ r small.
          loaded_more items.result.now c.loop-port.port-index c.port-item.result (row_of c.loop-port.bank r) (row_of c.put_column.new.self r) _
          (lane c.fill_digits.new.column r) old (old - 1) (64 * c.args.start + r) c.loop-port-test.true c.port-item.is left_is
          (c.put_column.ensures.rows r (omega (arith, inv.frame.words))) (c.fill_digits.ensures r (omega (arith, inv.long))) (inv.rows r small);
      left = omega (arith, inv.left);
      frame = record { cells = c.put_column.ensures.frame.cells ∙ inv.frame.cells; words = c.put_column.ensures.frame.words ∙ inv.frame.words };
      long = omega (arith, inv.long, c.fill_digits.auto.column);
    }

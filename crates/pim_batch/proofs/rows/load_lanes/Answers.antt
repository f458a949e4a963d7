use Rattle.std.proofs.Common.{◌≡◌, ℕ, List, ◌-◌, ◌+◌, ◌*◌, ◌<◌, Bool, length, set, take, drop, ap, sym, ◌∙◌, arith}
use Rattle.std.proofs.lemmas.List.{take_rest}
use Rattle.pim_io.specs.Lanes.{lane}
use Rattle.pim_lanes.specs.Banks.{row_of}
use Rattle.pim_batch.proofs.PassLemmas.{lane_part}
use Rattle.pim_batch.proofs.RowLemmas.{port_within, loaded_more, frame_then}
use Rattle.pim_batch.proofs.rows.load_lanes.Goals as goal

pub put_column-requires-clause-cell : goal.put_column-requires-clause-cell
put_column-requires-clause-cell c =
    let items = c.inputs-port-items in
    let within : c.port-item.result.cell < c.args.program.now.cells =
    port_within items.result.now _ c.args.program.now.cells c.loop-k.k c.port-item.result items.ensures.value items.ensures.valid.sound.inputs c.loop-k-test.true c.port-item.is in
    omega (arith, c.loop-k.invariant.frame.cells, c.fill.ensures.frame.cells, c.requires.cells)

pub loop-k-preserved : goal.loop-k-preserved
loop-k-preserved c =
    let items = c.inputs-port-items in
    let frame = c.loop-k.invariant.frame in
    let column = c.column.result.now in
    let first = c.args.first in
    let words = c.words-words.result in
    record {
      rows = λ r small.
          let part : lane (take words (take (length column - first) (drop first column))) r ≡ lane column (64 * first + r) =
          ap (λ (l : List ℕ). lane (take words l) r) (take_rest column first) ∙ lane_part column first words r (omega (arith, c.words-words.ensures)) in
          loaded_more items.result.now c.args.vectors.now (64 * first + r) c.loop-k.k c.port-item.result (lane column (64 * first + r)) _ _ _ c.port-item.is c.loop-k-test.true
          (c.requires.columns ∙ sym (ap length items.ensures.value)) (c.column.ensures.lanes (64 * first + r) (omega (arith, c.requires.there, c.fill.ensures.frame.words)))
          (c.put_column.ensures.rows r (omega (arith, frame.words)) ∙ ap (λ (b : Bool). set (row_of c.loop-k.bank r) c.port-item.result.cell b) part) (c.loop-k.invariant.rows r small);
      frame = frame_then _ _ _ frame c.put_column.ensures.frame;
    }

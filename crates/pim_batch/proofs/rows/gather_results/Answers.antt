use Rattle.std.proofs.Common.{◌<◌, length, ap, sym, ◌∙◌, arith}
use Rattle.pim_batch.proofs.RowLemmas.{port_within, gathered_more, gathered}
use Rattle.pim_batch.proofs.rows.gather_results.Goals as goal

pub column-requires : goal.column-requires
column-requires c =
    let items = c.outputs-port-items in
    let within : c.port-item.result.cell < c.args.program.now.cells =
    port_within items.result.now _ c.args.program.now.cells c.loop-k.k c.port-item.result items.ensures.value items.ensures.valid.sound.outputs c.loop-k-test.true c.port-item.is in
    omega (arith, c.requires.cells)

pub loop-k-preserved : goal.loop-k-preserved
loop-k-preserved c =
    let items = c.outputs-port-items in
    let sizes = c.loop-k.invariant.sizes in
    let put = c.put_column.ensures.sizes in
    let within : c.port-item.result.cell < c.args.program.now.cells =
    port_within items.result.now _ c.args.program.now.cells c.loop-k.k c.port-item.result items.ensures.value items.ensures.valid.sound.outputs c.loop-k-test.true c.port-item.is in
    record {
      rows = λ r small.
          gathered_more items.result.now c.args.bank.now c.loop-k.results r c.loop-k.k c.port-item.result c.column.result.now _ c.port-item.is c.loop-k-test.true
          (sizes.columns ∙ c.requires.columns ∙ sym (ap length items.ensures.value)) (c.column.ensures.lanes (omega (arith, c.requires.cells)) r small)
          (c.put_column.ensures.vectors r (omega (arith, sizes.words, c.requires.words))) (c.loop-k.invariant.rows r small);
      sizes = record { columns = put.columns ∙ sizes.columns; words = put.words ∙ sizes.words };
    }

pub returns-clause-rows : goal.returns-clause-rows
returns-clause-rows c = λ r small.
    let items = c.outputs-port-items in
    gathered items.result.now _ c.args.bank.now c.loop-k.results r c.loop-k.k items.ensures.value
    (c.loop-k.invariant.sizes.columns ∙ c.requires.columns ∙ sym (ap length items.ensures.value)) (omega arith) (c.loop-k.invariant.rows r small)

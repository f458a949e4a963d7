use Rattle.std.proofs.Common.{◌<◌, ◌+◌, ◌*◌, ◌%◌, arith}
use Rattle.pim_aig.specs.Values.{literal_value}
use Rattle.pim_isa.specs.Steps.{bit}
use Rattle.pim_lanes.specs.Banks.{row_of}
use Rattle.pim_prove.specs.declared.blocks.TheConstants.{BLOCK}
use Rattle.pim_prove.specs.inner.Comparing.{lanes_of, words_at}
use Rattle.pim_prove.proofs.Unlike.{lanes_more, lanes_none, port_within, word_is}
use Rattle.pim_prove.proofs.comparing.unlike_lanes.Goals as goal

pub column-requires : goal.column-requires
column-requires c =
    let i = c.index-outputs-k in
    let within : i.result.cell < c.args.bank.now.cells =
    port_within c.args.outputs.now c.args.bank.now.cells c.loop-k.k i.result c.requires.within c.loop-k-test.true i.is in
    omega (arith, within)

pub loop-k-init : goal.loop-k-init
loop-k-init c = λ r small.
    lanes_none (bit (row_of c.args.bank.now (64 * c.args.place + r))) (literal_value (lanes_of (words_at c.args.values.now (c.args.place % BLOCK)) r)) c.args.outputs.now c.args.literals.now r

pub loop-k-preserved : goal.loop-k-preserved
loop-k-preserved c = λ r small.
    let i = c.index-outputs-k in
    let within : i.result.cell < c.args.bank.now.cells =
    port_within c.args.outputs.now c.args.bank.now.cells c.loop-k.k i.result c.requires.within c.loop-k-test.true i.is in
    lanes_more (bit (row_of c.args.bank.now (64 * c.args.place + r))) (literal_value (lanes_of (words_at c.args.values.now (c.args.place % BLOCK)) r)) c.args.outputs.now c.args.literals.now
    c.loop-k.k i.result (record { 0 = 0 }) c.loop-k.lanes _ c.word.result r _ c.loop-k-test.true (omega (arith, c.requires.long)) i.is
    (word_is c.column.result.now c.args.bank.now i.result.cell c.args.place r (c.column.ensures.lanes within) c.requires.place small)
    (c.word.ensures r small) (c.loop-k.invariant r small)

use Rattle.std.proofs.Common.{◌<◌, ◌+◌, ◌*◌, ◌%◌, arith}
use Rattle.pim_aig.specs.Values.{literal_value}
use Rattle.pim_isa.specs.Steps.{bit}
use Rattle.pim_lanes.specs.Banks.{row_of}
use Rattle.pim_prove.specs.declared.blocks.TheConstants.{BLOCK}
use Rattle.pim_prove.specs.inner.Comparing.{lanes_of, words_at}
use Rattle.pim_prove.proofs.BitLemmas.{shifted_none, shifted_one}
use Rattle.pim_prove.proofs.Unlike.{first_here, first_more, port_within, word_is}
use Rattle.pim_prove.proofs.comparing.unlike_output.Goals as goal

pub column-requires : goal.column-requires
column-requires c =
    let i = c.index-outputs-k in
    let within : i.result.cell < c.args.bank.now.cells =
    port_within c.args.outputs.now c.args.bank.now.cells c.loop-k.k i.result c.requires.within c.loop-k-test.true i.is in
    omega (arith, within)

pub returns-then-lanes-lane-eq1 : goal.returns-then-lanes-lane-eq1
returns-then-lanes-lane-eq1 c =
    let i = c.index-outputs-k in
    let r = c.args.lane in
    let within : i.result.cell < c.args.bank.now.cells =
    port_within c.args.outputs.now c.args.bank.now.cells c.loop-k.k i.result c.requires.within c.loop-k-test.true i.is in
    first_here (bit (row_of c.args.bank.now (64 * c.args.place + r))) (literal_value (lanes_of (words_at c.args.values.now (c.args.place % BLOCK)) r)) c.args.outputs.now c.args.literals.now
    c.loop-k.k i.result (record { 0 = 0 }) _ c.word.result r _ c.loop-k-test.true (omega (arith, c.requires.long)) i.is
    (word_is c.column.result.now c.args.bank.now i.result.cell c.args.place r (c.column.ensures.lanes within) c.requires.place c.requires.lane)
    (c.word.ensures r c.requires.lane) (shifted_one _ r c.if-lanes-lane-eq1.true) c.loop-k.invariant

pub loop-k-preserved : goal.loop-k-preserved
loop-k-preserved c =
    let i = c.index-outputs-k in
    let r = c.args.lane in
    let within : i.result.cell < c.args.bank.now.cells =
    port_within c.args.outputs.now c.args.bank.now.cells c.loop-k.k i.result c.requires.within c.loop-k-test.true i.is in
    first_more (bit (row_of c.args.bank.now (64 * c.args.place + r))) (literal_value (lanes_of (words_at c.args.values.now (c.args.place % BLOCK)) r)) c.args.outputs.now c.args.literals.now
    c.loop-k.k i.result (record { 0 = 0 }) _ c.word.result r _ c.loop-k-test.true (omega (arith, c.requires.long)) i.is
    (word_is c.column.result.now c.args.bank.now i.result.cell c.args.place r (c.column.ensures.lanes within) c.requires.place c.requires.lane)
    (c.word.ensures r c.requires.lane) (shifted_none _ r c.if-lanes-lane-eq1.false) c.loop-k.invariant
